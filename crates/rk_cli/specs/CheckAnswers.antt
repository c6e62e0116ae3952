-- What the parts of checking answer.
use Rattle.std.specs.Prelude.{ℕ, ◌≡◌, ◌⊎◌, List, [], ◌∷◌, Option}
use Rattle.rk_io.specs.Causes.{Rose}
use Rattle.rk_io.specs.Bytes.{Appends}
use Rattle.rk_model.specs.declared.scenario.Scenario.{Scenario}
use Rattle.rk_model.specs.Text.Reading.{Fault}
use Rattle.rk_model.specs.Text.ScheduleFaults.{ScheduleFault, IsSchedule, IsFaultOf}
use Rattle.rk_cli.specs.declared.checking.Checked.{Checked}
use Rattle.rk_cli.specs.declared.checking.Checked.TheVariants.{Accepted, Rejected, Refused, ReadFault, NoMemory}
use Rattle.rk_cli.specs.Texts.{refusal_text, schedule_refusal_text}
use Rattle.rk_cli.specs.Checks.{HasBoth, HasNoScenario, HasCheck, HasScheduleRefusal, HasScenarioRefusal, HasCheckPart}
use Rattle.rk_cli.specs.Statuses.{IsOneOf}

-- The second part is the schedule of a finished history.
pub record Accepts (before now : Option (List ℕ)) : Type 0 where
  pub scenario : Scenario
  pub schedule : List ℕ
  pub input : HasBoth before now scenario schedule
  pub is : IsSchedule scenario schedule

-- The second part has a fault, and the text is its refusal.
pub record Rejects (before now : Option (List ℕ)) (text : List ℕ) : Type 0 where
  pub scenario : Scenario
  pub schedule : List ℕ
  pub fault : ScheduleFault
  pub input : HasBoth before now scenario schedule
  pub is : IsFaultOf scenario schedule fault
  pub text_is : text ≡ schedule_refusal_text fault

-- The first part has a fault, and the text is its refusal.
pub record RefusesScenario (before now : Option (List ℕ)) (text : List ℕ) : Type 0 where
  pub fault : Fault
  pub input : HasNoScenario before now fault
  pub text_is : text ≡ refusal_text fault

-- What there is to say about a source that has counted f faults before and g now.
abbrev pub IsChecked : Option (List ℕ) → Option (List ℕ) → ℕ → ℕ → Checked → Type 0
IsChecked before now f g Accepted = Accepts before now
IsChecked before now f g (Rejected text) = Rejects before now text.items
IsChecked before now f g (Refused text) = RefusesScenario before now text.items
IsChecked before now f g ReadFault = Rose f g
IsChecked before now f g NoMemory = Unit {0}

-- What each status of `check` says.
pub record SaysOfCheck (before now had has : Option (List ℕ)) (result : ℕ) : Type 0 where
  pub kind : IsOneOf (0 ∷ 2 ∷ 3 ∷ 5 ∷ 6 ∷ 7 ∷ []) result
  pub accepted : result ≡ 0 → HasCheck before now had has
  pub refused : result ≡ 2 → HasScenarioRefusal before now had has
  pub rejected : result ≡ 7 → HasScheduleRefusal before now had has
  pub part : result ≡ 6 → HasCheckPart before now had has
  pub memory : result ≡ 3 → Appends had has [] ⊎ HasCheckPart before now had has

-- What there is to say of a source by a command that writes a schedule.
use Rattle.std.specs.Prelude.{ℕ, ◌≡◌, ◌≤◌, List, [], ◌∷◌, Option, Bool, true, false, length}
use Rattle.rk_io.specs.Causes.{Rose}
use Rattle.rk_io.specs.Bytes.{Appends, AppendsPrefix}
use Rattle.rk_model.specs.declared.scenario.Scenario.{Scenario}
use Rattle.rk_model.specs.declared.entry.Entry.{Entry}
use Rattle.rk_model.specs.Text.Reading.{Fault}
use Rattle.rk_model.specs.Text.Schedules.{schedule_text}
use Rattle.rk_model.specs.Histories.{ends}
use Rattle.rk_cli.specs.declared.answer.Answer.{Answer}
use Rattle.rk_cli.specs.declared.answer.Answer.TheVariants.{Finished, Limited, Refused, ReadFault, NoMemory}
use Rattle.rk_cli.specs.Texts.{refusal_text}
use Rattle.rk_cli.specs.Inputs.{HasScenario, HasFault}
use Rattle.rk_cli.specs.Plans.{HasSchedule, HasCutSchedule, HasRefusal, HasPart, HasAtMostPart}
use Rattle.rk_cli.specs.Statuses.{IsOneOf}

-- A scenario was read, and the text is the schedule of a history of it that meets this. The history ends with End, or else has as many entries as the limit.
pub record Schedules (Meets : Scenario → List Entry → Type 0) (before now : Option (List ℕ)) (text : List ℕ) (ended : Bool) : Type 0 where
  pub scenario : Scenario
  pub history : List Entry
  pub input : HasScenario before now scenario
  pub meets : Meets scenario history
  pub end : ends history ≡ ended
  pub entries : ended ≡ false → length history ≡ scenario.limit
  pub text_is : text ≡ schedule_text scenario history

-- A text with a fault was read, and the text is its refusal.
pub record Refuses (before now : Option (List ℕ)) (text : List ℕ) : Type 0 where
  pub fault : Fault
  pub input : HasFault before now fault
  pub text_is : text ≡ refusal_text fault

-- What there is to say about a source that has counted f faults before and g now.
abbrev pub IsAnswer : (Scenario → List Entry → Type 0) → Option (List ℕ) → Option (List ℕ) → ℕ → ℕ → Answer → Type 0
IsAnswer Meets before now f g (Finished text) = Schedules Meets before now text.items true
IsAnswer Meets before now f g (Limited text) = Schedules Meets before now text.items false
IsAnswer Meets before now f g (Refused text) = Refuses before now text.items
IsAnswer Meets before now f g ReadFault = Rose f g
IsAnswer Meets before now f g NoMemory = Unit {0}

-- What there is to say about it where no scenario was read.
abbrev pub IsFailure : Option (List ℕ) → Option (List ℕ) → ℕ → ℕ → Answer → Type 0
IsFailure before now f g (Finished text) = ⊥
IsFailure before now f g (Limited text) = ⊥
IsFailure before now f g (Refused text) = Refuses before now text.items
IsFailure before now f g ReadFault = Rose f g
IsFailure before now f g NoMemory = Unit {0}

-- What there is to say about a history of a scenario: the text is its schedule, unless memory ran out.
abbrev pub IsOfHistory : Scenario → List Entry → Answer → Type 0
IsOfHistory s history (Finished text) = (ends history ≡ true) × (text.items ≡ schedule_text s history)
IsOfHistory s history (Limited text) = (ends history ≡ false) × (text.items ≡ schedule_text s history)
IsOfHistory s history (Refused text) = ⊥
IsOfHistory s history ReadFault = ⊥
IsOfHistory s history NoMemory = Unit {0}

-- What writing a text under a status answers, where the sink has counted f faults before and g now.
pub record Emits (had has : Option (List ℕ)) (f g : ℕ) (text : List ℕ) (status result : ℕ) : Type 0 where
  pub later : f ≤ g
  pub done : result ≡ status → Appends had has text
  pub failed : result ≡ 6 → Rose f g
  pub part : AppendsPrefix had has text
  pub kind : IsOneOf (status ∷ 6 ∷ 3 ∷ []) result

-- What each status of a command that writes a schedule says.
pub record SaysOfSchedule (Meets : Scenario → List Entry → Type 0) (before now had has : Option (List ℕ)) (result : ℕ) : Type 0 where
  pub kind : IsOneOf (0 ∷ 2 ∷ 3 ∷ 4 ∷ 5 ∷ 6 ∷ []) result
  pub finished : result ≡ 0 → HasSchedule Meets before now had has
  pub limited : result ≡ 4 → HasCutSchedule Meets before now had has
  pub refused : result ≡ 2 → HasRefusal before now had has
  pub part : result ≡ 6 → HasPart Meets before now had has
  pub memory : result ≡ 3 → HasAtMostPart Meets before now had has

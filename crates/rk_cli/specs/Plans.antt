-- What a command that writes a schedule comes to: before and now are the bytes that a source has left, and had and has the bytes that a sink has taken, where they tell them. Meets says which histories of a scenario there may be.
use Rattle.std.specs.Prelude.{ℕ, ◌≡◌, ◌≤◌, ◌⊎◌, List, [], Option, true, false, length}
use Rattle.rk_io.specs.Bytes.{Appends, AppendsPrefix}
use Rattle.rk_model.specs.declared.scenario.Scenario.{Scenario}
use Rattle.rk_model.specs.declared.entry.Entry.{Entry}
use Rattle.rk_model.specs.Text.Reading.{Fault}
use Rattle.rk_model.specs.Text.Scenarios.{cpus_in}
use Rattle.rk_model.specs.Text.Schedules.{schedule_text}
use Rattle.rk_model.specs.Histories.{Legal, IsDone, ends}
use Rattle.rk_cli.specs.Texts.{refusal_text, planned}
use Rattle.rk_cli.specs.Inputs.{HasScenario, HasFault}

-- The history is the planned one.
abbrev pub IsPlanned : Scenario → List Entry → Type 0
IsPlanned s history = history ≡ planned s

-- A history that a run may take: it is legal, and goes up to End or to the scenario's limit. With one processor it is the planned one.
pub record IsTaken (s : Scenario) (history : List Entry) : Type 0 where
  pub legal : Legal s history
  pub within : length history ≤ s.limit
  pub done : IsDone s.limit history
  pub alone : cpus_in s.clusters ≡ 1 → IsPlanned s history

-- A scenario was read, and the schedule of a history of it was written, which ends with End.
pub record HasSchedule (Meets : Scenario → List Entry → Type 0) (before now had has : Option (List ℕ)) : Type 0 where
  pub scenario : Scenario
  pub history : List Entry
  pub input : HasScenario before now scenario
  pub meets : Meets scenario history
  pub end : ends history ≡ true
  pub written : Appends had has (schedule_text scenario history)

-- A scenario was read, and the schedule of a history of it was written, which was cut at the scenario's limit.
pub record HasCutSchedule (Meets : Scenario → List Entry → Type 0) (before now had has : Option (List ℕ)) : Type 0 where
  pub scenario : Scenario
  pub history : List Entry
  pub input : HasScenario before now scenario
  pub meets : Meets scenario history
  pub no_end : ends history ≡ false
  pub entries : length history ≡ scenario.limit
  pub written : Appends had has (schedule_text scenario history)

-- A scenario was read, and the schedule of a legal history of it was written.
pub record HasLegalSchedule (before now had has : Option (List ℕ)) : Type 0 where
  pub scenario : Scenario
  pub history : List Entry
  pub input : HasScenario before now scenario
  pub legal : Legal scenario history
  pub written : Appends had has (schedule_text scenario history)

-- A text with a fault was read, and the refusal for its first fault was written.
pub record HasRefusal (before now had has : Option (List ℕ)) : Type 0 where
  pub fault : Fault
  pub input : HasFault before now fault
  pub written : Appends had has (refusal_text fault)

-- The text is what is to be written for what was read: the schedule of a history of the scenario, or the refusal for the first fault.
abbrev pub IsReply : (Scenario → List Entry → Type 0) → Option (List ℕ) → Option (List ℕ) → List ℕ → Type 0
IsReply Meets before now text =
    ((s : Scenario) × (history : List Entry) × HasScenario before now s × Meets s history × (text ≡ schedule_text s history)) ⊎ ((fault : Fault) × HasFault before now fault × (text ≡ refusal_text fault))

-- The input was read, and a prefix of what is to be written for it was written.
pub record HasPart (Meets : Scenario → List Entry → Type 0) (before now had has : Option (List ℕ)) : Type 0 where
  pub text : List ℕ
  pub reply : IsReply Meets before now text
  pub written : AppendsPrefix had has text

-- Nothing was written, or a prefix of what is to be written for the input that was read.
abbrev pub HasAtMostPart : (Scenario → List Entry → Type 0) → Option (List ℕ) → Option (List ℕ) → Option (List ℕ) → Option (List ℕ) → Type 0
HasAtMostPart Meets before now had has = Appends had has [] ⊎ HasPart Meets before now had has

-- When each status comes.
use Rattle.std.specs.Prelude.{ℕ, ◌≡◌, ◌⊎◌, List, [], ◌∷◌, Option, Some, None, codes, if◌then◌else◌}
use Rattle.rk_model.specs.declared.scenario.Scenario.{Scenario}
use Rattle.rk_model.specs.declared.entry.Entry.{Entry}
use Rattle.rk_model.specs.Text.Scenarios.{ScenarioText}
use Rattle.rk_model.specs.Text.Reading.{Fault, scenario_fault}
use Rattle.rk_model.specs.Histories.{ends}

-- There is one word, and it has these bytes; text gives the bytes of a word.
abbrev pub IsWord : List ℕ → {W : Type 0} → (W → List ℕ) → List W → Type 0
IsWord bytes text [] = ⊥
IsWord bytes text (word ∷ []) = text word ≡ bytes
IsWord bytes text (word ∷ other ∷ words) = ⊥

-- There is one word, and it is `plan`.
abbrev pub IsPlan : {W : Type 0} → (W → List ℕ) → List W → Type 0
IsPlan text words = IsWord (codes "plan") text words

-- There is one word, and it is `check`.
abbrev pub IsCheck : {W : Type 0} → (W → List ℕ) → List W → Type 0
IsCheck text words = IsWord (codes "check") text words

-- There is one word, and it is `run`.
abbrev pub IsRun : {W : Type 0} → (W → List ℕ) → List W → Type 0
IsRun text words = IsWord (codes "run") text words

-- The words are those of no command that does without threads.
abbrev pub IsPlainUsage : {W : Type 0} → (W → List ℕ) → List W → Type 0
IsPlainUsage text words = (¬ IsPlan text words) × (¬ IsCheck text words)

-- The words are those of no command.
abbrev pub IsUsage : {W : Type 0} → (W → List ℕ) → List W → Type 0
IsUsage text words = IsPlainUsage text words × (¬ IsRun text words)

-- The status is one of these.
abbrev pub IsOneOf : List ℕ → ℕ → Type 0
IsOneOf [] result = ⊥
IsOneOf (status ∷ statuses) result = (result ≡ status) ⊎ IsOneOf statuses result

-- the status of a history: 0 where it ends with End, and 4 where it was cut
abbrev pub history_status : List Entry → ℕ
history_status history = if ends history then 0 else 4

-- The status is that of a history of the scenario that meets this.
pub record IsStatusFor (Meets : Scenario → List Entry → Type 0) (s : Scenario) (result : ℕ) : Type 0 where
  pub history : List Entry
  pub meets : Meets s history
  pub is : result ≡ history_status history

-- A source that had a text of a scenario gets the status of a history of it that meets this, unless one of the others comes. None: it doesn't tell its bytes.
abbrev pub SchedulesText : (Scenario → List Entry → Type 0) → Option (List ℕ) → List ℕ → ℕ → Type 0
SchedulesText Meets None others result = Unit {0}
SchedulesText Meets (Some bytes) others result = (s : Scenario) → ScenarioText bytes s → IsStatusFor Meets s result ⊎ IsOneOf others result

-- A source that had bytes with a fault gets the status of a refusal, unless one of the others comes. None: it doesn't tell its bytes.
abbrev pub RefusesFault : Option (List ℕ) → List ℕ → ℕ → Type 0
RefusesFault None others result = Unit {0}
RefusesFault (Some bytes) others result = (fault : Fault) → scenario_fault bytes ≡ Some fault → IsOneOf (2 ∷ others) result

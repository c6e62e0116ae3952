-- What holds of texts and their scenarios.
use Rattle.std.specs.Prelude.{ℕ, ◌+◌, ◌-◌, ◌<◌, ◌≤◌, ◌≡◌, ◌↔◌, ◌⊎◌, true, not, List, ◌++◌, length, map, filter, take, Some, None}
use Rattle.std.specs.List.{AllByRecursion}
use Rattle.rk_model.specs.declared.limits.TheConstants.{MOST_BYTES}
use Rattle.rk_model.specs.declared.scenario.Scenario.{Scenario}
use Rattle.rk_model.specs.Text.Words.{lines_of, words_of, is_plain, is_skipped}
use Rattle.rk_model.specs.Text.Scenarios.{Describes, ScenarioText}
use Rattle.rk_model.specs.Text.Reading.{Fault, Reads, verdict, scenario_fault}

-- What the machine reads from bytes is a scenario of which they are a text.
abbrev pub ReadsTexts : Type 0
ReadsTexts = (bytes : List ℕ) (s : Scenario) → verdict bytes ≡ Reads s → ScenarioText bytes s

-- The machine reads each text of a scenario, as that scenario.
abbrev pub ReadsEachText : Type 0
ReadsEachText = (bytes : List ℕ) (s : Scenario) → ScenarioText bytes s → verdict bytes ≡ Reads s

-- A text is that of one scenario.
abbrev pub OneScenario : Type 0
OneScenario = (bytes : List ℕ) (s t : Scenario) → ScenarioText bytes s → ScenarioText bytes t → s ≡ t

-- Bytes have no fault exactly where they are a text of some scenario.
abbrev pub FaultlessAreTexts : Type 0
FaultlessAreTexts = (bytes : List ℕ) → (scenario_fault bytes ≡ None) ↔ ((s : Scenario) × ScenarioText bytes s)

-- The lines are those of a text of the scenario, of whatever size.
pub record AreLinesOf (lines : List (List ℕ)) (s : Scenario) : Type 0 where
  pub allowed : AllByRecursion (λ line. is_plain line ≡ true) lines
  pub statements : Describes (filter (λ words. not (is_skipped words)) (map words_of lines)) s

-- Lines begin those of a text of some scenario, of whatever size.
abbrev pub Begin : List (List ℕ) → Type 0
Begin lines = (more : List (List ℕ)) × (s : Scenario) × AreLinesOf (lines ++ more) s

-- This is the number of the first line that no valid scenario could have there: the lines before it begin a text, and with it they begin none. Where the lines are fewer, they are no whole text, and it is the number behind their last.
pub record IsFirstStop (lines : List (List ℕ)) (line : ℕ) : Type 0 where
  pub before : Begin (take (line - 1) lines)
  pub stops : line ≤ length lines → Begin (take line lines) → ⊥
  pub ends : length lines < line → (line ≡ length lines + 1) × ((s : Scenario) → AreLinesOf lines s → ⊥)

-- A fault is that of the whole text where it is too large, and else it is at the first line that no valid scenario could have there.
abbrev pub FaultsAtFirstStop : Type 0
FaultsAtFirstStop = (bytes : List ℕ) (fault : Fault) → scenario_fault bytes ≡ Some fault
    → ((MOST_BYTES < length bytes) × (fault.line ≡ 0)) ⊎ ((length bytes ≤ MOST_BYTES) × IsFirstStop (lines_of bytes) fault.line)

-- What reading a scenario answers, against the verdict on its text.
use Rattle.std.specs.Prelude.{ℕ, ◌≡◌, List, Some, Result, Ok, Err}
use Rattle.rk_model.specs.declared.scenario.Scenario.{Scenario}
use Rattle.rk_model.specs.Text.Reading.{Verdict, Reads, Faults, scenario_fault, after_line}
use Rattle.rk_scenario.specs.declared.errors.ScenarioError.{ScenarioError}
use Rattle.rk_scenario.specs.declared.errors.ScenarioError.TheVariants.{Refused, Memory}
use Rattle.rk_scenario.specs.declared.draft.Draft.{Draft}
use Rattle.rk_scenario.specs.Drafts.{draft_of}

-- What was read, or refused, is the verdict, unless memory was wanting.
abbrev pub Answers : Result Scenario ScenarioError → Verdict → Type 0
Answers (Ok s) v = v ≡ Reads s
Answers (Err (Refused line why)) v = v ≡ Faults (record { line = line; why = why })
Answers (Err Memory) v = Unit {0}

-- A line was taken, or it is the first that is refused.
abbrev pub Advances : Result (Unit {0}) ScenarioError → Draft → List ℕ → ℕ → Draft → Type 0
Advances (Ok x) old line n new = after_line (draft_of old) line ≡ Ok (draft_of new)
Advances (Err (Refused l why)) old line n new = (l ≡ n) × (after_line (draft_of old) line ≡ Err why)
Advances (Err Memory) old line n new = Unit {0}

-- A text is refused for its fault, or memory was wanting.
abbrev pub IsRefusal : List ℕ → ScenarioError → Type 0
IsRefusal bytes (Refused line why) = scenario_fault bytes ≡ Some (record { line = line; why = why })
IsRefusal bytes Memory = Unit {0}

-- The scenario was read, or memory was wanting.
abbrev pub Gives : Result Scenario ScenarioError → Scenario → Type 0
Gives (Ok t) s = t ≡ s
Gives (Err (Refused line why)) s = ⊥
Gives (Err Memory) s = Unit {0}

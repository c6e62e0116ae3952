-- What was read from a source: before and now are the bytes that it has left, where it tells them.
use Rattle.std.specs.Prelude.{ℕ, ◌≡◌, ◌⊎◌, ◌+◌, List, Option, Some, length}
use Rattle.rk_io.specs.Bytes.{Consumes, IsUsedUp}
use Rattle.rk_model.specs.declared.limits.TheConstants.{MOST_BYTES}
use Rattle.rk_model.specs.declared.scenario.Scenario.{Scenario}
use Rattle.rk_model.specs.Text.Scenarios.{ScenarioText}
use Rattle.rk_model.specs.Text.Reading.{Fault, scenario_fault}

-- The source was read to its end, and the bytes that it gave are a text of the scenario.
pub record HasScenario (before now : Option (List ℕ)) (s : Scenario) : Type 0 where
  pub bytes : List ℕ
  pub taken : Consumes before now bytes
  pub end : IsUsedUp before now
  pub text : ScenarioText bytes s

-- The bytes that the source gave have this first fault. It was read to its end, or had more than 1,048,576 bytes and gave one more than these.
pub record HasFault (before now : Option (List ℕ)) (fault : Fault) : Type 0 where
  pub bytes : List ℕ
  pub taken : Consumes before now bytes
  pub whole : IsUsedUp before now ⊎ (length bytes ≡ MOST_BYTES + 1)
  pub first : scenario_fault bytes ≡ Some fault

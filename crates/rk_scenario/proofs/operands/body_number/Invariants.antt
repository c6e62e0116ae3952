use Rattle.std.proofs.Common.{◌≡◌, drop}
use Rattle.rk_model.specs.Text.Scenarios.{body_from}
use Rattle.rk_scenario.proofs.operands.body_number.Given as goal

abbrev pub invariant-loop-at : goal.invariant-loop-at
invariant-loop-at l = body_from l.at l.name (drop l.at l.bodies) ≡ body_from 0 l.name l.bodies

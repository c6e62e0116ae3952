use Rattle.std.proofs.Common.{subst, IfOk}
use Rattle.rk_model.specs.declared.scenario.Scenario.{Scenario}
use Rattle.rk_cli.specs.Plans.{IsTaken}
use Rattle.rk_cli.proofs.workers.run_scenario.Goals as goal

pub returns : goal.returns
returns g c = subst (λ (s : Scenario). IfOk c.run_named.result (λ h. IsTaken s h.entries)) c.in_ok-opening.ensures c.run_named.ensures

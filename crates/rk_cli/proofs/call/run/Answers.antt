use Rattle.rk_cli.specs.Plans.{IsTaken}
use Rattle.rk_cli.proofs.PlanLemmas.{says_finished, says_limited}
use Rattle.rk_cli.proofs.call.run.Goals as goal

pub returns-in-Finished-clause-says : goal.returns-in-Finished-clause-says
returns-in-Finished-clause-says g c = says_finished IsTaken _ _ _ _ _ _ _ _ c.in-Finished.ensures.answer (rw c.as_slice.ensures.value at c.emit.ensures)

pub returns-in-Limited-clause-says : goal.returns-in-Limited-clause-says
returns-in-Limited-clause-says g c = says_limited IsTaken _ _ _ _ _ _ _ _ c.in-Limited.ensures.answer (rw c.as_slice-in-Limited.ensures.value at c.emit-in-Limited.ensures)

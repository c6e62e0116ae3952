use Rattle.rk_cli.proofs.CheckLemmas.{says_rejected}
use Rattle.rk_cli.proofs.call.check.Goals as goal

pub returns-in-Rejected-clause-says : goal.returns-in-Rejected-clause-says
returns-in-Rejected-clause-says g c = says_rejected _ _ _ _ _ _ _ _ c.in-Rejected.ensures.answer (rw c.as_slice.ensures.value at c.emit.ensures)

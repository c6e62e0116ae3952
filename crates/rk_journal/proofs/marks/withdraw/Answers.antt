use Rattle.std.proofs.Common.{sym}
use Rattle.rk_journal.proofs.MarkTokenLemmas.{quiet_told}
use Rattle.rk_journal.proofs.marks.withdraw.Goals as goal

pub returns-clause-quiet : goal.returns-clause-quiet
returns-clause-quiet c = quiet_told _ c.mark.inside.token c.in-Some.own c.args.mark _ (sym c.in-Some.is) c.mark.view_is c.mark.invariant.1 c.take_in.ensures.told.1

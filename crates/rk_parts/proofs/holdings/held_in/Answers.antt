use Rattle.std.proofs.Common.{arith, sym}
use Rattle.rk_parts.proofs.HoldingLemmas.{none_past}
use Rattle.rk_parts.proofs.holdings.held_in.Goals as goal

pub returns-in-None : goal.returns-in-None
returns-in-None c = sym (none_past c.args.held.now c.args.index (omega arith) c.in-None.ensures.lookup.0)

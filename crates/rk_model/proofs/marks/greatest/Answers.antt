use Rattle.std.proofs.Common.{arith}
use Rattle.rk_model.proofs.HighestBitLemmas.{top_of}
use Rattle.rk_model.proofs.marks.greatest.Goals as goal

pub returns-clause-there : goal.returns-clause-there
returns-clause-there c = (top_of c.args.set c.requires (omega arith)).there

pub returns-clause-none : goal.returns-clause-none
returns-clause-none c = (top_of c.args.set c.requires (omega arith)).none

use Rattle.std.proofs.Common.{arith, w64}
use Rattle.std.proofs.lemmas.Nat.Bits.{bit_at-trailing_zeros}
use Rattle.rk_model.proofs.marks.least.Goals as goal

pub returns-clause-there : goal.returns-clause-there
returns-clause-there c = (bit_at-trailing_zeros w64 c.args.set c.requires (omega arith)).1

pub returns-clause-none : goal.returns-clause-none
returns-clause-none c = (bit_at-trailing_zeros w64 c.args.set c.requires (omega arith)).2

use Rattle.std.proofs.Common.{◌-◌, arith}
use Rattle.rk_model.proofs.IndexSetLemmas.{in_by_bit}
use Rattle.std.proofs.lemmas.Nat.Bits.{shr_and_one}
use Rattle.rk_model.proofs.index_set.IndexSet.contains.Goals as goal

pub returns : goal.returns
returns c = in_by_bit c.args.self.marks c.args.index c.from.result _ (omega (arith, c.from.ensures, c.requires.low)) c.requires.high (shr_and_one c.args.self.marks c.from.result)

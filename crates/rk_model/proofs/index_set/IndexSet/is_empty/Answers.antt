use Rattle.std.proofs.Common.{arith}
use Rattle.std.proofs.lemmas.Bool.Decides.{nat_tests}
use Rattle.rk_model.proofs.IndexSetLemmas.{none_in}
use Rattle.rk_model.proofs.index_set.IndexSet.is_empty.Goals as goal

pub returns : goal.returns
returns c = λ h. none_in c.args.self.marks (grind (arith, nat_tests, h))

use Rattle.std.proofs.Common.{refl}
use Rattle.rk_model.proofs.IndexSetLemmas.{none_in}
use Rattle.rk_model.proofs.index_set.IndexSet.empty.Goals as goal

pub returns : goal.returns
returns c = none_in 0 refl

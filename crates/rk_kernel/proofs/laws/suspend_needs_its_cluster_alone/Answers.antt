use Rattle.rk_kernel.proofs.CutLemmas.{suspend_commutes}
use Rattle.rk_kernel.proofs.laws.suspend_needs_its_cluster_alone.Goals as goal

pub returns : goal.returns
returns c = suspend_commutes

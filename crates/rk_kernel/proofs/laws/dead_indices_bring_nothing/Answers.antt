use Rattle.rk_kernel.proofs.PriorityLaws.{dead_bring_nothing}
use Rattle.rk_kernel.proofs.laws.dead_indices_bring_nothing.Goals as goal

pub returns : goal.returns
returns c = dead_bring_nothing

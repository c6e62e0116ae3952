use Rattle.rk_kernel.proofs.NamesLaws.{barriers_left}
use Rattle.rk_kernel.proofs.laws.nothing_is_left_of_deleted_barriers.Goals as goal

pub returns : goal.returns
returns c = barriers_left

use Rattle.rk_kernel.proofs.NamesLaws.{partitions_left}
use Rattle.rk_kernel.proofs.laws.nothing_is_left_of_deleted_partitions.Goals as goal

pub returns : goal.returns
returns c = partitions_left

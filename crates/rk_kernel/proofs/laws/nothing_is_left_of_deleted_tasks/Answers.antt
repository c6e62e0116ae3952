use Rattle.rk_kernel.proofs.NamesLaws.{deleted_left}
use Rattle.rk_kernel.proofs.laws.nothing_is_left_of_deleted_tasks.Goals as goal

pub returns : goal.returns
returns c = deleted_left

use Rattle.rk_kernel.proofs.NamesLaws.{semaphores_left}
use Rattle.rk_kernel.proofs.laws.nothing_is_left_of_deleted_semaphores.Goals as goal

pub returns : goal.returns
returns c = semaphores_left

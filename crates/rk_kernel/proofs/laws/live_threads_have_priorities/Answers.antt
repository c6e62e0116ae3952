use Rattle.rk_kernel.proofs.PriorityLaws.{live_have_priorities}
use Rattle.rk_kernel.proofs.laws.live_threads_have_priorities.Goals as goal

pub returns : goal.returns
returns c = live_have_priorities

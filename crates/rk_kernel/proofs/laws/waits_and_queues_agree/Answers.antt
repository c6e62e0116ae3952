use Rattle.rk_kernel.proofs.WaitLaws.{waits_agree}
use Rattle.rk_kernel.proofs.laws.waits_and_queues_agree.Goals as goal

pub returns : goal.returns
returns c = waits_agree

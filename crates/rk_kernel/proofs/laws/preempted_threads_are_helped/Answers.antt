use Rattle.rk_kernel.proofs.HelpingLaws.{preempted_helped}
use Rattle.rk_kernel.proofs.laws.preempted_threads_are_helped.Goals as goal

pub returns : goal.returns
returns c = preempted_helped

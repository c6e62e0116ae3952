use Rattle.rk_kernel.proofs.ReadyQueueLaws.{lines_hold}
use Rattle.rk_kernel.proofs.laws.lines_hold_their_own.Goals as goal

pub returns : goal.returns
returns c = lines_hold

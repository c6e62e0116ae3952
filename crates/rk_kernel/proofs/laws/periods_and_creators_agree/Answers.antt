use Rattle.rk_kernel.proofs.PriorityLaws.{periods_agree}
use Rattle.rk_kernel.proofs.laws.periods_and_creators_agree.Goals as goal

pub returns : goal.returns
returns c = periods_agree

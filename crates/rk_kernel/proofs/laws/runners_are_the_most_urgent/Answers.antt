use Rattle.rk_kernel.proofs.UrgencyLaws.{runners_urgent}
use Rattle.rk_kernel.proofs.laws.runners_are_the_most_urgent.Goals as goal

pub returns : goal.returns
returns c = runners_urgent

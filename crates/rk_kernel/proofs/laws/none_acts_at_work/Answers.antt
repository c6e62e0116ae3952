use Rattle.rk_kernel.proofs.ActionLaws.{none_acts}
use Rattle.rk_kernel.proofs.laws.none_acts_at_work.Goals as goal

pub returns : goal.returns
returns c = none_acts

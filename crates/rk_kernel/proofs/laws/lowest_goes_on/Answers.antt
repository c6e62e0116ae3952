use Rattle.rk_kernel.proofs.LowestHistoryLaws.{lowest_goes}
use Rattle.rk_kernel.proofs.laws.lowest_goes_on.Goals as goal

pub returns : goal.returns
returns c = lowest_goes

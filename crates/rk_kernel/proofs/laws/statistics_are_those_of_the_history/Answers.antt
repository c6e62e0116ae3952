use Rattle.rk_kernel.proofs.StatisticsLaws.{statistics_shown}
use Rattle.rk_kernel.proofs.laws.statistics_are_those_of_the_history.Goals as goal

pub returns : goal.returns
returns c = statistics_shown

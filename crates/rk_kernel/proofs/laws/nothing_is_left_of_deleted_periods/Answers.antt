use Rattle.rk_kernel.proofs.NamesLaws.{periods_left}
use Rattle.rk_kernel.proofs.laws.nothing_is_left_of_deleted_periods.Goals as goal

pub returns : goal.returns
returns c = periods_left

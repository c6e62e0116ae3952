use Rattle.rk_kernel.proofs.RunnerLaws.{none_twice}
use Rattle.rk_kernel.proofs.laws.none_runs_twice.Goals as goal

pub returns : goal.returns
returns c = none_twice

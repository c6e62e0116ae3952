use Rattle.rk_kernel.proofs.RunnerLaws.{processors_manned}
use Rattle.rk_kernel.proofs.laws.processors_have_the_runners.Goals as goal

pub returns : goal.returns
returns c = processors_manned

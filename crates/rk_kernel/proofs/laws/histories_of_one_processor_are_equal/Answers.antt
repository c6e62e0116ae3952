use Rattle.rk_kernel.proofs.OneProcessorLaws.{one_history}
use Rattle.rk_kernel.proofs.laws.histories_of_one_processor_are_equal.Goals as goal

pub returns : goal.returns
returns c = one_history

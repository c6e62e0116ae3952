use Rattle.rk_kernel.proofs.OneProcessorLaws.{done_is_planned}
use Rattle.rk_kernel.proofs.laws.histories_of_one_processor_are_planned.Goals as goal

pub returns : goal.returns
returns c = done_is_planned

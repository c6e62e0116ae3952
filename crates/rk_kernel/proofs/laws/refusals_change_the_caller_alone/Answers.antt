use Rattle.rk_kernel.proofs.RefusalLaws.{refusals_alone}
use Rattle.rk_kernel.proofs.laws.refusals_change_the_caller_alone.Goals as goal

pub returns : goal.returns
returns c = refusals_alone

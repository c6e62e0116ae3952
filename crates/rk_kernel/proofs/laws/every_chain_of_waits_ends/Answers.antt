use Rattle.rk_kernel.proofs.WaitLaws.{chains_end}
use Rattle.rk_kernel.proofs.laws.every_chain_of_waits_ends.Goals as goal

pub returns : goal.returns
returns c = chains_end

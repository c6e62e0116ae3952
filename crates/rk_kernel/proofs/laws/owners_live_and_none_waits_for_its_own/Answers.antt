use Rattle.rk_kernel.proofs.WaitLaws.{owners_live}
use Rattle.rk_kernel.proofs.laws.owners_live_and_none_waits_for_its_own.Goals as goal

pub returns : goal.returns
returns c = owners_live

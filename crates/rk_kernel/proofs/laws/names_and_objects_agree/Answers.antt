use Rattle.rk_kernel.proofs.NamesLaws.{names_agree}
use Rattle.rk_kernel.proofs.laws.names_and_objects_agree.Goals as goal

pub returns : goal.returns
returns c = names_agree

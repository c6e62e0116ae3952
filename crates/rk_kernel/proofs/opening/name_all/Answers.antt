use Rattle.std.proofs.Common.{arith}
use Rattle.rk_kernel.proofs.InitNamesLemmas.{named_more}
use Rattle.rk_kernel.proofs.opening.name_all.Goals as goal

pub loop-at-preserved : goal.loop-at-preserved
loop-at-preserved c = named_more c.args.inits.now c.loop-at.at c.index-inits-at.result _ _ _ (omega arith) c.requires.few c.loop-at.invariant c.make.ensures.taken

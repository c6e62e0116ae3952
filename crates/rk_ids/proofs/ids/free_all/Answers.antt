use Rattle.std.proofs.Common.{arith, refl}
use Rattle.rk_model.proofs.CountLemmas.{length_range}
use Rattle.rk_ids.proofs.FreeIndexLemmas.{pushed}
use Rattle.rk_ids.proofs.ids.free_all.Goals as goal

pub push-requires : goal.push-requires
push-requires c = (omega arith, rw (c.loop-before.invariant, length_range 1 c.loop-before.before) c.loop-before-test.true)

pub loop-before-preserved : goal.loop-before-preserved
loop-before-preserved c = pushed 1 c.loop-before.before _ _ _ c.loop-before.invariant refl c.push.ensures

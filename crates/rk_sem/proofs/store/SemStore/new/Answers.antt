use Rattle.rk_model.specs.State.{no_semaphore}
use Rattle.rk_places.proofs.PlaceLemmas.{length-vacant, vacant_more}
use Rattle.rk_sem.proofs.store.SemStore.new.Goals as goal

pub push-requires : goal.push-requires
push-requires c = rw (c.loop-made.invariant, length-vacant no_semaphore c.loop-made._made) c.loop-made-test.true

pub loop-made-preserved : goal.loop-made-preserved
loop-made-preserved c =
    rw (c.push.ensures, c.in_ok-slot.ensures, c.loop-made.invariant) (vacant_more no_semaphore c.args.group c.loop-made._made)

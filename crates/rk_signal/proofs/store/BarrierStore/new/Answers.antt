use Rattle.rk_signal.specs.Barriers.{no_stored}
use Rattle.rk_places.proofs.PlaceLemmas.{length-vacant, vacant_more}
use Rattle.rk_signal.proofs.store.BarrierStore.new.Goals as goal

pub push-requires : goal.push-requires
push-requires c = rw (c.loop-made.invariant, length-vacant no_stored c.loop-made._made) c.loop-made-test.true

pub loop-made-preserved : goal.loop-made-preserved
loop-made-preserved c =
    rw (c.push.ensures, c.in_ok-slot.ensures, c.loop-made.invariant) (vacant_more no_stored c.args.group c.loop-made._made)

use Rattle.rk_model.specs.State.{no_period}
use Rattle.rk_places.proofs.PlaceLemmas.{length-vacant, vacant_more}
use Rattle.rk_period.proofs.store.PeriodStore.new.Goals as goal

pub push-requires : goal.push-requires
push-requires c = rw (c.loop-made.invariant, length-vacant no_period c.loop-made._made) c.loop-made-test.true

pub loop-made-preserved : goal.loop-made-preserved
loop-made-preserved c =
    rw (c.push.ensures, c.new-in-loop-made.ensures, c.loop-made.invariant) (vacant_more no_period c.args.group c.loop-made._made)

use Rattle.std.proofs.Common.{refl}
use Rattle.rk_model.specs.State.{no_semaphore}
use Rattle.rk_places.specs.Stores.{IsOfGroup}
use Rattle.rk_places.proofs.PlaceLemmas.{stored_there, put_there}
use Rattle.rk_sem.proofs.store.SemStore.slot_mut.Goals as goal

pub returns : goal.returns
returns c =
    let is : IsOfGroup c.self.inside.places.group c.args.index = rw (← c.self.view_is) at c.requires in (
      (refl, λ w. rw (← c.self.view_is) (put_there no_semaphore c.self.inside.places c.args.index w c.self.invariant is)),
      record { writes_back = tt; value = rw (← c.self.view_is) (stored_there no_semaphore c.self.inside.places c.args.index c.at_mut.result.now c.self.invariant is c.at_mut.ensures.value) },
    )

use Rattle.rk_model.specs.State.{no_semaphore}
use Rattle.rk_places.specs.Stores.{IsOfGroup}
use Rattle.rk_places.proofs.PlaceLemmas.{stored_there}
use Rattle.rk_sem.proofs.store.SemStore.slot.Goals as goal

pub returns : goal.returns
returns c =
    let is : IsOfGroup c.self.inside.places.group c.args.index = rw (← c.self.view_is) at c.requires in
    rw (← c.self.view_is) (stored_there no_semaphore c.self.inside.places c.args.index c.at.result.now c.self.invariant is c.at.ensures)

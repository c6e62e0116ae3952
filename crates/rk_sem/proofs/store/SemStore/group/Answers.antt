use Rattle.rk_model.specs.State.{no_semaphore}
use Rattle.rk_places.proofs.PlaceLemmas.{store_is}
use Rattle.rk_sem.proofs.store.SemStore.group.Goals as goal

pub returns-clause-store : goal.returns-clause-store
returns-clause-store c = rw (← c.self.view_is) (store_is no_semaphore c.self.inside.places c.self.invariant)

use Rattle.rk_signal.specs.Barriers.{no_stored}
use Rattle.rk_places.proofs.PlaceLemmas.{store_is}
use Rattle.rk_signal.proofs.store.BarrierStore.group.Goals as goal

pub returns-clause-store : goal.returns-clause-store
returns-clause-store c = rw (← c.self.view_is) (store_is no_stored c.self.inside.places c.self.invariant)

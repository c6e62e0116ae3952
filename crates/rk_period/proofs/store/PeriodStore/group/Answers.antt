use Rattle.rk_model.specs.State.{no_period}
use Rattle.rk_places.proofs.PlaceLemmas.{store_is}
use Rattle.rk_period.proofs.store.PeriodStore.group.Goals as goal

pub returns-clause-store : goal.returns-clause-store
returns-clause-store c = rw (← c.self.view_is) (store_is no_period c.self.inside.places c.self.invariant)

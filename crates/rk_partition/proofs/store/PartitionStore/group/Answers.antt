use Rattle.rk_model.specs.State.{no_partition}
use Rattle.rk_places.proofs.PlaceLemmas.{store_is}
use Rattle.rk_partition.proofs.store.PartitionStore.group.Goals as goal

pub returns-clause-store : goal.returns-clause-store
returns-clause-store c = rw (← c.self.view_is) (store_is no_partition c.self.inside.places c.self.invariant)

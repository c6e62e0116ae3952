use Rattle.std.proofs.Common.{◌≡◌}
use Rattle.rk_model.specs.State.{no_semaphore}
use Rattle.rk_places.specs.Stores.{vacant_items}
use Rattle.rk_sem.proofs.store.SemStore.new.Given as goal

abbrev pub invariant-loop-made : goal.invariant-loop-made
invariant-loop-made l = l.places ≡ vacant_items no_semaphore l.group l._made

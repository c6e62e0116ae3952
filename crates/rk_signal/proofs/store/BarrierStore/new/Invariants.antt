use Rattle.std.proofs.Common.{◌≡◌}
use Rattle.rk_signal.specs.Barriers.{no_stored}
use Rattle.rk_places.specs.Stores.{vacant_items}
use Rattle.rk_signal.proofs.store.BarrierStore.new.Given as goal

abbrev pub invariant-loop-made : goal.invariant-loop-made
invariant-loop-made l = l.places ≡ vacant_items no_stored l.group l._made

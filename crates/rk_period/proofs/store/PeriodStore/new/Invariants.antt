use Rattle.std.proofs.Common.{◌≡◌}
use Rattle.rk_model.specs.State.{no_period}
use Rattle.rk_places.specs.Stores.{vacant_items}
use Rattle.rk_period.proofs.store.PeriodStore.new.Given as goal

abbrev pub invariant-loop-made : goal.invariant-loop-made
invariant-loop-made l = l.places ≡ vacant_items no_period l.group l._made

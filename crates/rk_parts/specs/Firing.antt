-- Timers as they fire, one after another, and as they are cancelled.
use Rattle.std.specs.Prelude.{ℕ, ◌≡◌, List, [], ◌∷◌, Bool, true, false}
use Rattle.rk_model.specs.declared.state.Armed.{Armed}
use Rattle.rk_model.specs.State.{Plain, cluster_at}
use Rattle.rk_model.specs.Scheduling.Timers.{due_at}
use Rattle.rk_model.specs.Scheduling.Ticks.{fire}

-- the timers of a cluster that are due now
abbrev pub due_now : Plain → ℕ → List Armed
due_now k c = due_at k.present (cluster_at k c).timers

-- the first of these timers of a cluster has fired, and where there is none nothing changed
abbrev pub FiresFirst : ℕ → List Armed → Plain → Bool → Plain → Type 0
FiresFirst c [] old fired new = (fired ≡ false) × (new ≡ old)
FiresFirst c (timer ∷ timers) old fired new = (fired ≡ true) × (new ≡ fire old c timer)

-- The armed timers of a cluster, each of whose owners has one.
use Rattle.std.specs.Prelude.{ℕ, ◌<◌, ◌≤◌, List, [], ◌∷◌, Option, Some, None, if◌then◌else◌}
use Rattle.rk_model.specs.declared.limits.TheConstants.{MOST_OBJECTS}
use Rattle.rk_model.specs.declared.state.Armer.{Armer}
use Rattle.rk_model.specs.declared.state.Armer.TheVariants.{Thread as OfThread, Period as OfPeriod}
use Rattle.rk_model.specs.declared.state.Armed.{Armed}
use Rattle.rk_model.specs.Scheduling.Timers.{is_same, times_armed}

-- The number of a period is from 1 to 64; the type of a thread's index says it of a thread.
abbrev pub IsKnown : Armer → Type 0
IsKnown (OfThread t) = Unit {0}
IsKnown (OfPeriod i) = (1 ≤ i) × (i ≤ MOST_OBJECTS)

-- a thread or a period, from 1 to 64
abbrev pub IsArmer : Armer → Type 0
IsArmer (OfThread t) = (1 ≤ t) × (t ≤ MOST_OBJECTS)
IsArmer (OfPeriod i) = (1 ≤ i) × (i ≤ MOST_OBJECTS)

-- Each owner has at most one armed timer, and is a thread or a period from 1 to 64.
pub record IsWheel (timers : List Armed) : Type 0 where
  pub once : (who : Armer) → times_armed who timers ≤ 1
  pub within : (who : Armer) → 0 < times_armed who timers → IsArmer who

-- the tick at which the timer of one is due; none where it has none
abbrev pub due_of : Armer → List Armed → Option ℕ
due_of who [] = None
due_of who (timer ∷ timers) = if is_same timer.who who then Some timer.due else due_of who timers

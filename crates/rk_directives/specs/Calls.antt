-- The threads that act.
use Rattle.std.specs.Prelude.{ℕ, ◌≡◌, ◌<◌, ◌≤◌, Bool, true, false, Option, Some, None, if◌then◌else◌}
use Rattle.rk_model.specs.declared.ids.Class.TheVariants.{Semaphore, Barrier, Period}
use Rattle.rk_model.specs.declared.scenario.Op.{Op}
use Rattle.rk_model.specs.declared.scenario.Op.TheVariants.{TaskCreate, SemCreate, SemObtain, SemRelease, SemFlush, SemDelete, SemSetPriority, BarrierCreate, BarrierWait, BarrierRelease, BarrierDelete, PartCreate, PartGet, PartReturn, PeriodCreate, PeriodPeriod, PeriodCancel}
use Rattle.rk_model.specs.declared.scenario.Wish.{Wish}
use Rattle.rk_model.specs.declared.scenario.Wish.TheVariants.{NoWait, Limit}
use Rattle.rk_model.specs.Directives.Objects.{object_named}
use Rattle.rk_model.specs.Directives.Waits.{Object, OfBarrier, OfSemaphore}
use Rattle.rk_model.specs.declared.limits.TheConstants.{MOST_OBJECTS, MOST_LINES}
use Rattle.rk_model.specs.declared.state.Life.TheVariants.{Started}
use Rattle.rk_model.specs.declared.status.Status.TheVariants.{ResourceInUse}
use Rattle.rk_model.specs.State.{Plain, thread_at, semaphore_at}
use Rattle.rk_model.specs.Directives.Outcomes.{Outcome, Refused, done}
use Rattle.rk_model.specs.Directives.Semaphores.{is_owned, without_semaphore}
use Rattle.rk_directives.specs.Sound.{IsSound}

-- A thread of a sound state that acts: it is one of the 64, is started, and neither waits nor has work left.
pub record IsActing (k : Plain) (t : ℕ) : Type 0 where
  pub sound : IsSound k
  pub low : 0 < t
  pub high : t ≤ MOST_OBJECTS
  pub started : (thread_at k t).life ≡ Started
  pub waits_not : (thread_at k t).wait ≡ None
  pub works_not : (thread_at k t).left ≡ 0

-- One that acts by the directive of its line: it has a line, and doesn't return from another directive.
pub record IsCaller (k : Plain) (t : ℕ) : Type 0 where
  pub acts : IsActing k t
  pub line : (thread_at k t).line ≤ MOST_LINES
  pub returns_not : (thread_at k t).finished ≡ None

-- whether a line makes an object
abbrev pub makes_object : Op → Bool
makes_object (TaskCreate name prio var) = true
makes_object (SemCreate name count kind order _ ceiling var) = true
makes_object (BarrierCreate name automatic most var) = true
makes_object (PartCreate name start length size var) = true
makes_object (PeriodCreate name var) = true
makes_object op = false

-- whether a line is a narrow directive on a semaphore, a barrier, a partition or a period
abbrev pub is_on_object : Op → Bool
is_on_object (SemObtain id wish) = true
is_on_object (SemRelease id) = true
is_on_object (SemFlush id) = true
is_on_object (SemSetPriority id cluster prio var) = true
is_on_object (BarrierWait id ticks) = true
is_on_object (BarrierRelease id var) = true
is_on_object (PartGet id var) = true
is_on_object (PartReturn id address) = true
is_on_object (PeriodPeriod id length) = true
is_on_object (PeriodCancel id) = true
is_on_object op = false

-- a barrier and a semaphore of these indices as objects with a queue
abbrev pub of_barrier : Option ℕ → Option Object
of_barrier None = None
of_barrier (Some i) = Some (OfBarrier i)

abbrev pub of_semaphore : Option ℕ → Option Object
of_semaphore None = None
of_semaphore (Some i) = Some (OfSemaphore i)

-- the object whose queue a line of a caller may change, if there is one
abbrev pub queue_named : Plain → ℕ → Op → Option Object
queue_named k t (SemObtain id wish) = of_semaphore (object_named k t Semaphore id)
queue_named k t (SemRelease id) = of_semaphore (object_named k t Semaphore id)
queue_named k t (SemFlush id) = of_semaphore (object_named k t Semaphore id)
queue_named k t (SemDelete id) = of_semaphore (object_named k t Semaphore id)
queue_named k t (BarrierWait id ticks) = of_barrier (object_named k t Barrier id)
queue_named k t (BarrierRelease id var) = of_barrier (object_named k t Barrier id)
queue_named k t (BarrierDelete id) = of_barrier (object_named k t Barrier id)
queue_named k t op = None

-- the period on which a line of a caller calls, if it calls on one
abbrev pub period_called : Plain → ℕ → Op → Option ℕ
period_called k t (PeriodPeriod id length) = object_named k t Period id
period_called k t (PeriodCancel id) = object_named k t Period id
period_called k t op = None

-- the limit in ticks of one who wishes so; 0 where there is none
abbrev pub ticks_of : Wish → ℕ
ticks_of NoWait = 0
ticks_of (Limit ticks) = ticks

-- a caller deletes a semaphore that it has found
abbrev pub deleted_at : Plain → ℕ → Outcome
deleted_at k i = if is_owned (semaphore_at k i) then Refused ResourceInUse else done 0 (without_semaphore k i)

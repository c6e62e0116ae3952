-- The directives of the barrier manager.
use Rattle.std.specs.Prelude.{ℕ, ◌+◌, [], Bool, true, ◌&&◌, ◌==◌, nat_le, length, Option, Some, None, if◌then◌else◌}
use Rattle.rk_model.specs.declared.ids.Class.TheVariants.{Barrier}
use Rattle.rk_model.specs.declared.scenario.Target.{Target}
use Rattle.rk_model.specs.declared.state.Wait.TheVariants.{AtBarrier}
use Rattle.rk_model.specs.declared.status.Status.{Status}
use Rattle.rk_model.specs.declared.status.Status.TheVariants.{Successful, InvalidNumber, ObjectWasDeleted}
use Rattle.rk_model.specs.State.{Plain, BarrierState, no_barrier, barrier_at, put_barrier}
use Rattle.rk_model.specs.Directives.Objects.{object_named, create, ident, without_object}
use Rattle.rk_model.specs.Directives.Outcomes.{Outcome, Waiting, done, on_found}
use Rattle.rk_model.specs.Directives.Waits.{begin_limited, end_each, bare}

-- a barrier that was created, at which no task waits
abbrev pub new_barrier : Bool → ℕ → BarrierState
new_barrier automatic most = record { live = true; automatic = automatic; most = most; arrivals = [] }

-- why a barrier can't be created, if it can't
abbrev pub most_refusal : Bool → ℕ → Option Status
most_refusal automatic most = if automatic && (most == 0) then Some InvalidNumber else None

-- barrier.create (rtems_barrier_create): INVALID_NAME where the name is 0; INVALID_NUMBER where it is automatic and the maximum is 0; TOO_MANY where 64 barriers live; else a barrier at which no task waits. Out: its id.
abbrev pub barrier_create : Plain → ℕ → Bool → ℕ → Outcome
barrier_create k name automatic most =
    create k Barrier name (most_refusal automatic most) (λ index next. put_barrier next index (new_barrier automatic most))

-- barrier.ident (rtems_barrier_ident): INVALID_NAME where no live barrier has the name. Out: the id of the live barrier of least index that has it.
abbrev pub barrier_ident : Plain → ℕ → Outcome
barrier_ident k name = ident k Barrier name

-- the state in which all waits at a barrier have ended with a status
abbrev pub end_at : Plain → ℕ → Status → Plain
end_at k i status = end_each k (barrier_at k i).arrivals (bare status)

-- whether one more task is enough for a barrier to release all: it is automatic, and its waiters and one more are at least its maximum
abbrev pub is_full : BarrierState → Bool
is_full barrier = barrier.automatic && nat_le barrier.most (length barrier.arrivals + 1)

-- barrier.wait (rtems_barrier_wait): INVALID_ID where the barrier is unknown; where it is automatic and its waiters and the caller together are at least its maximum, all its waits end with SUCCESSFUL and the caller doesn't wait; else the caller waits with that limit.
abbrev pub barrier_wait : Plain → ℕ → Target → ℕ → Outcome
barrier_wait k t id ticks =
    on_found (object_named k t Barrier id) (λ i. if is_full (barrier_at k i) then done 0 (end_at k i Successful) else Waiting (begin_limited k t (AtBarrier i) ticks))

-- barrier.release (rtems_barrier_release): INVALID_ID where the barrier is unknown; else all its waits end with SUCCESSFUL. Out: their number.
abbrev pub barrier_release : Plain → ℕ → Target → Outcome
barrier_release k t id =
    on_found (object_named k t Barrier id) (λ i. done (length (barrier_at k i).arrivals) (end_at k i Successful))

-- the state in which a barrier lives no longer: its waits have ended with OBJECT_WAS_DELETED, and its index is free
abbrev pub without_barrier : Plain → ℕ → Plain
without_barrier k i = without_object (put_barrier (end_at k i ObjectWasDeleted) i no_barrier) Barrier i

-- barrier.delete (rtems_barrier_delete): INVALID_ID where the barrier is unknown; else its waits end with OBJECT_WAS_DELETED and it lives no longer.
abbrev pub barrier_delete : Plain → ℕ → Target → Outcome
barrier_delete k t id = on_found (object_named k t Barrier id) (λ i. done 0 (without_barrier k i))

-- The directives of the event manager. A set of events is a number, a bit for each event.
use Rattle.std.specs.Prelude.{ℕ, Bool, true, false, not, ◌==◌, Option, Some, None, bit_and, bit_or, bit_xor, if◌then◌else◌}
use Rattle.rk_model.specs.declared.scenario.Target.{Target}
use Rattle.rk_model.specs.declared.scenario.Wish.{Wish}
use Rattle.rk_model.specs.declared.scenario.Wish.TheVariants.{NoWait, Limit}
use Rattle.rk_model.specs.declared.state.Wait.{Wait}
use Rattle.rk_model.specs.declared.state.Wait.TheVariants.{ForTime, ForEvents, AtBarrier, ForPeriod, ForSemaphore}
use Rattle.rk_model.specs.declared.status.Status.TheVariants.{Successful, Unsatisfied}
use Rattle.rk_model.specs.State.{Plain, thread_at, put_thread}
use Rattle.rk_model.specs.Directives.Outcomes.{Outcome, Refused, Waiting, done, on_found}
use Rattle.rk_model.specs.Directives.Waits.{begin_limited, end_wait}
use Rattle.rk_model.specs.Directives.Tasks.{task_named}

-- whether the pending events meet a wish for a set: all of its events are pending, or with false any of them
abbrev pub is_met : ℕ → ℕ → Bool → Bool
is_met pending set true = bit_and pending set == set
is_met pending set false = not (bit_and pending set == 0)

-- The events that a wish for a set seizes: the pending ones of the set, where the wish is met; none where it isn't met.
unfoldable pub seized : ℕ → ℕ → Bool → Option ℕ
seized pending set all = if is_met pending set all then Some (bit_and pending set) else None

-- the pending events without seized ones, which are some of them
abbrev pub left_of : ℕ → ℕ → ℕ
left_of pending got = bit_xor pending got

-- the state in which a task has these events pending
abbrev pub with_pending : Plain → ℕ → ℕ → Plain
with_pending k u pending = put_thread k u (record (thread_at k u) { pending = pending })

-- the state in which a task has seized events: they are no longer pending, and its wait has ended with them as out number
abbrev pub with_seized : Plain → ℕ → ℕ → Option ℕ → Plain
with_seized k u pending None = k
with_seized k u pending (Some got) = end_wait (with_pending k u (left_of pending got)) u (record { status = Successful; out = got })

-- the events that one who waits so seizes of these pending ones; none where its wish isn't met, or it doesn't wait for events
abbrev pub seized_by : ℕ → Option Wait → Option ℕ
seized_by pending None = None
seized_by pending (Some ForTime) = None
seized_by pending (Some (ForEvents set all)) = seized pending set all
seized_by pending (Some (AtBarrier i)) = None
seized_by pending (Some (ForPeriod i)) = None
seized_by pending (Some (ForSemaphore i spins)) = None

-- the state in which events were sent to a task, which has these pending then and waits so: it seizes those that it waits for
abbrev pub sent : Plain → ℕ → ℕ → Option Wait → Plain
sent k u pending wait = with_seized (with_pending k u pending) u pending (seized_by pending wait)

-- event.send (rtems_event_send): INVALID_ID where the task is unknown; else the set is united with the task's pending events, and where it waits for events and its wish is met now, it seizes them.
abbrev pub event_send : Plain → ℕ → Target → ℕ → Outcome
event_send k t id set =
    on_found (task_named k t id) (λ u. done 0 (sent k u (bit_or (thread_at k u).pending set) (thread_at k u).wait))

-- the caller's wish for a set isn't met
abbrev pub receive_later : Plain → ℕ → ℕ → Bool → Wish → Outcome
receive_later k t set all NoWait = Refused Unsatisfied
receive_later k t set all (Limit ticks) = Waiting (begin_limited k t (ForEvents set all) ticks)

-- the caller seizes these events of a set, if its wish is met
abbrev pub receive_by : Plain → ℕ → ℕ → Bool → Wish → Option ℕ → Outcome
receive_by k t set all wish None = receive_later k t set all wish
receive_by k t set all wish (Some got) = done got (with_pending k t (left_of (thread_at k t).pending got))

-- event.receive (rtems_event_receive): with set 0 the out number is the pending events, which stay; where the wish is met, the caller seizes the pending events of the set, which are the out number; UNSATISFIED where it isn't met and the caller doesn't wish to wait; else it waits with that limit.
abbrev pub event_receive : Plain → ℕ → ℕ → Bool → Wish → Outcome
event_receive k t set all wish =
    if set == 0 then done (thread_at k t).pending k
    else receive_by k t set all wish (seized (thread_at k t).pending set all)

-- How the wait of a thread begins and ends: the queue in which it stands, its timer, and its reply.
use Rattle.std.specs.Prelude.{ℕ, ◌+◌, List, [], ◌∷◌, ◌++◌, Bool, false, not, Option, Some, None, ◌==◌, filter, if◌then◌else◌}
use Rattle.rk_model.specs.declared.entry.Reply.{Reply}
use Rattle.rk_model.specs.declared.status.Status.{Status}
use Rattle.rk_model.specs.declared.status.Status.TheVariants.{Successful, Timeout}
use Rattle.rk_model.specs.declared.state.Armer.TheVariants.{Thread as OfThread}
use Rattle.rk_model.specs.declared.state.Wait.{Wait}
use Rattle.rk_model.specs.declared.state.Wait.TheVariants.{ForTime, ForEvents, AtBarrier, ForPeriod, ForSemaphore}
use Rattle.rk_model.specs.Lists.{nth, with_nth}
use Rattle.rk_model.specs.declared.waiting.Caller.{Caller}
use Rattle.rk_model.specs.Queues.{threads, waiter_of, entered, left_by}
use Rattle.rk_model.specs.State.{Plain, BarrierState, SemaphoreState, no_barrier, no_semaphore, thread_at, put_thread}
use Rattle.rk_model.specs.Scheduling.Priorities.{home_prio}
use Rattle.rk_model.specs.Scheduling.Timers.{arm, cancel}

-- The objects in whose queues threads wait: a barrier or a semaphore, by its index.
pub data Object : Type 0 where
  OfBarrier : ℕ → Object
  OfSemaphore : ℕ → Object

-- whether two are the same object
abbrev pub is_same_object : Object → Object → Bool
is_same_object (OfBarrier i) (OfBarrier j) = i == j
is_same_object (OfBarrier i) (OfSemaphore j) = false
is_same_object (OfSemaphore i) (OfBarrier j) = false
is_same_object (OfSemaphore i) (OfSemaphore j) = i == j

-- the object in whose queue a thread stands that waits for this; none where it waits for no object
abbrev pub object_of_wait : Option Wait → Option Object
object_of_wait None = None
object_of_wait (Some ForTime) = None
object_of_wait (Some (ForEvents set all)) = None
object_of_wait (Some (AtBarrier i)) = Some (OfBarrier i)
object_of_wait (Some (ForPeriod i)) = None
object_of_wait (Some (ForSemaphore i spins)) = Some (OfSemaphore i)

-- whether a thread that waits for this stands in the queue of an object
abbrev pub is_for : Option Object → Object → Bool
is_for None object = false
is_for (Some awaited) object = is_same_object awaited object

-- the queue of an object: the threads that wait there, in the order of their arrival
abbrev pub arrivals_in : List BarrierState → List SemaphoreState → Object → List ℕ
arrivals_in barriers semaphores (OfBarrier i) = (nth no_barrier barriers i).arrivals
arrivals_in barriers semaphores (OfSemaphore i) = threads (nth no_semaphore semaphores i).queue.arrivals

-- a thread as a queue sees it: with its home, and its priority there
abbrev pub caller_at : Plain → ℕ → Caller
caller_at k t = record { thread = t; home = (thread_at k t).home; prio = home_prio k t }

-- ---- at a barrier

-- a queue without a thread
abbrev pub without : ℕ → List ℕ → List ℕ
without t arrivals = filter (λ u. not (u == t)) arrivals

-- the barriers after a thread has entered the queue of an object, if it is one of them, as the last
abbrev pub with_arrival : List BarrierState → ℕ → Option Object → List BarrierState
with_arrival barriers t None = barriers
with_arrival barriers t (Some (OfBarrier i)) = with_nth barriers i (record (nth no_barrier barriers i) { arrivals = (nth no_barrier barriers i).arrivals ++ t ∷ [] })
with_arrival barriers t (Some (OfSemaphore i)) = barriers

-- the barriers after a thread has left the queue of an object, if it is one of them
abbrev pub without_arrival : List BarrierState → ℕ → Option Object → List BarrierState
without_arrival barriers t None = barriers
without_arrival barriers t (Some (OfBarrier i)) = with_nth barriers i (record (nth no_barrier barriers i) { arrivals = without t (nth no_barrier barriers i).arrivals })
without_arrival barriers t (Some (OfSemaphore i)) = barriers

-- ---- for a semaphore

-- one more task waits for it
abbrev pub with_waiter : Caller → SemaphoreState → SemaphoreState
with_waiter by sem = record sem { queue = entered (waiter_of by) sem.queue }

-- a thread waits for it no longer, without having been served
abbrev pub without_waiter : ℕ → SemaphoreState → SemaphoreState
without_waiter t sem = record sem { queue = left_by t sem.queue }

-- the semaphores after a task has entered the queue of an object, if it is one of them, as the last
abbrev pub with_waiter_in : List SemaphoreState → Caller → Option Object → List SemaphoreState
with_waiter_in semaphores by None = semaphores
with_waiter_in semaphores by (Some (OfBarrier i)) = semaphores
with_waiter_in semaphores by (Some (OfSemaphore i)) = with_nth semaphores i (with_waiter by (nth no_semaphore semaphores i))

-- the semaphores after a thread has left the queue of an object, if it is one of them
abbrev pub without_waiter_in : List SemaphoreState → ℕ → Option Object → List SemaphoreState
without_waiter_in semaphores t None = semaphores
without_waiter_in semaphores t (Some (OfBarrier i)) = semaphores
without_waiter_in semaphores t (Some (OfSemaphore i)) = with_nth semaphores i (without_waiter t (nth no_semaphore semaphores i))

-- ---- a wait

-- the state in which a task stands in the queue of what this is a wait for, as the last
abbrev pub enter : Plain → Caller → Option Wait → Plain
enter k by wait = record k { barriers = with_arrival k.barriers by.thread (object_of_wait wait); semaphores = with_waiter_in k.semaphores by (object_of_wait wait) }

-- the state in which a thread stands no longer in the queue of what it waits for
abbrev pub leave : Plain → ℕ → Plain
leave k t = record k { barriers = without_arrival k.barriers t (object_of_wait (thread_at k t).wait); semaphores = without_waiter_in k.semaphores t (object_of_wait (thread_at k t).wait) }

-- the state in which a thread waits, and stands in no queue yet
abbrev pub start_wait : Plain → ℕ → Wait → Plain
start_wait k t wait = put_thread k t (record (thread_at k t) { wait = Some wait })

-- the same with a limit of so many ticks, at which its timer is armed in its home; with 0 there is no limit
abbrev pub start_limited : Plain → ℕ → Wait → ℕ → Plain
start_limited k t wait ticks =
    if ticks == 0 then start_wait k t wait
    else arm (start_wait k t wait) (thread_at k t).home (record { who = OfThread t; due = k.present + ticks })

-- The state in which a thread has begun to wait with a limit of so many ticks, or with 0 without a limit: it waits, its timer is armed, and it has entered the queue of what it waits for.
abbrev pub begin_limited : Plain → ℕ → Wait → ℕ → Plain
begin_limited k t wait ticks = enter (start_limited k t wait ticks) (caller_at k t) (Some wait)

-- the state in which a thread waits no longer and has this reply to return with, and its timer, if it has one, is cancelled
abbrev pub stop_wait : Plain → ℕ → Reply → Plain
stop_wait k t reply = put_thread (cancel k (thread_at k t).home (OfThread t)) t (record (thread_at k t) { wait = None; finished = Some reply })

-- The state in which a thread's wait has ended with a reply: it has left the queue of what it waited for, its timer, if it has one, is cancelled, and it has the reply to return with.
abbrev pub end_wait : Plain → ℕ → Reply → Plain
end_wait k t reply = stop_wait (leave k t) t reply

-- the state in which the waits of these threads have ended with a reply, one after another
abbrev pub end_each : Plain → List ℕ → Reply → Plain
end_each k [] reply = k
end_each k (t ∷ ts) reply = end_each (end_wait k t reply) ts reply

-- the same for threads that stand in no queue any more
abbrev pub stop_each : Plain → List ℕ → Reply → Plain
stop_each k [] reply = k
stop_each k (t ∷ ts) reply = stop_each (stop_wait k t reply) ts reply

-- a reply without an out number
abbrev pub bare : Status → Reply
bare status = record { status = status; out = 0 }

-- What a wait ends with when its timer fires: a sleep is over, and any other wait has run out.
abbrev pub reply_at_timer : Option Wait → Reply
reply_at_timer None = bare Successful
reply_at_timer (Some ForTime) = bare Successful
reply_at_timer (Some (ForEvents set all)) = bare Timeout
reply_at_timer (Some (AtBarrier i)) = bare Timeout
reply_at_timer (Some (ForPeriod i)) = bare Timeout
reply_at_timer (Some (ForSemaphore i spins)) = bare Timeout

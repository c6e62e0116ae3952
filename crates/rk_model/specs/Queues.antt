-- The queues in which threads wait, and the order in which they serve them.
use Rattle.std.specs.Prelude.{ℕ, ◌≡◌, ◌≤◌, Bool, true, List, [], ◌∷◌, ◌++◌, ◌==◌, not, min, map, filter, Option, Some, None, if◌then◌else◌}
use Rattle.rk_model.specs.declared.limits.TheConstants.{MOST_OBJECTS}
use Rattle.rk_model.specs.declared.status.Status.{Status}
use Rattle.rk_model.specs.declared.waiting.Caller.{Caller}
use Rattle.rk_model.specs.declared.waiting.Order.{Order}
use Rattle.rk_model.specs.declared.waiting.Order.TheVariants.{Fifo, Priority}
use Rattle.rk_model.specs.declared.waiting.Waiter.{Waiter}
use Rattle.rk_model.specs.declared.waiting.Wake.{Wake}
use Rattle.rk_model.specs.Lists.{has, times}

-- A queue: its waiters in order of arrival, the order in which it serves them, and the clusters of the waiters by their turns.
pub record Queue : Type 0 where
  pub arrivals : List Waiter
  pub order : Order
  pub turns : List ℕ

-- the queue of an order in which none waits
abbrev pub empty : Order → Queue
empty order = record { arrivals = []; order = order; turns = [] }

-- the threads of waiters
abbrev pub threads : List Waiter → List ℕ
threads waiters = map (λ (waiter : Waiter). waiter.thread) waiters

-- the clusters of waiters
abbrev pub clusters : List Waiter → List ℕ
clusters waiters = map (λ (waiter : Waiter). waiter.cluster) waiters

-- whether a thread waits in the queue
abbrev pub waits_in : Queue → ℕ → Bool
waits_in queue thread = has (threads queue.arrivals) thread

-- the waiters without a thread
abbrev pub without : ℕ → List Waiter → List Waiter
without thread waiters = filter (λ (waiter : Waiter). not (waiter.thread == thread)) waiters

-- the cluster of the waiter of a thread; 0 where the thread has no waiter
abbrev pub cluster_of : ℕ → List Waiter → ℕ
cluster_of thread [] = 0
cluster_of thread (waiter ∷ waiters) = if waiter.thread == thread then waiter.cluster else cluster_of thread waiters

-- a waiter, with another priority where it is the thread's
abbrev pub with_prio_at : ℕ → ℕ → Waiter → Waiter
with_prio_at thread prio waiter = if waiter.thread == thread then record waiter { prio = prio } else waiter

-- the waiters where a thread has another priority, at its place
abbrev pub with_prio : ℕ → ℕ → List Waiter → List Waiter
with_prio thread prio waiters = map (with_prio_at thread prio) waiters

-- the turns in which a cluster has a turn: the last one, where it had none
abbrev pub with_turn : ℕ → List ℕ → List ℕ
with_turn cluster turns = if has turns cluster then turns else turns ++ cluster ∷ []

-- the turns without a cluster
abbrev pub without_turn : ℕ → List ℕ → List ℕ
without_turn cluster turns = filter (λ c. not (c == cluster)) turns

-- the turns after a waiter of a cluster left these waiters: the cluster keeps its turn where it has one of them, and has none otherwise
abbrev pub turns_kept : ℕ → List Waiter → List ℕ → List ℕ
turns_kept cluster waiters turns = if has (clusters waiters) cluster then turns else without_turn cluster turns

-- the turns after a waiter of a cluster was served and left these waiters: the cluster goes last where it has one of them, and has no turn otherwise
abbrev pub turns_taken : ℕ → List Waiter → List ℕ → List ℕ
turns_taken cluster waiters turns = if has (clusters waiters) cluster then without_turn cluster turns ++ cluster ∷ [] else without_turn cluster turns

-- the waiter as which a task waits
abbrev pub waiter_of : Caller → Waiter
waiter_of by = record { thread = by.thread; cluster = by.home; prio = by.prio }

-- the queue into which a waiter came as the latest
abbrev pub entered : Waiter → Queue → Queue
entered waiter queue = record queue { arrivals = queue.arrivals ++ waiter ∷ []; turns = with_turn waiter.cluster queue.turns }

-- the queue that a thread left without having been served
abbrev pub left_by : ℕ → Queue → Queue
left_by thread queue =
    record queue {
      arrivals = without thread queue.arrivals;
      turns = turns_kept (cluster_of thread queue.arrivals) (without thread queue.arrivals) queue.turns;
    }

-- the queue in which a thread has another priority
abbrev pub reordered : ℕ → ℕ → Queue → Queue
reordered thread prio queue = record queue { arrivals = with_prio thread prio queue.arrivals }

-- the thread of the earliest of waiters
abbrev pub earliest : List Waiter → Option ℕ
earliest [] = None
earliest (waiter ∷ waiters) = Some waiter.thread

-- the waiters of a cluster
abbrev pub of_cluster : ℕ → List Waiter → List Waiter
of_cluster cluster waiters = filter (λ (waiter : Waiter). waiter.cluster == cluster) waiters

-- the waiters of a priority
abbrev pub of_prio : ℕ → List Waiter → List Waiter
of_prio prio waiters = filter (λ (waiter : Waiter). waiter.prio == prio) waiters

-- the lesser of a priority and another, if there is another
abbrev pub lesser : ℕ → Option ℕ → ℕ
lesser prio None = prio
lesser prio (Some other) = min prio other

-- the least priority of waiters
abbrev pub least_prio : List Waiter → Option ℕ
least_prio [] = None
least_prio (waiter ∷ waiters) = Some (lesser waiter.prio (least_prio waiters))

-- the thread of the earliest of the waiters that have a priority
abbrev pub earliest_of : List Waiter → Option ℕ → Option ℕ
earliest_of waiters None = None
earliest_of waiters (Some prio) = earliest (of_prio prio waiters)

-- the thread of the earliest of the most urgent waiters
abbrev pub most_urgent : List Waiter → Option ℕ
most_urgent waiters = earliest_of waiters (least_prio waiters)

-- the thread to be served of the first cluster of the turns
abbrev pub first_by_turns : List ℕ → List Waiter → Option ℕ
first_by_turns [] waiters = None
first_by_turns (cluster ∷ turns) waiters = most_urgent (of_cluster cluster waiters)

-- the thread to be served in an order
abbrev pub first_in : Order → List Waiter → List ℕ → Option ℕ
first_in Fifo arrivals turns = earliest arrivals
first_in Priority arrivals turns = first_by_turns turns arrivals

-- The thread that a queue serves next: that of the earliest arrival, or by priority the earliest of the most urgent waiters of the cluster whose turn is first.
abbrev pub first_of : Queue → Option ℕ
first_of queue = first_in queue.order queue.arrivals queue.turns

-- the queue that has served a thread
abbrev pub served_by : ℕ → Queue → Queue
served_by thread queue =
    record queue {
      arrivals = without thread queue.arrivals;
      turns = turns_taken (cluster_of thread queue.arrivals) (without thread queue.arrivals) queue.turns;
    }

-- the queue that has served a thread, if there was one
abbrev pub served_if : Option ℕ → Queue → Queue
served_if None queue = queue
served_if (Some thread) queue = served_by thread queue

-- the queue that has served the thread that it serves next
abbrev pub served : Queue → Queue
served queue = served_if (first_of queue) queue

-- the waits of these waiters ended with a status and without an out number, in order of arrival
abbrev pub ended : Status → List Waiter → List Wake
ended status waiters = map (λ (waiter : Waiter). record { thread = waiter.thread; status = status; out = 0 }) waiters

-- In a queue each thread waits once and is one of 1 to 64, and each cluster has one turn exactly where a waiter is of it.
pub record IsQueue (arrivals : List Waiter) (turns : List ℕ) : Type 0 where
  pub once : (t : ℕ) → times t (threads arrivals) ≤ 1
  pub within : (t : ℕ) → has (threads arrivals) t ≡ true → (1 ≤ t) × (t ≤ MOST_OBJECTS)
  pub turn : (c : ℕ) → times c turns ≡ (if has (clusters arrivals) c then 1 else 0)

-- What holds of each state that a run of a scenario reaches.
use Rattle.std.specs.Prelude.{ℕ, ◌+◌, ◌<◌, ◌≤◌, ◌≡◌, List, [], ◌∷◌, Bool, true, false, ◌&&◌, ◌==◌, Option, Some, None, length, All, filter, if◌then◌else◌}
use Rattle.std.specs.List.{range_with_len, slice_index_or}
use Rattle.rk_model.specs.declared.limits.TheConstants.{MOST_CLUSTERS, MOST_PROCESSORS, MOST_OBJECTS, MOST_LINES, MOST_TICKS}
use Rattle.rk_model.specs.declared.scenario.Scenario.{Scenario}
use Rattle.rk_model.specs.declared.scenario.Op.{Op}
use Rattle.rk_model.specs.declared.state.Thread.{Thread}
use Rattle.rk_model.specs.declared.state.Armed.{Armed}
use Rattle.rk_model.specs.declared.state.Armer.TheVariants.{Thread as OfThread}
use Rattle.rk_model.specs.declared.entry.Reply.{Reply}
use Rattle.rk_model.specs.declared.state.Wait.{Wait}
use Rattle.rk_model.specs.declared.state.Wait.TheVariants.{ForTime, ForEvents, AtBarrier, ForPeriod, ForSemaphore}
use Rattle.rk_model.specs.Lists.{has, times, nth}
use Rattle.rk_model.specs.Directives.Lines.{kind_at, is_act}
use Rattle.rk_model.specs.Directives.Waits.{Object, object_of_wait, is_for, arrivals_in}
use Rattle.rk_model.specs.State.{Plain, ClusterState, SemaphoreState, BarrierState, objects_of, no_thread, no_semaphore, no_cluster, thread_at, op_at}
use Rattle.rk_model.specs.Scheduling.Priorities.{is_started, is_eligible}
use Rattle.rk_model.specs.Scheduling.Chains.{Ends, owner_awaited}
use Rattle.rk_model.specs.Directives.Objects.{has_begun}
use Rattle.rk_model.specs.Scheduling.ReadyQueues.{has_cpu}
use Rattle.rk_model.specs.Scheduling.Seats.{cpu_count}
use Rattle.rk_model.specs.Scheduling.Timers.{times_armed}
use Rattle.rk_model.specs.Limits.{AreRunnable}
use Rattle.rk_parts.specs.NamesAgree.{AreNamed}
use Rattle.rk_directives.specs.SoundPeriods.{ArePeriodsSound}

-- whether a thread is eligible and of this home
unfoldable pub stands : Plain → ℕ → ℕ → Bool
stands k c t = ((thread_at k t).home == c) && is_eligible k t

-- the eligible threads of a cluster
abbrev pub own : Plain → ℕ → List ℕ
own k c = filter (stands k c) (range_with_len 1 (length k.threads))

abbrev pub is_waiting : Option Wait → Bool
is_waiting None = false
is_waiting (Some w) = true

-- whether a thread that waits for this may have a timer: a wait for a period has no limit, and is ended by the period's own timer
abbrev pub may_time_out : Option Wait → Bool
may_time_out None = false
may_time_out (Some ForTime) = true
may_time_out (Some (ForEvents set all)) = true
may_time_out (Some (AtBarrier i)) = true
may_time_out (Some (ForPeriod i)) = false
may_time_out (Some (ForSemaphore i spins)) = true

-- whether a thread is of this home and waits for what may have a limit
abbrev pub waits_in : List Thread → ℕ → ℕ → Bool
waits_in threads c t = ((nth no_thread threads t).home == c) && may_time_out (nth no_thread threads t).wait

-- a thread has at most one of these timers of a cluster, and none where it isn't of this home or doesn't wait for what may have a limit
abbrev pub AreTimed : List Thread → ℕ → List Armed → Type 0
AreTimed threads c timers = (t : ℕ) → times_armed (OfThread t) timers ≤ (if waits_in threads c t then 1 else 0)

-- a cluster of a state:
pub record IsClusterSound (k : Plain) (c : ℕ) (cluster : ClusterState) : Type 0 where
  pub few_cpus : length cluster.cpus ≤ MOST_PROCESSORS
  -- its line has exactly its eligible threads, each once
  pub line : (t : ℕ) → times t cluster.line ≡ times t (own k c)
  -- its processors have threads of its line alone
  pub manned : (t : ℕ) → has_cpu cluster.cpus t ≡ true → has cluster.line t ≡ true
  -- its timers are of its threads that wait, of each at most one
  pub timers : AreTimed k.threads c cluster.timers

-- the clusters from a number on are sound
abbrev pub AllSound : Plain → ℕ → List ClusterState → Type 0
AllSound k c [] = Unit {0}
AllSound k c (cluster ∷ clusters) = IsClusterSound k c cluster × AllSound k (c + 1) clusters

-- whether a thread is in a directive that waits: its wait goes on, or it has ended and the thread hasn't returned
abbrev pub is_in_call : Option Wait → Option Reply → Bool
is_in_call None None = false
is_in_call None (Some reply) = true
is_in_call (Some w) finished = true

-- whether there is an action where this stands, or behind the last line: none for work, which is computed, and none for a goto, which leads on
abbrev pub has_action : Option Op → Bool
has_action o = is_act (kind_at o)

-- what the bounds of a thread speak of
pub record Place : Type 0 where
  pub home : ℕ
  pub body : ℕ
  pub line : ℕ
  pub left : ℕ
  pub in_call : Bool
  pub started : Bool
  pub computed : ℕ

abbrev pub place_of : Thread → Place
place_of thread = record {
  home = thread.home;
  body = thread.body;
  line = thread.line;
  left = thread.left;
  in_call = is_in_call thread.wait thread.finished;
  started = is_started thread.life;
  computed = thread.computed;
}

-- a thread's home, place and counts are within their limits
pub record Fits (s : Scenario) (clusters present : ℕ) (x : Place) : Type 0 where
  pub home : x.home < clusters
  pub line : x.line ≤ 1001
  pub working : 0 < x.left → x.line ≤ MOST_LINES
  pub calling : x.in_call ≡ true → x.line ≤ MOST_LINES
  pub apart : 0 < x.left → x.in_call ≡ false
  -- with no work left it is where there is an action
  pub acts : x.left ≡ 0 → has_action (op_at s x.body x.line) ≡ true
  -- one that isn't started, or has ended, is in no directive that waits
  pub idle : x.started ≡ false → x.in_call ≡ false
  pub computed : x.computed ≤ present

-- the same of a thread, by what the bounds speak of: whatever else of it changes, the bounds are the same
abbrev pub IsInBounds : Scenario → ℕ → ℕ → Thread → Type 0
IsInBounds s clusters present thread = Fits s clusters present (place_of thread)

-- whether a thread that waits for this sleeps, which is to wait for a time
abbrev pub is_asleep : Option Wait → Bool
is_asleep None = false
is_asleep (Some ForTime) = true
is_asleep (Some (ForEvents set all)) = false
is_asleep (Some (AtBarrier i)) = false
is_asleep (Some (ForPeriod i)) = false
is_asleep (Some (ForSemaphore i spins)) = false

-- A thread stands in the queue of an object once where it waits for that object, and in no other queue.
abbrev pub IsQueued : List BarrierState → List SemaphoreState → List Thread → ℕ → Type 0
IsQueued barriers semaphores threads t = (object : Object) → times t (arrivals_in barriers semaphores object) ≡ (if is_for (object_of_wait (nth no_thread threads t).wait) object then 1 else 0)

-- A thread that sleeps has a timer in its home.
abbrev pub WillWake : List Thread → List ClusterState → ℕ → Type 0
WillWake threads clusters t = is_asleep (nth no_thread threads t).wait ≡ true → 1 ≤ times_armed (OfThread t) (slice_index_or clusters (nth no_thread threads t).home no_cluster).timers

-- Waits agree with queues and timers, but for some threads.
pub record AreTied (barriers : List BarrierState) (semaphores : List SemaphoreState) (threads : List Thread) (clusters : List ClusterState) (but : ℕ → Bool) : Type 0 where
  pub queued : (t : ℕ) → but t ≡ false → IsQueued barriers semaphores threads t
  pub wakes : (t : ℕ) → but t ≡ false → WillWake threads clusters t

-- The thread on which a thread waits, where some threads wait on none, whatever they wait for.
abbrev pub waits_on_but : List SemaphoreState → List Thread → (ℕ → Bool) → ℕ → Option ℕ
waits_on_but semaphores threads but t = if but t then None else owner_awaited semaphores (nth no_thread threads t).wait

-- Who owns a semaphore lives; and each chain of threads of which each waits on the next ends, where some threads wait on none.
pub record AreChained (semaphores : List SemaphoreState) (threads : List Thread) (but : ℕ → Bool) : Type 0 where
  pub owners : (i t : ℕ) → (nth no_semaphore semaphores i).owner ≡ Some t → has_begun (nth no_thread threads t).life ≡ true
  pub ends : (t : ℕ) → Ends (waits_on_but semaphores threads but) t

-- for no thread, and for one
abbrev pub but_none : ℕ → Bool
but_none t = false

abbrev pub but_one : ℕ → ℕ → Bool
but_one t u = u == t

-- A state that a run may reach: sizes and numbers are within their limits, its bodies may be run, each thread is in bounds, each cluster is sound, names and objects agree, waits agree with queues and timers, periods agree with their creators and timers, who owns a semaphore lives, and chains of waits end.
pub record IsSound (k : Plain) : Type 0 where
  pub places : length k.threads ≡ MOST_OBJECTS
  pub locks : length k.semaphores ≡ MOST_OBJECTS
  pub halls : length k.barriers ≡ MOST_OBJECTS
  pub pools : length k.partitions ≡ MOST_OBJECTS
  pub few_clusters : length k.clusters ≤ MOST_CLUSTERS
  pub some_cluster : 0 < length k.clusters
  pub few_cpus : cpu_count k ≤ MOST_PROCESSORS
  pub horizon : k.scenario.horizon ≤ MOST_TICKS
  pub present : k.present ≤ k.scenario.horizon
  pub bodies : AreRunnable k.scenario.bodies
  pub threads : All (IsInBounds k.scenario (length k.clusters) k.present) k.threads
  pub clusters : AllSound k 0 k.clusters
  pub named : AreNamed k.table (objects_of k)
  pub tied : AreTied k.barriers k.semaphores k.threads k.clusters but_none
  pub chained : AreChained k.semaphores k.threads but_none
  pub periods : ArePeriodsSound k

-- Each cluster has its line and its processors as before.
abbrev pub KeepsLines : List ClusterState → List ClusterState → Type 0
KeepsLines [] [] = Unit {0}
KeepsLines [] (b ∷ bs) = ⊥
KeepsLines (a ∷ more) [] = ⊥
KeepsLines (a ∷ more) (b ∷ bs) = (b.line ≡ a.line) × (b.cpus ≡ a.cpus) × KeepsLines more bs

-- The timers of each cluster, from a number on, are of its threads that wait, of each at most one.
abbrev pub AllTimed : List Thread → ℕ → List ClusterState → Type 0
AllTimed threads c [] = Unit {0}
AllTimed threads c (cluster ∷ clusters) = AreTimed threads c cluster.timers × AllTimed threads (c + 1) clusters

-- A change of a state k that settling makes sound again, where its periods are sound, but that the waits of some threads don't agree with queues and timers yet, and aren't counted in chains: lines and processors are still those of k, and names and objects agree.
pub record IsGentleBut (k next : Plain) (but : ℕ → Bool) : Type 0 where
  pub scenario : next.scenario ≡ k.scenario
  pub present : next.present ≡ k.present
  pub places : length next.threads ≡ length k.threads
  pub locks : length next.semaphores ≡ length k.semaphores
  pub halls : length next.barriers ≡ length k.barriers
  pub pools : length next.partitions ≡ length k.partitions
  pub threads : All (IsInBounds k.scenario (length k.clusters) k.present) next.threads
  pub lines : KeepsLines k.clusters next.clusters
  pub timers : AllTimed next.threads 0 next.clusters
  pub named : AreNamed next.table (objects_of next)
  pub tied : AreTied next.barriers next.semaphores next.threads next.clusters but
  pub chained : AreChained next.semaphores next.threads but

-- A change of a state that settling makes sound again, where its periods are sound.
abbrev pub IsGentle : Plain → Plain → Type 0
IsGentle k next = IsGentleBut k next but_none

-- A change of a state that settling makes sound again.
pub record CanSettle (k next : Plain) : Type 0 where
  pub gentle : IsGentle k next
  pub periods : ArePeriodsSound next

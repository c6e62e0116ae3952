-- What holds of each state that a legal history leads to: of lines, runners and processors, of names, of waits and their chains, and of refusals.
use Rattle.std.specs.Prelude.{ℕ, ◌+◌, ◌<◌, ◌≤◌, ◌≡◌, ◌↔◌, ◌⊎◌, List, [], ◌∷◌, ◌++◌, Bool, true, false, ◌&&◌, Option, Some, None, ◌==◌, length, if◌then◌else◌}
use Rattle.rk_model.specs.declared.limits.TheConstants.{MOST_OBJECTS}
use Rattle.rk_model.specs.declared.scenario.Scenario.{Scenario}
use Rattle.rk_model.specs.declared.entry.Entry.{Entry}
use Rattle.rk_model.specs.declared.state.Thread.{Thread}
use Rattle.rk_model.specs.declared.entry.View.TheVariants.{Runs}
use Rattle.rk_model.specs.Lists.{has, times}
use Rattle.rk_model.specs.declared.ids.Class.{Class}
use Rattle.rk_model.specs.declared.ids.Class.TheVariants.{Task, Semaphore, Barrier, Partition, Period}
use Rattle.rk_model.specs.Names.{indices, lives}
use Rattle.rk_model.specs.State.{Plain, ClusterState, no_thread, no_semaphore, no_barrier, no_partition, no_period, thread_at, put_thread, semaphore_at, barrier_at, partition_at, period_at, op_at, cluster_at}
use Rattle.rk_model.specs.Directives.Objects.{has_begun, names_in, is_live}
use Rattle.rk_model.specs.Directives.Outcomes.{finished}
use Rattle.rk_model.specs.Directives.Waits.{Object, OfSemaphore, object_of_wait, is_for, arrivals_in}
use Rattle.rk_model.specs.Scheduling.Chains.{chain, end_of, ends_by, waits_on}
use Rattle.rk_model.specs.Scheduling.Helping.{could_run}
use Rattle.rk_model.specs.Scheduling.Timers.{times_armed}
use Rattle.rk_model.specs.declared.state.Armer.TheVariants.{Thread as OfThread, Period as OfPeriod}
use Rattle.rk_model.specs.Steps.{Act, act}
use Rattle.rk_model.specs.Scheduling.Priorities.{spins, urgency, contribution, prio}
use Rattle.rk_model.specs.Scheduling.ReadyQueues.{rank, runners}
use Rattle.rk_model.specs.Scheduling.Running.{running, caller}
use Rattle.rk_model.specs.Scheduling.Seats.{cpu_at}
use Rattle.rk_model.specs.Histories.{Legal, after, IsDone, lowest}
use Rattle.rk_model.specs.Text.Scenarios.{IsScenario, cpus_in}
use Rattle.rk_kernel.specs.declared.steps.CoreStep.{CoreStep}
use Rattle.rk_kernel.specs.declared.steps.CoreStep.TheVariants.{Did, Nothing}
use Rattle.rk_model.specs.Statistics.{is_call, statistics}
use Rattle.rk_directives.specs.Refusals.{is_refused}
use Rattle.rk_directives.specs.Sound.{stands, has_action, may_time_out, is_asleep}
use Rattle.rk_model.specs.Directives.Periods.{end_of as next_end, is_awaited}
use Rattle.rk_directives.specs.SoundPeriods.{awaits, dues_of, IsAwaitedBy}
use Rattle.std.specs.Option.{option_to_list}

-- it holds of the state after each legal history of each scenario
abbrev pub AfterEach : (Plain → Type 0) → Type 0
AfterEach Holds = (s : Scenario) (xs : List Entry) → IsScenario s → Legal s xs → Holds (after s xs)

-- The ready queue of each cluster holds exactly the eligible threads of that home, each once.
abbrev pub HoldsItsOwn : Plain → Type 0
HoldsItsOwn k = (c t : ℕ) → c < length k.clusters → times t (cluster_at k c).line ≡ (if stands k c t then 1 else 0)

-- It is so after each legal history.
abbrev pub LinesHoldTheirOwn : Type 0
LinesHoldTheirOwn = AfterEach HoldsItsOwn

-- how many processors of a list have the thread
abbrev pub seats : ℕ → List (Option ℕ) → ℕ
seats t [] = 0
seats t (None ∷ cpus) = seats t cpus
seats t (Some u ∷ cpus) = (if u == t then 1 else 0) + seats t cpus

-- The processors of a cluster have exactly its scheduled threads: as many processors have a thread as it stands among them, which is once or never.
pub record IsManned (k : Plain) (c : ℕ) : Type 0 where
  pub once : (t : ℕ) → times t (runners k c) ≤ 1
  pub manned : (t : ℕ) → seats t (cluster_at k c).cpus ≡ times t (runners k c)

-- The processors of each cluster have exactly its scheduled threads, each on one processor.
abbrev pub ProcessorsHaveTheRunners : Type 0
ProcessorsHaveTheRunners = AfterEach (λ k. (c : ℕ) → c < length k.clusters → IsManned k c)

-- a thread stands in a line, and fewer than m threads of the line are more urgent
pub record StandsUrgent (key : ℕ → ℕ) (m : ℕ) (line : List ℕ) (t : ℕ) : Type 0 where
  pub front : List ℕ
  pub back : List ℕ
  pub place : line ≡ front ++ t ∷ back
  pub urgent : rank key front t back < m

-- The runners of each cluster are exactly those of its line with fewer more urgent ones than there are processors.
abbrev pub RunsTheMostUrgent : Plain → Type 0
RunsTheMostUrgent k = (c t : ℕ) → c < length k.clusters → has (runners k c) t ≡ true ↔ StandsUrgent (urgency k c) (length (cluster_at k c).cpus) (cluster_at k c).line t

-- It is so after each legal history.
abbrev pub RunnersAreTheMostUrgent : Type 0
RunnersAreTheMostUrgent = AfterEach RunsTheMostUrgent

-- No thread runs on two processors.
abbrev pub NoneRunsTwice : Type 0
NoneRunsTwice = AfterEach (λ k. (p q t : ℕ) → running k p ≡ Runs t → running k q ≡ Runs t → p ≡ q)

-- A thread that isn't scheduled, though it could run: it is eligible, waits for nothing, and is none of the scheduled threads of its home.
pub record IsPreempted (k : Plain) (t : ℕ) : Type 0 where
  pub could : could_run k t ≡ true
  pub apart : has (runners k (thread_at k t).home) t ≡ false

-- A thread spins, and the end of its chain is another.
pub record SpinsFor (k : Plain) (u t : ℕ) : Type 0 where
  pub spins : spins k u ≡ true
  pub end : end_of (waits_on k) MOST_OBJECTS u ≡ t

-- A thread runs on one processor and on no other; the thread of that processor spins for it, and that of no lesser one does.
pub record IsHelped (k : Plain) (t : ℕ) : Type 0 where
  pub cpu : ℕ
  pub runs : running k cpu ≡ Runs t
  pub alone : (p : ℕ) → running k p ≡ Runs t → p ≡ cpu
  pub helper : ℕ
  pub has : cpu_at k cpu ≡ Some helper
  pub spins : SpinsFor k helper t
  pub least : (p u : ℕ) → cpu_at k p ≡ Some u → SpinsFor k u t → cpu ≤ p

-- A thread that could run and isn't scheduled runs all the same where a scheduled thread of some cluster spins for it, after each legal history: on the least processor whose thread does, and on no other.
abbrev pub PreemptedThreadsAreHelped : Type 0
PreemptedThreadsAreHelped = AfterEach (λ k. (c u t : ℕ) → c < length k.clusters → has (runners k c) u ≡ true → SpinsFor k u t → IsPreempted k t → IsHelped k t)

-- The names of a class: each index from 1 to 64 is that of one live object, once, or is free, once; and an object has a name exactly where it lives.
pub record HasNames (k : Plain) (class : Class) : Type 0 where
  pub once : (index : ℕ) → 1 ≤ index → index ≤ MOST_OBJECTS → times index (indices (names_in k class).live) + times index (names_in k class).free ≡ 1
  pub begun : (index : ℕ) → lives (names_in k class) index ≡ is_live k class index

-- It is so of each class after each legal history.
abbrev pub NamesAndObjectsAgree : Type 0
NamesAndObjectsAgree = AfterEach (λ k. (class : Class) → HasNames k class)

-- Where no task has a name, there is no thread: nothing is left there of one that was deleted.
abbrev pub NothingIsLeftOfDeletedTasks : Type 0
NothingIsLeftOfDeletedTasks = AfterEach (λ k. (t : ℕ) → lives (names_in k Task) t ≡ false → thread_at k t ≡ no_thread)

-- Where no semaphore has a name, there is none: nothing is left there of one that was deleted, neither an owner nor a queue.
abbrev pub NothingIsLeftOfDeletedSemaphores : Type 0
NothingIsLeftOfDeletedSemaphores = AfterEach (λ k. (i : ℕ) → lives (names_in k Semaphore) i ≡ false → semaphore_at k i ≡ no_semaphore)

-- Where no barrier has a name, there is none: nothing is left there of one that was deleted.
abbrev pub NothingIsLeftOfDeletedBarriers : Type 0
NothingIsLeftOfDeletedBarriers = AfterEach (λ k. (i : ℕ) → lives (names_in k Barrier) i ≡ false → barrier_at k i ≡ no_barrier)

-- Where no partition has a name, there is none: nothing is left there of one that was deleted.
abbrev pub NothingIsLeftOfDeletedPartitions : Type 0
NothingIsLeftOfDeletedPartitions = AfterEach (λ k. (i : ℕ) → lives (names_in k Partition) i ≡ false → partition_at k i ≡ no_partition)

-- Where no period has a name, there is none: nothing is left there of one that was deleted.
abbrev pub NothingIsLeftOfDeletedPeriods : Type 0
NothingIsLeftOfDeletedPeriods = AfterEach (λ k. (i : ℕ) → lives (names_in k Period) i ≡ false → period_at k i ≡ no_period)

-- how many timers of a thread are armed in these clusters
abbrev pub timers_of : List ClusterState → ℕ → ℕ
timers_of [] t = 0
timers_of (cluster ∷ clusters) t = times_armed (OfThread t) cluster.timers + timers_of clusters t

-- The waits of a thread agree with queues and timers.
pub record HasTies (k : Plain) (t : ℕ) : Type 0 where
  -- it stands in the queue of an object, once, exactly where it waits for that object, and in no other queue;
  pub queued : (object : Object) → times t (arrivals_in k.barriers k.semaphores object) ≡ (if is_for (object_of_wait (thread_at k t).wait) object then 1 else 0)
  -- it has at most one timer, and none where it doesn't wait, or waits for a period;
  pub timed : timers_of k.clusters t ≤ (if may_time_out (thread_at k t).wait then 1 else 0)
  -- and exactly one where it waits for a time
  pub wakes : is_asleep (thread_at k t).wait ≡ true → timers_of k.clusters t ≡ 1

-- It is so of each thread after each legal history.
abbrev pub WaitsAndQueuesAgree : Type 0
WaitsAndQueuesAgree = AfterEach (λ k. (t : ℕ) → HasTies k t)

-- A thread that owns a semaphore:
pub record Owns (k : Plain) (t i : ℕ) : Type 0 where
  -- it lives,
  pub lives : has_begun (thread_at k t).life ≡ true
  -- and doesn't stand in the queue of what it owns
  pub apart : times t (arrivals_in k.barriers k.semaphores (OfSemaphore i)) ≡ 0

-- Who owns a semaphore lives, and doesn't wait for it, after each legal history.
abbrev pub OwnersLiveAndNoneWaitsForItsOwn : Type 0
OwnersLiveAndNoneWaitsForItsOwn = AfterEach (λ k. (t i : ℕ) → (semaphore_at k i).owner ≡ Some t → Owns k t i)

-- The chain of a thread ends, in which each thread waits for a semaphore that the next one owns:
pub record HasAnEnd (k : Plain) (t : ℕ) : Type 0 where
  -- it has at most 64 threads, and the last of them waits for no semaphore that a thread owns,
  pub ends : ends_by (waits_on k) MOST_OBJECTS t ≡ true
  -- and it comes back to none of them: each thread stands in it at most once
  pub once : (u : ℕ) → times u (chain (waits_on k) MOST_OBJECTS t) ≤ 1

-- Every chain of threads, each of which waits for a semaphore that the next one owns, ends, after each legal history: it has at most 64 threads, and comes back to none.
abbrev pub EveryChainOfWaitsEnds : Type 0
EveryChainOfWaitsEnds = AfterEach (λ k. (t : ℕ) → HasAnEnd k t)

-- An index where no task lives brings nothing: its thread contributes to no priority, and has none in any cluster.
pub record BringsNothing (k : Plain) (t : ℕ) : Type 0 where
  pub contributes : (u c : ℕ) → contribution k u c t ≡ None
  pub prio : (c : ℕ) → prio k t c ≡ None

-- It is so of each index where no task lives, after each legal history. Dormant and ended tasks live.
abbrev pub DeadIndicesBringNothing : Type 0
DeadIndicesBringNothing = AfterEach (λ k. (t : ℕ) → has_begun (thread_at k t).life ≡ false → BringsNothing k t)

-- A thread has a priority in its home, which is at most its base priority.
pub record HasHomePriority (k : Plain) (t : ℕ) : Type 0 where
  pub level : ℕ
  pub there : prio k t (thread_at k t).home ≡ Some level
  pub most : level ≤ (thread_at k t).base

-- It is so of each thread that lives, after each legal history.
abbrev pub LiveThreadsHavePriorities : Type 0
LiveThreadsHavePriorities = AfterEach (λ k. (t : ℕ) → has_begun (thread_at k t).life ≡ true → HasHomePriority k t)

-- A period agrees with the thread that created it:
pub record HasItsCreator (k : Plain) (i : ℕ) : Type 0 where
  -- this lives;
  pub lives : has_begun (thread_at k (period_at k i).creator).life ≡ true
  -- it waits for the period exactly where the period is awaited;
  pub waits : is_awaited (period_at k i).phase ≡ true → awaits (thread_at k (period_at k i).creator).wait ≡ Some i
  pub awaited : awaits (thread_at k (period_at k i).creator).wait ≡ Some i → is_awaited (period_at k i).phase ≡ true
  -- and the period's one timer is that of its next end, in its creator's home; an inactive one has none
  pub timed : (c : ℕ) → dues_of (OfPeriod i) (cluster_at k c).timers ≡ (if (thread_at k (period_at k i).creator).home == c then option_to_list (next_end (period_at k i).phase) else [])

-- Each live period agrees with its creator, and no other thread waits for it.
pub record AreOfTheirCreators (k : Plain) : Type 0 where
  pub creators : (i : ℕ) → (period_at k i).live ≡ true → HasItsCreator k i
  pub own : (t i : ℕ) → awaits (thread_at k t).wait ≡ Some i → IsAwaitedBy (period_at k i) t

-- It is so after each legal history.
abbrev pub PeriodsAndCreatorsAgree : Type 0
PeriodsAndCreatorsAgree = AfterEach AreOfTheirCreators

-- The history in which always the lowest-numbered processor that has a directive acts ends with End, or has as many entries as it may have.
abbrev pub LowestGoesOn : Type 0
LowestGoesOn = (s : Scenario) (n : ℕ) → IsScenario s → IsDone n (lowest s n)

-- With one processor two legal histories of the same length are equal.
abbrev pub HistoriesOfOneProcessorAreEqual : Type 0
HistoriesOfOneProcessorAreEqual = (s : Scenario) (xs ys : List Entry) → IsScenario s → cpus_in s.clusters ≡ 1 → Legal s xs → Legal s ys → length xs ≡ length ys → xs ≡ ys

-- With one processor a legal history that is done is the planned one.
abbrev pub HistoriesOfOneProcessorArePlanned : Type 0
HistoriesOfOneProcessorArePlanned = (s : Scenario) (n : ℕ) (xs : List Entry) → IsScenario s → cpus_in s.clusters ≡ 1 → Legal s xs → length xs ≤ n → IsDone n xs → xs ≡ lowest s n

-- A directive never acts for a line of work or a goto: a thread that has a directive and doesn't return from one is at another line, or behind the last.
abbrev pub NoneActsAtWork : Type 0
NoneActsAtWork = AfterEach (λ k. (p t : ℕ) → caller k p ≡ Some t → (thread_at k t).finished ≡ None → has_action (op_at k.scenario (thread_at k t).body (thread_at k t).line) ≡ true)

-- whether an entry is a refusal
abbrev pub is_refusal : Scenario → Entry → Bool
is_refusal s x = is_call x.what && is_refused (op_at s x.body x.line) x.status

-- a thread after its line refused: it has gone on, and nothing else of it changed but its result variable, which is 0
abbrev pub refused_thread : Scenario → Thread → Thread
refused_thread s thread = finished s thread 0

-- The statistics that a period has are those of its history.
abbrev pub StatisticsAreThoseOfTheHistory : Type 0
StatisticsAreThoseOfTheHistory = (s : Scenario) (xs : List Entry) → IsScenario s → Legal s xs → (i : ℕ) → (period_at (after s xs) i).live ≡ true → (period_at (after s xs) i).stats ≡ statistics s xs i

-- A refusal changes the caller alone: its thread has gone on, with 0 in its result variable, and nothing else of the state changed.
abbrev pub RefusalsChangeTheCallerAlone : Type 0
RefusalsChangeTheCallerAlone = AfterEach (λ k. (p : ℕ) (a : Act) → act k p ≡ Some a → is_refusal k.scenario a.entry ≡ true → a.next ≡ put_thread k a.entry.task (refused_thread k.scenario (thread_at k a.entry.task)))

-- a step of a processor that is a refusal changed the caller alone
abbrev pub RefusesAlone : CoreStep → Plain → Plain → Type 0
RefusesAlone (Did x) old new = is_refusal old.scenario x ≡ true → new ≡ put_thread old x.task (refused_thread old.scenario (thread_at old x.task))
RefusesAlone (Nothing why) old new = Unit {0}

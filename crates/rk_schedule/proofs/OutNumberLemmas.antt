-- What directives return: an out number of 32 bits, and where one comes back, a status that isn't that of waiting; and that each started thread has a body.
use Rattle.std.proofs.Common.{◌≡◌, ℕ, zero, suc, ◌+◌, ◌-◌, ◌*◌, ◌/◌, ◌^◌, ◌<◌, ◌≤◌, List, [], ◌∷◌, ◌++◌, Bool, true, false, cond, eqb, ltb, not, ◌&&◌, ◌||◌, ◌⊎◌, inl, inr, Option, Some, None, is_none, length, get_or, map, replicate, arith, refl, sym, subst, bit_and, bit_or}
use Rattle.std.specs.Prelude.{◌==◌, nat_lt, IfSome}
use Rattle.std.specs.List.{AllByRecursion, slice_index_or, slice_set}
use Rattle.std.proofs.Math.Nat.{div-mul-le_self}
use Rattle.std.proofs.lemmas.Nat.{and_le_l, or_of_32, xor_of_32}
use Rattle.std.proofs.lemmas.Bool.{false≢true}
use Rattle.std.proofs.lemmas.Bool.Decides.{nat_tests}
use Rattle.rk_model.specs.declared.scenario.Scenario.{Scenario}
use Rattle.rk_model.specs.declared.scenario.Init.{Init}
use Rattle.rk_model.specs.declared.scenario.Op.{Op}
use Rattle.rk_model.specs.declared.scenario.Op.TheVariants.{Work, Goto, TaskCreate, TaskIdent, TaskStart, TaskSuspend, TaskResume, TaskSetPriority, TaskGetPriority, TaskDelete, TaskWakeAfter, EventSend, EventReceive, SemCreate, SemIdent, SemObtain, SemRelease, SemFlush, SemDelete, SemSetPriority, BarrierCreate, BarrierIdent, BarrierWait, BarrierRelease, BarrierDelete, PartCreate, PartIdent, PartGet, PartReturn, PartDelete, PeriodCreate, PeriodIdent, PeriodPeriod, PeriodCancel, PeriodDelete}
use Rattle.rk_model.specs.declared.scenario.Target.{Target}
use Rattle.rk_model.specs.declared.scenario.Wish.{Wish}
use Rattle.rk_model.specs.declared.scenario.Wish.TheVariants.{NoWait, Limit}
use Rattle.rk_model.specs.declared.semaphore.SemSpec.{SemSpec}
use Rattle.rk_model.specs.declared.semaphore.Protocol.{Protocol}
use Rattle.rk_model.specs.declared.semaphore.Protocol.TheVariants.{NoProtocol, Inherit, Ceiling, Mrsp}
use Rattle.rk_model.specs.declared.semaphore.SemKind.{SemKind}
use Rattle.rk_model.specs.declared.semaphore.SemKind.TheVariants.{Counting, Simple, Binary}
use Rattle.rk_model.specs.declared.waiting.Caller.{Caller}
use Rattle.rk_model.specs.declared.status.Status.{Status}
use Rattle.rk_model.specs.declared.status.Status.TheVariants.{Successful, InvalidPriority, InvalidAddress, InvalidSize, Unsatisfied, ObjectWasDeleted, ResourceInUse, NotOwnerOfResource, NotDefined, InvalidNumber}
use Rattle.rk_model.specs.declared.ids.Class.{Class}
use Rattle.rk_model.specs.declared.ids.Class.TheVariants.{Task, Semaphore, Partition, Period, Barrier}
use Rattle.rk_model.specs.declared.entry.Reply.{Reply}
use Rattle.rk_model.specs.declared.period.Phase.{Phase}
use Rattle.rk_model.specs.declared.period.Phase.TheVariants.{Inactive, Active, Awaited, Expired}
use Rattle.rk_model.specs.declared.state.Armed.{Armed}
use Rattle.rk_model.specs.declared.state.Armer.{Armer}
use Rattle.rk_model.specs.declared.state.Armer.TheVariants.{Thread as OfThread, Period as OfPeriod}
use Rattle.rk_model.specs.declared.state.Life.{Life}
use Rattle.rk_model.specs.declared.state.Life.TheVariants.{Ended}
use Rattle.rk_model.specs.declared.state.Thread.{Thread}
use Rattle.rk_model.specs.declared.state.Wait.{Wait}
use Rattle.rk_model.specs.declared.state.Wait.TheVariants.{ForTime, ForEvents, AtBarrier, ForPeriod, ForSemaphore}
use Rattle.rk_model.specs.Ids.{id_of}
use Rattle.rk_model.specs.Lists.{has, nth}
use Rattle.rk_model.specs.Names.{least_named, taken}
use Rattle.rk_model.specs.Queues.{threads, lesser, served_by}
use Rattle.rk_model.specs.State.{Plain, PartitionState, SemaphoreState, no_semaphore, cluster_at, no_thread, no_partition, thread_at, put_thread, barrier_at, partition_at, put_partition, period_at, semaphore_at, put_semaphore, op_at, no_ceilings}
use Rattle.rk_model.specs.Scheduling.Priorities.{is_started, or_least_urgent, prio, home_prio, ceiling_in, contribution, is_behind, least_of, lesser_of, own}
use Rattle.rk_model.specs.Scheduling.Running.{runs_somewhere}
use Rattle.rk_model.specs.Scheduling.Ticks.{charged, ticked, charge_from, pass, rung, fire, fire_each, fire_cluster, fire_from, tick}
use Rattle.rk_model.specs.Scheduling.Timers.{take_due, arm, due_at}
use Rattle.rk_model.specs.Directives.Objects.{names_in, put_names, create_at, unless, create, on_named, ident, object_named}
use Rattle.rk_model.specs.Directives.Outcomes.{Outcome, Refused, Done, Waiting, Gone, done, on_found, answer_of, out_of, status_of, gone_on, finished, go_on, after_outcome}
use Rattle.rk_model.specs.Directives.Waits.{caller_at, enter, start_wait, begin_limited, leave, stop_wait, end_wait, end_each, stop_each, bare, reply_at_timer, Object, OfBarrier, OfSemaphore, object_of_wait, with_waiter, with_waiter_in, without_waiter, without_waiter_in}
use Rattle.rk_model.specs.Directives.Tasks.{task_named, dormant_in, prio_refusal, task_create, is_dormant, with_started, task_start, with_suspended, task_suspend, task_resume, task_set_priority, without_task, has_created, task_removed, task_delete, task_exit, task_wake_after, told_prio, task_get_priority}
use Rattle.rk_model.specs.Directives.Events.{is_met, seized, left_of, with_pending, with_seized, seized_by, sent, event_send, receive_later, receive_by, event_receive}
use Rattle.rk_model.specs.Directives.Semaphores.{Obtaining, Nests, Takes, NotObtained, Enters, obtained_at, is_mrsp, semaphore_create, semaphore_obtain, Releasing, NotReleased, Unnests, Serves, Frees, released_at, semaphore_release, emptied_at, semaphore_flush, has_obtained, is_owned, handed_to, up_to_date, flushed, without_semaphore, semaphore_delete, CeilingSetting, NotSet, Keeps, Sets, create_refusal, freed, freed_by, free_semaphore, given_to, has_ceiling, has_great_count, has_invalid_ceiling, has_undefined_protocol, is_below_ceiling, is_binary, is_owned_mrsp, nested, new_ceilings, new_semaphore, owned_by, semaphore_set_priority, set_at, setting_ceiling, spec_refusal, taken as obtained_by, unnested, with_ceiling}
use Rattle.rk_model.specs.Directives.Barriers.{most_refusal, barrier_create, end_at, is_full, barrier_wait, barrier_release, without_barrier, barrier_delete}
use Rattle.rk_model.specs.Directives.Partitions.{addresses, all_buffers, buffers, is_out, has_invalid_size, has_invalid_address, memory_refusal, partition_create, taken_first, partition_get, with_free, given_back_to, partition_return, is_in_use, without_partition, partition_delete}
use Rattle.rk_model.specs.Directives.Periods.{asked, with_next, begins, period_create, period_period, rearmed, passed_by, cancelled, period_cancel, is_awaited, without_period, period_delete}
use Rattle.rk_model.specs.Steps.{directive, action_on, what_of}
use Rattle.rk_model.specs.Histories.{begun, places, opening}
use Rattle.rk_model.proofs.BooleanLemmas.{and_front, either, same_number}
use Rattle.rk_model.proofs.IndexLemmas.{nth-with_holds, nth-with_kept}
use Rattle.rk_model.specs.Status.{status_code}
use Rattle.rk_schedule.proofs.WordFormLemmas.{is_waits}
use Rattle.rk_schedule.proofs.FormedLineLemmas.{CanStand}

-- ---- what holds of threads and partitions

-- What a wait ends with: no status of waiting, and an out number of 32 bits.
pub record IsEnding (reply : Reply) : Type 0 where
  pub ended : is_waits reply.status ≡ false
  pub out : reply.out ≤ 4294967296

-- A thread, where there are n bodies: one that is started has one of them, its base priority and its pending events are within their limits, and so is what its wait ended with.
pub record AreBounded (n : ℕ) (life : Life) (base body pending : ℕ) (reply : Option Reply) : Type 0 where
  pub has_body : is_started life ≡ true → body < n
  pub urgent : base ≤ 255
  pub events : pending < 2 ^ 32
  pub ending : IfSome reply IsEnding

abbrev pub IsBounded : ℕ → Thread → Type 0
IsBounded n thread = AreBounded n thread.life thread.base thread.body thread.pending thread.finished

abbrev pub AreLow : List ℕ → Type 0
AreLow xs = AllByRecursion (λ x. x ≤ 4294967296) xs

-- A partition: its memory and its free buffers have addresses of 32 bits.
pub record AreMemory (start length : ℕ) (free : List ℕ) : Type 0 where
  pub memory : start + length ≤ 4294967296
  pub buffers : AreLow free

abbrev pub IsMemory : PartitionState → Type 0
IsMemory partition = AreMemory partition.start partition.length partition.free

-- All threads and partitions are so, and the ceilings of semaphores have 32 bits.
pub record AreWithin (n : ℕ) (threads : List Thread) (partitions : List PartitionState) (semaphores : List SemaphoreState) : Type 0 where
  pub thread : (t : ℕ) → IsBounded n (nth no_thread threads t)
  pub partition : (i : ℕ) → IsMemory (nth no_partition partitions i)
  pub ceilings : (i : ℕ) → AreLow (nth no_semaphore semaphores i).ceilings

abbrev pub IsWithin : ℕ → Plain → Type 0
IsWithin n k = AreWithin n k.threads k.partitions k.semaphores

none_bounded : (n : ℕ) → IsBounded n no_thread
none_bounded n = record { has_body = λ life. absurd (false≢true life); urgent = omega arith; events = omega arith; ending = tt }

within_put : (n : ℕ) (k : Plain) (t : ℕ) (thread : Thread) → IsWithin n k → IsBounded n thread → IsWithin n (put_thread k t thread)
within_put n k t thread within is = record { thread = λ u. nth-with_holds (IsBounded n) no_thread thread k.threads t u is (within.thread u); partition = within.partition; ceilings = within.ceilings }

within_partition : (n : ℕ) (k : Plain) (i : ℕ) (partition : PartitionState) → IsWithin n k → IsMemory partition → IsWithin n (put_partition k i partition)
within_partition n k i partition within is = record { thread = within.thread; partition = λ j. nth-with_holds IsMemory no_partition partition k.partitions i j is (within.partition j); ceilings = within.ceilings }

within_semaphore : (n : ℕ) (k : Plain) (i : ℕ) (sem : SemaphoreState) → IsWithin n k → AreLow sem.ceilings → IsWithin n (put_semaphore k i sem)
within_semaphore n k i sem within is = record { thread = within.thread; partition = within.partition; ceilings = λ j. nth-with_holds (λ (x : SemaphoreState). AreLow x.ceilings) no_semaphore sem k.semaphores i j is (within.ceilings j) }

-- ---- waits

-- who leaves a queue or enters it changes no ceiling
ceilings_left : (semaphores : List SemaphoreState) (t : ℕ) (object : Option Object) (i : ℕ) → (nth no_semaphore (without_waiter_in semaphores t object) i).ceilings ≡ (nth no_semaphore semaphores i).ceilings
ceilings_left semaphores t None i = refl
ceilings_left semaphores t (Some (OfBarrier j)) i = refl
ceilings_left semaphores t (Some (OfSemaphore j)) i = nth-with_kept (λ (x : SemaphoreState). x.ceilings) no_semaphore (without_waiter t (nth no_semaphore semaphores j)) semaphores j i refl

ceilings_entered : (semaphores : List SemaphoreState) (by : Caller) (object : Option Object) (i : ℕ) → (nth no_semaphore (with_waiter_in semaphores by object) i).ceilings ≡ (nth no_semaphore semaphores i).ceilings
ceilings_entered semaphores by None i = refl
ceilings_entered semaphores by (Some (OfBarrier j)) i = refl
ceilings_entered semaphores by (Some (OfSemaphore j)) i = nth-with_kept (λ (x : SemaphoreState). x.ceilings) no_semaphore (with_waiter by (nth no_semaphore semaphores j)) semaphores j i refl

within_leave : (n : ℕ) (k : Plain) (t : ℕ) → IsWithin n k → IsWithin n (leave k t)
within_leave n k t within = record { thread = within.thread; partition = within.partition; ceilings = λ i. subst AreLow (sym (ceilings_left k.semaphores t (object_of_wait (thread_at k t).wait) i)) (within.ceilings i) }

within_enter : (n : ℕ) (k : Plain) (by : Caller) (wait : Option Wait) → IsWithin n k → IsWithin n (enter k by wait)
within_enter n k by wait within = record { thread = within.thread; partition = within.partition; ceilings = λ i. subst AreLow (sym (ceilings_entered k.semaphores by (object_of_wait wait) i)) (within.ceilings i) }

within_stop : (n : ℕ) (k : Plain) (t : ℕ) (reply : Reply) → IsWithin n k → IsEnding reply → IsWithin n (stop_wait k t reply)
within_stop n k t reply within ending =
    let was = within.thread t in
    within_put n k t (record (thread_at k t) { wait = None; finished = Some reply }) within (record { has_body = was.has_body; urgent = was.urgent; events = was.events; ending = ending })

within_end : (n : ℕ) (k : Plain) (t : ℕ) (reply : Reply) → IsWithin n k → IsEnding reply → IsWithin n (end_wait k t reply)
within_end n k t reply within ending = within_stop n (leave k t) t reply (within_leave n k t within) ending

within_stops : (n : ℕ) (k : Plain) (ts : List ℕ) (reply : Reply) → IsWithin n k → IsEnding reply → IsWithin n (stop_each k ts reply)
within_stops n k [] reply within ending = within
within_stops n k (t ∷ ts) reply within ending = within_stops n (stop_wait k t reply) ts reply (within_stop n k t reply within ending) ending

within_ends : (n : ℕ) (k : Plain) (ts : List ℕ) (reply : Reply) → IsWithin n k → IsEnding reply → IsWithin n (end_each k ts reply)
within_ends n k [] reply within ending = within
within_ends n k (t ∷ ts) reply within ending = within_ends n (end_wait k t reply) ts reply (within_end n k t reply within ending) ending

bare_ending : (status : Status) → is_waits status ≡ false → IsEnding (bare status)
bare_ending status ended = record { ended = ended; out = omega arith }

within_started : (n : ℕ) (k : Plain) (t : ℕ) (wait : Wait) → IsWithin n k → IsWithin n (start_wait k t wait)
within_started n k t wait within = within_put n k t (record (thread_at k t) { wait = Some wait }) within (within.thread t)

within_limited : (n : ℕ) (k : Plain) (t : ℕ) (wait : Wait) (ticks : ℕ) → IsWithin n k → IsWithin n (begin_limited k t wait ticks)
within_limited n k t wait ticks within = by (eqb ticks 0) (within_started n k t wait within) where
  by : (b : Bool) → IsWithin n (start_wait k t wait) → IsWithin n (enter (cond b (start_wait k t wait) (arm (start_wait k t wait) (thread_at k t).home (record { who = OfThread t; due = k.present + ticks }))) (caller_at k t) (Some wait))
  by true begun = within_enter n (start_wait k t wait) (caller_at k t) (Some wait) begun
  by false begun = within_enter n (arm (start_wait k t wait) (thread_at k t).home (record { who = OfThread t; due = k.present + ticks })) (caller_at k t) (Some wait) begun

-- ---- outcomes

-- What a directive comes to: its out number has 32 bits, and its state is within the limits.
abbrev pub Returns : ℕ → Outcome → Type 0
Returns n (Refused status) = Unit {0}
Returns n (Done status out next last) = (out ≤ 4294967296) × IsWithin n next
Returns n (Waiting next) = IsWithin n next
Returns n (Gone status next) = IsWithin n next

-- What is needed of a state besides: indices are few, and so are the threads that wait at a barrier.
pub record AreIndicesFew (k : Plain) : Type 0 where
  pub free : (class : Class) (index : ℕ) (more : List ℕ) → (names_in k class).free ≡ index ∷ more → index ≤ 64
  pub live : (class : Class) (name index : ℕ) → least_named name (names_in k class).live ≡ Some index → index ≤ 64
  pub waiters : (i : ℕ) → length (barrier_at k i).arrivals ≤ 64

returns_if : (n : ℕ) (b : Bool) (x y : Outcome) → Returns n x → Returns n y → Returns n (cond b x y)
returns_if n true x y held failed = held
returns_if n false x y held failed = failed

returns_where : (n : ℕ) (b : Bool) (x y : Outcome) → (b ≡ true → Returns n x) → Returns n y → Returns n (cond b x y)
returns_where n true x y held failed = held refl
returns_where n false x y held failed = failed

returns_else : (n : ℕ) (b : Bool) (x y : Outcome) → Returns n x → (b ≡ false → Returns n y) → Returns n (cond b x y)
returns_else n true x y held failed = held
returns_else n false x y held failed = failed refl

returns_found : (n : ℕ) (found : Option ℕ) (act : ℕ → Outcome) → ((u : ℕ) → Returns n (act u)) → Returns n (on_found found act)
returns_found n None act each = tt
returns_found n (Some u) act each = each u

returns_done : (n : ℕ) (next : Plain) → IsWithin n next → Returns n (done 0 next)
returns_done n next within = (omega arith, within)

few_id : (class : Class) (index : ℕ) → index ≤ 64 → id_of class index ≤ 4294967296
few_id Task index few = omega (arith, few)
few_id Semaphore index few = omega (arith, few)
few_id Partition index few = omega (arith, few)
few_id Period index few = omega (arith, few)
few_id Barrier index few = omega (arith, few)

returns_at : (n : ℕ) (k : Plain) (class : Class) (free : List ℕ) (name : ℕ) (put : ℕ → Plain → Plain) → ((index : ℕ) (more : List ℕ) → free ≡ index ∷ more → index ≤ 64) → ((index : ℕ) (m : Plain) → IsWithin n m → IsWithin n (put index m)) → IsWithin n k → Returns n (create_at k class free name put)
returns_at n k class [] name put few keeps within = tt
returns_at n k class (index ∷ more) name put few keeps within = (few_id class index (few index more refl), keeps index (put_names k class (taken (names_in k class) index more name)) within)

returns_unless : (n : ℕ) (refusal : Option Status) (o : Outcome) → (refusal ≡ None → Returns n o) → Returns n (unless refusal o)
returns_unless n None o made = made refl
returns_unless n (Some status) o made = tt

returns_create : (n : ℕ) (k : Plain) (class : Class) (name : ℕ) (refusal : Option Status) (put : ℕ → Plain → Plain) → AreIndicesFew k → (refusal ≡ None → (index : ℕ) (m : Plain) → IsWithin n m → IsWithin n (put index m)) → IsWithin n k → Returns n (create k class name refusal put)
returns_create n k class name refusal put few keeps within =
    returns_if n (eqb name 0) _ _ tt (returns_unless n refusal _ (λ none. returns_at n k class (names_in k class).free name put (few.free class) (keeps none) within))

returns_named : (n : ℕ) (k : Plain) (class : Class) (found : Option ℕ) → ((index : ℕ) → found ≡ Some index → index ≤ 64) → IsWithin n k → Returns n (on_named k class found)
returns_named n k class None few within = tt
returns_named n k class (Some index) few within = (few_id class index (few index refl), within)

returns_ident : (n : ℕ) (k : Plain) (class : Class) (name : ℕ) → AreIndicesFew k → IsWithin n k → Returns n (ident k class name)
returns_ident n k class name few within = returns_named n k class (least_named name (names_in k class).live) (few.live class name) within

-- ---- the task manager

refused_prio : (p : ℕ) → prio_refusal p ≡ None → p ≤ 255
refused_prio p none = by ((p == 0) || nat_lt 255 p) refl none where
  by : (b : Bool) → ((p == 0) || nat_lt 255 p) ≡ b → cond b (Some InvalidPriority) None ≡ None → p ≤ 255
  by true e none = let no : ⊥ = cc in absurd no
  by false e none = grind (arith, nat_tests, e)

task_create_returns : (n : ℕ) (k : Plain) (t name prio : ℕ) → AreIndicesFew k → IsWithin n k → Returns n (task_create k t name prio)
task_create_returns n k t name prio few within =
    returns_create n k Task name (prio_refusal prio) _ few
    (λ none index m kept. within_put n m index (dormant_in (thread_at k t).home prio) kept (record { has_body = λ life. absurd (false≢true life); urgent = refused_prio prio none; events = omega arith; ending = tt }))
    within

task_start_returns : (n : ℕ) (k : Plain) (t : ℕ) (id : Target) (body : ℕ) → body < n → IsWithin n k → Returns n (task_start k t id body)
task_start_returns n k t id body has within =
    returns_found n (task_named k t id) _ (λ u. returns_if n (is_dormant (thread_at k u).life) _ _
    (returns_done n (with_started k u body) (within_put n k u _ within (let was = within.thread u in record { has_body = λ life. has; urgent = was.urgent; events = was.events; ending = was.ending }))) tt)

suspended_within : (n : ℕ) (k : Plain) (u : ℕ) (suspended : Bool) → IsWithin n k → IsWithin n (with_suspended k u suspended)
suspended_within n k u suspended within = within_put n k u (record (thread_at k u) { suspended = suspended }) within (within.thread u)

task_suspend_returns : (n : ℕ) (k : Plain) (t : ℕ) (id : Target) → IsWithin n k → Returns n (task_suspend k t id)
task_suspend_returns n k t id within = returns_found n (task_named k t id) _ (λ u. returns_if n (thread_at k u).suspended _ _ tt (returns_done n (with_suspended k u true) (suspended_within n k u true within)))

task_resume_returns : (n : ℕ) (k : Plain) (t : ℕ) (id : Target) → IsWithin n k → Returns n (task_resume k t id)
task_resume_returns n k t id within = returns_found n (task_named k t id) _ (λ u. returns_if n (thread_at k u).suspended _ _ (returns_done n (with_suspended k u false) (suspended_within n k u false within)) tt)

-- ---- priorities

-- a priority that is at most the least urgent one, if it is one
abbrev IsUrgent : Option ℕ → Type 0
IsUrgent o = IfSome o (λ p. p ≤ 255)

lesser_urgent : (o rest : Option ℕ) → IsUrgent o → IsUrgent rest → IsUrgent (lesser_of o rest)
lesser_urgent None rest is more = more
lesser_urgent (Some p) None is more = is
lesser_urgent (Some p) (Some q) is more = omega (arith, is)

least_urgent : (f : ℕ → Option ℕ) (a m : ℕ) → ((u : ℕ) → IsUrgent (f u)) → IsUrgent (least_of f a m)
least_urgent f a zero is = tt
least_urgent f a (suc m) is = lesser_urgent (f a) (least_of f (a + 1) m) (is a) (least_urgent f (a + 1) m is)

lesser_low : (p : ℕ) (o : Option ℕ) → p ≤ 255 → lesser p o ≤ 255
lesser_low p None low = low
lesser_low p (Some q) low = omega (arith, low)

own_urgent : (n : ℕ) (k : Plain) (u : ℕ) → IsWithin n k → own k u ≤ 255
unfolding own
own_urgent n k u within = lesser_low (thread_at k u).base _ (within.thread u).urgent

contribution_urgent : (n : ℕ) (k : Plain) (t c u : ℕ) → IsWithin n k → IsUrgent (contribution k t c u)
unfolding contribution
contribution_urgent n k t c u within = by (is_behind k t c u) where
  by : (b : Bool) → IsUrgent (cond b (Some (own k u)) None)
  by true = own_urgent n k u within
  by false = tt

prio_urgent : (n : ℕ) (k : Plain) (t c : ℕ) → IsWithin n k → IsUrgent (prio k t c)
unfolding prio
prio_urgent n k t c within = least_urgent (contribution k t c) 1 (length k.threads) (λ u. contribution_urgent n k t c u within)

told_low : (o : Option ℕ) → IsUrgent o → or_least_urgent o ≤ 4294967296
told_low None is = omega arith
told_low (Some p) is = omega (arith, is)

prio_low : (n : ℕ) (k : Plain) (u : ℕ) → IsWithin n k → home_prio k u ≤ 4294967296
unfolding home_prio
prio_low n k u within = told_low (prio k u (thread_at k u).home) (prio_urgent n k u (thread_at k u).home within)

told_returns : (n : ℕ) (k : Plain) (o : Option ℕ) → IsUrgent o → IsWithin n k → Returns n (told_prio k o)
told_returns n k None is within = tt
told_returns n k (Some p) is within = (omega (arith, is), within)

task_get_priority_returns : (n : ℕ) (k : Plain) (t : ℕ) (id : Target) (c : ℕ) → IsWithin n k → Returns n (task_get_priority k t id c)
task_get_priority_returns n k t id c within = returns_found n (task_named k t id) _ (λ u. told_returns n k (prio k u c) (prio_urgent n k u c within) within)

task_set_priority_returns : (n : ℕ) (k : Plain) (t : ℕ) (id : Target) (prio : ℕ) → IsWithin n k → Returns n (task_set_priority k t id prio)
task_set_priority_returns n k t id prio within = returns_found n (task_named k t id) _ (λ u. returns_else n (ltb 255 prio) _ _ tt
    (λ high. returns_if n (eqb prio 0) _ _ (prio_low n k u within, within)
    (prio_low n k u within, within_put n k u (record (thread_at k u) { base = prio }) within (let was = within.thread u in record { has_body = was.has_body; urgent = grind (arith, nat_tests, high); events = was.events; ending = was.ending }))))

removed_within : (n : ℕ) (k : Plain) (u : ℕ) → IsWithin n k → IsWithin n (without_task k u)
removed_within n k u within = within_put n (leave k u) u no_thread (within_leave n k u within) (none_bounded n)

task_delete_returns : (n : ℕ) (k : Plain) (t : ℕ) (id : Target) → IsWithin n k → Returns n (task_delete k t id)
task_delete_returns n k t id within = returns_found n (task_named k t id) _ (λ u. returns_if n (has_obtained k.semaphores u || has_created k.periods u) (Refused ResourceInUse) (task_removed k t u) tt (returns_if n (eqb u t) (Gone Successful (without_task k u)) (done 0 (without_task k u)) (removed_within n k u within) (returns_done n (without_task k u) (removed_within n k u within))))

task_exit_returns : (n : ℕ) (k : Plain) (t : ℕ) → IsWithin n k → Returns n (task_exit k t)
task_exit_returns n k t within = within_put n k t (record (thread_at k t) { life = Ended }) within (let was = within.thread t in record { has_body = λ life. absurd (false≢true life); urgent = was.urgent; events = was.events; ending = was.ending })

task_wake_after_returns : (n : ℕ) (k : Plain) (t ticks : ℕ) → IsWithin n k → Returns n (task_wake_after k t ticks)
task_wake_after_returns n k t ticks within = returns_if n (eqb ticks 0) _ _ (omega arith, within) (within_limited n k t ForTime ticks within)

-- ---- the event manager

pending_within : (n : ℕ) (k : Plain) (u pending : ℕ) → pending < 2 ^ 32 → IsWithin n k → IsWithin n (with_pending k u pending)
pending_within n k u pending few within = within_put n k u (record (thread_at k u) { pending = pending }) within (let was = within.thread u in record { has_body = was.has_body; urgent = was.urgent; events = few; ending = was.ending })

seized_low : (pending set : ℕ) (all : Bool) (got : ℕ) → seized pending set all ≡ Some got → got ≤ pending
unfolding seized
seized_low pending set all got is = by (is_met pending set all) is where
  by : (b : Bool) → cond b (Some (bit_and pending set)) None ≡ Some got → got ≤ pending
  by true is = let same : bit_and pending set ≡ got = cc (is) in omega (arith, same, and_le_l pending set)
  by false is = let no : ⊥ = cc in absurd no

seized_by_low : (pending : ℕ) (wait : Option Wait) (got : ℕ) → seized_by pending wait ≡ Some got → got ≤ pending
seized_by_low pending None got is = let no : ⊥ = cc in absurd no
seized_by_low pending (Some ForTime) got is = let no : ⊥ = cc in absurd no
seized_by_low pending (Some (ForEvents set all)) got is = seized_low pending set all got is
seized_by_low pending (Some (AtBarrier i)) got is = let no : ⊥ = cc in absurd no
seized_by_low pending (Some (ForPeriod i)) got is = let no : ⊥ = cc in absurd no
seized_by_low pending (Some (ForSemaphore i spins)) got is = let no : ⊥ = cc in absurd no

left_low : (pending got : ℕ) → pending < 2 ^ 32 → got ≤ pending → left_of pending got < 2 ^ 32
left_low pending got few low = xor_of_32 pending got few (omega (arith, few, low))

seized_within : (n : ℕ) (k : Plain) (u pending : ℕ) (got : Option ℕ) → pending < 2 ^ 32 → ((g : ℕ) → got ≡ Some g → g ≤ pending) → IsWithin n k → IsWithin n (with_seized k u pending got)
seized_within n k u pending None few low within = within
seized_within n k u pending (Some got) few low within =
    let less = low got refl in
    within_end n (with_pending k u (left_of pending got)) u (record { status = Successful; out = got }) (pending_within n k u (left_of pending got) (left_low pending got few less) within)
    (record { ended = refl; out = omega (arith, few, less) })

sent_within : (n : ℕ) (k : Plain) (u pending : ℕ) (wait : Option Wait) → pending < 2 ^ 32 → IsWithin n k → IsWithin n (sent k u pending wait)
sent_within n k u pending wait few within = seized_within n (with_pending k u pending) u pending (seized_by pending wait) few (seized_by_low pending wait) (pending_within n k u pending few within)

event_send_returns : (n : ℕ) (k : Plain) (t : ℕ) (id : Target) (set : ℕ) → set < 2 ^ 32 → IsWithin n k → Returns n (event_send k t id set)
event_send_returns n k t id set few within = returns_found n (task_named k t id) _ (λ u.
    let was = within.thread u in
    returns_done n (sent k u (bit_or (thread_at k u).pending set) (thread_at k u).wait) (sent_within n k u (bit_or (thread_at k u).pending set) (thread_at k u).wait (or_of_32 (thread_at k u).pending set was.events few) within))

later_returns : (n : ℕ) (k : Plain) (t set : ℕ) (all : Bool) (wish : Wish) → IsWithin n k → Returns n (receive_later k t set all wish)
later_returns n k t set all NoWait within = tt
later_returns n k t set all (Limit ticks) within = within_limited n k t (ForEvents set all) ticks within

receive_returns : (n : ℕ) (k : Plain) (t set : ℕ) (all : Bool) (wish : Wish) (got : Option ℕ) → ((g : ℕ) → got ≡ Some g → g ≤ (thread_at k t).pending) → IsWithin n k → Returns n (receive_by k t set all wish got)
receive_returns n k t set all wish None low within = later_returns n k t set all wish within
receive_returns n k t set all wish (Some got) low within =
    let was = within.thread t in
    let less = low got refl in
    (omega (arith, was.events, less), pending_within n k t (left_of (thread_at k t).pending got) (left_low (thread_at k t).pending got was.events less) within)

event_receive_returns : (n : ℕ) (k : Plain) (t set : ℕ) (all : Bool) (wish : Wish) → IsWithin n k → Returns n (event_receive k t set all wish)
event_receive_returns n k t set all wish within =
    let was = within.thread t in
    returns_if n (eqb set 0) _ _ (omega (arith, was.events), within) (receive_returns n k t set all wish (seized (thread_at k t).pending set all) (seized_low (thread_at k t).pending set all) within)

-- ---- the barrier manager

end_within : (n : ℕ) (k : Plain) (i : ℕ) (status : Status) → is_waits status ≡ false → IsWithin n k → IsWithin n (end_at k i status)
end_within n k i status ended within = within_ends n k (barrier_at k i).arrivals (bare status) within (bare_ending status ended)

barrier_create_returns : (n : ℕ) (k : Plain) (name : ℕ) (automatic : Bool) (most : ℕ) → AreIndicesFew k → IsWithin n k → Returns n (barrier_create k name automatic most)
barrier_create_returns n k name automatic most few within = returns_create n k Barrier name (most_refusal automatic most) _ few (λ none index m kept. kept) within

barrier_wait_returns : (n : ℕ) (k : Plain) (t : ℕ) (id : Target) (ticks : ℕ) → IsWithin n k → Returns n (barrier_wait k t id ticks)
barrier_wait_returns n k t id ticks within = returns_found n (object_named k t Barrier id) _ (λ i. returns_if n (is_full (barrier_at k i)) _ _ (returns_done n (end_at k i Successful) (end_within n k i Successful refl within)) (within_limited n k t (AtBarrier i) ticks within))

barrier_release_returns : (n : ℕ) (k : Plain) (t : ℕ) (id : Target) → AreIndicesFew k → IsWithin n k → Returns n (barrier_release k t id)
barrier_release_returns n k t id few within = returns_found n (object_named k t Barrier id) _ (λ i. (omega (arith, few.waiters i), end_within n k i Successful refl within))

barrier_delete_returns : (n : ℕ) (k : Plain) (t : ℕ) (id : Target) → IsWithin n k → Returns n (barrier_delete k t id)
barrier_delete_returns n k t id within = returns_found n (object_named k t Barrier id) _ (λ i. returns_done n (without_barrier k i) (end_within n k i ObjectWasDeleted refl within))

-- ---- the partition manager

low_addresses : (first size count most : ℕ) → first + count * size ≤ most → most ≤ 4294967296 → AreLow (addresses first size count)
low_addresses first size zero most few low = tt
low_addresses first size (suc count) most few low =
    let more : first + size + count * size ≤ most = grind (arith, few) in
    (omega (arith, more, low), low_addresses (first + size) size count most more low)

low_buffers : (start length size : ℕ) → start + length ≤ 4294967296 → AreLow (all_buffers start length size)
low_buffers start length size low =
    let whole = div-mul-le_self length size in
    low_addresses start size (length / size) (start + length) (omega (arith, whole)) low

low_one : (xs : List ℕ) (x : ℕ) → AreLow xs → has xs x ≡ true → x ≤ 4294967296
low_one [] x low is = absurd (false≢true is)
low_one (y ∷ xs) x low is = by (either (eqb y x) (has xs x) is) (low_one xs x low.1) where
  by : (eqb y x ≡ true) ⊎ (has xs x ≡ true) → (has xs x ≡ true → x ≤ 4294967296) → x ≤ 4294967296
  by (inl same) more = omega (arith, low.0, same_number y x same)
  by (inr later) more = more later

low_push : (xs : List ℕ) (x : ℕ) → AreLow xs → x ≤ 4294967296 → AreLow (xs ++ x ∷ [])
low_push [] x low is = (is, tt)
low_push (y ∷ xs) x low is = (low.0, low_push xs x low.1 is)

memory_within : (start length size : ℕ) → memory_refusal start length size ≡ None → start + length ≤ 4294967296
memory_within start length size none = by (eqb start 0) (has_invalid_size length size) (has_invalid_address start length) (ltb 1024 (length / size)) refl none where
  by : (a b c d : Bool) → has_invalid_address start length ≡ c → cond a (Some InvalidAddress) (cond b (Some InvalidSize) (cond c (Some InvalidAddress) (cond d (Some InvalidSize) None))) ≡ None → start + length ≤ 4294967296
  by true b c d e none = let no : ⊥ = cc in absurd no
  by false true c d e none = let no : ⊥ = cc in absurd no
  by false false true d e none = let no : ⊥ = cc in absurd no
  by false false false d e none = grind (arith, nat_tests, e)

partition_create_returns : (n : ℕ) (k : Plain) (name start length size : ℕ) → AreIndicesFew k → IsWithin n k → Returns n (partition_create k name start length size)
partition_create_returns n k name start length size few within =
    returns_create n k Partition name (memory_refusal start length size) _ few
    (λ none index m kept. let fits = memory_within start length size none in within_partition n m index _ kept (record { memory = fits; buffers = low_buffers start length size fits }))
    within

taken_returns : (n : ℕ) (k : Plain) (i : ℕ) (free : List ℕ) → AreLow free → IsWithin n k → Returns n (taken_first k i free)
taken_returns n k i [] low within = tt
taken_returns n k i (address ∷ free) low within = (low.0, within_partition n k i (record (partition_at k i) { free = free }) within (let was = within.partition i in record { memory = was.memory; buffers = low.1 }))

partition_get_returns : (n : ℕ) (k : Plain) (t : ℕ) (id : Target) → IsWithin n k → Returns n (partition_get k t id)
partition_get_returns n k t id within = returns_found n (object_named k t Partition id) _ (λ i. let was = within.partition i in taken_returns n k i (partition_at k i).free was.buffers within)

given_returns : (n : ℕ) (k : Plain) (i address : ℕ) → IsWithin n k → Returns n (given_back_to k i address)
given_returns n k i address within =
    let p = partition_at k i in
    let was = within.partition i in
    returns_where n (is_out p address) _ _
    (λ out.
    let low : address ≤ 4294967296 = low_one (buffers p) address (low_buffers p.start p.length p.size was.memory) (and_front (has (buffers p) address) (not (has p.free address)) out) in
    returns_done n (put_partition k i (with_free p address)) (within_partition n k i (with_free p address) within (record { memory = was.memory; buffers = low_push p.free address was.buffers low })))
    tt

partition_return_returns : (n : ℕ) (k : Plain) (t : ℕ) (id address : Target) → IsWithin n k → Returns n (partition_return k t id address)
partition_return_returns n k t id address within = returns_found n (object_named k t Partition id) _ (λ i. given_returns n k i _ within)

partition_delete_returns : (n : ℕ) (k : Plain) (t : ℕ) (id : Target) → IsWithin n k → Returns n (partition_delete k t id)
partition_delete_returns n k t id within = returns_found n (object_named k t Partition id) _ (λ i. returns_if n (is_in_use (partition_at k i)) (Refused ResourceInUse) (done 0 (without_partition k i)) tt (returns_done n (without_partition k i) (within_partition n k i no_partition within (record { memory = omega arith; buffers = tt }))))

-- ---- the rate-monotonic manager

period_create_returns : (n : ℕ) (k : Plain) (t name : ℕ) → AreIndicesFew k → IsWithin n k → Returns n (period_create k t name)
period_create_returns n k t name few within = returns_create n k Period name None _ few (λ none index m kept. kept) within

asked_returns : (n : ℕ) (k : Plain) (phase : Phase) → IsWithin n k → Returns n (asked k phase)
asked_returns n k Inactive within = tt
asked_returns n k (Active length next_end job) within = returns_done n k within
asked_returns n k (Awaited length next_end) within = returns_done n k within
asked_returns n k (Expired length next_end job postponed) within = tt

begins_returns : (n : ℕ) (k : Plain) (t i length : ℕ) (phase : Phase) → IsWithin n k → Returns n (begins k t i length phase)
begins_returns n k t i length Inactive within = (omega arith, within)
begins_returns n k t i length (Active old next_end job) within = within_limited n (with_next k t i length) t (ForPeriod i) 0 within
begins_returns n k t i length (Awaited old next_end) within = within_limited n (with_next k t i length) t (ForPeriod i) 0 within
begins_returns n k t i length (Expired old next_end job postponed) within = (omega arith, within)

period_period_returns : (n : ℕ) (k : Plain) (t : ℕ) (id : Target) (length : ℕ) → IsWithin n k → Returns n (period_period k t id length)
period_period_returns n k t id length within = returns_found n (object_named k t Period id) _ (λ i. returns_if n (eqb (period_at k i).creator t) (cond (eqb length 0) (asked k (period_at k i).phase) (begins k t i length (period_at k i).phase)) (Refused NotOwnerOfResource) (returns_if n (eqb length 0) _ _ (asked_returns n k (period_at k i).phase within) (begins_returns n k t i length (period_at k i).phase within)) tt)

period_cancel_returns : (n : ℕ) (k : Plain) (t : ℕ) (id : Target) → IsWithin n k → Returns n (period_cancel k t id)
period_cancel_returns n k t id within = returns_found n (object_named k t Period id) _ (λ i. returns_if n (eqb (period_at k i).creator t) (done 0 (cancelled k i)) (Refused NotOwnerOfResource) (returns_done n (cancelled k i) within) tt)

period_delete_returns : (n : ℕ) (k : Plain) (t : ℕ) (id : Target) → IsWithin n k → Returns n (period_delete k t id)
period_delete_returns n k t id within = returns_found n (object_named k t Period id) _ (λ i. returns_if n (is_awaited (period_at k i).phase) (Refused ResourceInUse) (done 0 (without_period k i)) tt (returns_done n (without_period k i) within))

-- ---- the semaphore manager

low_set : (xs : List ℕ) (i x : ℕ) → AreLow xs → x ≤ 4294967296 → AreLow (slice_set xs i x)
low_set [] i x are low = are
low_set (y ∷ ys) zero x are low = (low, are.1)
low_set (y ∷ ys) (suc i) x are low = (are.0, low_set ys i x are.1 low)

low_at : (xs : List ℕ) (i : ℕ) → AreLow xs → slice_index_or xs i 0 ≤ 4294967296
low_at [] i are = omega arith
low_at (x ∷ xs) zero are = are.0
low_at (x ∷ xs) (suc i) are = low_at xs i are.1

none_low : AreLow no_ceilings
none_low = (omega arith, (omega arith, (omega arith, (omega arith, tt))))

-- the ceilings of a semaphore that can be created have 32 bits
no_refusal : (a b c d e : Bool) → cond a (Some NotDefined) (cond b (Some InvalidNumber) (cond c (Some InvalidNumber) (cond d (Some InvalidPriority) (cond e (Some InvalidPriority) None)))) ≡ None → d ≡ false
no_refusal a b c false e none = refl
no_refusal true b c true e none = let no : ⊥ = cc in absurd no
no_refusal false true c true e none = let no : ⊥ = cc in absurd no
no_refusal false false true true e none = let no : ⊥ = cc in absurd no
no_refusal false false false true e none = let no : ⊥ = cc in absurd no

ceilings_low : (protocol : Protocol) (ceiling home : ℕ) → (has_ceiling protocol ≡ true → ceiling ≤ 255) → AreLow (new_ceilings protocol ceiling home)
ceilings_low NoProtocol ceiling home low = none_low
ceilings_low Inherit ceiling home low = none_low
ceilings_low Ceiling ceiling home low = let few = low refl in low_set no_ceilings home ceiling none_low (omega (arith, few))
ceilings_low Mrsp ceiling home low = let few = low refl in (omega (arith, few), (omega (arith, few), (omega (arith, few), (omega (arith, few), tt))))

created_low : (spec : SemSpec) (prio : ℕ) (by : Caller) → create_refusal spec prio ≡ None → AreLow (new_semaphore spec by).ceilings
created_low spec prio by none = owned (is_binary spec.kind && (spec.count == 0)) where
  valid : (b : Bool) → cond b (Some NotDefined) (spec_refusal spec prio) ≡ None → has_invalid_ceiling spec ≡ false
  valid true is = let no : ⊥ = cc in absurd no
  valid false is = no_refusal (has_undefined_protocol spec) (has_great_count spec) (is_owned_mrsp spec) (has_invalid_ceiling spec) (is_below_ceiling spec prio) is

  few : (b c : Bool) → (b && (c || nat_lt 255 spec.ceiling)) ≡ false → b ≡ true → spec.ceiling ≤ 255
  few true true h is = absurd (false≢true (sym h))
  few true false h is = grind (arith, nat_tests, h)
  few false c h is = absurd (false≢true is)

  low : AreLow (new_ceilings spec.protocol spec.ceiling by.home)
  low = ceilings_low spec.protocol spec.ceiling by.home (few (has_ceiling spec.protocol) (spec.ceiling == 0) (valid (is_mrsp spec.protocol) none))

  owned : (b : Bool) → AreLow (cond b (owned_by by.thread (free_semaphore spec by.home)) (free_semaphore spec by.home)).ceilings
  owned true = low
  owned false = low

semaphore_create_returns : (n : ℕ) (k : Plain) (t name : ℕ) (spec : SemSpec) → AreIndicesFew k → IsWithin n k → Returns n (semaphore_create k t name spec)
semaphore_create_returns n k t name spec few within = returns_create n k Semaphore name _ _ few (λ none index m kept. within_semaphore n m index (new_semaphore spec (caller_at k t)) kept (created_low spec (home_prio k t) (caller_at k t) none)) within

taken_low : (t : ℕ) (sem : SemaphoreState) → AreLow sem.ceilings → AreLow (obtained_by t sem).ceilings
taken_low t sem low = by (is_binary sem.kind) where
  by : (b : Bool) → AreLow (cond b (owned_by t sem) (record sem { count = sem.count - 1 })).ceilings
  by true = low
  by false = low

given_low : (u : ℕ) (sem : SemaphoreState) → AreLow sem.ceilings → AreLow (given_to u sem).ceilings
given_low u sem low = by (is_binary sem.kind) where
  by : (b : Bool) → AreLow (cond b (owned_by u sem) sem).ceilings
  by true = low
  by false = low

freed_low : (kind : SemKind) (sem : SemaphoreState) → AreLow sem.ceilings → AreLow (freed_by kind sem).ceilings
freed_low Counting sem low = low
freed_low Simple sem low = low
freed_low Binary sem low = low

obtaining_returns : (n : ℕ) (k : Plain) (t i : ℕ) (obtaining : Obtaining) → IsWithin n k → Returns n (obtained_at k t i obtaining)
obtaining_returns n k t i Nests within = (omega arith, within_semaphore n k i (nested (semaphore_at k i)) within (within.ceilings i))
obtaining_returns n k t i Takes within = (omega arith, within_semaphore n k i (obtained_by t (semaphore_at k i)) within (taken_low t (semaphore_at k i) (within.ceilings i)))
obtaining_returns n k t i (NotObtained status) within = tt
obtaining_returns n k t i (Enters ticks) within = within_limited n k t (ForSemaphore i (is_mrsp (semaphore_at k i).protocol)) ticks within

semaphore_obtain_returns : (n : ℕ) (k : Plain) (t : ℕ) (id : Target) (wish : Wish) → IsWithin n k → Returns n (semaphore_obtain k t id wish)
semaphore_obtain_returns n k t id wish within = returns_found n (object_named k t Semaphore id) _ (λ i. obtaining_returns n k t i _ within)

releasing_returns : (n : ℕ) (k : Plain) (i : ℕ) (releasing : Releasing) → IsWithin n k → Returns n (released_at k i releasing)
releasing_returns n k i (NotReleased status) within = tt
releasing_returns n k i Unnests within = (omega arith, within_semaphore n k i (unnested (semaphore_at k i)) within (within.ceilings i))
releasing_returns n k i (Serves u) within = (
  omega arith,
  within_stop n (put_semaphore k i (handed_to u (up_to_date k (semaphore_at k i)))) u (bare Successful)
      (within_semaphore n k i (handed_to u (up_to_date k (semaphore_at k i))) within (given_low u (record (up_to_date k (semaphore_at k i)) { queue = served_by u (up_to_date k (semaphore_at k i)).queue }) (within.ceilings i)))
      (bare_ending Successful refl),
)
releasing_returns n k i Frees within = (omega arith, within_semaphore n k i (freed (semaphore_at k i)) within (freed_low (semaphore_at k i).kind (semaphore_at k i) (within.ceilings i)))

semaphore_release_returns : (n : ℕ) (k : Plain) (t : ℕ) (id : Target) → IsWithin n k → Returns n (semaphore_release k t id)
semaphore_release_returns n k t id within = returns_found n (object_named k t Semaphore id) _ (λ i. releasing_returns n k i _ within)

emptied_within : (n : ℕ) (k : Plain) (i : ℕ) (sem : SemaphoreState) (status : Status) → is_waits status ≡ false → AreLow sem.ceilings → IsWithin n k → IsWithin n (emptied_at k i sem status)
emptied_within n k i sem status ended low within = within_stops n (put_semaphore k i sem) (threads (semaphore_at k i).queue.arrivals) (bare status) (within_semaphore n k i sem within low) (bare_ending status ended)

semaphore_flush_returns : (n : ℕ) (k : Plain) (t : ℕ) (id : Target) → IsWithin n k → Returns n (semaphore_flush k t id)
semaphore_flush_returns n k t id within = returns_found n (object_named k t Semaphore id) _ (λ i. returns_done n (emptied_at k i (flushed (semaphore_at k i)) Unsatisfied) (emptied_within n k i (flushed (semaphore_at k i)) Unsatisfied refl (within.ceilings i) within))

semaphore_delete_returns : (n : ℕ) (k : Plain) (t : ℕ) (id : Target) → IsWithin n k → Returns n (semaphore_delete k t id)
semaphore_delete_returns n k t id within = returns_found n (object_named k t Semaphore id) _ (λ i. returns_if n (is_owned (semaphore_at k i)) (Refused ResourceInUse) (done 0 (without_semaphore k i)) tt (returns_done n (without_semaphore k i) (emptied_within n k i no_semaphore ObjectWasDeleted refl none_low within)))

set_returns : (n : ℕ) (k : Plain) (i c prio : ℕ) → IsWithin n k → Returns n (set_at k i c prio (setting_ceiling c prio (semaphore_at k i)))
set_returns n k i c prio within = by (nat_lt 255 prio) (is_none (ceiling_in c (semaphore_at k i))) (prio == 0) refl where
  low : slice_index_or (semaphore_at k i).ceilings c 0 ≤ 4294967296
  low = low_at (semaphore_at k i).ceilings c (within.ceilings i)

  by : (a b d : Bool) → nat_lt 255 prio ≡ a → Returns n (set_at k i c prio (cond a (NotSet InvalidPriority) (cond b (NotSet NotDefined) (cond d Keeps Sets))))
  by true b d e = tt
  by false true d e = tt
  by false false true e = (low, within)
  by false false false e = (low, within_semaphore n k i (with_ceiling c prio (semaphore_at k i)) within (low_set (semaphore_at k i).ceilings c prio (within.ceilings i) (grind (arith, nat_tests, e))))

semaphore_set_priority_returns : (n : ℕ) (k : Plain) (t : ℕ) (id : Target) (c prio : ℕ) → IsWithin n k → Returns n (semaphore_set_priority k t id c prio)
semaphore_set_priority_returns n k t id c prio within = returns_found n (object_named k t Semaphore id) _ (λ i. set_returns n k i c prio within)

-- ---- all directives

-- what the words of an op say is within the limits, where there are n bodies
abbrev pub IsOpWithin : ℕ → Op → Type 0
IsOpWithin n (TaskStart id body) = body < n
IsOpWithin n (EventSend id set) = set < 2 ^ 32
IsOpWithin n op = Unit {0}

op_returns : (n : ℕ) (k : Plain) (t : ℕ) (op : Op) → IsOpWithin n op → AreIndicesFew k → IsWithin n k → Returns n (directive k t (Some op))
op_returns n k t (TaskCreate name prio var) is few within = task_create_returns n k t name.bits prio few within
op_returns n k t (TaskIdent name var) is few within = returns_ident n k Task name.bits few within
op_returns n k t (TaskStart id body) is few within = task_start_returns n k t id body is within
op_returns n k t (TaskSuspend id) is few within = task_suspend_returns n k t id within
op_returns n k t (TaskResume id) is few within = task_resume_returns n k t id within
op_returns n k t (TaskSetPriority id prio var) is few within = task_set_priority_returns n k t id prio within
op_returns n k t (TaskGetPriority id cluster var) is few within = task_get_priority_returns n k t id cluster within
op_returns n k t (TaskDelete id) is few within = task_delete_returns n k t id within
op_returns n k t (TaskWakeAfter ticks) is few within = task_wake_after_returns n k t ticks within
op_returns n k t (EventSend id set) is few within = event_send_returns n k t id set is within
op_returns n k t (EventReceive set all wish var) is few within = event_receive_returns n k t set all wish within
op_returns n k t (SemCreate name count kind order protocol ceiling var) is few within =
    semaphore_create_returns n k t name.bits (record { count = count; kind = kind; order = order; protocol = protocol; ceiling = ceiling }) few within
op_returns n k t (SemIdent name var) is few within = returns_ident n k Semaphore name.bits few within
op_returns n k t (SemObtain id wish) is few within = semaphore_obtain_returns n k t id wish within
op_returns n k t (SemRelease id) is few within = semaphore_release_returns n k t id within
op_returns n k t (SemFlush id) is few within = semaphore_flush_returns n k t id within
op_returns n k t (SemDelete id) is few within = semaphore_delete_returns n k t id within
op_returns n k t (SemSetPriority id cluster prio var) is few within = semaphore_set_priority_returns n k t id cluster prio within
op_returns n k t (BarrierCreate name automatic most var) is few within = barrier_create_returns n k name.bits automatic most few within
op_returns n k t (BarrierIdent name var) is few within = returns_ident n k Barrier name.bits few within
op_returns n k t (BarrierWait id ticks) is few within = barrier_wait_returns n k t id ticks within
op_returns n k t (BarrierRelease id var) is few within = barrier_release_returns n k t id few within
op_returns n k t (BarrierDelete id) is few within = barrier_delete_returns n k t id within
op_returns n k t (PartCreate name start length size var) is few within = partition_create_returns n k name.bits start length size few within
op_returns n k t (PartIdent name var) is few within = returns_ident n k Partition name.bits few within
op_returns n k t (PartGet id var) is few within = partition_get_returns n k t id within
op_returns n k t (PartReturn id address) is few within = partition_return_returns n k t id address within
op_returns n k t (PartDelete id) is few within = partition_delete_returns n k t id within
op_returns n k t (PeriodCreate name var) is few within = period_create_returns n k t name.bits few within
op_returns n k t (PeriodIdent name var) is few within = returns_ident n k Period name.bits few within
op_returns n k t (PeriodPeriod id length) is few within = period_period_returns n k t id length within
op_returns n k t (PeriodCancel id) is few within = period_cancel_returns n k t id within
op_returns n k t (PeriodDelete id) is few within = period_delete_returns n k t id within
op_returns n k t (Work ticks) is few within = task_exit_returns n k t within
op_returns n k t (Goto target) is few within = task_exit_returns n k t within

line_returns : (n : ℕ) (k : Plain) (t : ℕ) (o : Option Op) → IfSome o (IsOpWithin n) → AreIndicesFew k → IsWithin n k → Returns n (directive k t o)
line_returns n k t None is few within = task_exit_returns n k t within
line_returns n k t (Some op) is few within = op_returns n k t op is few within

-- what a thread does next
pub action_returns : (n : ℕ) (k : Plain) (t : ℕ) (reply : Option Reply) → (thread_at k t).finished ≡ reply → IfSome (op_at k.scenario (thread_at k t).body (thread_at k t).line) (IsOpWithin n) → AreIndicesFew k → IsWithin n k → Returns n (action_on k t reply)
action_returns n k t None e is few within = line_returns n k t (op_at k.scenario (thread_at k t).body (thread_at k t).line) is few within
action_returns n k t (Some reply) e is few within =
    let was = within.thread t in
    let ending : IsEnding reply = subst (λ (r : Option Reply). IfSome r IsEnding) e was.ending in
    (ending.out, within_put n k t (record (thread_at k t) { finished = None }) within (record { has_body = was.has_body; urgent = was.urgent; events = was.events; ending = tt }))

pub out_low : (n : ℕ) (o : Outcome) → Returns n o → out_of (answer_of o) ≤ 4294967296
out_low n (Refused status) is = omega arith
out_low n (Done status out next last) is = is.0
out_low n (Waiting next) is = omega arith
out_low n (Gone status next) is = omega arith

-- the status of its entry
pub can_stand : (n : ℕ) (k : Plain) (t : ℕ) (reply : Option Reply) → (thread_at k t).finished ≡ reply → IsWithin n k → CanStand (what_of reply) (status_code (status_of (answer_of (action_on k t reply))))
can_stand n k t None e within = (status_of (answer_of (action_on k t None)), refl)
can_stand n k t (Some reply) e within =
    let was = within.thread t in
    let ending : IsEnding reply = subst (λ (r : Option Reply). IfSome r IsEnding) e was.ending in
    (reply.status, refl, ending.ended)

within_go_on : (n : ℕ) (k : Plain) (t out : ℕ) → IsWithin n k → IsWithin n (go_on k t out)
within_go_on n k t out within = within_put n k t (finished k.scenario (thread_at k t) out) within (within.thread t)

-- a state is within the limits after what a thread does
pub within_after : (n : ℕ) (k : Plain) (t : ℕ) (o : Outcome) → IsWithin n k → Returns n o → IsWithin n (after_outcome k t o)
within_after n k t (Refused status) within is = within_go_on n k t 0 within
within_after n k t (Done status out next last) within is = within_go_on n next t out is.1
within_after n k t (Waiting next) within is = is
within_after n k t (Gone status next) within is = is

-- ---- a tick

charged_bounded : (n : ℕ) (s : Scenario) (thread : Thread) → IsBounded n thread → IsBounded n (charged s thread)
charged_bounded n s thread is = by (eqb thread.left 0) (eqb thread.left 1) where
  by : (b d : Bool) → IsBounded n (cond b thread (cond d (record (gone_on s thread) { computed = thread.computed + 1 }) (record thread { left = thread.left - 1; computed = thread.computed + 1 })))
  by true d = is
  by false true = is
  by false false = is

ticked_bounded : (n : ℕ) (k : Plain) (t : ℕ) (thread : Thread) → IsBounded n thread → IsBounded n (ticked k t thread)
unfolding ticked
ticked_bounded n k t thread is = by (runs_somewhere k t) where
  by : (b : Bool) → IsBounded n (cond b (charged k.scenario thread) thread)
  by true = charged_bounded n k.scenario thread is
  by false = is

charge_bounded : (n : ℕ) (k : Plain) (t : ℕ) (threads : List Thread) (i : ℕ) → ((j : ℕ) → IsBounded n (get_or threads j no_thread)) → IsBounded n (get_or (charge_from k t threads) i no_thread)
charge_bounded n k t [] i each = none_bounded n
charge_bounded n k t (thread ∷ threads) zero each = ticked_bounded n k t thread (each 0)
charge_bounded n k t (thread ∷ threads) (suc i) each = charge_bounded n k (t + 1) threads i (λ j. each (suc j))

within_pass : (n : ℕ) (k : Plain) → IsWithin n k → IsWithin n (pass k)
within_pass n k within = record { thread = by; partition = within.partition; ceilings = within.ceilings } where
  by : (t : ℕ) → IsBounded n (nth no_thread (charge_from k 1 k.threads) t)
  by zero = none_bounded n
  by (suc i) = charge_bounded n k 1 k.threads i (λ j. within.thread (suc j))

timer_ending : (wait : Option Wait) → IsEnding (reply_at_timer wait)
timer_ending None = record { ended = refl; out = omega arith }
timer_ending (Some ForTime) = record { ended = refl; out = omega arith }
timer_ending (Some (ForEvents set all)) = record { ended = refl; out = omega arith }
timer_ending (Some (AtBarrier i)) = record { ended = refl; out = omega arith }
timer_ending (Some (ForPeriod i)) = record { ended = refl; out = omega arith }
timer_ending (Some (ForSemaphore i spins)) = record { ended = refl; out = omega arith }

within_passed : (n : ℕ) (k : Plain) (i : ℕ) (phase : Phase) → IsWithin n k → IsWithin n (passed_by k i phase)
within_passed n k i Inactive within = within
within_passed n k i (Active length next_end job) within = within
within_passed n k i (Awaited length next_end) within = within_end n (rearmed k i (next_end + length)) (period_at k i).creator (bare Successful) within (bare_ending Successful refl)
within_passed n k i (Expired length next_end job postponed) within = within

within_rung : (n : ℕ) (k : Plain) (who : Armer) → IsWithin n k → IsWithin n (rung k who)
within_rung n k (OfThread t) within = within_end n k t (reply_at_timer (thread_at k t).wait) within (timer_ending (thread_at k t).wait)
within_rung n k (OfPeriod i) within = within_passed n k i (period_at k i).phase within

within_each : (n : ℕ) (k : Plain) (c : ℕ) (timers : List Armed) → IsWithin n k → IsWithin n (fire_each k c timers)
within_each n k c [] within = within
within_each n k c (timer ∷ timers) within = within_each n (fire k c timer) c timers (within_rung n (take_due k c) timer.who within)

within_from : (n : ℕ) (k : Plain) (c m : ℕ) → IsWithin n k → IsWithin n (fire_from k c m)
within_from n k c zero within = within
within_from n k c (suc m) within = within_from n (fire_cluster k c) (c + 1) m (within_each n k c (due_at k.present (cluster_at k c).timers) within)

-- a state is within the limits after a tick
pub within_tick : (n : ℕ) (k : Plain) → IsWithin n k → IsWithin n (tick k)
within_tick n k within = within_from n (pass k) 0 (length k.clusters) (within_pass n k within)

-- ---- the opening

-- an init line has a body and a priority
pub record IsInitWithin (n : ℕ) (init : Init) : Type 0 where
  pub has_body : init.body < n
  pub urgent : init.prio ≤ 255

places_bounded : (n : ℕ) (s : Scenario) (m : ℕ) (inits : List Init) (i : ℕ) → AllByRecursion (IsInitWithin n) inits → IsBounded n (get_or (places m (map (begun s) inits)) i no_thread)
places_bounded n s zero inits i are = none_bounded n
places_bounded n s (suc m) [] zero are = none_bounded n
places_bounded n s (suc m) [] (suc i) are = places_bounded n s m [] i tt
places_bounded n s (suc m) (init ∷ inits) zero are = record { has_body = λ life. are.0.has_body; urgent = are.0.urgent; events = omega arith; ending = tt }
places_bounded n s (suc m) (init ∷ inits) (suc i) are = places_bounded n s m inits i are.1

none_memory : (m i : ℕ) → IsMemory (get_or (replicate m no_partition) i no_partition)
none_memory zero i = record { memory = omega arith; buffers = tt }
none_memory (suc m) zero = record { memory = omega arith; buffers = tt }
none_memory (suc m) (suc i) = none_memory m i

-- a scenario's first state is within the limits
pub within_opening : (s : Scenario) (n : ℕ) → AllByRecursion (IsInitWithin n) s.inits → IsWithin n (opening s)
within_opening s n are = record { thread = by; partition = at; ceilings = λ i. none_ceiled i } where
  by : (t : ℕ) → IsBounded n (nth no_thread (places 64 (map (begun s) s.inits)) t)
  by zero = none_bounded n
  by (suc i) = places_bounded n s 64 s.inits i are

  none_in : (m i : ℕ) → AreLow (get_or (replicate m no_semaphore) i no_semaphore).ceilings
  none_in zero i = none_low
  none_in (suc m) zero = none_low
  none_in (suc m) (suc i) = none_in m i

  none_ceiled : (i : ℕ) → AreLow (nth no_semaphore (replicate 64 no_semaphore) i).ceilings
  none_ceiled zero = none_low
  none_ceiled (suc i) = none_in 64 i

  at : (i : ℕ) → IsMemory (nth no_partition (replicate 64 no_partition) i)
  at zero = record { memory = omega arith; buffers = tt }
  at (suc i) = none_memory 64 i

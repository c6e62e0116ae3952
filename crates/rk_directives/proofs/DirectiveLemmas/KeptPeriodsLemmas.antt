-- All directives but those of the rate-monotonic manager leave periods alone.
use Rattle.std.proofs.Common.{◌≡◌, ◌≢◌, ℕ, zero, suc, ◌<◌, ◌&&◌, ◌||◌, ◌==◌, nat_lt, List, [], ◌∷◌, Bool, true, false, cond, eqb, Option, None, Some, arith, refl, sym, ◌∙◌, ap, bit_or}
use Rattle.std.proofs.lemmas.Bool.{false≢true}
use Rattle.rk_model.specs.declared.entry.Reply.{Reply}
use Rattle.rk_model.specs.declared.ids.Class.{Class}
use Rattle.rk_model.specs.declared.ids.Class.TheVariants.{Task, Semaphore, Barrier, Partition}
use Rattle.rk_model.specs.declared.scenario.Op.{Op}
use Rattle.rk_model.specs.declared.scenario.Op.TheVariants.{Work, Goto, TaskCreate, TaskIdent, TaskStart, TaskSuspend, TaskResume, TaskSetPriority, TaskGetPriority, TaskDelete, TaskWakeAfter, EventSend, EventReceive, SemCreate, SemIdent, SemObtain, SemRelease, SemFlush, SemDelete, SemSetPriority, BarrierCreate, BarrierIdent, BarrierWait, BarrierRelease, BarrierDelete, PartCreate, PartIdent, PartGet, PartReturn, PartDelete, PeriodCreate, PeriodIdent, PeriodPeriod, PeriodCancel, PeriodDelete}
use Rattle.rk_model.specs.declared.scenario.Target.{Target}
use Rattle.rk_model.specs.declared.semaphore.SemSpec.{SemSpec}
use Rattle.rk_model.specs.declared.scenario.Wish.{Wish}
use Rattle.rk_model.specs.declared.scenario.Wish.TheVariants.{NoWait, Limit}
use Rattle.rk_model.specs.declared.state.Armer.TheVariants.{Thread as OfThread}
use Rattle.rk_model.specs.declared.state.Life.{Life}
use Rattle.rk_model.specs.declared.state.Life.TheVariants.{Absent, Dormant, Started, Ended}
use Rattle.rk_model.specs.declared.state.Thread.{Thread}
use Rattle.rk_model.specs.declared.state.Wait.{Wait}
use Rattle.rk_model.specs.declared.state.Wait.TheVariants.{ForTime, ForEvents, AtBarrier, ForPeriod, ForSemaphore}
use Rattle.rk_model.specs.declared.status.Status.{Status}
use Rattle.rk_model.specs.declared.status.Status.TheVariants.{Successful, Unsatisfied, ObjectWasDeleted}
use Rattle.rk_model.specs.Lists.{nth, times}
use Rattle.rk_model.specs.Names.{taken, least_named}
use Rattle.rk_model.specs.State.{Plain, SemaphoreState, PeriodState, objects_of, no_thread, no_semaphore, no_period, thread_at, put_thread, semaphore_at, put_semaphore, barrier_at, partition_at, period_at}
use Rattle.rk_model.specs.Scheduling.Priorities.{prio}
use Rattle.rk_model.specs.Scheduling.Timers.{cancel}
use Rattle.rk_model.specs.Directives.Objects.{has_begun, names_in, put_names, object_named, bits_of, create_at, unless, create, on_named, ident}
use Rattle.rk_model.specs.Directives.Outcomes.{Outcome, Refused, Done, Waiting, Gone, on_found, changed, arrived}
use Rattle.rk_model.specs.Directives.Waits.{OfBarrier, OfSemaphore, object_of_wait, is_for, leave, bare}
use Rattle.rk_model.specs.Directives.Tasks.{task_named, dormant_in, prio_refusal, task_create, task_ident, is_dormant, with_started, task_start, with_suspended, task_suspend, task_resume, task_set_priority, told_prio, task_get_priority, without_task, has_created, task_delete, task_exit, task_wake_after}
use Rattle.rk_model.specs.Directives.Events.{seized, left_of, with_pending, with_seized, seized_by, sent, event_send, receive_later, receive_by, event_receive}
use Rattle.rk_model.specs.Directives.Barriers.{most_refusal, barrier_create, barrier_ident, end_at, is_full, barrier_wait, barrier_release, without_barrier, barrier_delete}
use Rattle.rk_model.specs.Directives.Partitions.{is_out, is_in_use, memory_refusal, partition_create, partition_ident, taken_first, partition_get, partition_return, partition_delete}
use Rattle.rk_model.specs.Directives.Periods.{is_awaited}
use Rattle.rk_model.specs.Directives.Semaphores.{is_mrsp, is_owned, Obtaining, Nests, Takes, NotObtained, Enters, Releasing, NotReleased, Unnests, Serves, Frees, handed_to, flushed, up_to_date, semaphore_create, semaphore_ident, obtained_at, semaphore_obtain, served_at, released_at, semaphore_release, emptied_at, semaphore_flush, without_semaphore, semaphore_delete, CeilingSetting, NotSet, Keeps, Sets, set_at, semaphore_set_priority, has_obtained}
use Rattle.rk_model.specs.Steps.{directive, back}
use Rattle.rk_model.proofs.BooleanLemmas.{equal_test, or_back, neither_back}
use Rattle.rk_directives.specs.Calls.{IsActing}
use Rattle.rk_directives.specs.Sound.{IsSound}
use Rattle.rk_directives.specs.SoundPeriods.{awaits, IsAwaitedBy, Owner, owner_of, KeepsPeriods}
use Rattle.rk_directives.proofs.NamesAgreeLemmas.{first_free}
use Rattle.rk_directives.proofs.PeriodsKeptLemmas.{keeps_beside, keeps_same, keeps_then, keeps_names, keeps_leave, keeps_put, keeps_apart, keeps_cancel, keeps_stop_wait, keeps_end_wait, keeps_stop_each, keeps_end_each, keeps_limited}
use Rattle.rk_directives.proofs.DirectiveLemmas.SemaphoresLemmas.{waiting, stands_for, first_stands, serves_first}
use Rattle.rk_model.proofs.CountLemmas.{times-has}

-- ---- outcomes

-- An outcome whose change leaves periods alone.
pub record LeavesPeriods (k : Plain) (o : Outcome) : Type 0 where
  pub keeps : KeepsPeriods k (changed k o)

keeps_refused : (k : Plain) (status : Status) → LeavesPeriods k (Refused status)
keeps_refused k status = record { keeps = keeps_same k }

keeps_done : (k : Plain) (status : Status) (out : ℕ) (next : Plain) (last : Option ℕ) → KeepsPeriods k next → LeavesPeriods k (Done status out next last)
keeps_done k status out next last keeps = record { keeps = keeps }

keeps_waiting : (k next : Plain) → KeepsPeriods k next → LeavesPeriods k (Waiting next)
keeps_waiting k next keeps = record { keeps = keeps }

keeps_gone : (k : Plain) (status : Status) (next : Plain) → KeepsPeriods k next → LeavesPeriods k (Gone status next)
keeps_gone k status next keeps = record { keeps = keeps }

pub keeps_found : (k : Plain) (found : Option ℕ) (act : ℕ → Outcome) → ((u : ℕ) → found ≡ Some u → LeavesPeriods k (act u)) → LeavesPeriods k (on_found found act)
keeps_found k None act leaves = keeps_refused k _
keeps_found k (Some u) act leaves = leaves u refl

pub keeps_if : (k : Plain) (b : Bool) (x y : Outcome) → (b ≡ true → LeavesPeriods k x) → (b ≡ false → LeavesPeriods k y) → LeavesPeriods k (cond b x y)
keeps_if k true x y held failed = held refl
keeps_if k false x y held failed = failed refl

keeps_at : (k : Plain) (class : Class) (free : List ℕ) (name : ℕ) (put : ℕ → Plain → Plain) → ((index : ℕ) (rest : List ℕ) → free ≡ index ∷ rest → KeepsPeriods k (put index (put_names k class (taken (names_in k class) index rest name)))) → LeavesPeriods k (create_at k class free name put)
keeps_at k class [] name put keeps = keeps_refused k _
keeps_at k class (index ∷ rest) name put keeps = keeps_done k _ _ _ _ (keeps index rest refl)

keeps_unless : (k : Plain) (refusal : Option Status) (o : Outcome) → LeavesPeriods k o → LeavesPeriods k (unless refusal o)
keeps_unless k None o leaves = leaves
keeps_unless k (Some status) o leaves = keeps_refused k status

-- an object of any class is made
pub keeps_create : (k : Plain) (class : Class) (name : ℕ) (refusal : Option Status) (put : ℕ → Plain → Plain) → ((index : ℕ) (rest : List ℕ) → (names_in k class).free ≡ index ∷ rest → KeepsPeriods k (put index (put_names k class (taken (names_in k class) index rest name)))) → LeavesPeriods k (create k class name refusal put)
keeps_create k class name refusal put keeps =
    keeps_if k (eqb name 0) _ _ (λ _. keeps_refused k _) (λ _. keeps_unless k refusal _ (keeps_at k class (names_in k class).free name put keeps))

keeps_named : (k : Plain) (class : Class) (found : Option ℕ) → LeavesPeriods k (on_named k class found)
keeps_named k class None = keeps_refused k _
keeps_named k class (Some index) = keeps_done k _ _ _ _ (keeps_same k)

-- and named
pub keeps_ident : (k : Plain) (class : Class) (name : ℕ) → LeavesPeriods k (ident k class name)
keeps_ident k class name = keeps_named k class (least_named name (names_in k class).live)

-- ---- the task manager

-- where no task lives, none created a live period
absent_apart : (k : Plain) (u : ℕ) → IsSound k → has_begun (thread_at k u).life ≡ false → (i : ℕ) → (period_at k i).live ≡ true → (period_at k i).creator ≢ u
absent_apart k u sound absent i lives same = false≢true (sym absent ∙ ap (λ v. has_begun (thread_at k v).life) (sym same) ∙ (sound.periods.each i).created lives)

made_task_keeps : (k : Plain) (t index : ℕ) (free : List ℕ) (name prio : ℕ) → IsSound k → k.table.tasks.free ≡ index ∷ free → KeepsPeriods k (put_thread (put_names k Task (taken k.table.tasks index free name)) index (dormant_in (thread_at k t).home prio))
made_task_keeps k t index free name prio sound is =
    let named = put_names k Task (taken k.table.tasks index free name) in
    let f = first_free k.table (objects_of k) Task index free sound.named is in
    let made = dormant_in (thread_at k t).home prio in
    keeps_then k named (put_thread named index made) (keeps_names k named.table)
    (keeps_apart named index made (absent_apart k index sound f.absent) (ap (λ (x : Thread). awaits x.wait) (sym (sound.named.blank index f.absent))))

pub task_create_keeps : (k : Plain) (t name prio : ℕ) → IsSound k → LeavesPeriods k (task_create k t name prio)
task_create_keeps k t name prio sound = keeps_create k Task name (prio_refusal prio) _ (λ index free is. made_task_keeps k t index free name prio sound is)

pub task_ident_keeps : (k : Plain) (name : ℕ) → LeavesPeriods k (task_ident k name)
task_ident_keeps k name = keeps_ident k Task name

dormant_begun : (life : Life) → is_dormant life ≡ true → has_begun life ≡ true
dormant_begun Absent h = absurd (false≢true h)
dormant_begun Dormant h = refl
dormant_begun Started h = refl
dormant_begun Ended h = refl

-- a thread that has begun, and then has another life that has
lives_on : (x : Thread) (life : Life) → has_begun life ≡ true → has_begun x.life ≡ true → (let y : Thread = record x { life = life } in owner_of y) ≡ owner_of x
lives_on x life now before = ap (λ b. (let o : Owner = record { lives = b; home = x.home; awaits = awaits x.wait; computed = x.computed } in o)) (now ∙ sym before)

started_keeps : (k : Plain) (u body : ℕ) → is_dormant (thread_at k u).life ≡ true → KeepsPeriods k (with_started k u body)
started_keeps k u body dormant =
    keeps_put k u (arrived k.scenario (record (thread_at k u) { life = Started; body = body }) 1) (lives_on (thread_at k u) Started refl (dormant_begun (thread_at k u).life dormant))

pub task_start_keeps : (k : Plain) (t : ℕ) (id : Target) (body : ℕ) → LeavesPeriods k (task_start k t id body)
task_start_keeps k t id body = keeps_found k (task_named k t id) _ (λ u _. keeps_if k (is_dormant (thread_at k u).life) _ _ (λ dormant. keeps_done k _ _ _ _ (started_keeps k u body dormant)) (λ _. keeps_refused k _))

suspended_keeps : (k : Plain) (u : ℕ) (suspended : Bool) → KeepsPeriods k (with_suspended k u suspended)
suspended_keeps k u suspended = keeps_put k u (record (thread_at k u) { suspended = suspended }) refl

pub task_suspend_keeps : (k : Plain) (t : ℕ) (id : Target) → LeavesPeriods k (task_suspend k t id)
task_suspend_keeps k t id = keeps_found k (task_named k t id) _ (λ u _. keeps_if k (thread_at k u).suspended _ _ (λ _. keeps_refused k _) (λ _. keeps_done k _ _ _ _ (suspended_keeps k u true)))

pub task_resume_keeps : (k : Plain) (t : ℕ) (id : Target) → LeavesPeriods k (task_resume k t id)
task_resume_keeps k t id = keeps_found k (task_named k t id) _ (λ u _. keeps_if k (thread_at k u).suspended _ _ (λ _. keeps_done k _ _ _ _ (suspended_keeps k u false)) (λ _. keeps_refused k _))

pub task_set_priority_keeps : (k : Plain) (t : ℕ) (id : Target) (prio : ℕ) → LeavesPeriods k (task_set_priority k t id prio)
task_set_priority_keeps k t id prio = keeps_found k (task_named k t id) _ (λ u _. keeps_if k (nat_lt 255 prio) _ _ (λ _. keeps_refused k _) (λ _. keeps_if k (eqb prio 0) _ _ (λ _. keeps_done k _ _ _ _ (keeps_same k))
    (λ _. keeps_done k _ _ _ _ (keeps_put k u (record (thread_at k u) { base = prio }) refl))))

told_keeps : (k : Plain) (o : Option ℕ) → LeavesPeriods k (told_prio k o)
told_keeps k None = keeps_refused k _
told_keeps k (Some p) = keeps_done k _ _ _ _ (keeps_same k)

pub task_get_priority_keeps : (k : Plain) (t : ℕ) (id : Target) (c : ℕ) → LeavesPeriods k (task_get_priority k t id c)
task_get_priority_keeps k t id c = keeps_found k (task_named k t id) _ (λ u _. told_keeps k (prio k u c))

-- who created a live period is found among the creators
created_one : (periods : List PeriodState) (i u : ℕ) → (nth no_period periods i).live ≡ true → (nth no_period periods i).creator ≡ u → has_created periods u ≡ true
created_one periods zero u lives is = absurd (false≢true lives)
created_one [] (suc i) u lives is = absurd (false≢true lives)
created_one (period ∷ periods) (suc zero) u lives is = let one = equal_test period.creator u is in rw (lives, one) refl
created_one (period ∷ periods) (suc (suc i)) u lives is = or_back (period.live && (period.creator == u)) (created_one periods (suc i) u lives is)

-- a thread that awaits a period created it, and it lives
awaited_lives : (k : Plain) (u i : ℕ) → IsSound k → awaits (thread_at k u).wait ≡ Some i → has_created k.periods u ≡ true
awaited_lives k u i sound waits = let a = sound.periods.waits u i waits in by a (period_at k i).live refl where
  by : IsAwaitedBy (period_at k i) u → (b : Bool) → (period_at k i).live ≡ b → has_created k.periods u ≡ true
  by a true lives = created_one k.periods i u lives a.creator
  by a false dead = absurd (false≢true (ap (λ (p : PeriodState). is_awaited p.phase) (sym (sound.named.idle i dead)) ∙ a.awaited))

-- so a thread that created no live period awaits none
awaits_none : (k : Plain) (u : ℕ) → IsSound k → has_created k.periods u ≡ false → awaits (thread_at k u).wait ≡ None
awaits_none k u sound none = by (awaits (thread_at k u).wait) refl where
  by : (o : Option ℕ) → awaits (thread_at k u).wait ≡ o → o ≡ None
  by None e = refl
  by (Some i) e = absurd (false≢true (sym none ∙ awaited_lives k u i sound e))

without_task_keeps : (k : Plain) (u : ℕ) → IsSound k → has_created k.periods u ≡ false → KeepsPeriods k (without_task k u)
without_task_keeps k u sound none =
    let h = (thread_at k u).home in
    let left = leave k u in
    let idle = cancel left h (OfThread u) in
    let gone = put_thread idle u no_thread in
    keeps_then k gone (without_task k u)
    (keeps_then k idle gone
    (keeps_then k left idle (keeps_leave k u) (keeps_cancel left h u))
    (keeps_apart idle u no_thread (λ i lives is. false≢true (sym none ∙ created_one k.periods i u lives is)) (sym (awaits_none k u sound none))))
    (keeps_names gone (without_task k u).table)

pub task_delete_keeps : (k : Plain) (t : ℕ) (id : Target) → IsSound k → LeavesPeriods k (task_delete k t id)
task_delete_keeps k t id sound = keeps_found k (task_named k t id) _ (λ u _. keeps_if k (has_obtained k.semaphores u || has_created k.periods u) _ _ (λ _. keeps_refused k _) (λ free.
    (let none = neither_back (has_obtained k.semaphores u) (has_created k.periods u) free in
    keeps_if k (eqb u t) _ _ (λ _. keeps_gone k _ _ (without_task_keeps k u sound none)) (λ _. keeps_done k _ _ _ _ (without_task_keeps k u sound none)))))

pub task_exit_keeps : (k : Plain) (t : ℕ) → has_begun (thread_at k t).life ≡ true → LeavesPeriods k (task_exit k t)
task_exit_keeps k t lives = keeps_gone k _ _ (keeps_put k t (record (thread_at k t) { life = Ended }) (lives_on (thread_at k t) Ended refl lives))

pub task_wake_after_keeps : (k : Plain) (t ticks : ℕ) → (thread_at k t).wait ≡ None → LeavesPeriods k (task_wake_after k t ticks)
task_wake_after_keeps k t ticks free = keeps_if k (eqb ticks 0) _ _ (λ _. keeps_done k _ _ _ _ (keeps_same k)) (λ _. keeps_waiting k _ (keeps_limited k t ForTime ticks refl free))

-- ---- the event manager

pending_keeps : (k : Plain) (u pending : ℕ) → KeepsPeriods k (with_pending k u pending)
pending_keeps k u pending = keeps_put k u (record (thread_at k u) { pending = pending }) refl

-- who seizes events awaits no period
seized_awaits : (pending got : ℕ) (wait : Option Wait) → seized_by pending wait ≡ Some got → awaits wait ≡ None
seized_awaits pending got None is = refl
seized_awaits pending got (Some ForTime) is = refl
seized_awaits pending got (Some (ForEvents set all)) is = refl
seized_awaits pending got (Some (AtBarrier i)) is = refl
seized_awaits pending got (Some (ForPeriod i)) is = let no : ⊥ = cc in absurd no
seized_awaits pending got (Some (ForSemaphore i spins)) is = let no : ⊥ = cc in absurd no

seized_keeps : (k : Plain) (u pending : ℕ) (got : Option ℕ) → ((n : ℕ) → got ≡ Some n → awaits (thread_at k u).wait ≡ None) → KeepsPeriods k (with_seized k u pending got)
seized_keeps k u pending None none = keeps_same k
seized_keeps k u pending (Some n) none =
    let left = pending_keeps k u (left_of pending n) in
    keeps_then k (with_pending k u (left_of pending n)) (with_seized k u pending (Some n)) left (keeps_end_wait (with_pending k u (left_of pending n)) u _ (left.waits u ∙ none n refl))

sent_keeps : (k : Plain) (u pending : ℕ) → KeepsPeriods k (sent k u pending (thread_at k u).wait)
sent_keeps k u pending =
    let more = pending_keeps k u pending in
    keeps_then k (with_pending k u pending) (sent k u pending (thread_at k u).wait) more
    (seized_keeps (with_pending k u pending) u pending (seized_by pending (thread_at k u).wait) (λ n is. more.waits u ∙ seized_awaits pending n (thread_at k u).wait is))

pub event_send_keeps : (k : Plain) (t : ℕ) (id : Target) (set : ℕ) → LeavesPeriods k (event_send k t id set)
event_send_keeps k t id set = keeps_found k (task_named k t id) _ (λ u _. keeps_done k _ _ _ _ (sent_keeps k u (bit_or (thread_at k u).pending set)))

later_keeps : (k : Plain) (t set : ℕ) (all : Bool) (wish : Wish) → (thread_at k t).wait ≡ None → LeavesPeriods k (receive_later k t set all wish)
later_keeps k t set all NoWait free = keeps_refused k _
later_keeps k t set all (Limit ticks) free = keeps_waiting k _ (keeps_limited k t (ForEvents set all) ticks refl free)

receive_keeps : (k : Plain) (t set : ℕ) (all : Bool) (wish : Wish) (got : Option ℕ) → (thread_at k t).wait ≡ None → LeavesPeriods k (receive_by k t set all wish got)
receive_keeps k t set all wish None free = later_keeps k t set all wish free
receive_keeps k t set all wish (Some n) free = keeps_done k _ _ _ _ (pending_keeps k t (left_of (thread_at k t).pending n))

pub event_receive_keeps : (k : Plain) (t set : ℕ) (all : Bool) (wish : Wish) → (thread_at k t).wait ≡ None → LeavesPeriods k (event_receive k t set all wish)
event_receive_keeps k t set all wish free = keeps_if k (eqb set 0) _ _ (λ _. keeps_done k _ _ _ _ (keeps_same k)) (λ _. receive_keeps k t set all wish (seized (thread_at k t).pending set all) free)

-- ---- the barrier manager

-- who waits at a barrier awaits no period
at_barrier : (wait : Option Wait) (i : ℕ) → is_for (object_of_wait wait) (OfBarrier i) ≡ true → awaits wait ≡ None
at_barrier None i h = refl
at_barrier (Some ForTime) i h = refl
at_barrier (Some (ForEvents set all)) i h = refl
at_barrier (Some (AtBarrier j)) i h = refl
at_barrier (Some (ForPeriod j)) i h = absurd (false≢true h)
at_barrier (Some (ForSemaphore j spins)) i h = absurd (false≢true h)

-- nor does who stands in its queue
queue_awaits : (k : Plain) (i t : ℕ) → IsSound k → 0 < times t (barrier_at k i).arrivals → awaits (thread_at k t).wait ≡ None
queue_awaits k i t sound some = by (is_for (object_of_wait (thread_at k t).wait) (OfBarrier i)) refl (sound.tied.queued t refl (OfBarrier i)) where
  by : (b : Bool) → is_for (object_of_wait (thread_at k t).wait) (OfBarrier i) ≡ b → times t (barrier_at k i).arrivals ≡ cond b 1 0 → awaits (thread_at k t).wait ≡ None
  by true e stood = at_barrier (thread_at k t).wait i e
  by false e stood = absurd (omega (arith, some, stood))

ended_keeps : (k : Plain) (i : ℕ) (status : Status) → IsSound k → KeepsPeriods k (end_at k i status)
ended_keeps k i status sound = keeps_end_each k (barrier_at k i).arrivals (bare status) (λ t some. queue_awaits k i t sound some)

pub barrier_create_keeps : (k : Plain) (name : ℕ) (automatic : Bool) (most : ℕ) → LeavesPeriods k (barrier_create k name automatic most)
barrier_create_keeps k name automatic most = keeps_create k Barrier name (most_refusal automatic most) _ (λ index free is. keeps_beside k _ refl refl refl refl)

pub barrier_ident_keeps : (k : Plain) (name : ℕ) → LeavesPeriods k (barrier_ident k name)
barrier_ident_keeps k name = keeps_ident k Barrier name

pub barrier_wait_keeps : (k : Plain) (t : ℕ) (id : Target) (ticks : ℕ) → IsSound k → (thread_at k t).wait ≡ None → LeavesPeriods k (barrier_wait k t id ticks)
barrier_wait_keeps k t id ticks sound free = keeps_found k (object_named k t Barrier id) _ (λ i _. keeps_if k (is_full (barrier_at k i)) _ _
    (λ _. keeps_done k _ _ _ _ (ended_keeps k i Successful sound))
    (λ _. keeps_waiting k _ (keeps_limited k t (AtBarrier i) ticks refl free)))

pub barrier_release_keeps : (k : Plain) (t : ℕ) (id : Target) → IsSound k → LeavesPeriods k (barrier_release k t id)
barrier_release_keeps k t id sound = keeps_found k (object_named k t Barrier id) _ (λ i _. keeps_done k _ _ _ _ (ended_keeps k i Successful sound))

pub barrier_delete_keeps : (k : Plain) (t : ℕ) (id : Target) → IsSound k → LeavesPeriods k (barrier_delete k t id)
barrier_delete_keeps k t id sound = keeps_found k (object_named k t Barrier id) _ (λ i _. keeps_done k _ _ _ _
    (keeps_then k (end_at k i ObjectWasDeleted) (without_barrier k i) (ended_keeps k i ObjectWasDeleted sound) (keeps_beside (end_at k i ObjectWasDeleted) (without_barrier k i) refl refl refl refl)))

-- ---- the semaphore manager

-- who waits for a semaphore awaits no period
for_semaphore : (wait : Option Wait) (i : ℕ) → is_for (object_of_wait wait) (OfSemaphore i) ≡ true → awaits wait ≡ None
for_semaphore None i h = refl
for_semaphore (Some ForTime) i h = refl
for_semaphore (Some (ForEvents set all)) i h = refl
for_semaphore (Some (AtBarrier j)) i h = absurd (false≢true h)
for_semaphore (Some (ForPeriod j)) i h = absurd (false≢true h)
for_semaphore (Some (ForSemaphore j spins)) i h = refl

-- nor does who stands in its queue
waiter_awaits : (k : Plain) (i t : ℕ) → IsSound k → 0 < times t (waiting (semaphore_at k i)) → awaits (thread_at k t).wait ≡ None
waiter_awaits k i t sound some = for_semaphore (thread_at k t).wait i (stands_for k i t sound some)

pub semaphore_create_keeps : (k : Plain) (t name : ℕ) (spec : SemSpec) → LeavesPeriods k (semaphore_create k t name spec)
semaphore_create_keeps k t name spec = keeps_create k Semaphore name _ _ (λ index free is. keeps_beside k _ refl refl refl refl)

pub semaphore_ident_keeps : (k : Plain) (name : ℕ) → LeavesPeriods k (semaphore_ident k name)
semaphore_ident_keeps k name = keeps_ident k Semaphore name

obtaining_keeps : (k : Plain) (t i : ℕ) (obtaining : Obtaining) → (thread_at k t).wait ≡ None → LeavesPeriods k (obtained_at k t i obtaining)
obtaining_keeps k t i Nests free = keeps_done k _ _ _ _ (keeps_beside k _ refl refl refl refl)
obtaining_keeps k t i Takes free = keeps_done k _ _ _ _ (keeps_beside k _ refl refl refl refl)
obtaining_keeps k t i (NotObtained status) free = keeps_refused k status
obtaining_keeps k t i (Enters ticks) free = keeps_waiting k _ (keeps_limited k t (ForSemaphore i (is_mrsp (semaphore_at k i).protocol)) ticks refl free)

pub semaphore_obtain_keeps : (k : Plain) (t : ℕ) (id : Target) (wish : Wish) → (thread_at k t).wait ≡ None → LeavesPeriods k (semaphore_obtain k t id wish)
semaphore_obtain_keeps k t id wish free = keeps_found k (object_named k t Semaphore id) _ (λ i _. obtaining_keeps k t i _ free)

served_keeps : (k : Plain) (i u : ℕ) → awaits (thread_at k u).wait ≡ None → KeepsPeriods k (served_at k i u)
served_keeps k i u none =
    let m = put_semaphore k i (handed_to u (up_to_date k (semaphore_at k i))) in
    keeps_then k m (served_at k i u) (keeps_beside k m refl refl refl refl) (keeps_stop_wait m u (bare Successful) none)

releasing_keeps : (k : Plain) (i : ℕ) (releasing : Releasing) → ((u : ℕ) → releasing ≡ Serves u → awaits (thread_at k u).wait ≡ None) → LeavesPeriods k (released_at k i releasing)
releasing_keeps k i (NotReleased status) none = keeps_refused k status
releasing_keeps k i Unnests none = keeps_done k _ _ _ _ (keeps_beside k _ refl refl refl refl)
releasing_keeps k i (Serves u) none = keeps_done k _ _ _ _ (served_keeps k i u (none u refl))
releasing_keeps k i Frees none = keeps_done k _ _ _ _ (keeps_beside k _ refl refl refl refl)

pub semaphore_release_keeps : (k : Plain) (t : ℕ) (id : Target) → IsSound k → LeavesPeriods k (semaphore_release k t id)
semaphore_release_keeps k t id sound = keeps_found k (object_named k t Semaphore id) _ (λ i _. releasing_keeps k i _ (λ u is. waiter_awaits k i u sound (times-has u (waiting (semaphore_at k i)) (first_stands k i u (serves_first t (up_to_date k (semaphore_at k i)) u is)))))

emptied_keeps : (k : Plain) (i : ℕ) (sem : SemaphoreState) (status : Status) → IsSound k → KeepsPeriods k (emptied_at k i sem status)
emptied_keeps k i sem status sound =
    keeps_then k (put_semaphore k i sem) (emptied_at k i sem status) (keeps_beside k (put_semaphore k i sem) refl refl refl refl)
    (keeps_stop_each (put_semaphore k i sem) (waiting (semaphore_at k i)) (bare status) (λ t some. waiter_awaits k i t sound some))

pub semaphore_flush_keeps : (k : Plain) (t : ℕ) (id : Target) → IsSound k → LeavesPeriods k (semaphore_flush k t id)
semaphore_flush_keeps k t id sound = keeps_found k (object_named k t Semaphore id) _ (λ i _. keeps_done k _ _ _ _ (emptied_keeps k i (flushed (semaphore_at k i)) Unsatisfied sound))

pub semaphore_delete_keeps : (k : Plain) (t : ℕ) (id : Target) → IsSound k → LeavesPeriods k (semaphore_delete k t id)
semaphore_delete_keeps k t id sound = keeps_found k (object_named k t Semaphore id) _ (λ i _. keeps_if k (is_owned (semaphore_at k i)) _ _ (λ _. keeps_refused k _)
    (λ _. keeps_done k _ _ _ _ (keeps_then k (emptied_at k i no_semaphore ObjectWasDeleted) (without_semaphore k i) (emptied_keeps k i no_semaphore ObjectWasDeleted sound) (keeps_names (emptied_at k i no_semaphore ObjectWasDeleted) (without_semaphore k i).table))))

setting_keeps : (k : Plain) (i c prio : ℕ) (setting : CeilingSetting) → LeavesPeriods k (set_at k i c prio setting)
setting_keeps k i c prio (NotSet status) = keeps_refused k status
setting_keeps k i c prio Keeps = keeps_done k _ _ _ _ (keeps_same k)
setting_keeps k i c prio Sets = keeps_done k _ _ _ _ (keeps_beside k _ refl refl refl refl)

pub semaphore_set_priority_keeps : (k : Plain) (t : ℕ) (id : Target) (c prio : ℕ) → LeavesPeriods k (semaphore_set_priority k t id c prio)
semaphore_set_priority_keeps k t id c prio = keeps_found k (object_named k t Semaphore id) _ (λ i _. setting_keeps k i c prio _)

-- ---- the partition manager

pub partition_create_keeps : (k : Plain) (name start length size : ℕ) → LeavesPeriods k (partition_create k name start length size)
partition_create_keeps k name start length size = keeps_create k Partition name (memory_refusal start length size) _ (λ index free is. keeps_beside k _ refl refl refl refl)

pub partition_ident_keeps : (k : Plain) (name : ℕ) → LeavesPeriods k (partition_ident k name)
partition_ident_keeps k name = keeps_ident k Partition name

taken_keeps : (k : Plain) (i : ℕ) (free : List ℕ) → LeavesPeriods k (taken_first k i free)
taken_keeps k i [] = keeps_refused k _
taken_keeps k i (address ∷ free) = keeps_done k _ _ _ _ (keeps_beside k _ refl refl refl refl)

pub partition_get_keeps : (k : Plain) (t : ℕ) (id : Target) → LeavesPeriods k (partition_get k t id)
partition_get_keeps k t id = keeps_found k (object_named k t Partition id) _ (λ i _. taken_keeps k i (partition_at k i).free)

pub partition_return_keeps : (k : Plain) (t : ℕ) (id address : Target) → LeavesPeriods k (partition_return k t id address)
partition_return_keeps k t id address = keeps_found k (object_named k t Partition id) _ (λ i _. keeps_if k (is_out (partition_at k i) (bits_of k t address)) _ _
    (λ _. keeps_done k _ _ _ _ (keeps_beside k _ refl refl refl refl))
    (λ _. keeps_refused k _))

pub partition_delete_keeps : (k : Plain) (t : ℕ) (id : Target) → LeavesPeriods k (partition_delete k t id)
partition_delete_keeps k t id = keeps_found k (object_named k t Partition id) _ (λ i _. keeps_if k (is_in_use (partition_at k i)) _ _
    (λ _. keeps_refused k _)
    (λ _. keeps_done k _ _ _ _ (keeps_beside k _ refl refl refl refl)))

-- ---- all directives

-- whether a line is a directive of the rate-monotonic manager
abbrev pub is_of_periods : Op → Bool
is_of_periods (PeriodCreate name var) = true
is_of_periods (PeriodIdent name var) = true
is_of_periods (PeriodPeriod id length) = true
is_of_periods (PeriodCancel id) = true
is_of_periods (PeriodDelete id) = true
is_of_periods op = false

-- the same of what stands at a line or behind the last
abbrev pub is_of_periods_at : Option Op → Bool
is_of_periods_at None = false
is_of_periods_at (Some op) = is_of_periods op

op_leaves : (k : Plain) (t : ℕ) (op : Op) → IsActing k t → is_of_periods op ≡ false → LeavesPeriods k (directive k t (Some op))
op_leaves k t (TaskCreate name prio var) acts other = task_create_keeps k t name.bits prio acts.sound
op_leaves k t (TaskIdent name var) acts other = task_ident_keeps k name.bits
op_leaves k t (TaskStart id body) acts other = task_start_keeps k t id body
op_leaves k t (TaskSuspend id) acts other = task_suspend_keeps k t id
op_leaves k t (TaskResume id) acts other = task_resume_keeps k t id
op_leaves k t (TaskSetPriority id prio var) acts other = task_set_priority_keeps k t id prio
op_leaves k t (TaskGetPriority id cluster var) acts other = task_get_priority_keeps k t id cluster
op_leaves k t (TaskDelete id) acts other = task_delete_keeps k t id acts.sound
op_leaves k t (TaskWakeAfter n) acts other = task_wake_after_keeps k t n acts.waits_not
op_leaves k t (EventSend id set) acts other = event_send_keeps k t id set
op_leaves k t (EventReceive set all wish var) acts other = event_receive_keeps k t set all wish acts.waits_not
op_leaves k t (SemCreate name count kind order protocol ceiling var) acts other =
    semaphore_create_keeps k t name.bits (record { count = count; kind = kind; order = order; protocol = protocol; ceiling = ceiling })
op_leaves k t (SemIdent name var) acts other = semaphore_ident_keeps k name.bits
op_leaves k t (SemObtain id wish) acts other = semaphore_obtain_keeps k t id wish acts.waits_not
op_leaves k t (SemRelease id) acts other = semaphore_release_keeps k t id acts.sound
op_leaves k t (SemFlush id) acts other = semaphore_flush_keeps k t id acts.sound
op_leaves k t (SemDelete id) acts other = semaphore_delete_keeps k t id acts.sound
op_leaves k t (SemSetPriority id cluster prio var) acts other = semaphore_set_priority_keeps k t id cluster prio
op_leaves k t (BarrierCreate name automatic most var) acts other = barrier_create_keeps k name.bits automatic most
op_leaves k t (BarrierIdent name var) acts other = barrier_ident_keeps k name.bits
op_leaves k t (BarrierWait id ticks) acts other = barrier_wait_keeps k t id ticks acts.sound acts.waits_not
op_leaves k t (BarrierRelease id var) acts other = barrier_release_keeps k t id acts.sound
op_leaves k t (BarrierDelete id) acts other = barrier_delete_keeps k t id acts.sound
op_leaves k t (PartCreate name start length size var) acts other = partition_create_keeps k name.bits start length size
op_leaves k t (PartIdent name var) acts other = partition_ident_keeps k name.bits
op_leaves k t (PartGet id var) acts other = partition_get_keeps k t id
op_leaves k t (PartReturn id address) acts other = partition_return_keeps k t id address
op_leaves k t (PartDelete id) acts other = partition_delete_keeps k t id
op_leaves k t (PeriodCreate name var) acts other = absurd (false≢true (sym other))
op_leaves k t (PeriodIdent name var) acts other = absurd (false≢true (sym other))
op_leaves k t (PeriodPeriod id length) acts other = absurd (false≢true (sym other))
op_leaves k t (PeriodCancel id) acts other = absurd (false≢true (sym other))
op_leaves k t (PeriodDelete id) acts other = absurd (false≢true (sym other))
op_leaves k t (Work n) acts other = task_exit_keeps k t (ap has_begun acts.started)
op_leaves k t (Goto target) acts other = task_exit_keeps k t (ap has_begun acts.started)

-- A line that is no directive of the rate-monotonic manager, and the exit behind the last line, leave periods alone.
pub line_keeps : (k : Plain) (t : ℕ) (op : Option Op) → IsActing k t → is_of_periods_at op ≡ false → KeepsPeriods k (changed k (directive k t op))
line_keeps k t None acts other = (task_exit_keeps k t (ap has_begun acts.started)).keeps
line_keeps k t (Some op) acts other = (op_leaves k t op acts other).keeps

-- So does the return from a directive that waited.
pub back_keeps : (k : Plain) (t : ℕ) (reply : Reply) → KeepsPeriods k (changed k (back k t reply))
back_keeps k t reply = keeps_put k t (record (thread_at k t) { finished = None }) refl

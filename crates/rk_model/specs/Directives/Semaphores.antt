-- The directives of the semaphore manager: what they do to one semaphore, and the rules.
use Rattle.std.specs.Prelude.{ℕ, ◌+◌, ◌-◌, ◌==◌, nat_lt, List, [], ◌∷◌, Bool, true, false, not, ◌&&◌, ◌||◌, Option, Some, None, is_none, is_some, length, map, replicate, if◌then◌else◌}
use Rattle.std.specs.List.{slice_index_or, slice_set}
use Rattle.rk_model.specs.declared.ids.Class.TheVariants.{Semaphore}
use Rattle.rk_model.specs.declared.entry.Reply.{Reply}
use Rattle.rk_model.specs.declared.limits.TheConstants.{LEAST_URGENT, MOST_CLUSTERS, MOST_COUNT, MOST_NESTING}
use Rattle.rk_model.specs.declared.scenario.Target.{Target}
use Rattle.rk_model.specs.declared.scenario.Wish.{Wish}
use Rattle.rk_model.specs.declared.scenario.Wish.TheVariants.{NoWait, Limit}
use Rattle.rk_model.specs.declared.semaphore.Protocol.{Protocol}
use Rattle.rk_model.specs.declared.semaphore.Protocol.TheVariants.{NoProtocol, Inherit, Ceiling, Mrsp}
use Rattle.rk_model.specs.declared.semaphore.SemKind.{SemKind}
use Rattle.rk_model.specs.declared.semaphore.SemKind.TheVariants.{Counting, Simple, Binary}
use Rattle.rk_model.specs.declared.semaphore.SemSpec.{SemSpec}
use Rattle.rk_model.specs.declared.status.Status.{Status}
use Rattle.rk_model.specs.declared.status.Status.TheVariants.{Successful, InvalidNumber, NotDefined, ResourceInUse, Unsatisfied, IncorrectState, InvalidPriority, NotOwnerOfResource, ObjectWasDeleted, Waits}
use Rattle.rk_model.specs.declared.waiting.Caller.{Caller}
use Rattle.rk_model.specs.declared.state.Wait.TheVariants.{ForSemaphore}
use Rattle.rk_model.specs.declared.waiting.Order.{Order}
use Rattle.rk_model.specs.declared.waiting.Order.TheVariants.{Fifo, Priority}
use Rattle.rk_model.specs.declared.waiting.Waiter.{Waiter}
use Rattle.rk_model.specs.State.{Plain, SemaphoreState, no_ceilings, no_semaphore, semaphore_at, put_semaphore}
use Rattle.rk_model.specs.Queues.{Queue, threads, empty, reordered, first_of, served_by}
use Rattle.rk_model.specs.Scheduling.Chains.{reaches, waits_on}
use Rattle.rk_model.specs.Scheduling.Priorities.{ceiling_in, home_prio, is_one}
use Rattle.rk_model.specs.Directives.Objects.{object_named, create, ident, without_object}
use Rattle.rk_model.specs.Directives.Outcomes.{Outcome, Refused, Waiting, done, on_found}
use Rattle.rk_model.specs.Directives.Waits.{caller_at, with_waiter, begin_limited, stop_wait, stop_each, bare}

-- ---- kinds and protocols

-- whether it counts
abbrev pub is_counting : SemKind → Bool
is_counting Counting = true
is_counting Simple = false
is_counting Binary = false

-- whether it has an owner or none
abbrev pub is_binary : SemKind → Bool
is_binary Counting = false
is_binary Simple = false
is_binary Binary = true

-- whether it raises its owner's priority
abbrev pub has_protocol : Protocol → Bool
has_protocol NoProtocol = false
has_protocol Inherit = true
has_protocol Ceiling = true
has_protocol Mrsp = true

-- whether it has a ceiling
abbrev pub has_ceiling : Protocol → Bool
has_ceiling NoProtocol = false
has_ceiling Inherit = false
has_ceiling Ceiling = true
has_ceiling Mrsp = true

-- whether it is that of a ceiling semaphore
abbrev pub is_ceiling : Protocol → Bool
is_ceiling NoProtocol = false
is_ceiling Inherit = false
is_ceiling Ceiling = true
is_ceiling Mrsp = false

-- whether it is MrsP
abbrev pub is_mrsp : Protocol → Bool
is_mrsp NoProtocol = false
is_mrsp Inherit = false
is_mrsp Ceiling = false
is_mrsp Mrsp = true

-- ---- sem.create

-- a protocol other than none, without an owner whose priority it could raise
abbrev pub has_undefined_protocol : SemSpec → Bool
has_undefined_protocol spec = has_protocol spec.protocol && not (is_binary spec.kind)

-- the count is above 1, though it doesn't count
abbrev pub has_great_count : SemSpec → Bool
has_great_count spec = not (is_counting spec.kind) && nat_lt 1 spec.count

-- it would be owned at once, though it is MrsP
abbrev pub is_owned_mrsp : SemSpec → Bool
is_owned_mrsp spec = is_mrsp spec.protocol && (spec.count == 0)

-- the ceiling is no priority
abbrev pub has_invalid_ceiling : SemSpec → Bool
has_invalid_ceiling spec = has_ceiling spec.protocol && ((spec.ceiling == 0) || nat_lt LEAST_URGENT spec.ceiling)

-- it would be a ceiling semaphore that is owned at once, and the creator's priority is less than the ceiling
abbrev pub is_below_ceiling : SemSpec → ℕ → Bool
is_below_ceiling spec prio = is_ceiling spec.protocol && ((spec.count == 0) && nat_lt prio spec.ceiling)

-- why a task of a priority can't create such a semaphore, if it can't: the first of these conditions that holds decides
abbrev pub spec_refusal : SemSpec → ℕ → Option Status
spec_refusal spec prio =
    if has_undefined_protocol spec then Some NotDefined
    else if has_great_count spec then Some InvalidNumber
    else if is_owned_mrsp spec then Some InvalidNumber
    else if has_invalid_ceiling spec then Some InvalidPriority
    else if is_below_ceiling spec prio then Some InvalidPriority
    else None

-- the status of a refusal; SUCCESSFUL where there is none
abbrev pub status_of_refusal : Option Status → Status
status_of_refusal None = Successful
status_of_refusal (Some status) = status

-- rtems_semaphore_create: NOT_DEFINED where the protocol isn't none and the kind isn't binary; INVALID_NUMBER where the kind isn't counting and the count is above 1, or the protocol is MrsP and the count is 0; INVALID_PRIORITY where the protocol is ceiling or MrsP and the ceiling is 0 or above 255, or the protocol is ceiling, the count is 0 and the caller's priority is less than the ceiling; else SUCCESSFUL.
abbrev pub judged : SemSpec → Caller → Status
judged spec by = status_of_refusal (spec_refusal spec by.prio)

-- the semaphore with another owner, by whom it is obtained once
abbrev pub owned_by : ℕ → SemaphoreState → SemaphoreState
owned_by t sem = record sem { owner = Some t; nesting = 1 }

-- the ceilings of a semaphore that was created with a protocol and a ceiling by a task of this home: a ceiling semaphore has one there alone, a MrsP one has one in every cluster
abbrev pub new_ceilings : Protocol → ℕ → ℕ → List ℕ
new_ceilings NoProtocol ceiling home = no_ceilings
new_ceilings Inherit ceiling home = no_ceilings
new_ceilings Ceiling ceiling home = slice_set no_ceilings home ceiling
new_ceilings Mrsp ceiling home = replicate MOST_CLUSTERS ceiling

-- a semaphore without an owner that was created by a task of this home, which has a count unless it is a binary one
abbrev pub free_semaphore : SemSpec → ℕ → SemaphoreState
free_semaphore spec home =
    record {
      live = true;
      kind = spec.kind;
      protocol = spec.protocol;
      ceilings = new_ceilings spec.protocol spec.ceiling home;
      count = if is_binary spec.kind then 0 else spec.count;
      owner = None;
      nesting = 0;
      queue = empty spec.order;
    }

-- A semaphore that a task created, for which none waits: a binary one with count 0 is owned by its creator with nesting 1, and a ceiling semaphore belongs to the creator's home.
abbrev pub new_semaphore : SemSpec → Caller → SemaphoreState
new_semaphore spec by =
    if is_binary spec.kind && (spec.count == 0) then owned_by by.thread (free_semaphore spec by.home) else free_semaphore spec by.home

-- ---- sem.obtain

-- whether it has an owner
abbrev pub is_owned : SemaphoreState → Bool
is_owned sem = is_some sem.owner

-- whether a thread owns it
abbrev pub owns : ℕ → SemaphoreState → Bool
owns t sem = is_one t sem.owner

-- whether it is free: a binary one without owner, a counting or simple one with a count above 0
abbrev pub is_free : SemaphoreState → Bool
is_free sem = if is_binary sem.kind then not (is_owned sem) else nat_lt 0 sem.count

-- What an obtain comes to: the caller owns the semaphore and obtains it once more, it takes a free one, it is refused with a status, or it waits with a limit of so many ticks.
pub data Obtaining : Type 0 where
  Nests : Obtaining
  Takes : Obtaining
  NotObtained : Status → Obtaining
  Enters : ℕ → Obtaining

-- the owner obtains it once more, unless the nesting is as great as it can be
abbrev pub nesting_by : SemaphoreState → Obtaining
nesting_by sem = if sem.nesting == MOST_NESTING then NotObtained Unsatisfied else Nests

-- it isn't free: UNSATISFIED with the wish `nowait`; INCORRECT_STATE where it has an owner and the chain of the owner reaches the caller; else the caller waits
abbrev pub obtaining_later : Wish → Bool → SemaphoreState → Obtaining
obtaining_later NoWait closes sem = NotObtained Unsatisfied
obtaining_later (Limit ticks) closes sem = if is_owned sem && closes then NotObtained IncorrectState else Enters ticks

-- whether it is a ceiling semaphore of another cluster than this home
abbrev pub is_elsewhere : ℕ → SemaphoreState → Bool
is_elsewhere home sem = has_ceiling sem.protocol && is_none (ceiling_in home sem)

-- whether a priority is less than this ceiling, if it is one
abbrev pub is_less : ℕ → Option ℕ → Bool
is_less prio None = false
is_less prio (Some ceiling) = nat_lt prio ceiling

-- the owner obtains it once more, unless it is MrsP
abbrev pub obtaining_again : SemaphoreState → Obtaining
obtaining_again sem = if is_mrsp sem.protocol then NotObtained Unsatisfied else nesting_by sem

-- rtems_semaphore_obtain, where `closes` says whether the chain of the owner reaches the caller: NOT_DEFINED where it is a ceiling semaphore of another cluster than the caller's home; where the caller owns it, UNSATISFIED for MrsP, else the nesting rises by one; INVALID_PRIORITY where it has a ceiling in the caller's home and the caller's priority is less than it; where it is free, the caller takes it; UNSATISFIED where the wish is `nowait`; INCORRECT_STATE where it has an owner and `closes` holds; else the caller waits. A nesting of 18446744073709551615 can't rise: UNSATISFIED.
abbrev pub obtaining : Caller → Wish → Bool → SemaphoreState → Obtaining
obtaining by wish closes sem =
    if is_elsewhere by.home sem then NotObtained NotDefined
    else if owns by.thread sem then obtaining_again sem
    else if is_less by.prio (ceiling_in by.home sem) then NotObtained InvalidPriority
    else if is_free sem then Takes
    else obtaining_later wish closes sem

-- the owner has obtained it once more
abbrev pub nested : SemaphoreState → SemaphoreState
nested sem = record sem { nesting = sem.nesting + 1 }

-- a thread has taken it: it owns a binary one with nesting 1, and the count of any other has fallen by one
abbrev pub taken : ℕ → SemaphoreState → SemaphoreState
taken t sem = if is_binary sem.kind then owned_by t sem else record sem { count = sem.count - 1 }

-- the semaphore after an obtain that came to this
abbrev pub after_obtaining : Obtaining → Caller → SemaphoreState → SemaphoreState
after_obtaining Nests by sem = nested sem
after_obtaining Takes by sem = taken by.thread sem
after_obtaining (NotObtained status) by sem = sem
after_obtaining (Enters ticks) by sem = with_waiter by sem

-- the status of it
abbrev pub status_of_obtaining : Obtaining → Status
status_of_obtaining Nests = Successful
status_of_obtaining Takes = Successful
status_of_obtaining (NotObtained status) = status
status_of_obtaining (Enters ticks) = Waits

-- ---- sem.release

-- What a release comes to: it is refused with a status, the nesting falls, the waiter of a thread is served, or the semaphore becomes free, or has a greater count.
pub data Releasing : Type 0 where
  NotReleased : Status → Releasing
  Unnests : Releasing
  Serves : ℕ → Releasing
  Frees : Releasing

-- whether it counts, and its count is as great as it can be
abbrev pub is_full : SemaphoreState → Bool
is_full sem = is_counting sem.kind && (sem.count == MOST_COUNT)

-- with a waiter to be served, this is served; without one, UNSATISFIED where it is counting and its count is 4294967295
abbrev pub releasing_to : Option ℕ → SemaphoreState → Releasing
releasing_to (Some u) sem = Serves u
releasing_to None sem = if is_full sem then NotReleased Unsatisfied else Frees

-- rtems_semaphore_release: NOT_OWNER_OF_RESOURCE where it is binary and the caller doesn't own it; where it is binary and the nesting is above 1, the nesting falls by one; where there is a waiter, the one that the queue serves next leaves it, and its wait ends with SUCCESSFUL; UNSATISFIED where it is counting and its count is 4294967295; else a counting one's count rises by one, a simple one's becomes 1, and a binary one has no owner.
abbrev pub releasing : ℕ → SemaphoreState → Releasing
releasing t sem =
    if is_binary sem.kind && not (owns t sem) then NotReleased NotOwnerOfResource
    else if is_binary sem.kind && nat_lt 1 sem.nesting then Unnests
    else releasing_to (first_of sem.queue) sem

-- the owner has released it once of several times
abbrev pub unnested : SemaphoreState → SemaphoreState
unnested sem = record sem { nesting = sem.nesting - 1 }

-- a thread has got it, and owns a binary one with nesting 1
abbrev pub given_to : ℕ → SemaphoreState → SemaphoreState
given_to u sem = if is_binary sem.kind then owned_by u sem else sem

-- the queue has served the waiter of a thread, which has got it
abbrev pub handed_to : ℕ → SemaphoreState → SemaphoreState
handed_to u sem = given_to u (record sem { queue = served_by u sem.queue })

-- the same for the thread to be served, if there is one
abbrev pub handed : Option ℕ → SemaphoreState → SemaphoreState
handed None sem = sem
handed (Some u) sem = handed_to u sem

-- it has become free, or its count has risen, as its kind says
abbrev pub freed_by : SemKind → SemaphoreState → SemaphoreState
freed_by Counting sem = record sem { count = sem.count + 1 }
freed_by Simple sem = record sem { count = 1 }
freed_by Binary sem = record sem { owner = None; nesting = 0 }

-- it is released, and none waits for it
abbrev pub freed : SemaphoreState → SemaphoreState
freed sem = freed_by sem.kind sem

-- the semaphore after a release that came to this
abbrev pub after_releasing : Releasing → SemaphoreState → SemaphoreState
after_releasing (NotReleased status) sem = sem
after_releasing Unnests sem = unnested sem
after_releasing (Serves u) sem = handed_to u sem
after_releasing Frees sem = freed sem

-- the status of it
abbrev pub status_of_releasing : Releasing → Status
status_of_releasing (NotReleased status) = status
status_of_releasing Unnests = Successful
status_of_releasing (Serves u) = Successful
status_of_releasing Frees = Successful

-- ---- sem.flush

-- rtems_semaphore_flush: all waits end, with UNSATISFIED, and none waits for it any more
abbrev pub flushed : SemaphoreState → SemaphoreState
flushed sem = record sem { queue = empty sem.queue.order }

-- ---- sem.delete

-- rtems_semaphore_delete: RESOURCE_IN_USE where it has an owner; else all waits end with OBJECT_WAS_DELETED, and it lives no longer
abbrev pub status_of_deleting : SemaphoreState → Status
status_of_deleting sem = if is_owned sem then ResourceInUse else Successful

-- the semaphore after that
abbrev pub after_deleting : SemaphoreState → SemaphoreState
after_deleting sem = if is_owned sem then sem else no_semaphore

-- ---- sem.set_priority

-- What a setting of a ceiling comes to: it is refused with a status, nothing changes, or there is another ceiling.
pub data CeilingSetting : Type 0 where
  NotSet : Status → CeilingSetting
  Keeps : CeilingSetting
  Sets : CeilingSetting

-- rtems_semaphore_set_priority: INVALID_PRIORITY where the priority is above 255; NOT_DEFINED where it has no ceiling in the cluster; with priority 0 nothing changes; else its ceiling in that cluster is set.
abbrev pub setting_ceiling : ℕ → ℕ → SemaphoreState → CeilingSetting
setting_ceiling c prio sem =
    if nat_lt LEAST_URGENT prio then NotSet InvalidPriority
    else if is_none (ceiling_in c sem) then NotSet NotDefined
    else if prio == 0 then Keeps
    else Sets

-- the semaphore with another ceiling in a cluster
abbrev pub with_ceiling : ℕ → ℕ → SemaphoreState → SemaphoreState
with_ceiling c prio sem = record sem { ceilings = slice_set sem.ceilings c prio }

-- the semaphore after a setting that came to this
abbrev pub after_setting : CeilingSetting → ℕ → ℕ → SemaphoreState → SemaphoreState
after_setting (NotSet status) c prio sem = sem
after_setting Keeps c prio sem = sem
after_setting Sets c prio sem = with_ceiling c prio sem

-- the reply to it: the ceiling there before
abbrev pub reply_to_setting : CeilingSetting → ℕ → SemaphoreState → Reply
reply_to_setting (NotSet status) c sem = bare status
reply_to_setting Keeps c sem = record { status = Successful; out = slice_index_or sem.ceilings c 0 }
reply_to_setting Sets c sem = record { status = Successful; out = slice_index_or sem.ceilings c 0 }

-- ---- the priorities of those that wait

-- a thread waits for it with another priority
abbrev pub with_prio_of : ℕ → ℕ → SemaphoreState → SemaphoreState
with_prio_of u prio sem = record sem { queue = reordered u prio sem.queue }

-- a waiter with the priority that its thread has in its home
abbrev pub with_present_prio : Plain → Waiter → Waiter
with_present_prio k waiter = record waiter { prio = home_prio k waiter.thread }

-- A queue that serves by priority, brought up to date: each waiter has the priority that its thread has in its home.
abbrev pub up_to_date_by : Plain → Order → Queue → Queue
up_to_date_by k Fifo queue = queue
up_to_date_by k Priority queue = record queue { arrivals = map (with_present_prio k) queue.arrivals }

-- the semaphore whose queue is up to date
abbrev pub up_to_date : Plain → SemaphoreState → SemaphoreState
up_to_date k sem = record sem { queue = up_to_date_by k sem.queue.order sem.queue }

-- ---- the rules

-- why a semaphore can't be created so far: its protocol is MrsP, which isn't built, or one of the conditions of `judged` holds
abbrev pub create_refusal : SemSpec → ℕ → Option Status
create_refusal spec prio = if is_mrsp spec.protocol then Some NotDefined else spec_refusal spec prio

-- sem.create (rtems_semaphore_create): INVALID_NAME where the name is 0; NOT_DEFINED where the protocol is MrsP, which no text says so far; the refusal of `judged`, where it isn't SUCCESSFUL; TOO_MANY where 64 semaphores live; else a semaphore for which none waits, and which the caller owns where it is a binary one with count 0. Out: its id.
abbrev pub semaphore_create : Plain → ℕ → ℕ → SemSpec → Outcome
semaphore_create k t name spec =
    create k Semaphore name (create_refusal spec (home_prio k t)) (λ index next. put_semaphore next index (new_semaphore spec (caller_at k t)))

-- sem.ident (rtems_semaphore_ident): INVALID_NAME where no live semaphore has the name. Out: the id of the live semaphore of least index that has it.
abbrev pub semaphore_ident : Plain → ℕ → Outcome
semaphore_ident k name = ident k Semaphore name

-- whether the chain of a semaphore's owner, if it has one, reaches a thread
abbrev pub reaches_from : Plain → Option ℕ → ℕ → Bool
reaches_from k None t = false
reaches_from k (Some owner) t = reaches (waits_on k) (length k.threads) owner t

-- a caller has found a semaphore, and its obtain comes to this
abbrev pub obtained_at : Plain → ℕ → ℕ → Obtaining → Outcome
obtained_at k t i Nests = done 0 (put_semaphore k i (nested (semaphore_at k i)))
obtained_at k t i Takes = done 0 (put_semaphore k i (taken t (semaphore_at k i)))
obtained_at k t i (NotObtained status) = Refused status
obtained_at k t i (Enters ticks) = Waiting (begin_limited k t (ForSemaphore i (is_mrsp (semaphore_at k i).protocol)) ticks)

-- sem.obtain (rtems_semaphore_obtain): INVALID_ID where the semaphore is unknown; NOT_DEFINED where it is a ceiling semaphore of another cluster than the caller's home; where the caller owns it, UNSATISFIED for MrsP, else its nesting rises by one; INVALID_PRIORITY where the caller's priority is less than its ceiling in the caller's home; where it is free, the caller takes it; UNSATISFIED with the wish `nowait`; INCORRECT_STATE where it has an owner whose chain reaches the caller; else the caller waits with the wish as its limit, and for a MrsP semaphore it spins.
abbrev pub semaphore_obtain : Plain → ℕ → Target → Wish → Outcome
semaphore_obtain k t id wish =
    on_found (object_named k t Semaphore id) (λ i. obtained_at k t i (obtaining (caller_at k t) wish (reaches_from k (semaphore_at k i).owner t) (semaphore_at k i)))

-- a semaphore has served a thread, which waits no longer: its wait ends with SUCCESSFUL
abbrev pub served_at : Plain → ℕ → ℕ → Plain
served_at k i u = stop_wait (put_semaphore k i (handed_to u (up_to_date k (semaphore_at k i)))) u (bare Successful)

-- a caller has found a semaphore, and its release comes to this
abbrev pub released_at : Plain → ℕ → Releasing → Outcome
released_at k i (NotReleased status) = Refused status
released_at k i Unnests = done 0 (put_semaphore k i (unnested (semaphore_at k i)))
released_at k i (Serves u) = done 0 (served_at k i u)
released_at k i Frees = done 0 (put_semaphore k i (freed (semaphore_at k i)))

-- sem.release (rtems_semaphore_release): INVALID_ID where the semaphore is unknown; NOT_OWNER_OF_RESOURCE where it is binary and the caller doesn't own it; where it is binary and the nesting is above 1, the nesting falls by one; where there is a waiter, the one that the queue serves next by the present priorities leaves it, and its wait ends with SUCCESSFUL; UNSATISFIED where it is counting and its count is 4294967295; else a counting one's count rises by one, a simple one's becomes 1, and a binary one has no owner.
abbrev pub semaphore_release : Plain → ℕ → Target → Outcome
semaphore_release k t id =
    on_found (object_named k t Semaphore id) (λ i. released_at k i (releasing t (up_to_date k (semaphore_at k i))))

-- the state in which another semaphore stands at an index, for which none waits, and the waits for the one before it have ended with a status
abbrev pub emptied_at : Plain → ℕ → SemaphoreState → Status → Plain
emptied_at k i sem status = stop_each (put_semaphore k i sem) (threads (semaphore_at k i).queue.arrivals) (bare status)

-- sem.flush (rtems_semaphore_flush): INVALID_ID where the semaphore is unknown; else all its waits end with UNSATISFIED.
abbrev pub semaphore_flush : Plain → ℕ → Target → Outcome
semaphore_flush k t id =
    on_found (object_named k t Semaphore id) (λ i. done 0 (emptied_at k i (flushed (semaphore_at k i)) Unsatisfied))

-- the state in which a semaphore lives no longer: its waits have ended with OBJECT_WAS_DELETED, and its index is free
abbrev pub without_semaphore : Plain → ℕ → Plain
without_semaphore k i = without_object (emptied_at k i no_semaphore ObjectWasDeleted) Semaphore i

-- sem.delete (rtems_semaphore_delete): INVALID_ID where the semaphore is unknown; RESOURCE_IN_USE where it has an owner; else its waits end with OBJECT_WAS_DELETED and it lives no longer.
abbrev pub semaphore_delete : Plain → ℕ → Target → Outcome
semaphore_delete k t id =
    on_found (object_named k t Semaphore id) (λ i. if is_owned (semaphore_at k i) then Refused ResourceInUse else done 0 (without_semaphore k i))

-- a caller has found a semaphore, and the setting of its ceiling comes to this
abbrev pub set_at : Plain → ℕ → ℕ → ℕ → CeilingSetting → Outcome
set_at k i c prio (NotSet status) = Refused status
set_at k i c prio Keeps = done (slice_index_or (semaphore_at k i).ceilings c 0) k
set_at k i c prio Sets = done (slice_index_or (semaphore_at k i).ceilings c 0) (put_semaphore k i (with_ceiling c prio (semaphore_at k i)))

-- sem.set_priority (rtems_semaphore_set_priority): INVALID_ID where the semaphore is unknown; INVALID_PRIORITY where the priority is above 255; NOT_DEFINED where it has no ceiling in the named cluster, as it is neither a ceiling nor a MrsP semaphore, or a ceiling semaphore that belongs to another one; with priority 0 nothing changes; else its ceiling there is set. Out: the ceiling there before the call.
abbrev pub semaphore_set_priority : Plain → ℕ → Target → ℕ → ℕ → Outcome
semaphore_set_priority k t id c prio =
    on_found (object_named k t Semaphore id) (λ i. set_at k i c prio (setting_ceiling c prio (semaphore_at k i)))

-- whether a thread owns one of these semaphores
abbrev pub has_obtained : List SemaphoreState → ℕ → Bool
has_obtained [] t = false
has_obtained (sem ∷ semaphores) t = owns t sem || has_obtained semaphores t

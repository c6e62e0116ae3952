-- What the directives of the semaphore manager do to lent parts.
use Rattle.std.proofs.Common.{◌≡◌, ◌≢◌, ◌⊎◌, inl, inr, ℕ, ◌-◌, ◌≤◌, List, [], ◌∷◌, Bool, true, false, cond, not, ◌==◌, ◌&&◌, ◌||◌, nat_lt, map, Option, Some, None, Ok, Err, IfSome, IfNone, arith, refl, sym, ap, ◌∙◌, subst}
use Rattle.std.proofs.lemmas.Bool.{false≢true}
use Rattle.rk_model.specs.declared.entry.Answer.{Answer}
use Rattle.rk_model.specs.declared.entry.Answer.TheVariants as told
use Rattle.rk_model.specs.declared.entry.Reply.{Reply}
use Rattle.rk_model.specs.declared.ids.Class.TheVariants.{Semaphore}
use Rattle.rk_model.specs.declared.scenario.Scenario.{Scenario}
use Rattle.rk_model.specs.declared.scenario.Wish.{Wish}
use Rattle.rk_model.specs.declared.scenario.Wish.TheVariants.{NoWait, Limit}
use Rattle.rk_model.specs.declared.semaphore.Protocol.{Protocol}
use Rattle.rk_model.specs.declared.semaphore.Protocol.TheVariants.{NoProtocol, Inherit, Ceiling, Mrsp}
use Rattle.rk_model.specs.declared.semaphore.SemKind.{SemKind}
use Rattle.rk_model.specs.declared.semaphore.SemKind.TheVariants.{Counting, Simple, Binary}
use Rattle.rk_model.specs.declared.semaphore.SemSpec.{SemSpec}
use Rattle.rk_model.specs.declared.state.Wait.TheVariants.{ForSemaphore}
use Rattle.rk_model.specs.declared.status.Status.{Status}
use Rattle.rk_model.specs.declared.status.Status.TheVariants.{Successful, InvalidNumber, NotDefined, ResourceInUse, Unsatisfied, IncorrectState, InvalidPriority, NotOwnerOfResource, ObjectWasDeleted, Waits}
use Rattle.rk_model.specs.declared.waiting.Caller.{Caller}
use Rattle.rk_model.specs.declared.waiting.Order.{Order}
use Rattle.rk_model.specs.declared.waiting.Order.TheVariants.{Fifo, Priority}
use Rattle.rk_model.specs.declared.waiting.Wake.{Wake}
use Rattle.rk_model.specs.declared.waiting.Waiter.{Waiter}
use Rattle.rk_model.specs.Ids.{id_of}
use Rattle.rk_model.specs.Lists.{has, nth, with_nth}
use Rattle.rk_model.specs.Names.{Table}
use Rattle.rk_model.specs.Queues.{Queue, threads, clusters, first_of, first_in, served_by, ended, IsQueue}
use Rattle.rk_model.specs.State.{Plain, SemaphoreState, no_semaphore, semaphore_at, put_semaphore}
use Rattle.rk_model.specs.Directives.Objects.{has_begun, create, without_object}
use Rattle.rk_model.specs.Directives.Outcomes.{Outcome, Refused, Waiting, done, answer_of, changed}
use Rattle.rk_model.specs.Directives.Semaphores.{is_binary, is_mrsp, has_undefined_protocol, has_great_count, is_owned_mrsp, has_invalid_ceiling, is_below_ceiling, spec_refusal, status_of_refusal, judged, is_owned, owns, is_free, Obtaining, Nests, Takes, NotObtained, Enters, is_elsewhere, is_less, nesting_by, obtaining_again, obtaining_later, obtaining, owned_by, nested, taken, after_obtaining, status_of_obtaining, Releasing, NotReleased, Unnests, Serves, Frees, releasing_to, releasing, unnested, handed_to, freed, freed_by, is_full, after_releasing, status_of_releasing, flushed, after_deleting, with_present_prio, up_to_date_by, up_to_date, new_semaphore, free_semaphore, create_refusal, semaphore_create, reaches_from, obtained_at, released_at, emptied_at, without_semaphore}
use Rattle.rk_model.specs.Directives.Waits.{OfSemaphore, caller_at, with_waiter, start_limited, begin_limited, stop_wait, stop_each, bare}
use Rattle.rk_model.specs.Scheduling.Priorities.{ceiling_in, home_prio, contribution, is_behind, own, prio}
use Rattle.rk_model.proofs.BooleanLemmas.{same_number}
use Rattle.rk_model.proofs.IndexLemmas.{nth-with_same, with_nth-twice}
use Rattle.rk_queue.proofs.ServiceLemmas.{first_waits, first_none}
use Rattle.rk_sem.specs.SemaphoreCalls.{obtained, reply_to_obtain, is_serving, serves, released, reply_to_release, woken_by_releasing, woken_by_release, woken_by_flush, woken_by_remove}
use Rattle.rk_parts.specs.declared.parts.ClusterPart.{ClusterPart}
use Rattle.rk_groups.specs.declared.group.GroupPart.{GroupPart}
use Rattle.rk_groups.specs.GroupObjects.{semaphores_of, semaphore_lent}
use Rattle.rk_parts.specs.Joined.{joined, thread_lent}
use Rattle.rk_groups.specs.Groups.{PutsSemaphore, ended_waits}
use Rattle.rk_parts.specs.Holdings.{held_by, holding_of}
use Rattle.rk_parts.specs.Lent.{Frame}
use Rattle.rk_groups.proofs.GroupLemmas.{ended_is, with_nth-still}
use Rattle.rk_groups.proofs.SemaphoreGroupLemmas.{length_semaphores}
use Rattle.rk_parts.proofs.GroupJoinedLemmas.{semaphore_joined}
use Rattle.rk_directives.specs.Calls.{ticks_of, deleted_at}
use Rattle.rk_directives.specs.Does.{Becomes, BecomesBoth, BecomesEvery, Comes, DoesBoth, DoesEvery, Creates, AllLive, IsQueueOf, KeepsHeld, KeepsOwners, woken, answered, lent_both, with_table}
use Rattle.rk_directives.proofs.KeptHoldingLemmas.{put_owners, still_held}
use Rattle.rk_directives.proofs.DirectiveLemmas.LentLemmas.{laid_kept, home_prio_lent}
use Rattle.rk_directives.proofs.DirectiveLemmas.SemaphoresLemmas.{present_threads, up_to_date_threads, serves_first}
use Rattle.rk_directives.proofs.DirectiveLemmas.LentBarriersLemmas.{queued_live, enter_first, named_woken}

-- ---- what the parts of clusters say alone

-- a queue that is brought up to date is the same in each state that the parts stand for
pub up_to_date_lent : (s : Scenario) (table : Table) (parts : List ClusterPart) (groups : List GroupPart) (sem : SemaphoreState) → up_to_date (lent_both parts groups) sem ≡ up_to_date (joined s table parts groups) sem
up_to_date_lent s table parts groups sem = by sem.queue.order where
  prios : ◌≡◌ {A = Waiter → Waiter} (with_present_prio (lent_both parts groups)) (with_present_prio (joined s table parts groups))
  prios = λ i waiter. record { thread = waiter.thread; cluster = waiter.cluster; prio = home_prio_lent s table parts groups waiter.thread i }

  by : (order : Order) → (let now : SemaphoreState = record sem { queue = up_to_date_by (lent_both parts groups) order sem.queue } in now) ≡ record sem { queue = up_to_date_by (joined s table parts groups) order sem.queue }
  by Fifo = refl
  by Priority = ap (λ (f : Waiter → Waiter). (let now : SemaphoreState = record sem { queue = record sem.queue { arrivals = map f sem.queue.arrivals } } in now)) prios

-- the caller, as its parts have it
caller_is : (s : Scenario) (table : Table) (parts : List ClusterPart) (groups : List GroupPart) (t : ℕ) (by : Caller) → by.thread ≡ t → by.home ≡ (thread_lent parts t).home → by.prio ≡ home_prio (lent_both parts groups) t → by ≡ caller_at (joined s table parts groups) t
caller_is s table parts groups t by thread home urgency = λ i. record { thread = thread i; home = home i; prio = (urgency ∙ home_prio_lent s table parts groups t) i }

-- ---- obtain

-- With this status the caller is refused, and doesn't wait.
record IsRefusal (status : Status) : Type 0 where
  answers : answered (bare status) ≡ told.Refused status
  goes_on : status ≢ Waits

-- what holds of each form of an obtain holds of what it comes to
by_obtaining : (P : Obtaining → Type 0) (by : Caller) (wish : Wish) (closes : Bool) (sem : SemaphoreState) → P Nests → P Takes → ((status : Status) → IsRefusal status → P (NotObtained status)) → ((ticks : ℕ) → wish ≡ Limit ticks → P (Enters ticks)) → P (obtaining by wish closes sem)
by_obtaining P by wish closes sem nests takes refused enters = elsewhere (is_elsewhere by.home sem) where
  unsatisfied : P (NotObtained Unsatisfied)
  unsatisfied = refused Unsatisfied (record { answers = refl; goes_on = λ e. (let no : ⊥ = cc in no) })

  later : (w : Wish) → wish ≡ w → P (obtaining_later w closes sem)
  later NoWait e = unsatisfied
  later (Limit ticks) e = at (is_owned sem && closes) where
    at : (b : Bool) → P (cond b (NotObtained IncorrectState) (Enters ticks))
    at true = refused IncorrectState (record { answers = refl; goes_on = λ q. (let no : ⊥ = cc in no) })
    at false = enters ticks e

  full : (b : Bool) → P (cond b (NotObtained Unsatisfied) Nests)
  full true = unsatisfied
  full false = nests

  again : (b : Bool) → P (cond b (NotObtained Unsatisfied) (nesting_by sem))
  again true = unsatisfied
  again false = full (sem.nesting == 18446744073709551615)

  freely : (b : Bool) → P (cond b Takes (obtaining_later wish closes sem))
  freely true = takes
  freely false = later wish refl

  above : (b : Bool) → P (cond b (NotObtained InvalidPriority) (cond (is_free sem) Takes (obtaining_later wish closes sem)))
  above true = refused InvalidPriority (record { answers = refl; goes_on = λ e. (let no : ⊥ = cc in no) })
  above false = freely (is_free sem)

  owning : (b : Bool) → P (cond b (obtaining_again sem) (cond (is_less by.prio (ceiling_in by.home sem)) (NotObtained InvalidPriority) (cond (is_free sem) Takes (obtaining_later wish closes sem))))
  owning true = again (is_mrsp sem.protocol)
  owning false = above (is_less by.prio (ceiling_in by.home sem))

  elsewhere : (b : Bool) → P (cond b (NotObtained NotDefined) (cond (owns by.thread sem) (obtaining_again sem) (cond (is_less by.prio (ceiling_in by.home sem)) (NotObtained InvalidPriority) (cond (is_free sem) Takes (obtaining_later wish closes sem)))))
  elsewhere true = refused NotDefined (record { answers = refl; goes_on = λ e. (let no : ⊥ = cc in no) })
  elsewhere false = owning (owns by.thread sem)

-- a semaphore that is put as it is changes nothing
pub put_still : (k : Plain) (i : ℕ) → put_semaphore k i (semaphore_at k i) ≡ k
put_still k i = ap (λ (xs : List SemaphoreState). record k { semaphores = xs }) (with_nth-still no_semaphore k.semaphores i)

-- what the caller obtains at once, or is refused
abbrev ObtainsNow : Scenario → List ClusterPart → List ClusterPart → List GroupPart → List GroupPart → ℕ → ℕ → Caller → Reply → Obtaining → Type 0
ObtainsNow s old new groups groups' t i by reply o =
    reply ≡ bare (status_of_obtaining o) → (reply.status ≡ Waits → ⊥) → PutsSemaphore groups i (after_obtaining o by (semaphore_lent groups i)) groups' → DoesBoth s (λ k. obtained_at k t i o) (answered reply) old groups new groups'

obtained_now : (s : Scenario) (old new : List ClusterPart) (groups groups' : List GroupPart) (t i : ℕ) (x : SemaphoreState) (o : Obtaining) (reply : Reply) → reply ≡ bare Successful → PutsSemaphore groups i x groups' → ((k : Plain) → answer_of (obtained_at k t i o) ≡ told.Done Successful 0 None) → ((k : Plain) → semaphore_at k i ≡ semaphore_lent groups i → changed k (obtained_at k t i o) ≡ put_semaphore k i x) → Comes s (λ k. k) old new → KeepsHeld old groups new groups' → DoesBoth s (λ k. obtained_at k t i o) (answered reply) old groups new groups'
obtained_now s old new groups groups' t i x o reply is puts told state comes held = record {
  told = λ table. ap answered is ∙ sym (told (joined s table old groups));
  state = λ table laid. comes.state table groups' laid ∙ semaphore_joined s table old groups groups' i x puts ∙ sym (state (joined s table old groups) refl);
  kept = comes.kept;
  framed = puts.kept;
  held = held;
}

refused_now : (s : Scenario) (old new : List ClusterPart) (groups groups' : List GroupPart) (t i : ℕ) (status : Status) (reply : Reply) → answered reply ≡ told.Refused status → PutsSemaphore groups i (semaphore_lent groups i) groups' → Comes s (λ k. k) old new → KeepsHeld old groups new groups' → DoesBoth s (λ k. Refused status) (answered reply) old groups new groups'
refused_now s old new groups groups' t i status reply is puts comes held = record {
  told = λ table. is;
  state = λ table laid. comes.state table groups' laid ∙ semaphore_joined s table old groups groups' i (semaphore_lent groups i) puts ∙ put_still (joined s table old groups) i;
  kept = comes.kept;
  framed = puts.kept;
  held = held;
}

obtains_now : (s : Scenario) (old new : List ClusterPart) (groups groups' : List GroupPart) (t i : ℕ) (by : Caller) (wish : Wish) (closes : Bool) (reply : Reply) → by.thread ≡ t → Comes s (λ k. k) old new → KeepsHeld old groups new groups' → ObtainsNow s old new groups groups' t i by reply (obtaining by wish closes (semaphore_lent groups i))
obtains_now s old new groups groups' t i by wish closes reply same comes held = by_obtaining (ObtainsNow s old new groups groups' t i by reply) by wish closes (semaphore_lent groups i)
    (λ is other puts. obtained_now s old new groups groups' t i (nested (semaphore_lent groups i)) Nests reply is puts (λ k. refl) (λ k at. ap (λ x. put_semaphore k i (nested x)) at) comes held)
    (λ is other puts. obtained_now s old new groups groups' t i (taken t (semaphore_lent groups i)) Takes reply is (subst (λ n. PutsSemaphore groups i (taken n (semaphore_lent groups i)) groups') same puts) (λ k. refl) (λ k at. ap (λ x. put_semaphore k i (taken t x)) at) comes held)
    (λ status refused is other puts. refused_now s old new groups groups' t i status reply (ap answered is ∙ refused.answers) puts comes held)
    (λ ticks e is other puts. absurd (other (ap (λ (r : Reply). r.status) is)))

-- a row that comes to the same in each state that the parts stand for
same_row : (s : Scenario) (row now : Plain → Outcome) (answer : Answer) (old new : List ClusterPart) (groups groups' : List GroupPart) → ((table : Table) → now (joined s table old groups) ≡ row (joined s table old groups)) → DoesBoth s row answer old groups new groups' → DoesBoth s now answer old groups new groups'
same_row s row now answer old new groups groups' same does = record {
  told = λ table. does.told table ∙ ap answer_of (sym (same table));
  state = λ table laid. does.state table laid ∙ ap (changed (joined s table old groups)) (sym (same table));
  kept = does.kept;
  framed = does.framed;
  held = does.held;
}

-- what the caller waits for
abbrev ObtainsLater : Scenario → List ClusterPart → List ClusterPart → List GroupPart → List GroupPart → ℕ → ℕ → Bool → Caller → ℕ → Reply → Obtaining → Type 0
ObtainsLater s old new groups groups' t i spins by ticks reply o =
    reply ≡ bare (status_of_obtaining o) → reply.status ≡ Waits → PutsSemaphore groups i (after_obtaining o by (semaphore_lent groups i)) groups' → Becomes s (λ k. start_limited k t (ForSemaphore i spins) ticks) old new → DoesBoth s (λ k. obtained_at k t i o) told.Waiting old groups new groups'

never : (status : Status) (reply : Reply) → reply ≡ bare status → (status ≡ Waits → ⊥) → reply.status ≡ Waits → ⊥
never status reply is differs waits = differs (sym (ap (λ (r : Reply). r.status) is) ∙ waits)

enters : (s : Scenario) (old new : List ClusterPart) (groups groups' : List GroupPart) (t i : ℕ) (spins : Bool) (by : Caller) (ticks : ℕ) → ((table : Table) → by ≡ caller_at (joined s table old groups) t) → PutsSemaphore groups i (with_waiter by (semaphore_lent groups i)) groups' → Becomes s (λ k. start_limited k t (ForSemaphore i spins) ticks) old new → DoesBoth s (λ k. Waiting (begin_limited k t (ForSemaphore i spins) ticks)) told.Waiting old groups new groups'
enters s old new groups groups' t i spins by ticks is puts becomes = record {
  told = λ table. refl;
  state = λ table laid. (
      let k = joined s table old groups in
      becomes.state table groups' laid
      ∙ ap (λ (n : Plain). start_limited n t (ForSemaphore i spins) ticks) (semaphore_joined s table old groups groups' i (with_waiter by (semaphore_lent groups i)) puts ∙ ap (λ b. put_semaphore k i (with_waiter b (semaphore_at k i))) (is table))
      ∙ sym (enter_first k (caller_at k t) t (ForSemaphore i spins) ticks));
  kept = becomes.kept;
  framed = puts.kept;
  held = still_held old new groups groups' becomes.held (put_owners groups groups' i (with_waiter by (semaphore_lent groups i)) puts refl);
}

obtains_later : (s : Scenario) (old new : List ClusterPart) (groups groups' : List GroupPart) (t i : ℕ) (spins : Bool) (by : Caller) (wish : Wish) (closes : Bool) (ticks : ℕ) (reply : Reply) → spins ≡ is_mrsp (semaphore_lent groups i).protocol → ticks ≡ ticks_of wish → by.thread ≡ t → by.home ≡ (thread_lent old t).home → by.prio ≡ home_prio (lent_both old groups) t → ObtainsLater s old new groups groups' t i spins by ticks reply (obtaining by wish closes (semaphore_lent groups i))
obtains_later s old new groups groups' t i spins by wish closes ticks reply spun limit thread home urgency = by_obtaining (ObtainsLater s old new groups groups' t i spins by ticks reply) by wish closes (semaphore_lent groups i)
    (λ is waits puts becomes. absurd (never Successful reply is (λ e. let no : ⊥ = cc in no) waits))
    (λ is waits puts becomes. absurd (never Successful reply is (λ e. let no : ⊥ = cc in no) waits))
    (λ status refused is waits puts becomes. absurd (never status reply is refused.goes_on waits))
    (λ most e is waits puts becomes. subst (λ n. DoesBoth s (λ k. Waiting (begin_limited k t (ForSemaphore i (is_mrsp (semaphore_at k i).protocol)) n)) told.Waiting old groups new groups') (limit ∙ ap ticks_of e)
    (same_row s (λ k. Waiting (begin_limited k t (ForSemaphore i spins) ticks)) (λ k. Waiting (begin_limited k t (ForSemaphore i (is_mrsp (semaphore_at k i).protocol)) ticks)) told.Waiting old new groups groups'
    (λ table. ap (λ b. Waiting (begin_limited (joined s table old groups) t (ForSemaphore i b) ticks)) (sym spun))
    (enters s old new groups groups' t i spins by ticks (λ table. caller_is s table old groups t by thread home urgency) puts becomes)))

-- the rule, where the semaphore was found
abbrev pub obtain_row : ℕ → ℕ → Wish → Plain → Outcome
obtain_row t i wish k = obtained_at k t i (obtaining (caller_at k t) wish (reaches_from k (semaphore_at k i).owner t) (semaphore_at k i))

-- what an obtain comes to, as the code has it: whether it closes a cycle decides nothing for one that doesn't wish to wait
comes_to : (k : Plain) (t i : ℕ) (by : Caller) (wish : Wish) (owner : Option ℕ) (closes : Bool) → by ≡ caller_at k t → owner ≡ (semaphore_at k i).owner → ((ticks : ℕ) → wish ≡ Limit ticks → closes ≡ reaches_from k owner t) → obtaining (caller_at k t) wish (reaches_from k (semaphore_at k i).owner t) (semaphore_at k i) ≡ obtaining by wish closes (semaphore_at k i)
comes_to k t i by wish owner closes is owned reached = ap (λ c. obtaining c wish (reaches_from k (semaphore_at k i).owner t) (semaphore_at k i)) (sym is) ∙ wishing wish refl where
  wishing : (w : Wish) → wish ≡ w → obtaining by w (reaches_from k (semaphore_at k i).owner t) (semaphore_at k i) ≡ obtaining by w closes (semaphore_at k i)
  wishing NoWait e = refl
  wishing (Limit ticks) e = ap (λ b. obtaining by (Limit ticks) b (semaphore_at k i)) (ap (λ o. reaches_from k o t) (sym owned) ∙ sym (reached ticks e))

-- The row of an obtain that doesn't wait,
pub obtains_at_once : (s : Scenario) (old new : List ClusterPart) (groups groups' : List GroupPart) (t i : ℕ) (by : Caller) (wish : Wish) (owner : Option ℕ) (closes : Bool) (reply : Reply) → by.thread ≡ t → by.home ≡ (thread_lent old t).home → by.prio ≡ home_prio (lent_both old groups) t → owner ≡ (semaphore_lent groups i).owner → ((ticks : ℕ) → wish ≡ Limit ticks → closes ≡ reaches_from (lent_both old groups) owner t) → reply ≡ reply_to_obtain by wish closes (semaphore_lent groups i) → (reply.status ≡ Waits → ⊥) → PutsSemaphore groups i (obtained by wish closes (semaphore_lent groups i)) groups' → Comes s (λ k. k) old new → KeepsHeld old groups new groups' → DoesBoth s (obtain_row t i wish) (answered reply) old groups new groups'
obtains_at_once s old new groups groups' t i by wish owner closes reply thread home urgency owned reached is other puts comes held =
    let o = obtaining by wish closes (semaphore_lent groups i) in
    same_row s (λ k. obtained_at k t i o) (obtain_row t i wish) (answered reply) old new groups groups' (λ table. ap (obtained_at (joined s table old groups) t i) (comes_to (joined s table old groups) t i by wish owner closes (caller_is s table old groups t by thread home urgency) owned reached))
    (obtains_now s old new groups groups' t i by wish closes reply thread comes held is other puts)

-- and of one that waits.
pub obtains_by_waiting : (s : Scenario) (old new : List ClusterPart) (groups groups' : List GroupPart) (t i : ℕ) (spins : Bool) (by : Caller) (wish : Wish) (owner : Option ℕ) (closes : Bool) (ticks : ℕ) (reply : Reply) → spins ≡ is_mrsp (semaphore_lent groups i).protocol → by.thread ≡ t → by.home ≡ (thread_lent old t).home → by.prio ≡ home_prio (lent_both old groups) t → owner ≡ (semaphore_lent groups i).owner → ((ticks : ℕ) → wish ≡ Limit ticks → closes ≡ reaches_from (lent_both old groups) owner t) → ticks ≡ ticks_of wish → reply ≡ reply_to_obtain by wish closes (semaphore_lent groups i) → reply.status ≡ Waits → PutsSemaphore groups i (obtained by wish closes (semaphore_lent groups i)) groups' → Becomes s (λ k. start_limited k t (ForSemaphore i spins) ticks) old new → DoesBoth s (obtain_row t i wish) told.Waiting old groups new groups'
obtains_by_waiting s old new groups groups' t i spins by wish owner closes ticks reply spun thread home urgency owned reached limit is waits puts becomes =
    let o = obtaining by wish closes (semaphore_lent groups i) in
    same_row s (λ k. obtained_at k t i o) (obtain_row t i wish) told.Waiting old new groups groups' (λ table. ap (obtained_at (joined s table old groups) t i) (comes_to (joined s table old groups) t i by wish owner closes (caller_is s table old groups t by thread home urgency) owned reached))
    (obtains_later s old new groups groups' t i spins by wish closes ticks reply spun limit thread home urgency is waits puts becomes)

-- the owner after an obtain, where the semaphore is held otherwise, is the caller
pub obtained_owner : (by : Caller) (wish : Wish) (closes : Bool) (sem : SemaphoreState) (t : ℕ) → (obtained by wish closes sem).owner ≡ Some t → holding_of (obtained by wish closes sem) ≢ holding_of sem → by.thread ≡ t
obtained_owner by wish closes sem t = by_obtaining (λ o. (after_obtaining o by sem).owner ≡ Some t → holding_of (after_obtaining o by sem) ≢ holding_of sem → by.thread ≡ t) by wish closes sem
    (λ is other. absurd (other refl))
    (λ is other. taking (is_binary sem.kind) is other)
    (λ status refused is other. absurd (other refl))
    (λ ticks e is other. absurd (other refl))
  where
    taken_if : Bool → SemaphoreState
    taken_if b = cond b (owned_by by.thread sem) (record sem { count = sem.count - 1 })

    taking : (b : Bool) → (taken_if b).owner ≡ Some t → holding_of (taken_if b) ≢ holding_of sem → by.thread ≡ t
    taking true is other = cc
    taking false is other = absurd (other refl)

-- ---- release

-- what holds of each form of a release holds of what it comes to
by_releasing : (P : Releasing → Type 0) (t : ℕ) (sem : SemaphoreState) → P (NotReleased NotOwnerOfResource) → P Unnests → ((u : ℕ) → P (Serves u)) → P (NotReleased Unsatisfied) → P Frees → P (releasing t sem)
by_releasing P t sem not_owner unnests serving full frees = first (is_binary sem.kind && not (owns t sem)) where
  fully : (b : Bool) → P (cond b (NotReleased Unsatisfied) Frees)
  fully true = full
  fully false = frees

  to : (found : Option ℕ) → P (releasing_to found sem)
  to (Some u) = serving u
  to None = fully (is_full sem)

  second : (b : Bool) → P (cond b Unnests (releasing_to (first_of sem.queue) sem))
  second true = unnests
  second false = to (first_of sem.queue)

  first : (b : Bool) → P (cond b (NotReleased NotOwnerOfResource) (cond (is_binary sem.kind && nat_lt 1 sem.nesting) Unnests (releasing_to (first_of sem.queue) sem)))
  first true = not_owner
  first false = second (is_binary sem.kind && nat_lt 1 sem.nesting)

-- what a release comes to, and the wait that it ends
abbrev Releases : Scenario → List ClusterPart → List ClusterPart → List GroupPart → List GroupPart → ℕ → List Wake → Reply → SemaphoreState → Releasing → Type 0
Releases s old new groups groups' i wakes reply sem r =
    reply ≡ bare (status_of_releasing r) → PutsSemaphore groups i (after_releasing r sem) groups' → wakes ≡ woken_by_releasing r → Comes s (λ k. woken k wakes) old new → KeepsHeld old groups new groups' → DoesBoth s (λ k. released_at k i r) (answered reply) old groups new groups'

-- a release of the semaphore as it stands, which serves none
abbrev ReleasesStill : Scenario → List ClusterPart → List ClusterPart → List GroupPart → List GroupPart → ℕ → List Wake → Reply → Releasing → Type 0
ReleasesStill s old new groups groups' i wakes reply r = is_serving r ≡ false → Releases s old new groups groups' i wakes reply (semaphore_lent groups i) r

-- no wait ends
none_woken : (s : Scenario) (old new : List ClusterPart) (wakes : List Wake) → wakes ≡ [] → Comes s (λ k. woken k wakes) old new → Comes s (λ k. k) old new
none_woken s old new wakes none comes = subst (λ ws. Comes s (λ k. woken k ws) old new) none comes

pub still_put : (s : Scenario) (old new : List ClusterPart) (groups groups' : List GroupPart) (i : ℕ) (x : SemaphoreState) (o : Plain → Outcome) (answer : Answer) → PutsSemaphore groups i x groups' → Comes s (λ k. k) old new → KeepsHeld old groups new groups' → ((table : Table) → answer ≡ answer_of (o (joined s table old groups))) → ((table : Table) → changed (joined s table old groups) (o (joined s table old groups)) ≡ put_semaphore (joined s table old groups) i x) → DoesBoth s o answer old groups new groups'
still_put s old new groups groups' i x o answer puts becomes held told state = record {
  told = told;
  state = λ table laid. becomes.state table groups' laid ∙ semaphore_joined s table old groups groups' i x puts ∙ sym (state table);
  kept = becomes.kept;
  framed = puts.kept;
  held = held;
}

releases_still : (s : Scenario) (old new : List ClusterPart) (groups groups' : List GroupPart) (t i : ℕ) (wakes : List Wake) (reply : Reply) → ReleasesStill s old new groups groups' i wakes reply (releasing t (semaphore_lent groups i))
releases_still s old new groups groups' t i wakes reply = by_releasing (ReleasesStill s old new groups groups' i wakes reply) t (semaphore_lent groups i)
    (λ still is puts woke becomes held. still_put s old new groups groups' i (semaphore_lent groups i) (λ k. released_at k i (NotReleased NotOwnerOfResource)) (answered reply) puts (none_woken s old new wakes woke becomes) held (λ k. ap answered is) (λ table. sym (put_still (joined s table old groups) i)))
    (λ still is puts woke becomes held. still_put s old new groups groups' i (unnested (semaphore_lent groups i)) (λ k. released_at k i Unnests) (answered reply) puts (none_woken s old new wakes woke becomes) held (λ k. ap answered is) (λ table. refl))
    (λ u still is puts woke becomes held. absurd (false≢true (sym still)))
    (λ still is puts woke becomes held. still_put s old new groups groups' i (semaphore_lent groups i) (λ k. released_at k i (NotReleased Unsatisfied)) (answered reply) puts (none_woken s old new wakes woke becomes) held (λ k. ap answered is) (λ table. sym (put_still (joined s table old groups) i)))
    (λ still is puts woke becomes held. still_put s old new groups groups' i (freed (semaphore_lent groups i)) (λ k. released_at k i Frees) (answered reply) puts (none_woken s old new wakes woke becomes) held (λ k. ap answered is) (λ table. refl))

-- without waiters a queue is up to date
none_waits : (k : Plain) (sem : SemaphoreState) → sem.queue.arrivals ≡ [] → up_to_date k sem ≡ sem
none_waits k sem empty = by sem.queue.order where
  by : (order : Order) → (let now : SemaphoreState = record sem { queue = up_to_date_by k order sem.queue } in now) ≡ sem
  by Fifo = refl
  by Priority = ap (λ (ws : List Waiter). (let now : SemaphoreState = record sem { queue = record sem.queue { arrivals = ws } } in now)) (ap (map (with_present_prio k)) empty ∙ sym empty)

-- a release that serves none serves none by the present priorities either, and comes to the same
still_same : (k : Plain) (t : ℕ) (sem : SemaphoreState) → IsQueue sem.queue.arrivals sem.queue.turns → serves t sem ≡ false → releasing t (up_to_date k sem) ≡ releasing t sem
still_same k t sem queue still = first (is_binary sem.kind && not (owns t sem)) (is_binary sem.kind && nat_lt 1 sem.nesting) (first_of sem.queue) refl still where
  serving : (b : Bool) → is_serving (cond b (NotReleased Unsatisfied) Frees) ≡ false
  serving true = refl
  serving false = refl

  unserved : IfNone (first_of sem.queue) (sem.queue.arrivals ≡ []) → first_of sem.queue ≡ None → sem.queue.arrivals ≡ []
  unserved empty e = subst (λ o. IfNone o (sem.queue.arrivals ≡ [])) e empty

  first : (a b : Bool) (found : Option ℕ) → first_of sem.queue ≡ found → is_serving (cond a (NotReleased NotOwnerOfResource) (cond b Unnests (releasing_to found sem))) ≡ false →
      cond a (NotReleased NotOwnerOfResource) (cond b Unnests (releasing_to (first_of (up_to_date k sem).queue) (up_to_date k sem))) ≡ cond a (NotReleased NotOwnerOfResource) (cond b Unnests (releasing_to (first_of sem.queue) sem))
  first true b found e none = refl
  first false true found e none = refl
  first false false (Some u) e none = absurd (false≢true (sym none))
  first false false None e none =
      let empty = unserved (first_none sem.queue.order sem.queue.arrivals sem.queue.turns queue) e in
      ap (λ (x : SemaphoreState). releasing_to (first_of x.queue) x) (none_waits k sem empty)

-- the clusters of waiters, whatever their priorities
present_clusters : (k : Plain) (waiters : List Waiter) → clusters (map (with_present_prio k) waiters) ≡ clusters waiters
present_clusters k [] = refl
present_clusters k (waiter ∷ waiters) = ap (λ cs. waiter.cluster ∷ cs) (present_clusters k waiters)

-- a queue that is brought up to date is one
present_queue : (k : Plain) (order : Order) (queue : Queue) → IsQueue queue.arrivals queue.turns → IsQueue (up_to_date_by k order queue).arrivals (up_to_date_by k order queue).turns
present_queue k Fifo queue is = is
present_queue k Priority queue is = record {
  once = λ t. rw (present_threads k queue.arrivals) (is.once t);
  within = λ t waits. is.within t (rw (present_threads k queue.arrivals) at waits);
  turn = λ c. is.turn c ∙ rw (present_clusters k queue.arrivals) refl;
}

emptied_by : (k : Plain) (order : Order) (queue : Queue) → (up_to_date_by k order queue).arrivals ≡ [] → queue.arrivals ≡ []
emptied_by k Fifo queue empty = empty
emptied_by k Priority queue empty = by queue.arrivals empty where
  by : (waiters : List Waiter) → map (with_present_prio k) waiters ≡ [] → waiters ≡ []
  by [] e = refl
  by (waiter ∷ waiters) e = let no : ⊥ = cc in absurd no

-- in an empty queue none is served
none_first : (queue : Queue) → queue.arrivals ≡ [] → IsQueue queue.arrivals queue.turns → first_of queue ≡ None
none_first queue empty is = by queue.order where
  urgent : (turns : List ℕ) → (let none : List Waiter = [] in first_in Priority none turns) ≡ None
  urgent [] = refl
  urgent (c ∷ cs) = refl

  by : (order : Order) → first_in order queue.arrivals queue.turns ≡ None
  by Fifo = ap (λ (ws : List Waiter). first_in Fifo ws queue.turns) empty
  by Priority = ap (λ (ws : List Waiter). first_in Priority ws queue.turns) empty ∙ urgent queue.turns

-- a release that serves a waiter serves one by the present priorities
still_serves : (k : Plain) (t : ℕ) (sem : SemaphoreState) → IsQueue sem.queue.arrivals sem.queue.turns → serves t sem ≡ true → is_serving (releasing t (up_to_date k sem)) ≡ true
still_serves k t sem queue serving = first (is_binary sem.kind && not (owns t sem)) (is_binary sem.kind && nat_lt 1 sem.nesting) (first_of (up_to_date k sem).queue) refl serving where
  now : Queue
  now = (up_to_date k sem).queue

  to_none : (a b : Bool) → first_of now ≡ None → is_serving (cond a (NotReleased NotOwnerOfResource) (cond b Unnests (releasing_to (first_of sem.queue) sem))) ≡ true → ⊥
  to_none true b e some = false≢true some
  to_none false true e some = false≢true some
  to_none false false e some =
      let empty : sem.queue.arrivals ≡ [] = emptied_by k sem.queue.order sem.queue (subst (λ o. IfNone o (now.arrivals ≡ [])) e (first_none now.order now.arrivals now.turns (present_queue k sem.queue.order sem.queue queue))) in
      frees (is_full sem) (subst (λ o. is_serving (releasing_to o sem) ≡ true) (none_first sem.queue empty queue) some)
    where
      frees : (b : Bool) → is_serving (cond b (NotReleased Unsatisfied) Frees) ≡ true → ⊥
      frees true e = false≢true e
      frees false e = false≢true e

  first : (a b : Bool) (found : Option ℕ) → first_of now ≡ found → is_serving (cond a (NotReleased NotOwnerOfResource) (cond b Unnests (releasing_to (first_of sem.queue) sem))) ≡ true → is_serving (cond a (NotReleased NotOwnerOfResource) (cond b Unnests (releasing_to found (up_to_date k sem)))) ≡ true
  first true b found e some = absurd (false≢true some)
  first false true found e some = absurd (false≢true some)
  first false false (Some u) e some = refl
  first false false None e some = absurd (to_none false false e some)

-- a release of a semaphore whose queue is up to date, which serves a waiter
abbrev ReleasesNow : Scenario → List ClusterPart → List ClusterPart → List GroupPart → List GroupPart → ℕ → List Wake → Reply → Releasing → Type 0
ReleasesNow s old new groups groups' i wakes reply r = is_serving r ≡ true → Releases s old new groups groups' i wakes reply (up_to_date (lent_both old groups) (semaphore_lent groups i)) r

releases_now : (s : Scenario) (old new : List ClusterPart) (groups groups' : List GroupPart) (t i : ℕ) (wakes : List Wake) (reply : Reply) → ReleasesNow s old new groups groups' i wakes reply (releasing t (up_to_date (lent_both old groups) (semaphore_lent groups i)))
releases_now s old new groups groups' t i wakes reply = by_releasing (ReleasesNow s old new groups groups' i wakes reply) t (up_to_date (lent_both old groups) (semaphore_lent groups i))
    (λ serving is puts woke becomes held. absurd (false≢true serving))
    (λ serving is puts woke becomes held. absurd (false≢true serving))
    (λ u serving is puts woke becomes held. record {
      told = λ table. ap answered is;
      state = λ table laid. (
          let k = joined s table old groups in
          let sem = up_to_date (lent_both old groups) (semaphore_lent groups i) in
          becomes.state table groups' laid
          ∙ ap (λ (n : Plain). woken n wakes) (semaphore_joined s table old groups groups' i (handed_to u sem) puts)
          ∙ ap (woken (put_semaphore k i (handed_to u sem))) woke
          ∙ ap (λ x. stop_wait (put_semaphore k i (handed_to u x)) u (bare Successful)) (up_to_date_lent s table old groups (semaphore_lent groups i)));
      kept = becomes.kept;
      framed = puts.kept;
      held = held;
    })
    (λ serving is puts woke becomes held. absurd (false≢true serving))
    (λ serving is puts woke becomes held. absurd (false≢true serving))

-- one of these that live lives
live_one : (parts : List ClusterPart) (u : ℕ) (ts : List ℕ) → has ts u ≡ true → AllLive parts (ended_waits Successful ts) → has_begun (thread_lent parts u).life ≡ true
live_one parts u [] h live = absurd (false≢true h)
live_one parts u (v ∷ vs) h live = by (v == u) refl h (λ later. live_one parts u vs later live.1) where
  by : (b : Bool) → (v == u) ≡ b → (b || has vs u) ≡ true → (has vs u ≡ true → has_begun (thread_lent parts u).life ≡ true) → has_begun (thread_lent parts u).life ≡ true
  by true e h more = ap (λ n. has_begun (thread_lent parts n).life) (sym (same_number v u e)) ∙ live.0
  by false e h more = more h

-- the thread that a release serves lives
released_live : (parts : List ClusterPart) (groups : List GroupPart) (t i : ℕ) (sem : SemaphoreState) → IsQueueOf parts groups (OfSemaphore i) → threads sem.queue.arrivals ≡ threads (semaphore_lent groups i).queue.arrivals → AllLive parts (woken_by_release t sem)
released_live parts groups t i sem queue same = by (releasing t sem) refl where
  stands : (u : ℕ) → first_of sem.queue ≡ Some u → has (threads (semaphore_lent groups i).queue.arrivals) u ≡ true
  stands u first = ap (λ ts. has ts u) (sym same) ∙ subst (λ o. IfSome o (λ v. has (threads sem.queue.arrivals) v ≡ true)) first (first_waits sem.queue.order sem.queue.arrivals sem.queue.turns)

  by : (r : Releasing) → releasing t sem ≡ r → AllLive parts (woken_by_releasing r)
  by (NotReleased status) e = tt
  by Unnests e = tt
  by Frees e = tt
  by (Serves u) e = (live_one parts u (threads (semaphore_lent groups i).queue.arrivals) (stands u (serves_first t sem u e)) (queued_live parts groups (OfSemaphore i) Successful queue), tt)

-- a queue that was brought up to date has the same threads
dated_threads : (k : Plain) (sem : SemaphoreState) → threads (up_to_date k sem).queue.arrivals ≡ threads sem.queue.arrivals
dated_threads k sem = up_to_date_threads k sem.queue.order sem.queue

-- The row of a release, where the semaphore serves none.
releases_none : (s : Scenario) (old new : List ClusterPart) (groups groups' : List GroupPart) (t i : ℕ) (wakes : List Wake) (reply : Reply) → IsQueue (semaphore_lent groups i).queue.arrivals (semaphore_lent groups i).queue.turns → serves t (semaphore_lent groups i) ≡ false → reply ≡ reply_to_release t (semaphore_lent groups i) → PutsSemaphore groups i (released t (semaphore_lent groups i)) groups' → wakes ≡ woken_by_release t (semaphore_lent groups i) → Comes s (λ k. woken k wakes) old new → KeepsHeld old groups new groups' → DoesBoth s (λ k. released_at k i (releasing t (up_to_date k (semaphore_at k i)))) (answered reply) old groups new groups'
releases_none s old new groups groups' t i wakes reply queue still is puts woke becomes held =
    let does = releases_still s old new groups groups' t i wakes reply still is puts woke becomes held in
    record {
      told = λ table. (let k = joined s table old groups in does.told table ∙ ap (λ r. answer_of (released_at k i r)) (sym (still_same k t (semaphore_lent groups i) queue still)));
      state = λ table laid. (let k = joined s table old groups in does.state table laid ∙ ap (λ r. changed k (released_at k i r)) (sym (still_same k t (semaphore_lent groups i) queue still)));
      kept = does.kept;
      framed = does.framed;
      held = does.held;
    }

-- a semaphore that was put twice is as it was put last
pub put_twice : (old mid new : List GroupPart) (i : ℕ) (x y : SemaphoreState) → PutsSemaphore old i x mid → PutsSemaphore mid i y new → PutsSemaphore old i y new
put_twice old mid new i x y first second = record {
  semaphores = second.semaphores ∙ ap (λ xs. with_nth xs i y) first.semaphores ∙ with_nth-twice x y (semaphores_of old) i;
  barriers = second.barriers ∙ first.barriers;
  partitions = second.partitions ∙ first.partitions;
  periods = second.periods ∙ first.periods;
  kept = second.kept ∙ first.kept;
}

-- the semaphore that was put
pub put_there : (old mid : List GroupPart) (i : ℕ) (x : SemaphoreState) → 1 ≤ i → i ≤ 64 → PutsSemaphore old i x mid → semaphore_lent mid i ≡ x
put_there old mid i x low high puts =
    let size = length_semaphores old in
    ap (λ (xs : List SemaphoreState). nth_of xs) puts.semaphores ∙ nth-with_same no_semaphore x (semaphores_of old) i (omega (arith, low)) (omega (arith, high, size))
  where
    nth_of : List SemaphoreState → SemaphoreState
    nth_of xs = nth no_semaphore xs i

-- The row of a release, where the semaphore serves a waiter, before which its queue was brought up to date.
releases_served : (s : Scenario) (old new : List ClusterPart) (groups mid groups' : List GroupPart) (t i : ℕ) (wakes : List Wake) (reply : Reply) → 1 ≤ i → i ≤ 64 → IsQueue (semaphore_lent groups i).queue.arrivals (semaphore_lent groups i).queue.turns → serves t (semaphore_lent groups i) ≡ true → PutsSemaphore groups i (up_to_date (lent_both old groups) (semaphore_lent groups i)) mid → reply ≡ reply_to_release t (semaphore_lent mid i) → PutsSemaphore mid i (released t (semaphore_lent mid i)) groups' → wakes ≡ woken_by_release t (semaphore_lent mid i) → Comes s (λ k. woken k wakes) old new → KeepsHeld old groups new groups' → DoesBoth s (λ k. released_at k i (releasing t (up_to_date k (semaphore_at k i)))) (answered reply) old groups new groups'
releases_served s old new groups mid groups' t i wakes reply low high queue serving dated is puts woke becomes held =
    let sem = up_to_date (lent_both old groups) (semaphore_lent groups i) in
    let there = put_there groups mid i sem low high dated in
    let done_there : PutsSemaphore groups i (released t sem) groups' = put_twice groups mid groups' i sem (released t sem) dated (subst (λ x. PutsSemaphore mid i (released t x) groups') there puts) in
    let does = releases_now s old new groups groups' t i wakes reply (still_serves (lent_both old groups) t (semaphore_lent groups i) queue serving) (is ∙ ap (reply_to_release t) there) done_there (woke ∙ ap (woken_by_release t) there) becomes held in
    record {
      told = λ table. (let k = joined s table old groups in does.told table ∙ ap (λ x. answer_of (released_at k i (releasing t x))) (up_to_date_lent s table old groups (semaphore_lent groups i)));
      state = λ table laid. (let k = joined s table old groups in does.state table laid ∙ ap (λ x. changed k (released_at k i (releasing t x))) (up_to_date_lent s table old groups (semaphore_lent groups i)));
      kept = does.kept;
      framed = does.framed;
      held = does.held;
    }

-- Before a release the queue was brought up to date where it serves a waiter, and else nothing changed.
abbrev pub IsPrepared : List ClusterPart → List GroupPart → ℕ → ℕ → List GroupPart → Type 0
IsPrepared old groups t i mid = ((serves t (semaphore_lent groups i) ≡ true) × PutsSemaphore groups i (up_to_date (lent_both old groups) (semaphore_lent groups i)) mid) ⊎ ((serves t (semaphore_lent groups i) ≡ false) × (mid ≡ groups))

-- who is served then lives,
pub prepared_live : (parts : List ClusterPart) (groups mid : List GroupPart) (t i : ℕ) → 1 ≤ i → i ≤ 64 → IsQueueOf parts groups (OfSemaphore i) → IsPrepared parts groups t i mid → AllLive parts (woken_by_release t (semaphore_lent mid i))
prepared_live parts groups mid t i low high queue (inl dated) =
    let sem = up_to_date (lent_both parts groups) (semaphore_lent groups i) in
    subst (λ (x : SemaphoreState). AllLive parts (woken_by_release t x)) (sym (put_there groups mid i sem low high dated.1)) (released_live parts groups t i sem queue (dated_threads (lent_both parts groups) (semaphore_lent groups i)))
prepared_live parts groups mid t i low high queue (inr same) =
    subst (λ gs. AllLive parts (woken_by_release t (semaphore_lent gs i))) (sym same.1) (released_live parts groups t i (semaphore_lent groups i) queue refl)

-- and the release comes to what the rule says.
pub releases_prepared : (s : Scenario) (old new : List ClusterPart) (groups mid groups' : List GroupPart) (t i : ℕ) (wakes : List Wake) (reply : Reply) (answer : Answer) → 1 ≤ i → i ≤ 64 → IsQueue (semaphore_lent groups i).queue.arrivals (semaphore_lent groups i).queue.turns → IsPrepared old groups t i mid → answer ≡ answered reply → reply ≡ reply_to_release t (semaphore_lent mid i) → PutsSemaphore mid i (released t (semaphore_lent mid i)) groups' → wakes ≡ woken_by_release t (semaphore_lent mid i) → Comes s (λ k. woken k wakes) old new → KeepsHeld old groups new groups' → DoesBoth s (λ k. released_at k i (releasing t (up_to_date k (semaphore_at k i)))) answer old groups new groups'
releases_prepared s old new groups mid groups' t i wakes reply answer low high queue prepared told is puts woke becomes held =
    subst (λ (a : Answer). DoesBoth s (λ k. released_at k i (releasing t (up_to_date k (semaphore_at k i)))) a old groups new groups') (sym told) (by prepared)
  where
    by : IsPrepared old groups t i mid → DoesBoth s (λ k. released_at k i (releasing t (up_to_date k (semaphore_at k i)))) (answered reply) old groups new groups'
    by (inl dated) = releases_served s old new groups mid groups' t i wakes reply low high queue dated.0 dated.1 is puts woke becomes held
    by (inr same) = releases_none s old new groups groups' t i wakes reply queue same.0 (is ∙ ap (λ gs. reply_to_release t (semaphore_lent gs i)) same.1) (subst (λ gs. PutsSemaphore gs i (released t (semaphore_lent gs i)) groups') same.1 puts) (woke ∙ ap (λ gs. woken_by_release t (semaphore_lent gs i)) same.1) becomes held

-- the owner after a release, where the semaphore is held otherwise, lives
released_by : (parts : List ClusterPart) (sem : SemaphoreState) (u : ℕ) (r : Releasing) → AllLive parts (woken_by_releasing r) → (after_releasing r sem).owner ≡ Some u → holding_of (after_releasing r sem) ≢ holding_of sem → has_begun (thread_lent parts u).life ≡ true
released_by parts sem u (NotReleased status) live is other = absurd (other refl)
released_by parts sem u Unnests live is other = absurd (other refl)
released_by parts sem u Frees live is other = absurd (freeing sem.kind is other) where
  freeing : (kind : SemKind) → (freed_by kind sem).owner ≡ Some u → holding_of (freed_by kind sem) ≢ holding_of sem → ⊥
  freeing Counting e differs = differs refl
  freeing Simple e differs = differs refl
  freeing Binary e differs = cc
released_by parts sem u (Serves v) live is other = giving (is_binary sem.kind) is other where
  given : SemaphoreState
  given = record sem { queue = served_by v sem.queue }

  given_if : Bool → SemaphoreState
  given_if b = cond b (owned_by v given) given

  giving : (b : Bool) → (given_if b).owner ≡ Some u → holding_of (given_if b) ≢ holding_of sem → has_begun (thread_lent parts u).life ≡ true
  giving true e differs = let same : v ≡ u = cc in ap (λ n. has_begun (thread_lent parts n).life) (sym same) ∙ live.0
  giving false e differs = absurd (differs refl)

pub released_owner : (parts : List ClusterPart) (t u : ℕ) (sem : SemaphoreState) → AllLive parts (woken_by_release t sem) → (released t sem).owner ≡ Some u → holding_of (released t sem) ≢ holding_of sem → has_begun (thread_lent parts u).life ≡ true
released_owner parts t u sem live is other = released_by parts sem u (releasing t sem) live is other

-- to bring a queue up to date changes no owner
pub prepared_owners : (old : List ClusterPart) (groups mid : List GroupPart) (t i : ℕ) → IsPrepared old groups t i mid → KeepsOwners groups mid
prepared_owners old groups mid t i (inl dated) = put_owners groups mid i (up_to_date (lent_both old groups) (semaphore_lent groups i)) dated.1 refl
prepared_owners old groups mid t i (inr same) = λ j. ap (λ gs. holding_of (semaphore_lent gs j)) same.1

-- ---- flush and delete

-- the waits of threads end as the manager noted
woken_each : (k : Plain) (ts : List ℕ) (status : Status) → woken k (ended_waits status ts) ≡ stop_each k ts (bare status)
woken_each k [] status = refl
woken_each k (t ∷ ts) status = woken_each (stop_wait k t (bare status)) ts status

-- a semaphore without waiters stands where one stood, and the waits of all that waited for that one end
emptied : (s : Scenario) (table : Table) (old new : List ClusterPart) (groups groups' : List GroupPart) (i : ℕ) (x : SemaphoreState) (status : Status) (wakes : List Wake) → PutsSemaphore groups i x groups' → wakes ≡ ended status (semaphore_lent groups i).queue.arrivals → woken (joined s table old groups') wakes ≡ emptied_at (joined s table old groups) i x status
emptied s table old new groups groups' i x status wakes puts woke =
    let k = joined s table old groups in
    let ts = threads (semaphore_lent groups i).queue.arrivals in
    ap (λ (n : Plain). woken n wakes) (semaphore_joined s table old groups groups' i x puts)
    ∙ ap (woken (put_semaphore k i x)) (woke ∙ ended_is status (semaphore_lent groups i).queue.arrivals)
    ∙ woken_each (put_semaphore k i x) ts status

pub flushes : (s : Scenario) (old new : List ClusterPart) (groups groups' : List GroupPart) (i : ℕ) (wakes : List Wake) → PutsSemaphore groups i (flushed (semaphore_lent groups i)) groups' → wakes ≡ woken_by_flush (semaphore_lent groups i) → Becomes s (λ k. woken k wakes) old new → BecomesBoth s (λ k. emptied_at k i (flushed (semaphore_at k i)) Unsatisfied) old groups new groups'
flushes s old new groups groups' i wakes puts woke becomes = record {
  state = λ table laid. becomes.state table groups' laid ∙ emptied s table old new groups groups' i (flushed (semaphore_lent groups i)) Unsatisfied wakes puts woke;
  kept = becomes.kept;
  framed = puts.kept;
  held = still_held old new groups groups' becomes.held (put_owners groups groups' i (flushed (semaphore_lent groups i)) puts refl);
}

-- all that wait for a semaphore live
pub waiters_live : (parts : List ClusterPart) (groups : List GroupPart) (i : ℕ) (status : Status) → IsQueueOf parts groups (OfSemaphore i) → AllLive parts (ended status (semaphore_lent groups i).queue.arrivals)
waiters_live parts groups i status queue = subst (AllLive parts) (sym (ended_is status (semaphore_lent groups i).queue.arrivals)) (queued_live parts groups (OfSemaphore i) status queue)

-- what is left of a semaphore that none owns after a delete, and the waits that end
abbrev is_some_of : Option ℕ → Bool
is_some_of None = false
is_some_of (Some t) = true

unowned_test : (sem : SemaphoreState) → sem.owner ≡ None → is_owned sem ≡ false
unowned_test sem unowned = ap is_some_of unowned

pub deleted_is : (sem : SemaphoreState) → sem.owner ≡ None → after_deleting sem ≡ no_semaphore
deleted_is sem unowned = ap (λ b. cond b sem no_semaphore) (unowned_test sem unowned)

pub deleted_woken : (sem : SemaphoreState) → sem.owner ≡ None → woken_by_remove sem ≡ ended ObjectWasDeleted sem.queue.arrivals
deleted_woken sem unowned = ap (λ b. cond b [] (ended ObjectWasDeleted sem.queue.arrivals)) (unowned_test sem unowned)

-- a semaphore was removed, its waiters woke, and its name was taken away
pub removes : (s : Scenario) (old new : List ClusterPart) (groups groups' : List GroupPart) (table table' : Table) (i : ℕ) (wakes : List Wake) → (semaphore_lent groups i).owner ≡ None → PutsSemaphore groups i (after_deleting (semaphore_lent groups i)) groups' → wakes ≡ woken_by_remove (semaphore_lent groups i) → Becomes s (λ k. woken k wakes) old new → ((k : Plain) → with_table k table' ≡ without_object (with_table k table) Semaphore i) → BecomesEvery s (λ k. without_semaphore k i) old groups table new groups' table'
removes s old new groups groups' table table' i wakes unowned puts woke becomes removed =
    let k = joined s table old groups in
    let gone = subst (λ x. PutsSemaphore groups i x groups') (deleted_is (semaphore_lent groups i) unowned) puts in
    record {
      state = λ laid.
          becomes.state table' groups' laid
          ∙ ap (λ (n : Plain). woken n wakes) (removed (joined s table old groups'))
          ∙ named_woken (joined s table old groups') wakes Semaphore i
          ∙ ap (λ (n : Plain). without_object n Semaphore i) (emptied s table old new groups groups' i no_semaphore ObjectWasDeleted wakes gone (woke ∙ deleted_woken (semaphore_lent groups i) unowned));
      laid = λ laid. laid_kept s.clusters old new becomes.kept laid;
      kept = ap (λ (f : Frame). f.stored) becomes.kept;
      accounts = ap (λ (f : Frame). f.accounts) becomes.kept;
      framed = puts.kept;
      held = still_held old new groups groups' becomes.held (put_owners groups groups' i no_semaphore gone (sym (ap (held_by (semaphore_lent groups i)) unowned)));
    }

-- ---- create

pub creates : (s : Scenario) (parts new : List ClusterPart) (groups groups' : List GroupPart) (table table' : Table) (t name index : ℕ) (spec : SemSpec) (urgency : ℕ) (by : Caller) (refusal : Option Status) (answer : Answer) → by.thread ≡ t → by.home ≡ (thread_lent parts t).home → urgency ≡ home_prio (lent_both parts groups) t → refusal ≡ create_refusal spec urgency → ((k : Plain) → Creates (with_table k table) Semaphore name refusal (Ok index) (with_table k table')) → answer ≡ told.Done Successful (id_of Semaphore index) None → PutsSemaphore groups index (new_semaphore spec by) groups' → Comes s (λ k. k) parts new → KeepsHeld parts groups new groups' → DoesEvery s (λ k. semaphore_create k t name spec) answer parts groups table new groups' table'
creates s parts new groups groups' table table' t name index spec urgency by refusal answer thread home prio refused made is puts comes held = record {
  told = is ∙ ap answer_of (sym row);
  state = λ laid. comes.state table' groups' laid ∙ semaphore_joined s table' parts groups groups' index (new_semaphore spec (caller_at k t)) (subst (λ x. PutsSemaphore groups index x groups') new_is puts) ∙ ap (changed k) (sym row);
  laid = λ laid. laid_kept s.clusters parts new comes.kept laid;
  kept = ap (λ (f : Frame). f.stored) comes.kept;
  accounts = ap (λ (f : Frame). f.accounts) comes.kept;
  framed = puts.kept;
  held = held;
} where
  k : Plain
  k = joined s table parts groups

  -- what is created depends on the creator's index and home alone
  new_is : new_semaphore spec by ≡ new_semaphore spec (caller_at k t)
  new_is = λ i. new_semaphore spec (record { thread = thread i; home = home i; prio = 0 })

  place : ℕ → Plain → Plain
  place index next = put_semaphore next index (new_semaphore spec (caller_at k t))

  row : semaphore_create k t name spec ≡ done (id_of Semaphore index) (place index (with_table k table'))
  row = ap (λ p. create k Semaphore name (create_refusal spec p) place) (sym (prio ∙ home_prio_lent s table parts groups t)) ∙ ap (λ r. create k Semaphore name r place) (sym refused) ∙ made k place

-- the owner of one that was created, if it has one, is its creator
pub created_owner : (spec : SemSpec) (by : Caller) (u : ℕ) → (new_semaphore spec by).owner ≡ Some u → by.thread ≡ u
created_owner spec by u is = owning (is_binary spec.kind && (spec.count == 0)) is where
  owning : (b : Bool) → (let x : SemaphoreState = cond b (owned_by by.thread (free_semaphore spec by.home)) (free_semaphore spec by.home) in x).owner ≡ Some u → by.thread ≡ u
  owning true e = cc
  owning false e = let no : ⊥ = cc in absurd no

pub creates_none : (s : Scenario) (parts : List ClusterPart) (groups : List GroupPart) (table table' : Table) (t name : ℕ) (spec : SemSpec) (urgency : ℕ) (refusal : Option Status) (status : Status) → urgency ≡ home_prio (lent_both parts groups) t → refusal ≡ create_refusal spec urgency → ((k : Plain) → Creates (with_table k table) Semaphore name refusal (Err status) (with_table k table')) → DoesEvery s (λ k. semaphore_create k t name spec) (told.Refused status) parts groups table parts groups table'
creates_none s parts groups table table' t name spec urgency refusal status prio refused made = record {
  told = ap answer_of (sym row);
  state = λ laid. (made k).1 ∙ ap (changed k) (sym row);
  laid = λ laid. laid;
  kept = refl;
  accounts = refl;
  framed = refl;
  held = λ h. h;
} where
  k : Plain
  k = joined s table parts groups

  place : ℕ → Plain → Plain
  place index next = put_semaphore next index (new_semaphore spec (caller_at k t))

  row : semaphore_create k t name spec ≡ Refused status
  row = ap (λ p. create k Semaphore name (create_refusal spec p) place) (sym (prio ∙ home_prio_lent s table parts groups t)) ∙ ap (λ r. create k Semaphore name r place) (sym refused) ∙ (made k).0 place

-- ---- what a caller creates

-- what isn't refused isn't MrsP, and is judged well
pub accepted_kept : (spec : SemSpec) (urgency : ℕ) → create_refusal spec urgency ≡ None → is_mrsp spec.protocol ≡ false
accepted_kept spec urgency accepted = at (is_mrsp spec.protocol) accepted where
  at : (b : Bool) → cond b (Some NotDefined) (spec_refusal spec urgency) ≡ None → b ≡ false
  at true e = let no : ⊥ = cc in absurd no
  at false e = refl

pub accepted_judged : (spec : SemSpec) (urgency : ℕ) (by : Caller) → by.prio ≡ urgency → create_refusal spec urgency ≡ None → judged spec by ≡ Successful
accepted_judged spec urgency by same accepted = ap (λ p. status_of_refusal (spec_refusal spec p)) same ∙ at (is_mrsp spec.protocol) accepted where
  at : (b : Bool) → cond b (Some NotDefined) (spec_refusal spec urgency) ≡ None → status_of_refusal (spec_refusal spec urgency) ≡ Successful
  at true e = let no : ⊥ = cc in absurd no
  at false e = ap status_of_refusal e

-- one that isn't MrsP is refused as it is judged: not, where it is judged well,
pub judged_refusal : (spec : SemSpec) (urgency : ℕ) → spec.protocol ≢ Mrsp → spec_refusal spec urgency ≡ create_refusal spec urgency
judged_refusal spec urgency differs = ap (λ b. cond b (Some NotDefined) (spec_refusal spec urgency)) (sym (by spec.protocol differs)) where
  by : (protocol : Protocol) → protocol ≢ Mrsp → is_mrsp protocol ≡ false
  by NoProtocol other = refl
  by Inherit other = refl
  by Ceiling other = refl
  by Mrsp other = absurd (other refl)

pub judged_well : (spec : SemSpec) (urgency : ℕ) → status_of_refusal (spec_refusal spec urgency) ≡ Successful → spec_refusal spec urgency ≡ None
judged_well spec urgency = first (has_undefined_protocol spec) (has_great_count spec) (is_owned_mrsp spec) (has_invalid_ceiling spec) (is_below_ceiling spec urgency) where
  refusal : (a b c d e : Bool) → Option Status
  refusal a b c d e = cond a (Some NotDefined) (cond b (Some InvalidNumber) (cond c (Some InvalidNumber) (cond d (Some InvalidPriority) (cond e (Some InvalidPriority) None))))

  first : (a b c d e : Bool) → status_of_refusal (refusal a b c d e) ≡ Successful → refusal a b c d e ≡ None
  first true b c d e q = let no : ⊥ = cc in absurd no
  first false true c d e q = let no : ⊥ = cc in absurd no
  first false false true d e q = let no : ⊥ = cc in absurd no
  first false false false true e q = let no : ⊥ = cc in absurd no
  first false false false false true q = let no : ⊥ = cc in absurd no
  first false false false false false q = refl

-- and with the status of that, where it isn't
pub judged_ill : (refusal : Option Status) (status : Status) → status_of_refusal refusal ≡ status → status ≢ Successful → refusal ≡ Some status
judged_ill None status is ill = absurd (ill (sym is))
judged_ill (Some other) status is ill = ap (λ s. Some s) is

-- a row that is done where the state becomes this
pub done_both : (s : Scenario) (change : Plain → Plain) (old new : List ClusterPart) (groups groups' : List GroupPart) (answer : Answer) → answer ≡ told.Done Successful 0 None → BecomesBoth s change old groups new groups' → DoesBoth s (λ k. done 0 (change k)) answer old groups new groups'
done_both s change old new groups groups' answer is becomes = record { told = λ table. is; state = becomes.state; kept = becomes.kept; framed = becomes.framed; held = becomes.held }

-- ---- what a caller deletes

pub deletes_owned : (s : Scenario) (old : List ClusterPart) (groups : List GroupPart) (table : Table) (i t : ℕ) → (semaphore_lent groups i).owner ≡ Some t → DoesEvery s (λ k. deleted_at k i) (told.Refused ResourceInUse) old groups table old groups table
deletes_owned s old groups table i t owned =
    let k = joined s table old groups in
    let test : is_owned (semaphore_at k i) ≡ true = ap is_some_of owned in
    record {
      told = ap (λ b. answer_of (cond b (Refused ResourceInUse) (done 0 (without_semaphore k i)))) (sym test);
      state = λ laid. ap (λ b. changed k (cond b (Refused ResourceInUse) (done 0 (without_semaphore k i)))) (sym test);
      laid = λ laid. laid;
      kept = refl;
      accounts = refl;
      framed = refl;
      held = λ h. h;
    }

pub deletes_unowned : (s : Scenario) (old new : List ClusterPart) (groups groups' : List GroupPart) (table table' : Table) (i : ℕ) (answer : Answer) → (semaphore_lent groups i).owner ≡ None → answer ≡ told.Done Successful 0 None → BecomesEvery s (λ k. without_semaphore k i) old groups table new groups' table' → DoesEvery s (λ k. deleted_at k i) answer old groups table new groups' table'
deletes_unowned s old new groups groups' table table' i answer unowned is becomes =
    let k = joined s table old groups in
    let test = unowned_test (semaphore_lent groups i) unowned in
    record {
      told = is ∙ ap (λ b. answer_of (cond b (Refused ResourceInUse) (done 0 (without_semaphore k i)))) (sym test);
      state = λ laid. becomes.state laid ∙ ap (λ b. changed k (cond b (Refused ResourceInUse) (done 0 (without_semaphore k i)))) (sym test);
      laid = becomes.laid;
      kept = becomes.kept;
      accounts = becomes.accounts;
      framed = becomes.framed;
      held = becomes.held;
    }

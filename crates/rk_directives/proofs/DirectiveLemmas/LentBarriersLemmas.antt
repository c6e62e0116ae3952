-- What the directives of the barrier manager do to lent parts: waits that a manager has ended at once are waits that end one after another.
use Rattle.std.proofs.Common.{◌≡◌, ◌≢◌, ℕ, zero, suc, ◌+◌, ◌<◌, ◌≤◌, ◌==◌, List, [], ◌∷◌, ◌++◌, Bool, true, false, cond, Option, None, Some, Ok, Err, length, arith, refl, sym, ap, ◌∙◌, subst, get_or, drop, ⊎_elim}
use Rattle.std.proofs.lemmas.List.{get_or_past, drop_more}
use Rattle.std.proofs.lemmas.Bool.{false≢true, cases_lt}
use Rattle.std.proofs.lemmas.Bool.Decides.{nat_tests}
use Rattle.rk_model.specs.declared.entry.Answer.{Answer}
use Rattle.rk_model.specs.declared.entry.Answer.TheVariants as told
use Rattle.rk_model.specs.declared.entry.Reply.{Reply}
use Rattle.rk_model.specs.declared.ids.Class.{Class}
use Rattle.rk_model.specs.declared.ids.Class.TheVariants.{Barrier}
use Rattle.rk_model.specs.declared.scenario.Scenario.{Scenario}
use Rattle.rk_model.specs.declared.scenario.Target.{Target}
use Rattle.rk_model.specs.declared.state.Thread.{Thread}
use Rattle.rk_model.specs.declared.state.Wait.{Wait}
use Rattle.rk_model.specs.declared.state.Wait.TheVariants.{AtBarrier}
use Rattle.rk_model.specs.declared.status.Status.{Status}
use Rattle.rk_model.specs.declared.status.Status.TheVariants.{Successful, InvalidId, InvalidNumber, ObjectWasDeleted, Waits}
use Rattle.rk_model.specs.declared.waiting.Caller.{Caller}
use Rattle.rk_model.specs.declared.waiting.Wake.{Wake}
use Rattle.rk_model.specs.Ids.{id_of}
use Rattle.rk_model.specs.Lists.{nth, with_nth, times, has}
use Rattle.rk_model.specs.Names.{Table}
use Rattle.rk_model.specs.State.{Plain, BarrierState, no_thread, no_barrier, thread_at, barrier_at, put_barrier}
use Rattle.rk_model.specs.Directives.Objects.{has_begun, object_named, without_object, create}
use Rattle.rk_model.specs.Directives.Outcomes.{Outcome, Refused, Waiting, done, on_found, answer_of, changed}
use Rattle.rk_model.specs.Directives.Waits.{Object, OfBarrier, object_of_wait, is_for, arrivals_in, caller_at, without, without_arrival, without_waiter_in, enter, leave, start_wait, start_limited, begin_limited, stop_wait, end_each, bare}
use Rattle.rk_model.specs.Directives.Barriers.{new_barrier, most_refusal, barrier_create, is_full, end_at, barrier_wait, barrier_release, without_barrier, barrier_delete}
use Rattle.rk_model.proofs.BooleanLemmas.{equal_test, same_number}
use Rattle.rk_model.proofs.CountLemmas.{has_none}
use Rattle.rk_model.proofs.IndexLemmas.{nth-with_same, nth-with_other, length-with_nth, with_nth-twice}
use Rattle.rk_parts.specs.declared.parts.ClusterPart.{ClusterPart}
use Rattle.rk_groups.specs.declared.group.GroupPart.{GroupPart}
use Rattle.rk_groups.specs.Groups.{PutsBarrier, ended_waits, waited_at, woken_at}
use Rattle.rk_groups.specs.GroupObjects.{semaphores_of, barriers_of, barrier_lent}
use Rattle.rk_parts.specs.Joined.{placed_in, lives_in, held, joined, threads_of, thread_lent}
use Rattle.rk_parts.specs.Lent.{Frame}
use Rattle.rk_model.specs.declared.state.Armer.TheVariants.{Thread as OfThread}
use Rattle.rk_model.specs.Scheduling.Timers.{arm}
use Rattle.rk_directives.proofs.GentleChangeLemmas.{waits_within}
use Rattle.rk_directives.proofs.KeptHoldingLemmas.{still_held, same_owners}
use Rattle.rk_directives.proofs.DirectiveLemmas.LentLemmas.{laid_kept}
use Rattle.rk_groups.proofs.GroupLemmas.{length_barriers, with_nth-still}
use Rattle.rk_parts.proofs.GroupJoinedLemmas.{barrier_joined}
use Rattle.rk_parts.proofs.PutLemmas.{length_threads, thread_held}
use Rattle.rk_directives.specs.Does.{Becomes, BecomesBoth, BecomesEvery, DoesBoth, DoesEvery, DoesGroups, Creates, IsQueueOf, AllLive, woken, lent_both, with_table}
use Rattle.rk_directives.specs.Sound.{is_waiting}
use Rattle.rk_directives.proofs.DirectiveLemmas.BarriersLemmas.{Heads, heads, without_first}

-- ---- who waits lives

begun_by : (b : Bool) (x rest : Thread) → has_begun x.life ≡ b → (is_waiting rest.wait ≡ true → has_begun rest.life ≡ true) → is_waiting (cond b x rest).wait ≡ true → has_begun (cond b x rest).life ≡ true
begun_by true x rest e more waits = e
begun_by false x rest e more waits = more waits

held_lives : (parts : List ClusterPart) (t : ℕ) → is_waiting (held parts t).wait ≡ true → has_begun (held parts t).life ≡ true
held_lives [] t waits = absurd (false≢true waits)
held_lives (part ∷ parts) t waits = begun_by (lives_in part t) (placed_in part t) (held parts t) refl (held_lives parts t) waits

-- a lent thread that waits is one of the 64, and lives
pub waiting_lives : (parts : List ClusterPart) (t : ℕ) → is_waiting (thread_lent parts t).wait ≡ true → has_begun (thread_lent parts t).life ≡ true
waiting_lives parts zero waits = absurd (false≢true waits)
waiting_lives parts (suc i) waits =
    ⊎_elim
    (λ w. let is = thread_held parts (suc i) (omega arith) (omega (arith, w, length_threads parts)) in
    ap (λ (x : Thread). has_begun x.life) is ∙ held_lives parts (suc i) (ap (λ (x : Thread). is_waiting x.wait) (sym is) ∙ waits))
    (λ w. absurd (false≢true (rw (get_or_past (threads_of parts) i no_thread w) at waits)))
    (cases_lt i (length (threads_of parts)))

stands_waits : (wait : Option Wait) (object : Object) (n : ℕ) → 0 < n → n ≡ cond (is_for (object_of_wait wait) object) 1 0 → is_waiting wait ≡ true
stands_waits None object n some e = absurd (omega (arith, some, e))
stands_waits (Some w) object n some e = refl

all_live : (parts : List ClusterPart) (status : Status) (ts : List ℕ) → ((t : ℕ) → 0 < times t ts → has_begun (thread_lent parts t).life ≡ true) → AllLive parts (ended_waits status ts)
all_live parts status [] lives = tt
all_live parts status (t ∷ ts) lives =
    (lives t (let here : (t == t) ≡ true = equal_test t t refl in rw here (omega arith)), all_live parts status ts (λ u some. lives u (omega (arith, some))))

-- all that stand in a queue live
pub queued_live : (parts : List ClusterPart) (groups : List GroupPart) (object : Object) (status : Status) → IsQueueOf parts groups object → AllLive parts (ended_waits status (arrivals_in (barriers_of groups) (semaphores_of groups) object))
queued_live parts groups object status queue = all_live parts status (arrivals_in (barriers_of groups) (semaphores_of groups) object) (λ t some. waiting_lives parts t (stands_waits (thread_lent parts t).wait object _ some (queue t)))

pub queue_lives : (parts : List ClusterPart) (groups : List GroupPart) (i : ℕ) (status : Status) → IsQueueOf parts groups (OfBarrier i) → AllLive parts (ended_waits status (barrier_lent groups i).arrivals)
queue_lives parts groups i status queue = queued_live parts groups (OfBarrier i) status queue

-- so do all whose wait ends when another thread comes,
pub woken_live : (parts : List ClusterPart) (groups : List GroupPart) (i : ℕ) (wakes : List Wake) → IsQueueOf parts groups (OfBarrier i) → wakes ≡ woken_at (barrier_lent groups i) → AllLive parts wakes
woken_live parts groups i wakes queue is = subst (AllLive parts) (sym is) (by (is_full (barrier_lent groups i))) where
  by : (full : Bool) → AllLive parts (cond full (ended_waits Successful (barrier_lent groups i).arrivals) [])
  by true = queue_lives parts groups i Successful queue
  by false = tt

-- and a thread that waits for nothing doesn't stand there
pub free_apart : (parts : List ClusterPart) (groups : List GroupPart) (object : Object) (t : ℕ) → IsQueueOf parts groups object → (thread_lent parts t).wait ≡ None → has (arrivals_in (barriers_of groups) (semaphores_of groups) object) t ≡ false
free_apart parts groups object t queue free = has_none t (arrivals_in (barriers_of groups) (semaphores_of groups) object) (queue t ∙ ap (λ w. cond (is_for (object_of_wait w) object) 1 0) free)

pub free_absent : (parts : List ClusterPart) (groups : List GroupPart) (i t : ℕ) → IsQueueOf parts groups (OfBarrier i) → (thread_lent parts t).wait ≡ None → has (barrier_lent groups i).arrivals t ≡ false
free_absent parts groups i t queue free = free_apart parts groups (OfBarrier i) t queue free

-- ---- waits that end one after another

-- the waits that are left are the next one and those after it
pub waits_left : (wakes : List Wake) (i : ℕ) (next : Wake) → i < length wakes → next ≡ get_or wakes i next → drop i wakes ≡ next ∷ drop (i + 1) wakes
waits_left wakes i next within is = drop_more wakes i next within ∙ ap (λ (w : Wake). w ∷ drop (i + 1) wakes) (sym is)

-- who lived lives
pub still_live : (old new : List ClusterPart) (wakes : List Wake) → ((t : ℕ) → has_begun (thread_lent new t).life ≡ has_begun (thread_lent old t).life) → AllLive old wakes → AllLive new wakes
still_live old new [] same live = tt
still_live old new (w ∷ ws) same live = (same w.thread ∙ live.0, still_live old new ws same live.1)

-- ---- a queue that is emptied at once, and the waits of its threads

-- in the queue of a barrier stand exactly the threads that wait there
abbrev IsQueueAt : Plain → ℕ → Type 0
IsQueueAt k i = (t : ℕ) → times t (barrier_at k i).arrivals ≡ cond (is_for (object_of_wait (thread_at k t).wait) (OfBarrier i)) 1 0

-- a barrier with another queue
abbrev requeued : Plain → ℕ → List ℕ → BarrierState
requeued k i ts = record (barrier_at k i) { arrivals = ts }

-- the waits end of all in a queue: the barrier has none of them, and then each waits no longer
pub drained : (k : Plain) (i : ℕ) (ts : List ℕ) (status : Status) → 0 < i → i ≤ length k.barriers → (barrier_at k i).arrivals ≡ ts → IsQueueAt k i → end_each k ts (bare status) ≡ woken (put_barrier k i (requeued k i [])) (ended_waits status ts)
drained k i [] status low high stand queue =
    ap (λ (bs : List BarrierState). record k { barriers = bs }) (sym (ap (λ us. with_nth k.barriers i (requeued k i us)) (sym stand) ∙ with_nth-still no_barrier k.barriers i))
drained k i (u ∷ us) status low high stand queue =
    let reply = bare status in
    let head = heads (thread_at k u).wait i u us (ap (times u) (sym stand) ∙ queue u) in
    let out : without u (barrier_at k i).arrivals ≡ us = ap (without u) stand ∙ without_first u us head.once in
    let left : leave k u ≡ put_barrier k i (requeued k i us) =
    ap (λ o. record k { barriers = without_arrival k.barriers u o; semaphores = without_waiter_in k.semaphores u o }) head.awaits ∙ ap (λ ts. put_barrier k i (requeued k i ts)) out in
    let mid = stop_wait (put_barrier k i (requeued k i us)) u reply in
    let here : barrier_at mid i ≡ requeued k i us = nth-with_same no_barrier (requeued k i us) k.barriers i low high in
    let size : length mid.barriers ≡ length k.barriers = length-with_nth (requeued k i us) k.barriers i in
    ap (λ (n : Plain). end_each (stop_wait n u reply) us reply) left
    ∙ drained mid i us status low (omega (arith, size, high)) (ap (λ (x : BarrierState). x.arrivals) here) (λ t. ap (λ (x : BarrierState). times t x.arrivals) here ∙ behind t (t == u) refl head)
    ∙ ap (λ (n : Plain). woken n (ended_waits status us)) (twice mid us here)
  where
    stopped : Thread
    stopped = record (thread_at k u) { wait = None; finished = Some (bare status) }

    twice : (mid : Plain) (us : List ℕ) → barrier_at (stop_wait (put_barrier k i (requeued k i us)) u (bare status)) i ≡ requeued k i us → put_barrier (stop_wait (put_barrier k i (requeued k i us)) u (bare status)) i (requeued (stop_wait (put_barrier k i (requeued k i us)) u (bare status)) i []) ≡ stop_wait (put_barrier k i (requeued k i [])) u (bare status)
    twice mid us here =
        ap (λ (x : BarrierState). put_barrier (stop_wait (put_barrier k i (requeued k i us)) u (bare status)) i (record x { arrivals = [] })) here
        ∙ ap (λ (bs : List BarrierState). stop_wait (let n : Plain = record k { barriers = bs } in n) u (bare status)) (with_nth-twice (requeued k i us) (requeued k i []) k.barriers i)

    behind : (t : ℕ) (b : Bool) → (t == u) ≡ b → Heads (thread_at k u).wait i u us → times t us ≡ cond (is_for (object_of_wait (nth no_thread (with_nth k.threads u stopped) t).wait) (OfBarrier i)) 1 0
    behind t true e head =
        let w = waits_within k.threads u head.waits in
        let free : (nth no_thread (with_nth k.threads u stopped) u).wait ≡ None = ap (λ (x : Thread). x.wait) (nth-with_same no_thread stopped k.threads u w.0 w.1) in
        subst (λ v. times v us ≡ cond (is_for (object_of_wait (nth no_thread (with_nth k.threads u stopped) v).wait) (OfBarrier i)) 1 0) (sym (same_number t u e))
        (head.once ∙ ap (λ wait. cond (is_for (object_of_wait wait) (OfBarrier i)) 1 0) (sym free))
    behind t false e head =
        let other : t ≢ u = λ q. false≢true (sym e ∙ equal_test t u q) in
        let no : (u == t) ≡ false = grind (arith, nat_tests, e) in
        let same : times t (u ∷ us) ≡ times t us = rw no (omega arith) in
        sym same ∙ ap (times t) (sym stand) ∙ queue t
        ∙ ap (λ (x : Thread). cond (is_for (object_of_wait x.wait) (OfBarrier i)) 1 0) (sym (nth-with_other no_thread stopped k.threads u t other))

-- ---- in lent parts

-- the state in which all waits at a barrier have ended, by the wakes of the manager
ended_by : (s : Scenario) (table : Table) (parts : List ClusterPart) (groups : List GroupPart) (i : ℕ) (status : Status) → 1 ≤ i → i ≤ 64 → IsQueueOf parts groups (OfBarrier i) →
    end_at (joined s table parts groups) i status ≡ woken (put_barrier (joined s table parts groups) i (record (barrier_lent groups i) { arrivals = [] })) (ended_waits status (barrier_lent groups i).arrivals)
ended_by s table parts groups i status low high queue =
    let size = length_barriers groups in
    drained (joined s table parts groups) i (barrier_lent groups i).arrivals status (omega (arith, low)) (omega (arith, high, size)) refl queue

-- a barrier was emptied, and its waiters woke: all waits there have ended
pub all_ended : (s : Scenario) (old new : List ClusterPart) (groups groups' : List GroupPart) (i : ℕ) (status : Status) (wakes : List Wake) → 1 ≤ i → i ≤ 64 → IsQueueOf old groups (OfBarrier i) → PutsBarrier groups i (record (barrier_lent groups i) { arrivals = [] }) groups' → wakes ≡ ended_waits status (barrier_lent groups i).arrivals → Becomes s (λ k. woken k wakes) old new → BecomesBoth s (λ k. end_at k i status) old groups new groups'
all_ended s old new groups groups' i status wakes low high queue puts is becomes = record {
  state = λ table laid.
      becomes.state table groups' laid
      ∙ ap (λ (n : Plain). woken n wakes) (barrier_joined s table old groups groups' i (record (barrier_lent groups i) { arrivals = [] }) puts)
      ∙ ap (woken (put_barrier (joined s table old groups) i (record (barrier_lent groups i) { arrivals = [] }))) is
      ∙ sym (ended_by s table old groups i status low high queue);
  kept = becomes.kept;
  framed = puts.kept;
  held = still_held old new groups groups' becomes.held (same_owners groups groups' puts.semaphores);
}

-- ---- barrier.release

abbrev release_row : Plain → Option ℕ → Outcome
release_row k o = on_found o (λ i. done (length (barrier_at k i).arrivals) (end_at k i Successful))

pub releases : (s : Scenario) (old new : List ClusterPart) (groups groups' : List GroupPart) (t i out : ℕ) (id : Target) (answer : Answer) → object_named (lent_both old groups) t Barrier id ≡ Some i → answer ≡ told.Done Successful out None → out ≡ length (barrier_lent groups i).arrivals → ((s : Scenario) → BecomesBoth s (λ k. end_at k i Successful) old groups new groups') → DoesBoth s (λ k. barrier_release k t id) answer old groups new groups'
releases s old new groups groups' t i out id answer found is count becomes = record {
  told = λ table. (let k = joined s table old groups in is ∙ ap (λ n. told.Done Successful n None) count ∙ ap (λ o. answer_of (release_row k o)) (sym found));
  state = λ table laid. (let k = joined s table old groups in (becomes s).state table laid ∙ ap (λ o. changed k (release_row k o)) (sym found));
  kept = (becomes s).kept;
  framed = (becomes s).framed;
  held = (becomes s).held;
}

pub releases_none : (s : Scenario) (old : List ClusterPart) (groups : List GroupPart) (t : ℕ) (id : Target) → object_named (lent_both old groups) t Barrier id ≡ None → DoesBoth s (λ k. barrier_release k t id) (told.Refused InvalidId) old groups old groups
releases_none s old groups t id found = record {
  told = λ table. (let k = joined s table old groups in ap (λ o. answer_of (release_row k o)) (sym found));
  state = λ table laid. (let k = joined s table old groups in ap (λ o. changed k (release_row k o)) (sym found));
  kept = refl;
  framed = refl;
  held = λ h. h;
}

-- ---- barrier.wait

abbrev wait_row : Plain → ℕ → ℕ → Option ℕ → Outcome
wait_row k t ticks o = on_found o (λ i. cond (is_full (barrier_at k i)) (done 0 (end_at k i Successful)) (Waiting (begin_limited k t (AtBarrier i) ticks)))

abbrev wait_by : Plain → ℕ → ℕ → ℕ → Bool → Outcome
wait_by k t ticks i full = cond full (done 0 (end_at k i Successful)) (Waiting (begin_limited k t (AtBarrier i) ticks))

-- what a thread that came to a barrier was answered says whether it was full
pub was_not_full : (full : Bool) (reply : Reply) → reply ≡ cond full (bare Successful) (bare Waits) → reply.status ≡ Waits → full ≡ false
was_not_full true reply is waits = let no : Successful ≡ Waits = sym (ap (λ (r : Reply). r.status) is) ∙ waits in let never : ⊥ = cc in absurd never
was_not_full false reply is waits = refl

pub was_full : (full : Bool) (reply : Reply) → reply ≡ cond full (bare Successful) (bare Waits) → (reply.status ≡ Waits → ⊥) → full ≡ true
was_full true reply is other = refl
was_full false reply is other = absurd (other (ap (λ (r : Reply). r.status) is))

-- to enter a queue before the timer is armed is the same as after it
pub enter_first : (k : Plain) (by : Caller) (t : ℕ) (wait : Wait) (ticks : ℕ) → enter (start_limited k t wait ticks) by (Some wait) ≡ start_limited (enter k by (Some wait)) t wait ticks
enter_first k by t wait ticks = at (ticks == 0) where
  armed : Plain → Plain
  armed n = arm (start_wait n t wait) (thread_at n t).home (record { who = OfThread t; due = n.present + ticks })

  at : (b : Bool) → enter (cond b (start_wait k t wait) (armed k)) by (Some wait) ≡ cond b (start_wait (enter k by (Some wait)) t wait) (armed (enter k by (Some wait)))
  at true = refl
  at false = refl

-- the caller waits at a barrier that isn't full
pub waits_there : (s : Scenario) (old new : List ClusterPart) (groups groups' : List GroupPart) (t i ticks : ℕ) (id : Target) → object_named (lent_both old groups) t Barrier id ≡ Some i → is_full (barrier_lent groups i) ≡ false → PutsBarrier groups i (waited_at t (barrier_lent groups i)) groups' → ((s : Scenario) → Becomes s (λ k. start_limited k t (AtBarrier i) ticks) old new) → DoesBoth s (λ k. barrier_wait k t id ticks) told.Waiting old groups new groups'
waits_there s old new groups groups' t i ticks id found full puts becomes =
    let b = barrier_lent groups i in
    let barrier : BarrierState = record b { arrivals = b.arrivals ++ t ∷ [] } in
    let entered : PutsBarrier groups i barrier groups' = subst (λ d. PutsBarrier groups i (cond d (let x : BarrierState = record b { arrivals = [] } in x) (let x : BarrierState = record b { arrivals = b.arrivals ++ t ∷ [] } in x)) groups') full puts in
    record {
      told = λ table. (let k = joined s table old groups in ap (λ d. answer_of (wait_by k t ticks i d)) (sym full) ∙ ap (λ o. answer_of (wait_row k t ticks o)) (sym found));
      state = λ table laid. (
          let k = joined s table old groups in
          (becomes s).state table groups' laid
          ∙ ap (λ (n : Plain). start_limited n t (AtBarrier i) ticks) (barrier_joined s table old groups groups' i barrier entered)
          ∙ sym (enter_first k (caller_at k t) t (AtBarrier i) ticks)
          ∙ ap (λ d. changed k (wait_by k t ticks i d)) (sym full) ∙ ap (λ o. changed k (wait_row k t ticks o)) (sym found));
      kept = (becomes s).kept;
      framed = puts.kept;
      held = still_held old new groups groups' (becomes s).held (same_owners groups groups' puts.semaphores);
    }

-- or makes it full
pub waits_full : (s : Scenario) (old new : List ClusterPart) (groups groups' : List GroupPart) (t i ticks : ℕ) (id : Target) (wakes : List Wake) (answer : Answer) → 1 ≤ i → i ≤ 64 → IsQueueOf old groups (OfBarrier i) → object_named (lent_both old groups) t Barrier id ≡ Some i → is_full (barrier_lent groups i) ≡ true → answer ≡ told.Done Successful 0 None → PutsBarrier groups i (waited_at t (barrier_lent groups i)) groups' → wakes ≡ woken_at (barrier_lent groups i) → ((s : Scenario) → Becomes s (λ k. woken k wakes) old new) → DoesBoth s (λ k. barrier_wait k t id ticks) answer old groups new groups'
waits_full s old new groups groups' t i ticks id wakes answer low high queue found full is puts woke becomes =
    let b = barrier_lent groups i in
    let emptied : PutsBarrier groups i (record b { arrivals = [] }) groups' = subst (λ d. PutsBarrier groups i (cond d (let x : BarrierState = record b { arrivals = [] } in x) (let x : BarrierState = record b { arrivals = b.arrivals ++ t ∷ [] } in x)) groups') full puts in
    let all : wakes ≡ ended_waits Successful b.arrivals = woke ∙ ap (λ d. cond d (ended_waits Successful b.arrivals) []) full in
    let ends = all_ended s old new groups groups' i Successful wakes low high queue emptied all (becomes s) in
    record {
      told = λ table. (let k = joined s table old groups in is ∙ ap (λ d. answer_of (wait_by k t ticks i d)) (sym full) ∙ ap (λ o. answer_of (wait_row k t ticks o)) (sym found));
      state = λ table laid. (let k = joined s table old groups in ends.state table laid ∙ ap (λ d. changed k (wait_by k t ticks i d)) (sym full) ∙ ap (λ o. changed k (wait_row k t ticks o)) (sym found));
      kept = ends.kept;
      framed = ends.framed;
      held = ends.held;
    }

pub waits_none : (s : Scenario) (old : List ClusterPart) (groups : List GroupPart) (t ticks : ℕ) (id : Target) → object_named (lent_both old groups) t Barrier id ≡ None → DoesBoth s (λ k. barrier_wait k t id ticks) (told.Refused InvalidId) old groups old groups
waits_none s old groups t ticks id found = record {
  told = λ table. (let k = joined s table old groups in ap (λ o. answer_of (wait_row k t ticks o)) (sym found));
  state = λ table laid. (let k = joined s table old groups in ap (λ o. changed k (wait_row k t ticks o)) (sym found));
  kept = refl;
  framed = refl;
  held = λ h. h;
}

-- ---- barrier.create

-- what isn't refused has a maximum where it is automatic
pub accepts : (automatic : Bool) (most : ℕ) → most_refusal automatic most ≡ None → automatic ≡ true → most ≢ 0
accepts true most accepted is none =
    let zero : (most == 0) ≡ true = equal_test most 0 none in
    let no : ⊥ = (let e : Some InvalidNumber ≡ None = ap (λ b. cond b (Some InvalidNumber) None) (sym zero) ∙ accepted in cc) in
    no
accepts false most accepted is none = false≢true is

pub creates : (s : Scenario) (groups groups' : List GroupPart) (table table' : Table) (name index most : ℕ) (automatic : Bool) (refusal : Option Status) (answer : Answer) → refusal ≡ most_refusal automatic most → ((k : Plain) → Creates (with_table k table) Barrier name refusal (Ok index) (with_table k table')) → answer ≡ told.Done Successful (id_of Barrier index) None → PutsBarrier groups index (new_barrier automatic most) groups' → DoesGroups s (λ k. barrier_create k name automatic most) answer groups table groups' table'
creates s groups groups' table table' name index most automatic refusal answer refused made is puts = record {
  told = λ parts. (let k = joined s table parts groups in is ∙ ap answer_of (sym (row k)));
  state = λ parts. (let k = joined s table parts groups in barrier_joined s table' parts groups groups' index (new_barrier automatic most) puts ∙ ap (changed k) (sym (row k)));
  framed = puts.kept;
  owners = same_owners groups groups' puts.semaphores;
} where
  place : ℕ → Plain → Plain
  place index next = put_barrier next index (new_barrier automatic most)

  row : (k : Plain) → barrier_create (with_table k table) name automatic most ≡ done (id_of Barrier index) (place index (with_table k table'))
  row k = ap (λ r. create (with_table k table) Barrier name r place) (sym refused) ∙ made k place

pub creates_none : (s : Scenario) (groups : List GroupPart) (table table' : Table) (name most : ℕ) (automatic : Bool) (refusal : Option Status) (status : Status) → refusal ≡ most_refusal automatic most → ((k : Plain) → Creates (with_table k table) Barrier name refusal (Err status) (with_table k table')) → DoesGroups s (λ k. barrier_create k name automatic most) (told.Refused status) groups table groups table'
creates_none s groups table table' name most automatic refusal status refused made = record {
  told = λ parts. (let k = joined s table parts groups in ap answer_of (sym (row k)));
  state = λ parts. (let k = joined s table parts groups in (made k).1 ∙ ap (changed k) (sym (row k)));
  framed = refl;
  owners = λ i. refl;
} where
  place : ℕ → Plain → Plain
  place index next = put_barrier next index (new_barrier automatic most)

  row : (k : Plain) → barrier_create (with_table k table) name automatic most ≡ Refused status
  row k = ap (λ r. create (with_table k table) Barrier name r place) (sym refused) ∙ (made k).0 place

-- ---- barrier.delete

-- to put a barrier, or to take a name away, is the same before waits end and after it
put_woken : (k : Plain) (wakes : List Wake) (i : ℕ) (barrier : BarrierState) → put_barrier (woken k wakes) i barrier ≡ woken (put_barrier k i barrier) wakes
put_woken k [] i barrier = refl
put_woken k (wake ∷ wakes) i barrier = put_woken (stop_wait k wake.thread (record { status = wake.status; out = wake.out })) wakes i barrier

pub named_woken : (k : Plain) (wakes : List Wake) (class : Class) (i : ℕ) → woken (without_object k class i) wakes ≡ without_object (woken k wakes) class i
named_woken k [] class i = refl
named_woken k (wake ∷ wakes) class i = named_woken (stop_wait k wake.thread (record { status = wake.status; out = wake.out })) wakes class i

-- a barrier was removed, its waiters woke, and its name was taken away
pub removes : (s : Scenario) (old new : List ClusterPart) (groups groups' : List GroupPart) (table table' : Table) (i : ℕ) (wakes : List Wake) → 1 ≤ i → i ≤ 64 → IsQueueOf old groups (OfBarrier i) → PutsBarrier groups i no_barrier groups' → wakes ≡ ended_waits ObjectWasDeleted (barrier_lent groups i).arrivals → Becomes s (λ k. woken k wakes) old new → ((k : Plain) → with_table k table' ≡ without_object (with_table k table) Barrier i) → BecomesEvery s (λ k. without_barrier k i) old groups table new groups' table'
removes s old new groups groups' table table' i wakes low high queue puts woke becomes removed =
    let k = joined s table old groups in
    let emptied : BarrierState = record (barrier_lent groups i) { arrivals = [] } in
    let ended : end_at k i ObjectWasDeleted ≡ woken (put_barrier k i emptied) wakes = ended_by s table old groups i ObjectWasDeleted low high queue ∙ ap (woken (put_barrier k i emptied)) (sym woke) in
    let gone : put_barrier (end_at k i ObjectWasDeleted) i no_barrier ≡ woken (put_barrier k i no_barrier) wakes =
    ap (λ (n : Plain). put_barrier n i no_barrier) ended ∙ put_woken (put_barrier k i emptied) wakes i no_barrier
    ∙ ap (λ (bs : List BarrierState). woken (let n : Plain = record k { barriers = bs } in n) wakes) (with_nth-twice emptied no_barrier k.barriers i) in
    record {
      state = λ laid.
          becomes.state table' groups' laid
          ∙ ap (λ (n : Plain). woken n wakes) (barrier_joined s table' old groups groups' i no_barrier puts)
          ∙ ap (λ (n : Plain). woken n wakes) (removed (put_barrier k i no_barrier))
          ∙ named_woken (put_barrier k i no_barrier) wakes Barrier i
          ∙ ap (λ (n : Plain). without_object n Barrier i) (sym gone);
      laid = λ laid. laid_kept s.clusters old new becomes.kept laid;
      kept = ap (λ (f : Frame). f.stored) becomes.kept;
      accounts = ap (λ (f : Frame). f.accounts) becomes.kept;
      framed = puts.kept;
      held = still_held old new groups groups' becomes.held (same_owners groups groups' puts.semaphores);
    }

abbrev delete_row : Plain → Option ℕ → Outcome
delete_row k o = on_found o (λ i. done 0 (without_barrier k i))

pub deletes_barrier : (s : Scenario) (old new : List ClusterPart) (groups groups' : List GroupPart) (table table' : Table) (t i : ℕ) (id : Target) (answer : Answer) → object_named (lent_both old groups) t Barrier id ≡ Some i → answer ≡ told.Done Successful 0 None → BecomesEvery s (λ k. without_barrier k i) old groups table new groups' table' → DoesEvery s (λ k. barrier_delete k t id) answer old groups table new groups' table'
deletes_barrier s old new groups groups' table table' t i id answer found is becomes =
    let k = joined s table old groups in
    record {
      told = is ∙ ap (λ o. answer_of (delete_row k o)) (sym found);
      state = λ laid. becomes.state laid ∙ ap (λ o. changed k (delete_row k o)) (sym found);
      laid = becomes.laid;
      kept = becomes.kept;
      accounts = becomes.accounts;
      framed = becomes.framed;
      held = becomes.held;
    }

pub deletes_none : (s : Scenario) (old : List ClusterPart) (groups : List GroupPart) (table : Table) (t : ℕ) (id : Target) → object_named (lent_both old groups) t Barrier id ≡ None → DoesEvery s (λ k. barrier_delete k t id) (told.Refused InvalidId) old groups table old groups table
deletes_none s old groups table t id found =
    let k = joined s table old groups in
    record {
      told = ap (λ o. answer_of (delete_row k o)) (sym found);
      state = λ laid. ap (λ o. changed k (delete_row k o)) (sym found);
      laid = λ laid. laid;
      kept = refl;
      accounts = refl;
      framed = refl;
      held = λ h. h;
    }

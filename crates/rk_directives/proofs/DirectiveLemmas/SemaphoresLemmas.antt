-- The directives of the semaphore manager are fair.
use Rattle.std.proofs.Common.{◌≡◌, ◌≢◌, ◌⊎◌, inl, inr, ℕ, ◌+◌, ◌-◌, ◌<◌, ◌≤◌, ◌==◌, ◌&&◌, ◌||◌, nat_lt, not, map, List, [], ◌∷◌, Bool, true, false, cond, Option, None, Some, IfSome, length, arith, refl, sym, ap, ◌∙◌, subst}
use Rattle.std.proofs.lemmas.Bool.{false≢true}
use Rattle.std.proofs.lemmas.Bool.Decides.{nat_tests}
use Rattle.rk_model.specs.declared.entry.Reply.{Reply}
use Rattle.rk_model.specs.declared.ids.Class.TheVariants.{Semaphore}
use Rattle.rk_model.specs.declared.scenario.Target.{Target}
use Rattle.rk_model.specs.declared.scenario.Wish.{Wish}
use Rattle.rk_model.specs.declared.scenario.Wish.TheVariants.{NoWait, Limit}
use Rattle.rk_model.specs.declared.semaphore.SemKind.{SemKind}
use Rattle.rk_model.specs.declared.semaphore.SemKind.TheVariants.{Counting, Simple, Binary}
use Rattle.rk_model.specs.declared.semaphore.SemSpec.{SemSpec}
use Rattle.rk_model.specs.declared.state.Thread.{Thread}
use Rattle.rk_model.specs.declared.state.Wait.{Wait}
use Rattle.rk_model.specs.declared.state.Wait.TheVariants.{ForTime, ForEvents, AtBarrier, ForPeriod, ForSemaphore}
use Rattle.rk_model.specs.declared.status.Status.{Status}
use Rattle.rk_model.specs.declared.status.Status.TheVariants.{Successful, NotDefined, Unsatisfied, IncorrectState, InvalidPriority, NotOwnerOfResource, ObjectWasDeleted}
use Rattle.rk_model.specs.declared.waiting.Caller.{Caller}
use Rattle.rk_model.specs.declared.waiting.Order.{Order}
use Rattle.rk_model.specs.declared.waiting.Order.TheVariants.{Fifo, Priority}
use Rattle.rk_model.specs.declared.waiting.Waiter.{Waiter}
use Rattle.rk_model.specs.Lists.{has, nth, with_nth, times}
use Rattle.rk_model.specs.Names.{taken as taken_names}
use Rattle.rk_model.specs.Queues.{Queue, threads, without, served_by, first_of}
use Rattle.rk_model.specs.State.{Plain, SemaphoreState, objects_of, no_thread, no_semaphore, thread_at, semaphore_at, put_semaphore}
use Rattle.rk_model.specs.Directives.Objects.{has_begun, object_named, put_names, without_object}
use Rattle.rk_model.specs.Directives.Semaphores.{is_binary, is_mrsp, owned_by, free_semaphore, new_semaphore, is_owned, owns, is_free, Obtaining, Nests, Takes, NotObtained, Enters, is_elsewhere, is_less, nesting_by, obtaining_again, obtaining_later, nested, taken, Releasing, NotReleased, Unnests, Serves, Frees, releasing_to, releasing, unnested, handed_to, freed, freed_by, is_full, flushed, with_present_prio, up_to_date_by, up_to_date, semaphore_create, semaphore_ident, reaches_from, obtained_at, semaphore_obtain, served_at, released_at, semaphore_release, emptied_at, semaphore_flush, without_semaphore, semaphore_delete, CeilingSetting, NotSet, Keeps, Sets, with_ceiling, set_at, semaphore_set_priority}
use Rattle.rk_model.specs.Directives.Waits.{Object, OfBarrier, OfSemaphore, object_of_wait, is_for, arrivals_in, caller_at, stop_wait, stop_each, bare}
use Rattle.rk_model.specs.Scheduling.Chains.{ends_by, reaches, owner_awaited, waits_on}
use Rattle.rk_model.specs.Scheduling.Priorities.{ceiling_in, home_prio}
use Rattle.rk_model.proofs.BooleanLemmas.{equal_test, same_number, or_front, or_back}
use Rattle.rk_model.proofs.ChainLemmas.{StaysIn, ends_within}
use Rattle.rk_model.proofs.CountLemmas.{has_none, times-has, times_none}
use Rattle.rk_model.proofs.IndexLemmas.{nth-with_same, nth-with_other, nth-with_kept, length-with_nth}
use Rattle.rk_queue.proofs.QueueLemmas.{times-left}
use Rattle.rk_queue.proofs.ServiceLemmas.{first_waits}
use Rattle.rk_directives.specs.Calls.{IsCaller}
use Rattle.rk_directives.specs.Sound.{IsSound, IsGentleBut, IsGentle, AreChained, waits_on_but, but_none, but_one, is_waiting}
use Rattle.rk_directives.proofs.DirectiveLemmas.ObjectsLemmas.{named_lives}
use Rattle.rk_parts.proofs.PutLemmas.{lives_within}
use Rattle.rk_directives.proofs.NamesAgreeLemmas.{first_free, named_obtained, named_founded, named_abandoned}
use Rattle.rk_directives.proofs.TieLemmas.{HasOneMore, awaited, tied_semaphore, semaphore_within}
use Rattle.rk_directives.proofs.ThreadBoundsLemmas.{bounds_at}
use Rattle.rk_directives.proofs.WaitChainLemmas.{IsClearOf, MayJoin, chained_handed, chained_owners}
use Rattle.rk_directives.proofs.GentleChangeLemmas.{gentle_same, gentle_but_more, gentle_stop_wait, in_call_begun, waits_calls, Stays}
use Rattle.rk_directives.proofs.OutcomeLemmas.{stays_as, stays_same, IsFair, gentle_limited, fair_refused, fair_done, fair_waiting, fair_found, fair_create, fair_ident, fair_if}

-- ---- a semaphore is put

-- the threads that wait for a semaphore
abbrev pub waiting : SemaphoreState → List ℕ
waiting sem = threads sem.queue.arrivals

-- to put a semaphore that lives where one lives, for which, but for some threads, the same wait
gentle_semaphore : (k m : Plain) (but : ℕ → Bool) (i : ℕ) (sem : SemaphoreState) → IsGentleBut k m but → (semaphore_at m i).live ≡ true → sem.live ≡ true → ((u : ℕ) → but u ≡ false → times u (waiting sem) ≡ times u (waiting (semaphore_at m i))) → AreChained (with_nth m.semaphores i sem) m.threads but → IsGentleBut k (put_semaphore m i sem) but
gentle_semaphore k m but i sem gentle was live same chained = record {
  scenario = gentle.scenario;
  present = gentle.present;
  places = gentle.places;
  locks = length-with_nth sem m.semaphores i ∙ gentle.locks;
  halls = gentle.halls;
  pools = gentle.pools;
  threads = gentle.threads;
  lines = gentle.lines;
  timers = gentle.timers;
  named = named_obtained m.table (objects_of m) i sem was live gentle.named;
  tied = tied_semaphore m.barriers m.semaphores m.threads m.clusters but i sem same gentle.tied;
  chained = chained;
}

-- to put one with the same owner and the same queue
same_owner : (k : Plain) (i : ℕ) (sem : SemaphoreState) → IsSound k → (semaphore_at k i).live ≡ true → sem.live ≡ true → waiting sem ≡ waiting (semaphore_at k i) → sem.owner ≡ (semaphore_at k i).owner → IsGentle k (put_semaphore k i sem)
same_owner k i sem sound was live queue owner =
    gentle_semaphore k k but_none i sem (gentle_same k sound) was live (λ u _. ap (times u) queue)
    (chained_owners k.semaphores (with_nth k.semaphores i sem) k.threads but_none (λ j. nth-with_kept (λ (x : SemaphoreState). x.owner) no_semaphore sem k.semaphores i j owner) sound.chained)

-- to put one with the same queue, which none owns, or the caller
other_owner : (k : Plain) (t i : ℕ) (sem : SemaphoreState) → IsCaller k t → (semaphore_at k i).live ≡ true → sem.live ≡ true → waiting sem ≡ waiting (semaphore_at k i) → (sem.owner ≡ None) ⊎ (sem.owner ≡ Some t) → IsGentle k (put_semaphore k i sem)
other_owner k t i sem caller was live queue owner =
    gentle_semaphore k k but_none i sem (gentle_same k caller.acts.sound) was live (λ u _. ap (times u) queue)
    (chained_handed k.semaphores k.threads but_none i t sem owner (ap has_begun caller.acts.started) (λ now. ap (owner_awaited now) caller.acts.waits_not) caller.acts.sound.chained)

-- ---- threads whose waits are about to end

-- The waits of these threads are about to end, each once: they wait, and stand in no queue any more.
pub record AreInHand (k m : Plain) (ts : List ℕ) : Type 0 where
  pub gentle : IsGentleBut k m (λ u. has ts u)
  pub waits : (u : ℕ) → has ts u ≡ true → is_waiting (thread_at m u).wait ≡ true
  pub gone : (u : ℕ) → has ts u ≡ true → (object : Object) → times u (arrivals_in m.barriers m.semaphores object) ≡ 0
  pub once : (u : ℕ) → times u ts ≤ 1

-- Their waits have ended: the change is gentle, and a thread that isn't one of them is as before.
pub record HaveStopped (k next : Plain) (t : ℕ) (thread : Thread) : Type 0 where
  pub gentle : IsGentle k next
  pub stays : thread_at next t ≡ thread

differ : (t u : ℕ) → (u == t) ≡ false → u ≢ t
differ t u e same = false≢true (sym e ∙ equal_test u t same)

-- one of these that stands there once isn't among the others
others_differ : (t u : ℕ) (ts : List ℕ) → times t (t ∷ ts) ≤ 1 → has ts u ≡ true → u ≢ t
others_differ t u ts once among same = absurd (omega (arith, once, here, times-has t ts (ap (has ts) (sym same) ∙ among))) where
  here : times t (t ∷ ts) ≡ 1 + times t ts
  here = let e = equal_test t t refl in rw e refl

stopped : (k m : Plain) (ts : List ℕ) (reply : Reply) (t : ℕ) (thread : Thread) → IsSound k → AreInHand k m ts → has ts t ≡ false → thread_at m t ≡ thread → HaveStopped k (stop_each m ts reply) t thread
stopped k m [] reply t thread sound hand apart is = record { gentle = hand.gentle; stays = is }
stopped k m (u ∷ us) reply t thread sound hand apart is =
    stopped k (stop_wait m u reply) us reply t thread sound
    (record {
      gentle = gentle_stop_wait k m (λ v. has (u ∷ us) v) (λ v. has us v) u reply sound hand.gentle among more (hand.gone u among) (hand.waits u among);
      waits = λ v later. ap (λ (x : Thread). is_waiting x.wait) (other v (others_differ u v us (hand.once u) later)) ∙ hand.waits v (or_back (u == v) later);
      gone = λ v later object. hand.gone v (or_back (u == v) later) object;
      once = λ v. omega (arith, hand.once v);
    })
    (behind (u == t) (has us t) apart)
    (other t (λ q. front (u == t) (has us t) apart (equal_test u t (sym q))) ∙ is)
  where
    among : has (u ∷ us) u ≡ true
    among = or_front (has us u) (equal_test u u refl)

    more : HasOneMore (λ v. has (u ∷ us) v) (λ v. has us v) u
    more v later e = let no : (u == v) ≡ false = grind (arith, nat_tests, e) in rw (no, later) refl

    after : Thread
    after = record (thread_at m u) { wait = None; finished = Some reply }

    other : (v : ℕ) → v ≢ u → thread_at (stop_wait m u reply) v ≡ thread_at m v
    other v apart = nth-with_other no_thread after m.threads u v apart

    behind : (a b : Bool) → (a || b) ≡ false → b ≡ false
    behind true b e = absurd (false≢true (sym e))
    behind false b e = e

    front : (a b : Bool) → (a || b) ≡ false → a ≡ true → ⊥
    front true b e h = false≢true (sym e)
    front false b e h = false≢true h

-- who stands in the queue of a semaphore waits for it
pub stands_for : (k : Plain) (i u : ℕ) → IsSound k → 0 < times u (waiting (semaphore_at k i)) → is_for (object_of_wait (thread_at k u).wait) (OfSemaphore i) ≡ true
stands_for k i u sound some = by (is_for (object_of_wait (thread_at k u).wait) (OfSemaphore i)) refl (sound.tied.queued u refl (OfSemaphore i)) where
  by : (b : Bool) → is_for (object_of_wait (thread_at k u).wait) (OfSemaphore i) ≡ b → times u (waiting (semaphore_at k i)) ≡ cond b 1 0 → is_for (object_of_wait (thread_at k u).wait) (OfSemaphore i) ≡ true
  by true e stood = e
  by false e stood = absurd (omega (arith, some, stood))

-- Threads that have left the queue of a semaphore, which lives, are in hand.
taken_out : (k m : Plain) (i : ℕ) (sem : SemaphoreState) (ts : List ℕ) → IsSound k → IsGentleBut k m (λ u. has ts u) → m.threads ≡ k.threads → m.barriers ≡ k.barriers → m.semaphores ≡ with_nth k.semaphores i sem → (semaphore_at k i).live ≡ true → ((u : ℕ) → times u ts ≤ 1) → ((u : ℕ) → has ts u ≡ true → 0 < times u (waiting (semaphore_at k i))) → ((u : ℕ) → has ts u ≡ true → times u (waiting sem) ≡ 0) → AreInHand k m ts
taken_out k m i sem ts sound gentle threads barriers semaphores lives once stood left = record {
  gentle = gentle;
  waits = λ u among. ap (λ (xs : List Thread). is_waiting (nth no_thread xs u).wait) threads ∙ (awaited (thread_at k u).wait (OfSemaphore i) (stands_for k i u sound (stood u among))).1;
  gone = λ u among object. ap (λ bs. times u (arrivals_in bs m.semaphores object)) barriers ∙ ap (λ ss. times u (arrivals_in k.barriers ss object)) semaphores ∙ gone_at u among object;
  once = once;
} where
  elsewhere : (u : ℕ) (object : Object) → has ts u ≡ true → is_for (Some (OfSemaphore i)) object ≡ false → times u (arrivals_in k.barriers k.semaphores object) ≡ 0
  elsewhere u object among apart = sound.tied.queued u refl object ∙ ap (λ o. cond (is_for o object) 1 0) (awaited (thread_at k u).wait (OfSemaphore i) (stands_for k i u sound (stood u among))).0 ∙ ap (λ b. cond b 1 0) apart

  gone_at : (u : ℕ) → has ts u ≡ true → (object : Object) → times u (arrivals_in k.barriers (with_nth k.semaphores i sem) object) ≡ 0
  gone_at u among (OfBarrier j) = elsewhere u (OfBarrier j) among refl
  gone_at u among (OfSemaphore j) = by (i == j) refl where
    by : (b : Bool) → (i == j) ≡ b → times u (waiting (nth no_semaphore (with_nth k.semaphores i sem) j)) ≡ 0
    by true e =
        let w = semaphore_within k.semaphores i lives in
        ap (λ n. times u (waiting (nth no_semaphore (with_nth k.semaphores i sem) n))) (sym (same_number i j e)) ∙ ap (λ x. times u (waiting x)) (nth-with_same no_semaphore sem k.semaphores i w.0 w.1) ∙ left u among
    by false e = ap (λ x. times u (waiting x)) (nth-with_other no_semaphore sem k.semaphores i j (λ q. false≢true (sym e ∙ equal_test i j (sym q)))) ∙ elsewhere u (OfSemaphore j) among e

-- a caller doesn't wait for a semaphore
caller_apart : (k : Plain) (t i : ℕ) → IsCaller k t → times t (waiting (semaphore_at k i)) ≡ 0
caller_apart k t i caller = caller.acts.sound.tied.queued t refl (OfSemaphore i) ∙ ap (λ w. cond (is_for (object_of_wait w) (OfSemaphore i)) 1 0) caller.acts.waits_not

-- a thread waits for a semaphore once
waits_once : (k : Plain) (i u : ℕ) → IsSound k → times u (waiting (semaphore_at k i)) ≤ 1
waits_once k i u sound = by (is_for (object_of_wait (thread_at k u).wait) (OfSemaphore i)) (sound.tied.queued u refl (OfSemaphore i)) where
  by : (b : Bool) → times u (waiting (semaphore_at k i)) ≡ cond b 1 0 → times u (waiting (semaphore_at k i)) ≤ 1
  by true e = omega (arith, e)
  by false e = omega (arith, e)

-- a thread that waits lives
waits_lives : (k : Plain) (u : ℕ) → IsSound k → is_waiting (thread_at k u).wait ≡ true → has_begun (thread_at k u).life ≡ true
waits_lives k u sound waits = in_call_begun (thread_at k u).life _ (waits_calls (thread_at k u).wait (thread_at k u).finished waits) (bounds_at k u sound).idle

-- ---- create and ident

-- a semaphore that lives, for which none waits, and which none owns or a thread
record IsNew (t : ℕ) (sem : SemaphoreState) : Type 0 where
  live : sem.live ≡ true
  queue : waiting sem ≡ []
  owner : (sem.owner ≡ None) ⊎ (sem.owner ≡ Some t)

is_new : (spec : SemSpec) (by : Caller) → IsNew by.thread (new_semaphore spec by)
is_new spec by = owning (is_binary spec.kind && (spec.count == 0)) where
  owning : (b : Bool) → IsNew by.thread (cond b (owned_by by.thread (free_semaphore spec by.home)) (free_semaphore spec by.home))
  owning true = record { live = refl; queue = refl; owner = inr refl }
  owning false = record { live = refl; queue = refl; owner = inl refl }

founded : (k : Plain) (t index : ℕ) (free : List ℕ) (name : ℕ) (sem : SemaphoreState) → IsCaller k t → IsNew t sem → k.table.semaphores.free ≡ index ∷ free → IsGentle k (put_semaphore (put_names k Semaphore (taken_names k.table.semaphores index free name)) index sem)
founded k t index free name sem caller new is =
    let sound = caller.acts.sound in
    let f = first_free k.table (objects_of k) Semaphore index free sound.named is in
    let same = gentle_same k sound in
    record {
      scenario = refl;
      present = refl;
      places = refl;
      locks = length-with_nth sem k.semaphores index;
      halls = refl;
      pools = refl;
      threads = same.threads;
      lines = same.lines;
      timers = same.timers;
      named = named_founded k.table (objects_of k) index free name sem sound.named sound.locks is new.live;
      tied = tied_semaphore k.barriers k.semaphores k.threads k.clusters but_none index sem (λ u _. ap (times u) (new.queue ∙ ap waiting (sym (sound.named.free index f.absent)))) sound.tied;
      chained = chained_handed k.semaphores k.threads but_none index t sem new.owner (ap has_begun caller.acts.started) (λ now. ap (owner_awaited now) caller.acts.waits_not) sound.chained;
    }

pub semaphore_create_fair : (k : Plain) (t name : ℕ) (spec : SemSpec) → IsCaller k t → IsFair k t (semaphore_create k t name spec)
semaphore_create_fair k t name spec caller = fair_create k t Semaphore name _ _ (λ index free is. stays_as k _ t caller (founded k t index free name (new_semaphore spec (caller_at k t)) caller (is_new spec (caller_at k t)) is) refl)

pub semaphore_ident_fair : (k : Plain) (t name : ℕ) → IsCaller k t → IsFair k t (semaphore_ident k name)
semaphore_ident_fair k t name caller = fair_ident k t Semaphore name caller

-- a semaphore that a caller asks for lives
pub semaphore_lives : (k : Plain) (t : ℕ) (id : Target) (i : ℕ) → object_named k t Semaphore id ≡ Some i → (semaphore_at k i).live ≡ true
semaphore_lives k t id i is = named_lives k t Semaphore id i is

-- ---- obtain

-- each thread waits on one of the 64
steps_within : (k : Plain) → IsSound k → StaysIn (λ u. (1 ≤ u) × (u ≤ length k.threads)) (waits_on k)
steps_within k sound u v here e = by (thread_at k u).wait e where
  by : (w : Option Wait) → owner_awaited k.semaphores w ≡ Some v → (1 ≤ v) × (v ≤ length k.threads)
  by None e = let no : ⊥ = cc in absurd no
  by (Some ForTime) e = let no : ⊥ = cc in absurd no
  by (Some (ForEvents set all)) e = let no : ⊥ = cc in absurd no
  by (Some (AtBarrier j)) e = let no : ⊥ = cc in absurd no
  by (Some (ForPeriod j)) e = let no : ⊥ = cc in absurd no
  by (Some (ForSemaphore j spins)) e = let w = lives_within k.threads v (sound.chained.owners j v e) in (omega (arith, w.0), w.1)

-- a caller may wait for a semaphore whose owner's chain doesn't reach it
may_join : (k : Plain) (t i : ℕ) (spins : Bool) → IsCaller k t → (is_owned (semaphore_at k i) && reaches_from k (semaphore_at k i).owner t) ≡ false → MayJoin k.semaphores k.threads t (Some (ForSemaphore i spins))
may_join k t i spins caller apart v owner = subst (λ (step : ℕ → Option ℕ). IsClearOf step v t) same (record { most = length k.threads; ends = ends; unmet = unmet }) where
  sound : IsSound k
  sound = caller.acts.sound

  unmet : reaches (waits_on k) (length k.threads) v t ≡ false
  unmet = subst (λ (o : Option ℕ). (is_some_of o && reaches_from k o t) ≡ false) owner apart where
    is_some_of : Option ℕ → Bool
    is_some_of None = false
    is_some_of (Some w) = true

  ends : ends_by (waits_on k) (length k.threads) v ≡ true
  ends = let w = lives_within k.threads v (sound.chained.owners i v owner) in ends_within (waits_on k) (length k.threads) v (steps_within k sound) (omega (arith, w.0), w.1) (sound.chained.ends v)

  at : (u : ℕ) (b : Bool) → (u == t) ≡ b → waits_on k u ≡ cond b None (waits_on k u)
  at u true e = ap (waits_on k) (same_number u t e) ∙ ap (owner_awaited k.semaphores) caller.acts.waits_not
  at u false e = refl

  same : ◌≡◌ {A = ℕ → Option ℕ} (λ u. waits_on k u) (λ u. waits_on_but k.semaphores k.threads (but_one t) u)
  same = λ i u. at u (u == t) refl i

obtained_if : (k : Plain) (t i : ℕ) (b : Bool) (x y : Obtaining) → (b ≡ true → IsFair k t (obtained_at k t i x)) → (b ≡ false → IsFair k t (obtained_at k t i y)) → IsFair k t (obtained_at k t i (cond b x y))
obtained_if k t i true x y held failed = held refl
obtained_if k t i false x y held failed = failed refl

-- a caller takes a semaphore
taken_gentle : (k : Plain) (t i : ℕ) → IsCaller k t → (semaphore_at k i).live ≡ true → IsGentle k (put_semaphore k i (taken t (semaphore_at k i)))
taken_gentle k t i caller lives = by (is_binary (semaphore_at k i).kind) where
  by : (b : Bool) → IsGentle k (put_semaphore k i (cond b (owned_by t (semaphore_at k i)) (record (semaphore_at k i) { count = (semaphore_at k i).count - 1 })))
  by true = other_owner k t i (owned_by t (semaphore_at k i)) caller lives lives refl (inr refl)
  by false = same_owner k i (record (semaphore_at k i) { count = (semaphore_at k i).count - 1 }) caller.acts.sound lives lives refl refl

later_fair : (k : Plain) (t i : ℕ) (wish : Wish) → IsCaller k t → (semaphore_at k i).live ≡ true → IsFair k t (obtained_at k t i (obtaining_later wish (reaches_from k (semaphore_at k i).owner t) (semaphore_at k i)))
later_fair k t i NoWait caller lives = fair_refused k t _
later_fair k t i (Limit ticks) caller lives = obtained_if k t i (is_owned (semaphore_at k i) && reaches_from k (semaphore_at k i).owner t) (NotObtained IncorrectState) (Enters ticks) (λ _. fair_refused k t _)
    (λ apart. fair_waiting k t _ (gentle_limited k t (ForSemaphore i (is_mrsp (semaphore_at k i).protocol)) ticks caller lives refl (λ _. refl) (may_join k t i (is_mrsp (semaphore_at k i).protocol) caller apart)))

-- the owner obtains it once more
again_fair : (k : Plain) (t i : ℕ) → IsCaller k t → (semaphore_at k i).live ≡ true → IsFair k t (obtained_at k t i (obtaining_again (semaphore_at k i)))
again_fair k t i caller lives =
    obtained_if k t i (is_mrsp (semaphore_at k i).protocol) (NotObtained Unsatisfied) (nesting_by (semaphore_at k i)) (λ _. fair_refused k t _)
    (λ _. obtained_if k t i ((semaphore_at k i).nesting == 18446744073709551615) (NotObtained Unsatisfied) Nests (λ _. fair_refused k t _)
    (λ _. fair_done k t _ _ _ _ refl (stays_as k _ t caller (same_owner k i (nested (semaphore_at k i)) caller.acts.sound lives lives refl refl) refl)))

-- who doesn't own it takes it, waits or is refused
other_fair : (k : Plain) (t i : ℕ) (wish : Wish) → IsCaller k t → (semaphore_at k i).live ≡ true → IsFair k t (obtained_at k t i (cond (is_free (semaphore_at k i)) Takes (obtaining_later wish (reaches_from k (semaphore_at k i).owner t) (semaphore_at k i))))
other_fair k t i wish caller lives =
    obtained_if k t i (is_free (semaphore_at k i)) Takes (obtaining_later wish (reaches_from k (semaphore_at k i).owner t) (semaphore_at k i))
    (λ _. fair_done k t _ _ _ _ refl (stays_as k _ t caller (taken_gentle k t i caller lives) refl))
    (λ _. later_fair k t i wish caller lives)

pub semaphore_obtain_fair : (k : Plain) (t : ℕ) (id : Target) (wish : Wish) → IsCaller k t → IsFair k t (semaphore_obtain k t id wish)
semaphore_obtain_fair k t id wish caller = fair_found k t (object_named k t Semaphore id) _ (λ i is.
    (let lives = semaphore_lives k t id i is in
    let sem = semaphore_at k i in
    let free = cond (is_free sem) Takes (obtaining_later wish (reaches_from k sem.owner t) sem) in
    let high = cond (is_less (home_prio k t) (ceiling_in (thread_at k t).home sem)) (NotObtained InvalidPriority) free in
    obtained_if k t i (is_elsewhere (thread_at k t).home sem) (NotObtained NotDefined) (cond (owns t sem) (obtaining_again sem) high) (λ _. fair_refused k t _)
    (λ _. obtained_if k t i (owns t sem) (obtaining_again sem) high (λ _. again_fair k t i caller lives)
    (λ _. obtained_if k t i (is_less (home_prio k t) (ceiling_in (thread_at k t).home sem)) (NotObtained InvalidPriority) free (λ _. fair_refused k t _)
    (λ _. other_fair k t i wish caller lives)))))

-- ---- release

released_if : (k : Plain) (t i : ℕ) (b : Bool) (x y : Releasing) → (b ≡ true → IsFair k t (released_at k i x)) → (b ≡ false → IsFair k t (released_at k i y)) → IsFair k t (released_at k i (cond b x y))
released_if k t i true x y held failed = held refl
released_if k t i false x y held failed = failed refl

-- a semaphore is freed
freed_gentle : (k : Plain) (t i : ℕ) → IsCaller k t → (semaphore_at k i).live ≡ true → IsGentle k (put_semaphore k i (freed (semaphore_at k i)))
freed_gentle k t i caller lives = by (semaphore_at k i).kind where
  by : (kind : SemKind) → IsGentle k (put_semaphore k i (freed_by kind (semaphore_at k i)))
  by Counting = same_owner k i (freed_by Counting (semaphore_at k i)) caller.acts.sound lives lives refl refl
  by Simple = same_owner k i (freed_by Simple (semaphore_at k i)) caller.acts.sound lives lives refl refl
  by Binary = other_owner k t i (freed_by Binary (semaphore_at k i)) caller lives lives refl (inl refl)

-- other priorities change no thread that waits
pub present_threads : (k : Plain) (waiters : List Waiter) → threads (map (with_present_prio k) waiters) ≡ threads waiters
present_threads k [] = refl
present_threads k (waiter ∷ waiters) = ap (λ ts. waiter.thread ∷ ts) (present_threads k waiters)

pub up_to_date_threads : (k : Plain) (order : Order) (queue : Queue) → threads (up_to_date_by k order queue).arrivals ≡ threads queue.arrivals
up_to_date_threads k Fifo queue = refl
up_to_date_threads k Priority queue = present_threads k queue.arrivals

-- A semaphore that has served a thread: it lives, the thread doesn't wait for it any more, the others do as before, and its owner is the one before or that thread.
record HasServed (u : ℕ) (before after : SemaphoreState) : Type 0 where
  live : before.live ≡ true → after.live ≡ true
  queue : waiting after ≡ threads (without u before.queue.arrivals)
  owner : (after.owner ≡ before.owner) ⊎ (after.owner ≡ Some u)

has_served : (u : ℕ) (sem : SemaphoreState) → HasServed u sem (handed_to u sem)
has_served u sem = by (is_binary sem.kind) where
  by : (b : Bool) → HasServed u sem (cond b (owned_by u (record sem { queue = served_by u sem.queue })) (record sem { queue = served_by u sem.queue }))
  by true = record { live = λ lives. lives; queue = refl; owner = inr refl }
  by false = record { live = λ lives. lives; queue = refl; owner = inl refl }

-- the thread that a semaphore serves next waits for it
pub first_stands : (k : Plain) (i u : ℕ) → first_of (up_to_date k (semaphore_at k i)).queue ≡ Some u → has (waiting (semaphore_at k i)) u ≡ true
first_stands k i u first =
    let queue = (up_to_date k (semaphore_at k i)).queue in
    ap (λ ts. has ts u) (sym (up_to_date_threads k (semaphore_at k i).queue.order (semaphore_at k i).queue)) ∙ subst (λ o. IfSome o (λ t. has (threads queue.arrivals) t ≡ true)) first (first_waits queue.order queue.arrivals queue.turns)

-- a release that serves a thread serves the one that the queue serves next
pub serves_first : (t : ℕ) (sem : SemaphoreState) (u : ℕ) → releasing t sem ≡ Serves u → first_of sem.queue ≡ Some u
serves_first t sem u is = by (is_binary sem.kind && not (owns t sem)) (is_binary sem.kind && nat_lt 1 sem.nesting) (first_of sem.queue) is where
  full : (b : Bool) → cond b (NotReleased Unsatisfied) Frees ≡ Serves u → ⊥
  full true e = let no : ⊥ = cc in no
  full false e = let no : ⊥ = cc in no

  by : (a b : Bool) (found : Option ℕ) → cond a (NotReleased NotOwnerOfResource) (cond b Unnests (releasing_to found sem)) ≡ Serves u → found ≡ Some u
  by true b found e = let no : ⊥ = cc in absurd no
  by false true found e = let no : ⊥ = cc in absurd no
  by false false None e = absurd (full (is_full sem) e)
  by false false (Some v) e = let same : v ≡ u = cc in ap (λ n. Some n) same

-- The thread that is served is in hand.
served_in_hand : (k : Plain) (i u : ℕ) → IsSound k → (semaphore_at k i).live ≡ true → has (waiting (semaphore_at k i)) u ≡ true → AreInHand k (put_semaphore k i (handed_to u (up_to_date k (semaphore_at k i)))) (u ∷ [])
served_in_hand k i u sound lives stands =
    let before = up_to_date k (semaphore_at k i) in
    let after = handed_to u before in
    let served = has_served u before in
    let some = times-has u (waiting (semaphore_at k i)) stands in
    let waits = (awaited (thread_at k u).wait (OfSemaphore i) (stands_for k i u sound some)).1 in
    let begun = waits_lives k u sound waits in
    let gentle = gentle_but_more k k (λ v. has (u ∷ []) v) but_none (λ _ _. refl) (gentle_same k sound) in
    taken_out k (put_semaphore k i after) i after (u ∷ []) sound
    (gentle_semaphore k k (λ v. has (u ∷ []) v) i after gentle lives (served.live lives) (λ v apart. times_of v apart) (chained served.owner begun gentle.chained))
    refl refl refl lives (λ v. once v (u == v)) (λ v among. subst (λ w. 0 < times w (waiting (semaphore_at k i))) (only v among) some) (λ v among. ap (times v) served.queue ∙ ap (λ w. times w (threads (without u before.queue.arrivals))) (sym (only v among)) ∙ none_left)
  where
    before : SemaphoreState
    before = up_to_date k (semaphore_at k i)

    queue_same : threads before.queue.arrivals ≡ waiting (semaphore_at k i)
    queue_same = up_to_date_threads k (semaphore_at k i).queue.order (semaphore_at k i).queue

    one_of : (v : ℕ) (b : Bool) → (u == v) ≡ b → (b || false) ≡ true → u ≡ v
    one_of v true e among = same_number u v e
    one_of v false e among = absurd (false≢true among)

    only : (v : ℕ) → has (u ∷ []) v ≡ true → u ≡ v
    only v among = one_of v (u == v) refl among

    once : (v : ℕ) (b : Bool) → cond b 1 0 + 0 ≤ 1
    once v true = omega arith
    once v false = omega arith

    none_left : times u (threads (without u before.queue.arrivals)) ≡ 0
    none_left = times-left u u before.queue.arrivals ∙ (let e = equal_test u u refl in rw e refl)

    apart_of : (v : ℕ) (b : Bool) → (u == v) ≡ b → (b || false) ≡ false → (v == u) ≡ false
    apart_of v true e apart = absurd (false≢true (sym apart))
    apart_of v false e apart = grind (arith, nat_tests, e)

    times_of : (v : ℕ) → has (u ∷ []) v ≡ false → times v (waiting (handed_to u before)) ≡ times v (waiting (semaphore_at k i))
    times_of v apart = let no = apart_of v (u == v) refl apart in ap (times v) (has_served u before).queue ∙ times-left v u before.queue.arrivals ∙ (rw no (ap (times v) queue_same))

    chained : ((handed_to u before).owner ≡ before.owner) ⊎ ((handed_to u before).owner ≡ Some u) → has_begun (thread_at k u).life ≡ true → AreChained k.semaphores k.threads (λ v. has (u ∷ []) v) → AreChained (with_nth k.semaphores i (handed_to u before)) k.threads (λ v. has (u ∷ []) v)
    chained (inl same) begun ends = chained_owners k.semaphores (with_nth k.semaphores i (handed_to u before)) k.threads (λ v. has (u ∷ []) v) (λ j. nth-with_kept (λ (x : SemaphoreState). x.owner) no_semaphore (handed_to u before) k.semaphores i j same) ends
    chained (inr there) begun ends = chained_handed k.semaphores k.threads (λ v. has (u ∷ []) v) i u (handed_to u before) (inr there) begun (λ now. (let e : has (u ∷ []) u ≡ true = or_front false (equal_test u u refl) in rw e refl)) ends

-- a caller isn't among those that wait for a semaphore
not_among : (k : Plain) (t i : ℕ) → IsCaller k t → has (waiting (semaphore_at k i)) t ≡ false
not_among k t i caller = has_none t (waiting (semaphore_at k i)) (caller_apart k t i caller)

served_stays : (k : Plain) (t i u : ℕ) → IsCaller k t → (semaphore_at k i).live ≡ true → first_of (up_to_date k (semaphore_at k i)).queue ≡ Some u → Stays k (served_at k i u) t
served_stays k t i u caller lives first =
    let stands = first_stands k i u first in
    let hand = served_in_hand k i u caller.acts.sound lives stands in
    let s = stopped k (put_semaphore k i (handed_to u (up_to_date k (semaphore_at k i)))) (u ∷ []) (bare Successful) t (thread_at k t) caller.acts.sound hand (apart (u == t) refl stands) refl in
    stays_as k (served_at k i u) t caller s.gentle s.stays
  where
    apart : (b : Bool) → (u == t) ≡ b → has (waiting (semaphore_at k i)) u ≡ true → (b || false) ≡ false
    apart true e stands = absurd (false≢true (sym (not_among k t i caller) ∙ ap (has (waiting (semaphore_at k i))) (sym (same_number u t e)) ∙ stands))
    apart false e stands = refl

released_to : (k : Plain) (t i : ℕ) (found : Option ℕ) → IsCaller k t → (semaphore_at k i).live ≡ true → first_of (up_to_date k (semaphore_at k i)).queue ≡ found → IsFair k t (released_at k i (releasing_to found (up_to_date k (semaphore_at k i))))
released_to k t i (Some u) caller lives first = fair_done k t _ _ _ _ refl (served_stays k t i u caller lives first)
released_to k t i None caller lives first = released_if k t i (is_full (up_to_date k (semaphore_at k i))) (NotReleased Unsatisfied) Frees (λ _. fair_refused k t _) (λ _. fair_done k t _ _ _ _ refl (stays_as k _ t caller (freed_gentle k t i caller lives) refl))

pub semaphore_release_fair : (k : Plain) (t : ℕ) (id : Target) → IsCaller k t → IsFair k t (semaphore_release k t id)
semaphore_release_fair k t id caller = fair_found k t (object_named k t Semaphore id) _ (λ i is.
    (let lives = semaphore_lives k t id i is in
    let sem = up_to_date k (semaphore_at k i) in
    let later = releasing_to (first_of sem.queue) sem in
    released_if k t i (is_binary sem.kind && not (owns t sem)) (NotReleased NotOwnerOfResource) (cond (is_binary sem.kind && nat_lt 1 sem.nesting) Unnests later) (λ _. fair_refused k t _)
    (λ _. released_if k t i (is_binary sem.kind && nat_lt 1 sem.nesting) Unnests later
    (λ _. fair_done k t _ _ _ _ refl (stays_as k _ t caller (same_owner k i (unnested (semaphore_at k i)) caller.acts.sound lives lives refl refl) refl))
    (λ _. released_to k t i (first_of sem.queue) caller lives refl))))

-- ---- flush and delete

-- All that wait for a semaphore are in hand where another one without waiters and with the same owner stands in its place.
emptied_in_hand : (k m : Plain) (i : ℕ) (sem : SemaphoreState) → IsSound k → IsGentleBut k m (λ u. has (waiting (semaphore_at k i)) u) → m.threads ≡ k.threads → m.barriers ≡ k.barriers → m.semaphores ≡ with_nth k.semaphores i sem → (semaphore_at k i).live ≡ true → waiting sem ≡ [] → AreInHand k m (waiting (semaphore_at k i))
emptied_in_hand k m i sem sound gentle threads barriers semaphores lives empty =
    taken_out k m i sem (waiting (semaphore_at k i)) sound gentle threads barriers semaphores lives (λ u. waits_once k i u sound) (λ u among. times-has u (waiting (semaphore_at k i)) among) (λ u among. ap (times u) empty)

emptied_stays : (k m : Plain) (t i : ℕ) (status : Status) → IsCaller k t → AreInHand k m (waiting (semaphore_at k i)) → thread_at m t ≡ thread_at k t → Stays k (stop_each m (waiting (semaphore_at k i)) (bare status)) t
emptied_stays k m t i status caller hand same =
    let s = stopped k m (waiting (semaphore_at k i)) (bare status) t (thread_at k t) caller.acts.sound hand (not_among k t i caller) same in
    stays_as k (stop_each m (waiting (semaphore_at k i)) (bare status)) t caller s.gentle s.stays

flushed_stays : (k : Plain) (t i : ℕ) → IsCaller k t → (semaphore_at k i).live ≡ true → Stays k (emptied_at k i (flushed (semaphore_at k i)) Unsatisfied) t
flushed_stays k t i caller lives =
    let sound = caller.acts.sound in
    let but : ℕ → Bool = λ u. has (waiting (semaphore_at k i)) u in
    let sem = flushed (semaphore_at k i) in
    let gentle = gentle_but_more k k but but_none (λ _ _. refl) (gentle_same k sound) in
    emptied_stays k (put_semaphore k i sem) t i Unsatisfied caller
    (emptied_in_hand k (put_semaphore k i sem) i sem sound
    (gentle_semaphore k k but i sem gentle lives lives (λ u apart. sym (times_none u (waiting (semaphore_at k i)) apart))
    (chained_owners k.semaphores (with_nth k.semaphores i sem) k.threads but (λ j. nth-with_kept (λ (x : SemaphoreState). x.owner) no_semaphore sem k.semaphores i j refl) gentle.chained))
    refl refl refl lives refl)
    refl

pub semaphore_flush_fair : (k : Plain) (t : ℕ) (id : Target) → IsCaller k t → IsFair k t (semaphore_flush k t id)
semaphore_flush_fair k t id caller = fair_found k t (object_named k t Semaphore id) _ (λ i is. fair_done k t _ _ _ _ refl (flushed_stays k t i caller (semaphore_lives k t id i is)))

-- the names are as they are, whatever waits end
names_apart : (k : Plain) (i : ℕ) (ts : List ℕ) (reply : Reply) → without_object (stop_each k ts reply) Semaphore i ≡ stop_each (without_object k Semaphore i) ts reply
names_apart k i [] reply = refl
names_apart k i (t ∷ ts) reply = names_apart (stop_wait k t reply) i ts reply

-- a semaphore that none owns is removed, and the waits for it are about to end
abandoned : (k : Plain) (i : ℕ) → IsSound k → (semaphore_at k i).live ≡ true → (semaphore_at k i).owner ≡ None → IsGentleBut k (without_object (put_semaphore k i no_semaphore) Semaphore i) (λ u. has (waiting (semaphore_at k i)) u)
abandoned k i sound lives unowned =
    let but : ℕ → Bool = λ u. has (waiting (semaphore_at k i)) u in
    let gentle = gentle_but_more k k but but_none (λ _ _. refl) (gentle_same k sound) in
    record {
      scenario = refl;
      present = refl;
      places = refl;
      locks = length-with_nth no_semaphore k.semaphores i;
      halls = refl;
      pools = refl;
      threads = gentle.threads;
      lines = gentle.lines;
      timers = gentle.timers;
      named = named_abandoned k.table (objects_of k) i sound.named sound.locks lives;
      tied = tied_semaphore k.barriers k.semaphores k.threads k.clusters but i no_semaphore (λ u apart. sym (times_none u (waiting (semaphore_at k i)) apart)) gentle.tied;
      chained = chained_owners k.semaphores (with_nth k.semaphores i no_semaphore) k.threads but (λ j. nth-with_kept (λ (x : SemaphoreState). x.owner) no_semaphore no_semaphore k.semaphores i j (sym unowned)) gentle.chained;
    }

deleted_stays : (k : Plain) (t i : ℕ) → IsCaller k t → (semaphore_at k i).live ≡ true → (semaphore_at k i).owner ≡ None → Stays k (without_semaphore k i) t
deleted_stays k t i caller lives unowned =
    let m = without_object (put_semaphore k i no_semaphore) Semaphore i in
    subst (λ (n : Plain). Stays k n t) (sym (names_apart (put_semaphore k i no_semaphore) i (waiting (semaphore_at k i)) (bare ObjectWasDeleted)))
    (emptied_stays k m t i ObjectWasDeleted caller (emptied_in_hand k m i no_semaphore caller.acts.sound (abandoned k i caller.acts.sound lives unowned) refl refl refl lives refl) refl)

not_owned : (o : Option ℕ) (sem : SemaphoreState) → sem.owner ≡ o → is_owned sem ≡ false → sem.owner ≡ None
not_owned None sem e free = e
not_owned (Some t) sem e free = absurd (false≢true (sym free ∙ ap some_of e)) where
  some_of : Option ℕ → Bool
  some_of None = false
  some_of (Some u) = true

pub semaphore_delete_fair : (k : Plain) (t : ℕ) (id : Target) → IsCaller k t → IsFair k t (semaphore_delete k t id)
semaphore_delete_fair k t id caller = fair_found k t (object_named k t Semaphore id) _ (λ i is. fair_if k t (is_owned (semaphore_at k i)) _ _ (λ _. fair_refused k t _)
    (λ free. fair_done k t _ _ _ _ refl (deleted_stays k t i caller (semaphore_lives k t id i is) (not_owned (semaphore_at k i).owner (semaphore_at k i) refl free))))

-- ---- set_priority

setting_fair : (k : Plain) (t i c prio : ℕ) (setting : CeilingSetting) → IsCaller k t → (semaphore_at k i).live ≡ true → IsFair k t (set_at k i c prio setting)
setting_fair k t i c prio (NotSet status) caller lives = fair_refused k t _
setting_fair k t i c prio Keeps caller lives = fair_done k t _ _ _ _ refl (stays_same k t caller)
setting_fair k t i c prio Sets caller lives = fair_done k t _ _ _ _ refl (stays_as k _ t caller (same_owner k i (with_ceiling c prio (semaphore_at k i)) caller.acts.sound lives lives refl refl) refl)

pub semaphore_set_priority_fair : (k : Plain) (t : ℕ) (id : Target) (c prio : ℕ) → IsCaller k t → IsFair k t (semaphore_set_priority k t id c prio)
semaphore_set_priority_fair k t id c prio caller = fair_found k t (object_named k t Semaphore id) _ (λ i is. setting_fair k t i c prio _ caller (semaphore_lives k t id i is))

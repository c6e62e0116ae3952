-- Waits agree with queues and timers, while threads are put, enter and leave queues, and arm and cancel timers.
use Rattle.std.proofs.Common.{◌≡◌, ◌≢◌, ℕ, zero, suc, ◌+◌, ◌<◌, ◌≤◌, List, [], ◌∷◌, ◌++◌, Bool, true, false, cond, not, ◌==◌, nat_lt, Option, None, Some, length, arith, refl, sym, ap, ◌∙◌, subst, ⊎_elim}
use Rattle.std.specs.List.{slice_set, slice_index_or}
use Rattle.std.proofs.lemmas.List.{get_or_past}
use Rattle.std.proofs.lemmas.Bool.{cases_lt, false≢true}
use Rattle.std.proofs.lemmas.Bool.Decides.{nat_tests}
use Rattle.rk_model.specs.declared.state.Armed.{Armed}
use Rattle.rk_model.specs.declared.state.Armer.{Armer}
use Rattle.rk_model.specs.declared.state.Armer.TheVariants.{Thread as OfThread, Period as OfPeriod}
use Rattle.rk_model.specs.declared.state.Thread.{Thread}
use Rattle.rk_model.specs.declared.state.Wait.{Wait}
use Rattle.rk_model.specs.declared.state.Wait.TheVariants.{ForTime, ForEvents, AtBarrier, ForPeriod, ForSemaphore}
use Rattle.rk_model.specs.Lists.{nth, with_nth, times}
use Rattle.rk_model.specs.declared.waiting.Caller.{Caller}
use Rattle.rk_model.specs.declared.waiting.Waiter.{Waiter}
use Rattle.rk_model.specs.Queues.{threads as waiting, without as waiters_without, waiter_of}
use Rattle.rk_model.specs.State.{SemaphoreState, BarrierState, ClusterState, no_thread, no_cluster, no_semaphore, no_barrier}
use Rattle.rk_model.specs.Scheduling.Timers.{is_same, times_armed, without_timer, is_due, due_at, without_due}
use Rattle.rk_model.specs.Directives.Waits.{Object, OfBarrier, OfSemaphore, object_of_wait, is_same_object, is_for, arrivals_in, without, with_arrival, without_arrival, with_waiter, without_waiter, with_waiter_in, without_waiter_in}
use Rattle.rk_model.proofs.BooleanLemmas.{equal_test, same_number}
use Rattle.rk_model.proofs.CountLemmas.{same_either_way, times-append, times-filter}
use Rattle.rk_queue.proofs.QueueLemmas.{times-entered as entered_times, times-left as left_times}
use Rattle.rk_model.proofs.IndexLemmas.{nth-with_same, nth-with_other, nth-with_kept, length-with_nth}
use Rattle.rk_directives.specs.Sound.{is_asleep, is_waiting, IsQueued, WillWake, AreTied, but_none, but_one}

-- ---- what a thread waits for

same_object : (p q : Object) → is_same_object p q ≡ true → p ≡ q
same_object (OfBarrier i) (OfBarrier j) h = ap (λ n. OfBarrier n) (same_number i j h)
same_object (OfBarrier i) (OfSemaphore j) h = absurd (false≢true h)
same_object (OfSemaphore i) (OfBarrier j) h = absurd (false≢true h)
same_object (OfSemaphore i) (OfSemaphore j) h = ap (λ n. OfSemaphore n) (same_number i j h)

-- who waits for an object waits for nothing else
pub awaited : (wait : Option Wait) (object : Object) → is_for (object_of_wait wait) object ≡ true → (object_of_wait wait ≡ Some object) × (is_waiting wait ≡ true)
awaited None object h = absurd (false≢true h)
awaited (Some ForTime) object h = absurd (false≢true h)
awaited (Some (ForEvents set all)) object h = absurd (false≢true h)
awaited (Some (AtBarrier j)) object h = (ap (λ p. Some p) (same_object (OfBarrier j) object h), refl)
awaited (Some (ForPeriod j)) object h = absurd (false≢true h)
awaited (Some (ForSemaphore j spins)) object h = (ap (λ p. Some p) (same_object (OfSemaphore j) object h), refl)

-- ---- threads that are put

-- what agrees for all but some agrees for all but more
pub tied_fewer : (barriers : List BarrierState) (semaphores : List SemaphoreState) (threads : List Thread) (clusters : List ClusterState) (larger but : ℕ → Bool) → ((u : ℕ) → larger u ≡ false → but u ≡ false) → AreTied barriers semaphores threads clusters but → AreTied barriers semaphores threads clusters larger
tied_fewer barriers semaphores threads clusters larger but more tied = record { queued = λ u apart. tied.queued u (more u apart); wakes = λ u apart. tied.wakes u (more u apart) }

-- what agrees for all agrees for all but one
pub tied_but : (barriers : List BarrierState) (semaphores : List SemaphoreState) (threads : List Thread) (clusters : List ClusterState) (t : ℕ) → AreTied barriers semaphores threads clusters but_none → AreTied barriers semaphores threads clusters (but_one t)
tied_but barriers semaphores threads clusters t tied = tied_fewer barriers semaphores threads clusters (but_one t) but_none (λ u apart. refl) tied

-- a thread is put that waits as the one before it, and has its home
pub tied_put : (barriers : List BarrierState) (semaphores : List SemaphoreState) (threads : List Thread) (clusters : List ClusterState) (but : ℕ → Bool) (t : ℕ) (thread : Thread) → thread.wait ≡ (nth no_thread threads t).wait → thread.home ≡ (nth no_thread threads t).home → AreTied barriers semaphores threads clusters but → AreTied barriers semaphores (with_nth threads t thread) clusters but
tied_put barriers semaphores threads clusters but t thread wait home tied = record {
  queued = λ u apart object. tied.queued u apart object ∙ ap (λ w. cond (is_for (object_of_wait w) object) 1 0) (sym (waits u));
  wakes = λ u apart asleep. subst (λ d. 1 ≤ times_armed (OfThread u) (slice_index_or clusters d no_cluster).timers) (sym (homes u)) (tied.wakes u apart (sym (ap is_asleep (waits u)) ∙ asleep));
} where
  waits : (u : ℕ) → (nth no_thread (with_nth threads t thread) u).wait ≡ (nth no_thread threads u).wait
  waits u = nth-with_kept (λ (x : Thread). x.wait) no_thread thread threads t u wait

  homes : (u : ℕ) → (nth no_thread (with_nth threads t thread) u).home ≡ (nth no_thread threads u).home
  homes u = nth-with_kept (λ (x : Thread). x.home) no_thread thread threads t u home

-- any thread is put of those that needn't agree: all others agree as before
pub tied_any : (barriers : List BarrierState) (semaphores : List SemaphoreState) (threads : List Thread) (clusters : List ClusterState) (but : ℕ → Bool) (t : ℕ) (thread : Thread) → but t ≡ true → AreTied barriers semaphores threads clusters but → AreTied barriers semaphores (with_nth threads t thread) clusters but
tied_any barriers semaphores threads clusters but t thread among tied = record {
  queued = λ u apart object. tied.queued u apart object ∙ ap (λ (x : Thread). cond (is_for (object_of_wait x.wait) object) 1 0) (sym (other u apart));
  wakes = λ u apart. subst (λ (x : Thread). is_asleep x.wait ≡ true → 1 ≤ times_armed (OfThread u) (slice_index_or clusters x.home no_cluster).timers) (sym (other u apart)) (tied.wakes u apart);
} where
  other : (u : ℕ) → but u ≡ false → nth no_thread (with_nth threads t thread) u ≡ nth no_thread threads u
  other u apart = nth-with_other no_thread thread threads t u (λ q. false≢true (sym apart ∙ ap but q ∙ among))

-- A set of threads and one of the others, at most, are those of a larger set.
abbrev pub HasOneMore : (ℕ → Bool) → (ℕ → Bool) → ℕ → Type 0
HasOneMore larger but t = (u : ℕ) → but u ≡ false → (u == t) ≡ false → larger u ≡ false

-- what agrees for all but some and one more, and for that one, agrees for all but the some
pub tied_more : (barriers : List BarrierState) (semaphores : List SemaphoreState) (threads : List Thread) (clusters : List ClusterState) (larger but : ℕ → Bool) (t : ℕ) → HasOneMore larger but t → AreTied barriers semaphores threads clusters larger → IsQueued barriers semaphores threads t → WillWake threads clusters t → AreTied barriers semaphores threads clusters but
tied_more barriers semaphores threads clusters larger but t more tied queued wakes = record { queued = λ u apart. queue u apart (u == t) refl; wakes = λ u apart. wake u apart (u == t) refl } where
  queue : (u : ℕ) → but u ≡ false → (b : Bool) → (u == t) ≡ b → IsQueued barriers semaphores threads u
  queue u apart true e = subst (IsQueued barriers semaphores threads) (sym (same_number u t e)) queued
  queue u apart false e = tied.queued u (more u apart e)

  wake : (u : ℕ) → but u ≡ false → (b : Bool) → (u == t) ≡ b → WillWake threads clusters u
  wake u apart true e = subst (WillWake threads clusters) (sym (same_number u t e)) wakes
  wake u apart false e = tied.wakes u (more u apart e)

-- the same for one thread
pub tied_one : (barriers : List BarrierState) (semaphores : List SemaphoreState) (threads : List Thread) (clusters : List ClusterState) (t : ℕ) → AreTied barriers semaphores threads clusters (but_one t) → IsQueued barriers semaphores threads t → WillWake threads clusters t → AreTied barriers semaphores threads clusters but_none
tied_one barriers semaphores threads clusters t tied queued wakes = tied_more barriers semaphores threads clusters (but_one t) but_none t (λ u _ other. other) tied queued wakes

-- a thread is put that waits for nothing and stands in no queue
pub tied_idle : (barriers : List BarrierState) (semaphores : List SemaphoreState) (threads : List Thread) (clusters : List ClusterState) (larger but : ℕ → Bool) (t : ℕ) (thread : Thread) → larger t ≡ true → HasOneMore larger but t → 0 < t → t ≤ length threads → thread.wait ≡ None → ((object : Object) → times t (arrivals_in barriers semaphores object) ≡ 0) → AreTied barriers semaphores threads clusters larger → AreTied barriers semaphores (with_nth threads t thread) clusters but
tied_idle barriers semaphores threads clusters larger but t thread among more low high idle gone tied =
    let here : (nth no_thread (with_nth threads t thread) t).wait ≡ None = ap (λ (x : Thread). x.wait) (nth-with_same no_thread thread threads t low high) ∙ idle in
    tied_more barriers semaphores (with_nth threads t thread) clusters larger but t more (tied_any barriers semaphores threads clusters larger t thread among tied)
    (λ object. gone object ∙ ap (λ w. cond (is_for (object_of_wait w) object) 1 0) (sym here))
    (λ asleep. absurd (false≢true (sym (ap is_asleep here) ∙ asleep)))

-- ---- timers

-- a cluster has other timers, of which all but those of some threads are as before
pub tied_timers : (barriers : List BarrierState) (semaphores : List SemaphoreState) (threads : List Thread) (clusters : List ClusterState) (but : ℕ → Bool) (h : ℕ) (timers : List Armed) → ((u : ℕ) → but u ≡ false → times_armed (OfThread u) (slice_index_or clusters h no_cluster).timers ≤ times_armed (OfThread u) timers) → AreTied barriers semaphores threads clusters but →
    AreTied barriers semaphores threads (slice_set clusters h (record (slice_index_or clusters h no_cluster) { timers = timers })) but
tied_timers barriers semaphores threads clusters but h timers more tied = record {
  queued = tied.queued;
  wakes = λ u apart asleep. at clusters h (nth no_thread threads u).home u (more u apart) (tied.wakes u apart asleep);
} where
  at : (clusters : List ClusterState) (h d u : ℕ) → times_armed (OfThread u) (slice_index_or clusters h no_cluster).timers ≤ times_armed (OfThread u) timers → 1 ≤ times_armed (OfThread u) (slice_index_or clusters d no_cluster).timers →
      1 ≤ times_armed (OfThread u) (slice_index_or (slice_set clusters h (record (slice_index_or clusters h no_cluster) { timers = timers })) d no_cluster).timers
  at [] h d u more some = some
  at (c ∷ cs) zero zero u more some = omega (arith, more, some)
  at (c ∷ cs) zero (suc d) u more some = some
  at (c ∷ cs) (suc h) zero u more some = some
  at (c ∷ cs) (suc h) (suc d) u more some = at cs h d u more some

-- a timer of one thread is of no other
apart_timer : (who : Armer) (t u : ℕ) → (u == t) ≡ false → is_same who (OfThread t) ≡ true → is_same who (OfThread u) ≡ false
apart_timer (OfThread v) t u other e = grind (arith, nat_tests, other, e)
apart_timer (OfPeriod i) t u other e = refl

-- the timers of the others, where those of one are cancelled
pub times-cancelled : (t u : ℕ) (timers : List Armed) → (u == t) ≡ false → times_armed (OfThread u) timers ≤ times_armed (OfThread u) (without_timer (OfThread t) timers)
times-cancelled t u [] other = omega arith
times-cancelled t u (timer ∷ timers) other = by (is_same timer.who (OfThread t)) refl (times-cancelled t u timers other) where
  by : (b : Bool) → is_same timer.who (OfThread t) ≡ b → times_armed (OfThread u) timers ≤ times_armed (OfThread u) (without_timer (OfThread t) timers) →
      cond (is_same timer.who (OfThread u)) 1 0 + times_armed (OfThread u) timers ≤ times_armed (OfThread u) (cond (not b) (timer ∷ without_timer (OfThread t) timers) (without_timer (OfThread t) timers))
  by true e few = let no = apart_timer timer.who t u other e in rw no (omega (arith, few))
  by false e few = omega (arith, few)

-- and where the first that is due, of another one, is taken out
pub times-taken : (tick u : ℕ) (timers xs : List Armed) (x : Armed) → is_same x.who (OfThread u) ≡ false → due_at tick timers ≡ x ∷ xs → times_armed (OfThread u) timers ≤ times_armed (OfThread u) (without_due tick timers)
times-taken tick u [] xs x other due = let no : ⊥ = cc in absurd no
times-taken tick u (timer ∷ timers) xs x other due = by (is_due tick timer) due (times-taken tick u timers xs x other) where
  by : (b : Bool) → cond b (timer ∷ due_at tick timers) (due_at tick timers) ≡ x ∷ xs → (due_at tick timers ≡ x ∷ xs → times_armed (OfThread u) timers ≤ times_armed (OfThread u) (without_due tick timers)) →
      cond (is_same timer.who (OfThread u)) 1 0 + times_armed (OfThread u) timers ≤ times_armed (OfThread u) (cond b timers (timer ∷ without_due tick timers))
  by true due more =
      let same : timer ≡ x = cc in
      let no : is_same timer.who (OfThread u) ≡ false = ap (λ (y : Armed). is_same y.who (OfThread u)) same ∙ other in
      rw no (omega arith)
  by false due more = omega (arith, more due)

-- ---- queues

-- an index at which something stands is within a list
pub stands_at : {X : Type 0} (none : X) (test : X → Bool) (xs : List X) (i : ℕ) → test none ≡ false → test (nth none xs i) ≡ true → (0 < i) × (i ≤ length xs)
stands_at none test xs zero fails holds = absurd (false≢true (sym fails ∙ holds))
stands_at none test xs (suc j) fails holds =
    ⊎_elim (λ w. let low : 0 < suc j = omega arith in let high : suc j ≤ length xs = omega (arith, w) in (low, high))
    (λ w. absurd (false≢true (sym fails ∙ ap test (sym (get_or_past xs j none w)) ∙ holds))) (cases_lt j (length xs))

-- a barrier lives only where there is one
pub live_within : (barriers : List BarrierState) (i : ℕ) → (nth no_barrier barriers i).live ≡ true → (0 < i) × (i ≤ length barriers)
live_within barriers i lives = stands_at no_barrier (λ x. x.live) barriers i refl lives

-- and so does a semaphore
pub semaphore_within : (semaphores : List SemaphoreState) (i : ℕ) → (nth no_semaphore semaphores i).live ≡ true → (0 < i) × (i ≤ length semaphores)
semaphore_within semaphores i lives = stands_at no_semaphore (λ x. x.live) semaphores i refl lives

-- what stands once is some
some_of : (n : ℕ) → n ≡ 1 → nat_lt 0 n ≡ true
some_of n once = rw once refl

-- where a thread stands in a queue, there is such a barrier,
pub stands_within : (barriers : List BarrierState) (i t : ℕ) → times t (nth no_barrier barriers i).arrivals ≡ 1 → (0 < i) × (i ≤ length barriers)
stands_within barriers i t once = stands_at no_barrier (λ (x : BarrierState). nat_lt 0 (times t x.arrivals)) barriers i refl (some_of _ once)

-- or such a semaphore
pub queued_within : (semaphores : List SemaphoreState) (i t : ℕ) → times t (waiting (nth no_semaphore semaphores i).queue.arrivals) ≡ 1 → (0 < i) × (i ≤ length semaphores)
queued_within semaphores i t once = stands_at no_semaphore (λ (x : SemaphoreState). nat_lt 0 (times t (waiting x.queue.arrivals))) semaphores i refl (some_of _ once)

times-left : (t u : ℕ) (arrivals : List ℕ) → (u == t) ≡ false → times u (without t arrivals) ≡ times u arrivals
times-left t u arrivals other = times-filter (λ v. not (v == t)) u arrivals ∙ (rw other refl)

none-left : (t : ℕ) (arrivals : List ℕ) → times t (without t arrivals) ≡ 0
none-left t arrivals = times-filter (λ v. not (v == t)) t arrivals ∙ (let here : (t == t) ≡ true = equal_test t t refl in rw here refl)

times-entered : (t u : ℕ) (arrivals : List ℕ) → times u (arrivals ++ t ∷ []) ≡ times u arrivals + cond (t == u) 1 0
times-entered t u arrivals = times-append u arrivals (t ∷ []) ∙ omega arith

-- the same of the waiters of a semaphore
waiters-left : (t u : ℕ) (waiters : List Waiter) → (u == t) ≡ false → times u (waiting (waiters_without t waiters)) ≡ times u (waiting waiters)
waiters-left t u waiters other = left_times u t waiters ∙ (rw other refl)

none-waits : (t : ℕ) (waiters : List Waiter) → times t (waiting (waiters_without t waiters)) ≡ 0
none-waits t waiters = left_times t t waiters ∙ (let here : (t == t) ≡ true = equal_test t t refl in rw here refl)

-- one more than none
one : (b : Bool) (n : ℕ) → b ≡ true → n ≡ 0 → n + cond b 1 0 ≡ 1
one b n here none = rw (here, none) refl

-- a number is another one
another : (i j : ℕ) → (i == j) ≡ false → j ≢ i
another i j e q = false≢true (sym e ∙ equal_test i j (sym q))

-- What a thread does at an index where the test says that it is this one, or elsewhere: the count there after a change of the place of i.
changed_count : {X : Type 0} (none x : X) (count : X → ℕ) (xs : List X) (i j n m : ℕ) → ((i == j) ≡ true → (0 < i) × (i ≤ length xs)) → ((i == j) ≡ true → count x ≡ n) → ((i == j) ≡ false → count (nth none xs j) ≡ m) → count (nth none (with_nth xs i x) j) ≡ cond (i == j) n m
changed_count none x count xs i j n m within here there = by (i == j) refl where
  by : (b : Bool) → (i == j) ≡ b → count (nth none (with_nth xs i x) j) ≡ cond b n m
  by true e =
      let w = within e in
      ap (λ k. count (nth none (with_nth xs i x) k)) (sym (same_number i j e)) ∙ ap count (nth-with_same none x xs i w.0 w.1) ∙ here e
  by false e = ap count (nth-with_other none x xs i j (another i j e)) ∙ there e

-- others stand where they stood, where a thread has left a queue
left_other : (barriers : List BarrierState) (semaphores : List SemaphoreState) (t u : ℕ) (awaited : Option Object) (object : Object) → (u == t) ≡ false → times u (arrivals_in (without_arrival barriers t awaited) (without_waiter_in semaphores t awaited) object) ≡ times u (arrivals_in barriers semaphores object)
left_other barriers semaphores t u None object other = refl
left_other barriers semaphores t u (Some (OfBarrier i)) (OfSemaphore j) other = refl
left_other barriers semaphores t u (Some (OfSemaphore i)) (OfBarrier j) other = refl
left_other barriers semaphores t u (Some (OfBarrier i)) (OfBarrier j) other =
    nth-with_kept (λ (x : BarrierState). times u x.arrivals) no_barrier (record (nth no_barrier barriers i) { arrivals = without t (nth no_barrier barriers i).arrivals }) barriers i j (times-left t u (nth no_barrier barriers i).arrivals other)
left_other barriers semaphores t u (Some (OfSemaphore i)) (OfSemaphore j) other =
    nth-with_kept (λ (x : SemaphoreState). times u (waiting x.queue.arrivals)) no_semaphore (without_waiter t (nth no_semaphore semaphores i)) semaphores i j (waiters-left t u (nth no_semaphore semaphores i).queue.arrivals other)

-- and it stands in none any more
pub left_gone : (barriers : List BarrierState) (semaphores : List SemaphoreState) (t : ℕ) (awaited : Option Object) → ((object : Object) → times t (arrivals_in barriers semaphores object) ≡ cond (is_for awaited object) 1 0) → (object : Object) → times t (arrivals_in (without_arrival barriers t awaited) (without_waiter_in semaphores t awaited) object) ≡ 0
left_gone barriers semaphores t None stood object = stood object
left_gone barriers semaphores t (Some (OfBarrier i)) stood (OfSemaphore j) = stood (OfSemaphore j)
left_gone barriers semaphores t (Some (OfSemaphore i)) stood (OfBarrier j) = stood (OfBarrier j)
left_gone barriers semaphores t (Some (OfBarrier i)) stood (OfBarrier j) =
    changed_count no_barrier (record (nth no_barrier barriers i) { arrivals = without t (nth no_barrier barriers i).arrivals }) (λ (x : BarrierState). times t x.arrivals) barriers i j 0 0
    (λ e. stands_within barriers i t (once e)) (λ e. none-left t (nth no_barrier barriers i).arrivals) (λ e. stood (OfBarrier j) ∙ ap (λ b. cond b 1 0) e)
    ∙ sym (same_either_way (i == j) 0)
  where
    once : (i == j) ≡ true → times t (nth no_barrier barriers i).arrivals ≡ 1
    once e = ap (λ n. times t (nth no_barrier barriers n).arrivals) (same_number i j e) ∙ stood (OfBarrier j) ∙ ap (λ b. cond b 1 0) e
left_gone barriers semaphores t (Some (OfSemaphore i)) stood (OfSemaphore j) =
    changed_count no_semaphore (without_waiter t (nth no_semaphore semaphores i)) (λ (x : SemaphoreState). times t (waiting x.queue.arrivals)) semaphores i j 0 0
    (λ e. queued_within semaphores i t (once e)) (λ e. none-waits t (nth no_semaphore semaphores i).queue.arrivals) (λ e. stood (OfSemaphore j) ∙ ap (λ b. cond b 1 0) e)
    ∙ sym (same_either_way (i == j) 0)
  where
    once : (i == j) ≡ true → times t (waiting (nth no_semaphore semaphores i).queue.arrivals) ≡ 1
    once e = ap (λ n. times t (waiting (nth no_semaphore semaphores n).queue.arrivals)) (same_number i j e) ∙ stood (OfSemaphore j) ∙ ap (λ b. cond b 1 0) e

entered_other : (barriers : List BarrierState) (semaphores : List SemaphoreState) (by : Caller) (u : ℕ) (awaited : Option Object) (object : Object) → (u == by.thread) ≡ false → times u (arrivals_in (with_arrival barriers by.thread awaited) (with_waiter_in semaphores by awaited) object) ≡ times u (arrivals_in barriers semaphores object)
entered_other barriers semaphores by u None object other = refl
entered_other barriers semaphores by u (Some (OfBarrier i)) (OfSemaphore j) other = refl
entered_other barriers semaphores by u (Some (OfSemaphore i)) (OfBarrier j) other = refl
entered_other barriers semaphores by u (Some (OfBarrier i)) (OfBarrier j) other =
    let no : (by.thread == u) ≡ false = grind (arith, nat_tests, other) in
    nth-with_kept (λ (x : BarrierState). times u x.arrivals) no_barrier (record (nth no_barrier barriers i) { arrivals = (nth no_barrier barriers i).arrivals ++ by.thread ∷ [] }) barriers i j
    (times-entered by.thread u (nth no_barrier barriers i).arrivals ∙ (rw no (omega arith)))
entered_other barriers semaphores by u (Some (OfSemaphore i)) (OfSemaphore j) other =
    let no : (by.thread == u) ≡ false = grind (arith, nat_tests, other) in
    nth-with_kept (λ (x : SemaphoreState). times u (waiting x.queue.arrivals)) no_semaphore (with_waiter by (nth no_semaphore semaphores i)) semaphores i j
    (entered_times u (nth no_semaphore semaphores i).queue.arrivals (waiter_of by) ∙ (rw no (omega arith)))

-- there is the object, if one is awaited
abbrev pub IsThere : List BarrierState → List SemaphoreState → Option Object → Type 0
IsThere barriers semaphores None = Unit {0}
IsThere barriers semaphores (Some (OfBarrier i)) = (nth no_barrier barriers i).live ≡ true
IsThere barriers semaphores (Some (OfSemaphore i)) = (nth no_semaphore semaphores i).live ≡ true

-- a thread that stood in no queue stands in the one that it has entered, once
entered_once : (barriers : List BarrierState) (semaphores : List SemaphoreState) (by : Caller) (awaited : Option Object) → IsThere barriers semaphores awaited → ((object : Object) → times by.thread (arrivals_in barriers semaphores object) ≡ 0) → (object : Object) → times by.thread (arrivals_in (with_arrival barriers by.thread awaited) (with_waiter_in semaphores by awaited) object) ≡ cond (is_for awaited object) 1 0
entered_once barriers semaphores by None there none object = none object
entered_once barriers semaphores by (Some (OfBarrier i)) there none (OfSemaphore j) = none (OfSemaphore j)
entered_once barriers semaphores by (Some (OfSemaphore i)) there none (OfBarrier j) = none (OfBarrier j)
entered_once barriers semaphores by (Some (OfBarrier i)) there none (OfBarrier j) =
    changed_count no_barrier (record (nth no_barrier barriers i) { arrivals = (nth no_barrier barriers i).arrivals ++ by.thread ∷ [] }) (λ (x : BarrierState). times by.thread x.arrivals) barriers i j 1 0
    (λ e. live_within barriers i there)
    (λ e. times-entered by.thread by.thread (nth no_barrier barriers i).arrivals ∙ one (by.thread == by.thread) (times by.thread (nth no_barrier barriers i).arrivals) (equal_test by.thread by.thread refl) (none (OfBarrier i)))
    (λ e. none (OfBarrier j))
entered_once barriers semaphores by (Some (OfSemaphore i)) there none (OfSemaphore j) =
    changed_count no_semaphore (with_waiter by (nth no_semaphore semaphores i)) (λ (x : SemaphoreState). times by.thread (waiting x.queue.arrivals)) semaphores i j 1 0
    (λ e. semaphore_within semaphores i there)
    (λ e. entered_times by.thread (nth no_semaphore semaphores i).queue.arrivals (waiter_of by) ∙ one (by.thread == by.thread) (times by.thread (waiting (nth no_semaphore semaphores i).queue.arrivals)) (equal_test by.thread by.thread refl) (none (OfSemaphore i)))
    (λ e. none (OfSemaphore j))

-- a thread has left the queue of what it waits for: it stands in none
pub tied_left : (barriers : List BarrierState) (semaphores : List SemaphoreState) (threads : List Thread) (clusters : List ClusterState) (t : ℕ) → AreTied barriers semaphores threads clusters (but_one t) → AreTied (without_arrival barriers t (object_of_wait (nth no_thread threads t).wait)) (without_waiter_in semaphores t (object_of_wait (nth no_thread threads t).wait)) threads clusters (but_one t)
tied_left barriers semaphores threads clusters t tied = record {
  queued = λ u other object. left_other barriers semaphores t u (object_of_wait (nth no_thread threads t).wait) object other ∙ tied.queued u other object;
  wakes = tied.wakes;
}

-- a thread has entered the queue of what it waits for
pub tied_entered : (barriers : List BarrierState) (semaphores : List SemaphoreState) (threads : List Thread) (clusters : List ClusterState) (by : Caller) (awaited : Option Object) → IsThere barriers semaphores awaited → ((object : Object) → times by.thread (arrivals_in barriers semaphores object) ≡ 0) → object_of_wait (nth no_thread threads by.thread).wait ≡ awaited → WillWake threads clusters by.thread → AreTied barriers semaphores threads clusters (but_one by.thread) → AreTied (with_arrival barriers by.thread awaited) (with_waiter_in semaphores by awaited) threads clusters but_none
tied_entered barriers semaphores threads clusters by awaited there none is wakes tied =
    tied_one (with_arrival barriers by.thread awaited) (with_waiter_in semaphores by awaited) threads clusters by.thread
    (record {
      queued = λ u other object. entered_other barriers semaphores by u awaited object other ∙ tied.queued u other object;
      wakes = tied.wakes;
    })
    (λ object. entered_once barriers semaphores by awaited there none object ∙ ap (λ o. cond (is_for o object) 1 0) (sym is))
    wakes

-- a barrier is put at which the same threads wait
pub tied_barrier : (barriers : List BarrierState) (semaphores : List SemaphoreState) (threads : List Thread) (clusters : List ClusterState) (but : ℕ → Bool) (i : ℕ) (barrier : BarrierState) → barrier.arrivals ≡ (nth no_barrier barriers i).arrivals → AreTied barriers semaphores threads clusters but → AreTied (with_nth barriers i barrier) semaphores threads clusters but
tied_barrier barriers semaphores threads clusters but i barrier same tied = record { queued = queue; wakes = tied.wakes } where
  queue : (u : ℕ) → but u ≡ false → IsQueued (with_nth barriers i barrier) semaphores threads u
  queue u apart (OfBarrier j) = nth-with_kept (λ (x : BarrierState). times u x.arrivals) no_barrier barrier barriers i j (ap (times u) same) ∙ tied.queued u apart (OfBarrier j)
  queue u apart (OfSemaphore j) = tied.queued u apart (OfSemaphore j)

-- a semaphore is put for which, but for some threads, the same wait
pub tied_semaphore : (barriers : List BarrierState) (semaphores : List SemaphoreState) (threads : List Thread) (clusters : List ClusterState) (but : ℕ → Bool) (i : ℕ) (sem : SemaphoreState) → ((u : ℕ) → but u ≡ false → times u (waiting sem.queue.arrivals) ≡ times u (waiting (nth no_semaphore semaphores i).queue.arrivals)) → AreTied barriers semaphores threads clusters but → AreTied barriers (with_nth semaphores i sem) threads clusters but
tied_semaphore barriers semaphores threads clusters but i sem same tied = record { queued = queue; wakes = tied.wakes } where
  queue : (u : ℕ) → but u ≡ false → IsQueued barriers (with_nth semaphores i sem) threads u
  queue u apart (OfBarrier j) = tied.queued u apart (OfBarrier j)
  queue u apart (OfSemaphore j) = nth-with_kept (λ (x : SemaphoreState). times u (waiting x.queue.arrivals)) no_semaphore sem semaphores i j (same u apart) ∙ tied.queued u apart (OfSemaphore j)

-- as many barriers and semaphores as before
pub length-left : (barriers : List BarrierState) (t : ℕ) (awaited : Option Object) → length (without_arrival barriers t awaited) ≡ length barriers
length-left barriers t None = refl
length-left barriers t (Some (OfBarrier i)) = length-with_nth (record (nth no_barrier barriers i) { arrivals = without t (nth no_barrier barriers i).arrivals }) barriers i
length-left barriers t (Some (OfSemaphore i)) = refl

pub length-entered : (barriers : List BarrierState) (t : ℕ) (awaited : Option Object) → length (with_arrival barriers t awaited) ≡ length barriers
length-entered barriers t None = refl
length-entered barriers t (Some (OfBarrier i)) = length-with_nth (record (nth no_barrier barriers i) { arrivals = (nth no_barrier barriers i).arrivals ++ t ∷ [] }) barriers i
length-entered barriers t (Some (OfSemaphore i)) = refl

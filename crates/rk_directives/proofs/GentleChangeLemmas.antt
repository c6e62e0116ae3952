-- Small changes, one after another, so that settling makes the state sound again.
use Rattle.std.proofs.Common.{◌≡◌, ◌≢◌, ℕ, zero, suc, ◌+◌, ◌<◌, ◌≤◌, ◌==◌, ◌++◌, ◌∷◌, [], cond, ⊎_elim, List, Bool, true, false, eqb, ◌&&◌, Option, None, Some, length, arith, refl, sym, ◌∙◌, ap, subst}
use Rattle.std.proofs.lemmas.Bool.{cases_lt, false≢true}
use Rattle.std.proofs.lemmas.List.{get_or_past}
use Rattle.std.proofs.lemmas.Bool.Decides.{nat_tests}
use Rattle.rk_model.specs.declared.scenario.Scenario.{Scenario}
use Rattle.rk_model.specs.declared.entry.Reply.{Reply}
use Rattle.rk_model.specs.declared.state.Thread.{Thread}
use Rattle.rk_model.specs.declared.state.Wait.{Wait}
use Rattle.rk_model.specs.declared.state.Armed.{Armed}
use Rattle.rk_model.specs.declared.state.Armer.TheVariants.{Thread as OfThread}
use Rattle.rk_model.specs.declared.waiting.Caller.{Caller}
use Rattle.rk_model.specs.Lists.{nth, with_nth, times}
use Rattle.rk_model.specs.Queues.{threads as waiting}
use Rattle.rk_model.specs.Names.{Table}
use Rattle.rk_model.specs.State.{Plain, SemaphoreState, BarrierState, objects_of, no_thread, no_semaphore, no_barrier, thread_at, put_thread, semaphore_at, barrier_at, cluster_at, put_cluster}
use Rattle.rk_model.specs.Scheduling.Timers.{times_armed, without_timer, arm, cancel}
use Rattle.rk_model.specs.Directives.Outcomes.{stored_vars, finished, go_on}
use Rattle.rk_model.specs.Directives.Waits.{Object, OfBarrier, OfSemaphore, object_of_wait, is_for, arrivals_in, without, with_arrival, without_arrival, with_waiter, without_waiter, with_waiter_in, without_waiter_in, enter, leave, stop_wait, end_wait}
use Rattle.rk_model.specs.declared.state.Life.{Life}
use Rattle.rk_model.specs.declared.state.Life.TheVariants.{Absent, Dormant, Started, Ended}
use Rattle.rk_model.specs.Scheduling.Priorities.{is_started}
use Rattle.rk_model.specs.Directives.Objects.{has_begun}
use Rattle.rk_parts.specs.NamesAgree.{AreNamed}
use Rattle.rk_model.proofs.BooleanLemmas.{and_front, and_back, equal_test, same_number}
use Rattle.rk_directives.specs.Sound.{IsSound, IsInBounds, IsGentleBut, IsGentle, IsQueued, WillWake, but_none, but_one, waits_in, is_waiting, may_time_out, is_in_call}
use Rattle.rk_model.proofs.IndexLemmas.{nth-with_other, nth-with_kept, nth-with_holds, length-with_nth, All-with_nth}
use Rattle.rk_directives.proofs.ThreadBoundsLemmas.{bounds_in, arrived_bounds}
use Rattle.rk_directives.proofs.TimerLemmas.{keeps_same, keeps_timers, timed_sound, timed_kept, AllUnarmed, timed_unarmed, timed_fewer, unarmed_without, times-without_timer, none-without_timer, times-push, timed_armed}
use Rattle.rk_directives.proofs.TieLemmas.{tied_fewer, tied_but, tied_put, tied_any, HasOneMore, tied_idle, tied_timers, times-cancelled, left_gone, IsThere, tied_left, tied_entered, length-left, length-entered}
use Rattle.rk_directives.proofs.WaitChainLemmas.{chained_fewer, chained_put, chained_any, chained_idle, chained_owners, chained_joined, MayJoin, owners_left, owners_entered, length-left_in, length-entered_in}
use Rattle.rk_directives.proofs.NamesAgreeLemmas.{named_put, named_kept, named_obtained}

-- to change nothing
pub gentle_same : (k : Plain) → IsSound k → IsGentle k k
gentle_same k sound = record {
  scenario = refl;
  present = refl;
  places = refl;
  locks = refl;
  halls = refl;
  pools = refl;
  threads = sound.threads;
  lines = keeps_same k.clusters;
  timers = timed_sound k 0 k.clusters sound.clusters;
  named = sound.named;
  tied = sound.tied;
  chained = sound.chained;
}

-- what is gentle but for some threads is so but for more
pub gentle_but_more : (k m : Plain) (larger but : ℕ → Bool) → ((u : ℕ) → larger u ≡ false → but u ≡ false) → IsGentleBut k m but → IsGentleBut k m larger
gentle_but_more k m larger but more gentle = record {
  scenario = gentle.scenario;
  present = gentle.present;
  places = gentle.places;
  locks = gentle.locks;
  halls = gentle.halls;
  pools = gentle.pools;
  threads = gentle.threads;
  lines = gentle.lines;
  timers = gentle.timers;
  named = gentle.named;
  tied = tied_fewer m.barriers m.semaphores m.threads m.clusters larger but more gentle.tied;
  chained = chained_fewer m.semaphores m.threads larger but more gentle.chained;
}

-- what is gentle is so but for a thread
pub gentle_but : (k m : Plain) (t : ℕ) → IsGentle k m → IsGentleBut k m (but_one t)
gentle_but k m t gentle = gentle_but_more k m (but_one t) but_none (λ u apart. refl) gentle

both : (a b : Bool) → a ≡ true → b ≡ true → (a && b) ≡ true
both a b e f = rw (e, f) refl

waits_put : (threads : List Thread) (t : ℕ) (thread : Thread) → thread.home ≡ (nth no_thread threads t).home → (may_time_out (nth no_thread threads t).wait ≡ true → may_time_out thread.wait ≡ true) → (d u : ℕ) → waits_in threads d u ≡ true → waits_in (with_nth threads t thread) d u ≡ true
waits_put threads t thread home more d u is = by (eqb u t) refl where
  Waits : Thread → Type 0
  Waits x = ((eqb x.home d) && may_time_out x.wait) ≡ true

  by : (b : Bool) → eqb u t ≡ b → waits_in (with_nth threads t thread) d u ≡ true
  by true e =
      let same : u ≡ t = grind (arith, nat_tests, e) in
      let was : Waits (nth no_thread threads t) = subst (λ v. Waits (nth no_thread threads v)) same is in
      let here : eqb thread.home d ≡ true = ap (λ h. eqb h d) home ∙ and_front (eqb (nth no_thread threads t).home d) (may_time_out (nth no_thread threads t).wait) was in
      let now : Waits thread = both (eqb thread.home d) (may_time_out thread.wait) here (more (and_back (eqb (nth no_thread threads t).home d) (may_time_out (nth no_thread threads t).wait) was)) in
      nth-with_holds Waits no_thread thread threads t u now is
  by false e =
      let other : u ≢ t = λ q. false≢true (sym e ∙ equal_test u t q) in
      ap (λ (x : Thread). (eqb x.home d) && may_time_out x.wait) (nth-with_other no_thread thread threads t u other) ∙ is

-- to put back a live thread, where one lives, within its bounds, with its home, that waits for the same
pub gentle_put : (k m : Plain) (but : ℕ → Bool) (t : ℕ) (thread : Thread) → IsGentleBut k m but → thread.home ≡ (thread_at m t).home → thread.wait ≡ (thread_at m t).wait → has_begun (thread_at m t).life ≡ true → has_begun thread.life ≡ true → IsInBounds k.scenario (length k.clusters) k.present thread → IsGentleBut k (put_thread m t thread) but
gentle_put k m but t thread gentle home wait lives life bounds = record {
  scenario = gentle.scenario;
  present = gentle.present;
  places = length-with_nth thread m.threads t ∙ gentle.places;
  locks = gentle.locks;
  halls = gentle.halls;
  pools = gentle.pools;
  threads = All-with_nth (IsInBounds k.scenario (length k.clusters) k.present) thread m.threads t bounds gentle.threads;
  lines = gentle.lines;
  timers = timed_kept m.threads (with_nth m.threads t thread) 0 m.clusters (waits_put m.threads t thread home (λ w. ap may_time_out wait ∙ w)) gentle.timers;
  named = named_put m.table (objects_of m) t thread lives life gentle.named;
  tied = tied_put m.barriers m.semaphores m.threads m.clusters but t thread wait home gentle.tied;
  chained = chained_put m.semaphores m.threads but t thread wait (λ _. life) gentle.chained;
}

-- to put back a live thread, where one lives that has no limit, within its bounds, with its home
pub gentle_start : (k m : Plain) (t : ℕ) (thread : Thread) → IsGentle k m → thread.home ≡ (thread_at m t).home → may_time_out (thread_at m t).wait ≡ false → has_begun (thread_at m t).life ≡ true → has_begun thread.life ≡ true → IsInBounds k.scenario (length k.clusters) k.present thread → IsGentleBut k (put_thread m t thread) (but_one t)
gentle_start k m t thread gentle home idle lives life bounds = record {
  scenario = gentle.scenario;
  present = gentle.present;
  places = length-with_nth thread m.threads t ∙ gentle.places;
  locks = gentle.locks;
  halls = gentle.halls;
  pools = gentle.pools;
  threads = All-with_nth (IsInBounds k.scenario (length k.clusters) k.present) thread m.threads t bounds gentle.threads;
  lines = gentle.lines;
  timers = timed_kept m.threads (with_nth m.threads t thread) 0 m.clusters (waits_put m.threads t thread home (λ w. absurd (false≢true (sym idle ∙ w)))) gentle.timers;
  named = named_put m.table (objects_of m) t thread lives life gentle.named;
  tied = tied_any m.barriers m.semaphores m.threads m.clusters (but_one t) t thread (equal_test t t refl) (tied_but m.barriers m.semaphores m.threads m.clusters t gentle.tied);
  chained = chained_any m.semaphores m.threads (but_one t) t thread (equal_test t t refl) (λ _. life) (chained_fewer m.semaphores m.threads (but_one t) but_none (λ u apart. refl) gentle.chained);
}

-- To put, of some threads and one more that is left out, this one, which then has no timer, waits for nothing, stands in no queue, and lives where it owns a semaphore; within its bounds, and with names that agree with the objects.
pub gentle_idle : (k m : Plain) (larger but : ℕ → Bool) (t : ℕ) (thread : Thread) (table : Table) → IsGentleBut k m larger → larger t ≡ true → HasOneMore larger but t → 0 < t → t ≤ length m.threads → AllUnarmed t m.clusters → thread.wait ≡ None → ((object : Object) → times t (arrivals_in m.barriers m.semaphores object) ≡ 0) → ((i : ℕ) → (semaphore_at m i).owner ≡ Some t → has_begun thread.life ≡ true) → AreNamed table (record (objects_of m) { threads = with_nth m.threads t thread }) → IsInBounds k.scenario (length k.clusters) k.present thread → IsGentleBut k (record (put_thread m t thread) { table = table }) but
gentle_idle k m larger but t thread table gentle among more low high none idle gone owns named bounds = record {
  scenario = gentle.scenario;
  present = gentle.present;
  places = length-with_nth thread m.threads t ∙ gentle.places;
  locks = gentle.locks;
  halls = gentle.halls;
  pools = gentle.pools;
  threads = All-with_nth (IsInBounds k.scenario (length k.clusters) k.present) thread m.threads t bounds gentle.threads;
  lines = gentle.lines;
  timers = timed_unarmed m.threads (with_nth m.threads t thread) t 0 m.clusters none (λ d u other is. ap (λ (x : Thread). (eqb x.home d) && may_time_out x.wait) (nth-with_other no_thread thread m.threads t u other) ∙ is) gentle.timers;
  named = named;
  tied = tied_idle m.barriers m.semaphores m.threads m.clusters larger but t thread among more low high idle gone gentle.tied;
  chained = chained_idle m.semaphores m.threads larger but t thread among more low high idle owns gentle.chained;
}

-- to have other timers in a cluster, of no thread more, and but for some of no thread fewer
pub gentle_fewer : (k m : Plain) (but : ℕ → Bool) (h : ℕ) (timers : List Armed) → IsGentleBut k m but → ((t : ℕ) → times_armed (OfThread t) timers ≤ times_armed (OfThread t) (cluster_at m h).timers) → ((t : ℕ) → but t ≡ false → times_armed (OfThread t) (cluster_at m h).timers ≤ times_armed (OfThread t) timers) → IsGentleBut k (put_cluster m h (record (cluster_at m h) { timers = timers })) but
gentle_fewer k m but h timers gentle fewer more = record {
  scenario = gentle.scenario;
  present = gentle.present;
  places = gentle.places;
  locks = gentle.locks;
  halls = gentle.halls;
  pools = gentle.pools;
  threads = gentle.threads;
  lines = keeps_timers k.clusters m.clusters h timers gentle.lines;
  timers = timed_fewer m.threads 0 h m.clusters timers fewer gentle.timers;
  named = gentle.named;
  tied = tied_timers m.barriers m.semaphores m.threads m.clusters but h timers more gentle.tied;
  chained = gentle.chained;
}

-- to cancel the timer of a thread that is left out
pub gentle_cancel : (k m : Plain) (but : ℕ → Bool) (h t : ℕ) → but t ≡ true → IsGentleBut k m but → IsGentleBut k (cancel m h (OfThread t)) but
gentle_cancel k m but h t among gentle = gentle_fewer k m but h (without_timer (OfThread t) (cluster_at m h).timers) gentle (λ u. times-without_timer t u (cluster_at m h).timers) (λ u apart. times-cancelled t u (cluster_at m h).timers (other u apart)) where
  other : (u : ℕ) → but u ≡ false → (u == t) ≡ false
  other u apart = by (u == t) refl where
    by : (b : Bool) → (u == t) ≡ b → b ≡ false
    by true e = absurd (false≢true (sym apart ∙ ap but (same_number u t e) ∙ among))
    by false e = refl

elsewhere : (h d : ℕ) (b : Bool) → d ≢ h → ((eqb h d) && b) ≡ false
elsewhere h d b other = let test : eqb h d ≡ false = grind (arith, nat_tests, other) in rw test refl

-- where a thread's timer is cancelled in its home, it has none
pub cancelled : (k m : Plain) (but : ℕ → Bool) (t : ℕ) → IsGentleBut k m but → AllUnarmed t (cancel m (thread_at m t).home (OfThread t)).clusters
cancelled k m but t gentle =
    let h = (thread_at m t).home in
    unarmed_without m.threads t h 0 h m.clusters (without_timer (OfThread t) (cluster_at m h).timers) (omega arith) (λ d other. elsewhere h d (may_time_out (thread_at m t).wait) other) (none-without_timer t (cluster_at m h).timers) gentle.timers

-- to arm the timer of a thread that waits and has none
pub gentle_arm : (k m : Plain) (h t due : ℕ) → IsGentleBut k m (but_one t) → waits_in m.threads h t ≡ true → times_armed (OfThread t) (cluster_at m h).timers ≡ 0 → IsGentleBut k (arm m h (record { who = OfThread t; due = due })) (but_one t)
gentle_arm k m h t due gentle waits none = record {
  scenario = gentle.scenario;
  present = gentle.present;
  places = gentle.places;
  locks = gentle.locks;
  halls = gentle.halls;
  pools = gentle.pools;
  threads = gentle.threads;
  lines = keeps_timers k.clusters m.clusters h _ gentle.lines;
  timers = timed_armed m.threads t due h 0 h m.clusters (omega arith) waits none gentle.timers;
  named = gentle.named;
  tied = tied_timers m.barriers m.semaphores m.threads m.clusters (but_one t) h ((cluster_at m h).timers ++ (record { who = OfThread t; due = due }) ∷ []) (λ u _. omega (arith, times-push u t due (cluster_at m h).timers)) gentle.tied;
  chained = gentle.chained;
}

-- a thread that waits is one of the threads
pub waits_within : (threads : List Thread) (t : ℕ) → is_waiting (nth no_thread threads t).wait ≡ true → (0 < t) × (t ≤ length threads)
waits_within threads zero waits = absurd (false≢true waits)
waits_within threads (suc i) waits =
    ⊎_elim (λ w. let low : 0 < suc i = omega arith in let high : suc i ≤ length threads = omega (arith, w) in (low, high))
    (λ w. absurd (false≢true (rw (get_or_past threads i no_thread w) at waits))) (cases_lt i (length threads))

-- the object in whose queue a thread stands lives
lives_there : {X : Type 0} (none x : X) (live : X → Bool) (arrivals : X → List ℕ) (t : ℕ) → (live x ≡ false → x ≡ none) → arrivals none ≡ [] → times t (arrivals x) ≡ 1 → live x ≡ true
lives_there none x live arrivals t blank empty once = by (live x) refl where
  by : (b : Bool) → live x ≡ b → live x ≡ true
  by true e = e
  by false e = let gone : times t (arrivals x) ≡ 0 = ap (λ y. times t (arrivals y)) (blank e) ∙ ap (times t) empty in absurd (omega (arith, once, gone))

named_left : (m : Plain) (t : ℕ) (awaited : Option Object) → ((object : Object) → times t (arrivals_in m.barriers m.semaphores object) ≡ cond (is_for awaited object) 1 0) → AreNamed m.table (objects_of m) → AreNamed m.table (record (objects_of m) { barriers = without_arrival m.barriers t awaited; semaphores = without_waiter_in m.semaphores t awaited })
named_left m t None stood named = named
named_left m t (Some (OfBarrier i)) stood named =
    let here : (i == i) ≡ true = equal_test i i refl in
    let once : times t (barrier_at m i).arrivals ≡ 1 = stood (OfBarrier i) ∙ (rw here refl) in
    let lives = lives_there no_barrier (barrier_at m i) (λ (x : BarrierState). x.live) (λ (x : BarrierState). x.arrivals) t (named.bare i) refl once in
    named_kept m.table (objects_of m) i (record (barrier_at m i) { arrivals = without t (barrier_at m i).arrivals }) lives lives named
named_left m t (Some (OfSemaphore i)) stood named =
    let here : (i == i) ≡ true = equal_test i i refl in
    let once : times t (waiting (semaphore_at m i).queue.arrivals) ≡ 1 = stood (OfSemaphore i) ∙ (rw here refl) in
    let lives = lives_there no_semaphore (semaphore_at m i) (λ (x : SemaphoreState). x.live) (λ (x : SemaphoreState). waiting x.queue.arrivals) t (named.free i) refl once in
    named_obtained m.table (objects_of m) i (without_waiter t (semaphore_at m i)) lives lives named

-- to leave the queue of what a thread waits for
pub gentle_leave : (k m : Plain) (t : ℕ) → IsGentleBut k m (but_one t) → IsQueued m.barriers m.semaphores m.threads t → IsGentleBut k (leave m t) (but_one t)
gentle_leave k m t gentle stood =
    let awaited = object_of_wait (thread_at m t).wait in
    record {
      scenario = gentle.scenario;
      present = gentle.present;
      places = gentle.places;
      locks = length-left_in m.semaphores t awaited ∙ gentle.locks;
      halls = length-left m.barriers t awaited ∙ gentle.halls;
      pools = gentle.pools;
      threads = gentle.threads;
      lines = gentle.lines;
      timers = gentle.timers;
      named = named_left m t awaited stood gentle.named;
      tied = tied_left m.barriers m.semaphores m.threads m.clusters t gentle.tied;
      chained = chained_owners m.semaphores (without_waiter_in m.semaphores t awaited) m.threads (but_one t) (owners_left m.semaphores t awaited) gentle.chained;
    }

named_entered : (m : Plain) (by : Caller) (awaited : Option Object) → IsThere m.barriers m.semaphores awaited → AreNamed m.table (objects_of m) → AreNamed m.table (record (objects_of m) { barriers = with_arrival m.barriers by.thread awaited; semaphores = with_waiter_in m.semaphores by awaited })
named_entered m by None there named = named
named_entered m by (Some (OfBarrier i)) there named = named_kept m.table (objects_of m) i (record (barrier_at m i) { arrivals = (barrier_at m i).arrivals ++ by.thread ∷ [] }) there there named
named_entered m by (Some (OfSemaphore i)) there named = named_obtained m.table (objects_of m) i (with_waiter by (semaphore_at m i)) there there named

-- to enter the queue of what a thread waits for that stands in none, where the chain of its owner, if it has one, doesn't reach the thread
pub gentle_enter : (k m : Plain) (by : Caller) (wait : Wait) → IsGentleBut k m (but_one by.thread) → (thread_at m by.thread).wait ≡ Some wait → IsThere m.barriers m.semaphores (object_of_wait (Some wait)) → ((object : Object) → times by.thread (arrivals_in m.barriers m.semaphores object) ≡ 0) → WillWake m.threads m.clusters by.thread → MayJoin m.semaphores m.threads by.thread (Some wait) → IsGentle k (enter m by (Some wait))
gentle_enter k m by wait gentle is there none wakes joins =
    let awaited = object_of_wait (Some wait) in
    let joined = chained_joined m.semaphores m.threads by.thread (subst (MayJoin m.semaphores m.threads by.thread) (sym is) joins) gentle.chained in
    record {
      scenario = gentle.scenario;
      present = gentle.present;
      places = gentle.places;
      locks = length-entered_in m.semaphores by awaited ∙ gentle.locks;
      halls = length-entered m.barriers by.thread awaited ∙ gentle.halls;
      pools = gentle.pools;
      threads = gentle.threads;
      lines = gentle.lines;
      timers = gentle.timers;
      named = named_entered m by awaited there gentle.named;
      tied = tied_entered m.barriers m.semaphores m.threads m.clusters by awaited there none (ap object_of_wait is) wakes gentle.tied;
      chained = chained_owners m.semaphores (with_waiter_in m.semaphores by awaited) m.threads but_none (owners_entered m.semaphores by awaited) joined;
    }

-- a life of one in a directive that waits has begun
pub in_call_begun : (life : Life) (calls : Bool) → calls ≡ true → (is_started life ≡ false → calls ≡ false) → has_begun life ≡ true
in_call_begun Absent calls is idle = absurd (false≢true (sym (idle refl) ∙ is))
in_call_begun Dormant calls is idle = refl
in_call_begun Started calls is idle = refl
in_call_begun Ended calls is idle = refl

-- one that may have a limit waits
pub limited_waits : (wait : Option Wait) → may_time_out wait ≡ true → is_waiting wait ≡ true
limited_waits None h = absurd (false≢true h)
limited_waits (Some w) h = refl

-- one that waits is in a directive that waits
pub waits_calls : (wait : Option Wait) (reply : Option Reply) → is_waiting wait ≡ true → is_in_call wait reply ≡ true
waits_calls None reply h = absurd (false≢true h)
waits_calls (Some w) reply h = refl

-- one that is in no directive that waits doesn't wait
pub idle_waits_not : (wait : Option Wait) (reply : Option Reply) → is_in_call wait reply ≡ false → is_waiting wait ≡ false
idle_waits_not None reply h = refl
idle_waits_not (Some w) reply h = absurd (false≢true (sym h))

-- to end, of the waits of some threads and one more that are left out, the wait of this one, which stands in no queue any more, with a reply
pub gentle_stop_wait : (k m : Plain) (larger but : ℕ → Bool) (t : ℕ) (reply : Reply) → IsSound k → IsGentleBut k m larger → larger t ≡ true → HasOneMore larger but t → ((object : Object) → times t (arrivals_in m.barriers m.semaphores object) ≡ 0) → is_waiting (thread_at m t).wait ≡ true → IsGentleBut k (stop_wait m t reply) but
gentle_stop_wait k m larger but t reply sound gentle among more gone waits =
    let h = (thread_at m t).home in
    let b = bounds_in k m larger t sound gentle in
    let w = waits_within m.threads t waits in
    let calls = waits_calls (thread_at m t).wait (thread_at m t).finished waits in
    let thread : Thread = record (thread_at m t) { wait = None; finished = Some reply } in
    let begun = in_call_begun (thread_at m t).life (is_in_call (thread_at m t).wait (thread_at m t).finished) calls b.idle in
    gentle_idle k (cancel m h (OfThread t)) larger but t thread m.table (gentle_cancel k m larger h t among gentle) among more w.0 w.1 (cancelled k m larger t gentle) refl gone (λ _ _. begun)
    (named_put m.table (objects_of m) t thread begun begun gentle.named)
    (record { home = b.home; line = b.line; working = b.working; calling = λ _. b.calling calls; apart = λ w. absurd (false≢true (sym (b.apart w) ∙ calls)); acts = b.acts; idle = λ s. absurd (false≢true (sym (b.idle s) ∙ calls)); computed = b.computed })

-- to end the wait of a thread with a reply
pub gentle_end_wait : (k m : Plain) (t : ℕ) (reply : Reply) → IsSound k → IsGentleBut k m (but_one t) → IsQueued m.barriers m.semaphores m.threads t → is_waiting (thread_at m t).wait ≡ true → IsGentle k (end_wait m t reply)
gentle_end_wait k m t reply sound gentle stood waits =
    gentle_stop_wait k (leave m t) (but_one t) but_none t reply sound (gentle_leave k m t gentle stood) (equal_test t t refl) (λ u _ other. other) (left_gone m.barriers m.semaphores t (object_of_wait (thread_at m t).wait) stood) waits

-- A gentle change after which a thread can still go on: it lives, has a line, and is in no directive that waits.
pub record Stays (k next : Plain) (t : ℕ) : Type 0 where
  pub gentle : IsGentle k next
  pub lives : has_begun (thread_at next t).life ≡ true
  pub line : (thread_at next t).line ≤ 1000
  pub free : is_in_call (thread_at next t).wait (thread_at next t).finished ≡ false

-- such a thread stores an out number and goes on
pub gentle_go_on : (k m : Plain) (t out : ℕ) → IsSound k → Stays k m t → IsGentle k (go_on m t out)
gentle_go_on k m t out sound stays =
    let b = bounds_in k m but_none t sound stays.gentle in
    gentle_put k m but_none t (finished m.scenario (thread_at m t) out) stays.gentle refl refl stays.lives stays.lives
    (subst (λ (s : Scenario). IsInBounds k.scenario (length k.clusters) k.present (finished s (thread_at m t) out)) (sym stays.gentle.scenario)
    (arrived_bounds k.scenario (length k.clusters) k.present (record (thread_at m t) { vars = stored_vars k.scenario (thread_at m t) out }) ((thread_at m t).line + 1) sound.bodies b.home (omega (arith, stays.line)) b.computed stays.free))

-- A thread still can go on where a live one is put back, where one lives, within its bounds, that has the same home, line, wait and reply.
pub stays_put : (k m : Plain) (t u : ℕ) (thread : Thread) → Stays k m t → thread.home ≡ (thread_at m u).home → thread.line ≡ (thread_at m u).line → thread.wait ≡ (thread_at m u).wait → thread.finished ≡ (thread_at m u).finished → has_begun (thread_at m u).life ≡ true → has_begun thread.life ≡ true → IsInBounds k.scenario (length k.clusters) k.present thread → Stays k (put_thread m u thread) t
stays_put k m t u thread stays home line wait reply lives life bounds =
    let kept : (nth no_thread (with_nth m.threads u thread) t).line ≡ (thread_at m t).line = nth-with_kept (λ (x : Thread). x.line) no_thread thread m.threads u t line in
    record {
      gentle = gentle_put k m but_none u thread stays.gentle home wait lives life bounds;
      lives = nth-with_kept (λ (x : Thread). has_begun x.life) no_thread thread m.threads u t (life ∙ sym lives) ∙ stays.lives;
      line = omega (arith, kept, stays.line);
      free = nth-with_kept (λ (x : Thread). is_in_call x.wait x.finished) no_thread thread m.threads u t (rw (wait, reply) refl) ∙ stays.free;
    }

-- A thread still can go on after a gentle change of which it is left out.
pub stays_apart : (k m next : Plain) (t u : ℕ) (thread : Thread) → Stays k m t → t ≢ u → next.threads ≡ with_nth m.threads u thread → IsGentle k next → Stays k next t
stays_apart k m next t u thread stays other put gentle =
    let same : thread_at next t ≡ thread_at m t = ap (λ (ts : List Thread). nth no_thread ts t) put ∙ nth-with_other no_thread thread m.threads u t other in
    record {
      gentle = gentle;
      lives = ap (λ (x : Thread). has_begun x.life) same ∙ stays.lives;
      line = subst (λ (x : Thread). x.line ≤ 1000) (sym same) stays.line;
      free = ap (λ (x : Thread). is_in_call x.wait x.finished) same ∙ stays.free;
    }

-- A thread still can go on where the wait of another one ends.
pub stays_end_wait : (k m : Plain) (t u : ℕ) (reply : Reply) → IsSound k → Stays k m t → is_waiting (thread_at m u).wait ≡ true → Stays k (end_wait m u reply) t
stays_end_wait k m t u reply sound stays waits =
    let free = idle_waits_not (thread_at m t).wait (thread_at m t).finished stays.free in
    let other : t ≢ u = λ e. false≢true (sym free ∙ ap (λ v. is_waiting (thread_at m v).wait) e ∙ waits) in
    stays_apart k m (end_wait m u reply) t u (record (thread_at m u) { wait = None; finished = Some reply }) stays other refl (gentle_end_wait k m u reply sound (gentle_but k m u stays.gentle) (stays.gentle.tied.queued u refl) waits)

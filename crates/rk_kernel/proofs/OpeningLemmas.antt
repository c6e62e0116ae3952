-- The opening state is sound: it is the state with no task yet, changed gently and settled. How its tasks are started one after another.
use Rattle.std.proofs.Common.{◌≡◌, ℕ, zero, suc, ◌+◌, ◌<◌, ◌≤◌, List, [], ◌∷◌, true, false, cond, ◌==◌, Option, None, Some, length, get_or, length-append, length-take, ◌++◌, take, map, replicate, arith, refl, ap, sym, ◌∙◌, subst}
use Rattle.std.specs.List.{AllByRecursion, range_with_len, slice_set}
use Rattle.std.proofs.lemmas.List.{length-replicate, length-map, map-append, take_more, take_all}
use Rattle.std.proofs.lemmas.List.Elements.{All-from_recursion}
use Rattle.std.proofs.lemmas.Bool.{false≢true}
use Rattle.rk_model.specs.declared.scenario.Scenario.{Scenario}
use Rattle.rk_model.specs.declared.scenario.Init.{Init}
use Rattle.rk_model.specs.declared.state.Life.TheVariants.{Started}
use Rattle.rk_model.specs.declared.state.Thread.{Thread}
use Rattle.rk_model.specs.Lists.{nth, with_nth, times}
use Rattle.rk_model.specs.Names.{Table, no_objects}
use Rattle.rk_model.specs.Queues.{threads as waiting}
use Rattle.rk_model.specs.Scheduling.Chains.{ends_on, owner_awaited}
use Rattle.rk_model.specs.Directives.Objects.{has_begun}
use Rattle.rk_model.specs.State.{Plain, SemaphoreState, BarrierState, ClusterState, PeriodState, no_thread, no_semaphore, no_barrier, no_cluster, no_period, thread_at, put_thread, period_at, cluster_at}
use Rattle.rk_model.specs.Directives.Waits.{OfBarrier, OfSemaphore, object_of_wait, is_for}
use Rattle.rk_model.specs.Scheduling.Priorities.{is_eligible}
use Rattle.rk_model.specs.Scheduling.ReadyQueues.{has_cpu}
use Rattle.rk_model.specs.Scheduling.Seats.{all_cpus}
use Rattle.rk_model.specs.Histories.{begun, places, free_cluster, vacant, started, opening}
use Rattle.rk_model.specs.Text.Scenarios.{cpus_in}
use Rattle.rk_model.specs.Limits.{IsWithinLimits}
use Rattle.rk_parts.specs.declared.parts.ClusterPart.{ClusterPart}
use Rattle.rk_groups.specs.declared.group.GroupPart.{GroupPart}
use Rattle.rk_parts.specs.Joined.{joined, thread_lent}
use Rattle.rk_kernel.proofs.InitNamesLemmas.{none_locks, none_stands, none_timed, named_vacant, named_begun}
use Rattle.rk_directives.proofs.ThreadBoundsLemmas.{none_bounds, arrived_bounds}
use Rattle.rk_directives.specs.Sound.{stands, own, AllSound, IsInBounds, IsSound, AllTimed, IsGentle, CanSettle, IsQueued, AreTied, AreChained, but_none, is_asleep}
use Rattle.rk_directives.specs.SoundPeriods.{awaits, dues_of, IsPeriodSound, ArePeriodsSound}
use Rattle.rk_directives.proofs.PeriodSoundLemmas.{none_sound}
use Rattle.rk_model.specs.declared.state.Armer.TheVariants.{Period as OfPeriod}
use Rattle.rk_model.proofs.CountLemmas.{times-filter}
use Rattle.rk_model.proofs.BooleanLemmas.{and_false}
use Rattle.rk_directives.proofs.TimerLemmas.{keeps_same}
use Rattle.rk_kernel.proofs.SoundSettlingLemmas.{sound_settled}

pub length-places : (n : ℕ) (threads : List Thread) → length (places n threads) ≡ n
length-places zero threads = refl
length-places (suc n) [] = omega (arith, length-places n [])
length-places (suc n) (thread ∷ threads) = omega (arith, length-places n threads)

no_place_from : (n i : ℕ) → get_or (places n []) i no_thread ≡ no_thread
no_place_from zero i = refl
no_place_from (suc n) zero = refl
no_place_from (suc n) (suc i) = no_place_from n i

-- where there are places alone there is no thread
no_place : (n t : ℕ) → nth no_thread (places n []) t ≡ no_thread
no_place n zero = refl
no_place n (suc i) = no_place_from n i

pub never_eligible : (k : Plain) (t : ℕ) → thread_at k t ≡ no_thread → is_eligible k t ≡ false
unfolding is_eligible
never_eligible k t none = rw none refl

never_stands : (k : Plain) (c t : ℕ) → is_eligible k t ≡ false → stands k c t ≡ false
unfolding stands
never_stands k c t none = rw none (and_false ((thread_at k t).home == c))

none_own : (k : Plain) (c t : ℕ) → is_eligible k t ≡ false → 0 ≡ times t (own k c)
none_own k c t none = sym (times-filter (stands k c) t (range_with_len 1 (length k.threads)) ∙ (rw (never_stands k c t none) refl))

none_seated : (m t : ℕ) → has_cpu (replicate m None) t ≡ false
none_seated zero t = refl
none_seated (suc m) t = none_seated m t

-- free clusters are sound where there is no thread
all_free : (k : Plain) (c : ℕ) (counts : List ℕ) → ((t : ℕ) → thread_at k t ≡ no_thread) → cpus_in counts ≤ 8 → AllSound k c (map free_cluster counts)
all_free k c [] none few = tt
all_free k c (m ∷ counts) none few = (
  record {
    few_cpus = rw length-replicate (omega arith);
    line = λ t. none_own k c t (never_eligible k t (none t));
    manned = λ t h. absurd (false≢true (sym (none_seated m t) ∙ h));
    timers = λ t. omega arith;
  },
  all_free k (c + 1) counts none (omega arith),
)

-- free clusters have no timers
all_untimed : (threads : List Thread) (c : ℕ) (counts : List ℕ) → AllTimed threads c (map free_cluster counts)
all_untimed threads c [] = tt
all_untimed threads c (m ∷ counts) = (λ t. omega arith, all_untimed threads (c + 1) counts)

cpus-free : (counts : List ℕ) → length (all_cpus (map free_cluster counts)) ≡ cpus_in counts
cpus-free [] = refl
cpus-free (m ∷ counts) = omega (arith, length-append (replicate m (let n : Option ℕ = None in n)) (all_cpus (map free_cluster counts)), length-replicate {A = Option ℕ}, cpus-free counts)

-- a thread of an init line is within its bounds
bounds_begun : (s : Scenario) (init : Init) (m : ℕ) → IsWithinLimits s → init.cluster < m → IsInBounds s m 0 (begun s init)
bounds_begun s init m within home = arrived_bounds s m 0 (record no_thread { life = Started; home = init.cluster; base = init.prio; body = init.body }) 1 within.bodies home (omega arith) (omega arith) refl

all_begun : (s : Scenario) (m n : ℕ) (inits : List Init) → IsWithinLimits s → 0 < m → AllByRecursion (λ (init : Init). init.cluster < m) inits → AllByRecursion (IsInBounds s m 0) (places n (map (begun s) inits))
all_begun s m zero inits within some homes = tt
all_begun s m (suc n) [] within some homes = (none_bounds s m 0 some, all_begun s m n [] within some tt)
all_begun s m (suc n) (init ∷ inits) within some homes = (bounds_begun s init m within homes.0, all_begun s m n inits within some homes.1)

-- where no thread waits and nobody stands in a queue, waits agree with queues and timers
tied_free : (threads : List Thread) (clusters : List ClusterState) → ((t : ℕ) → (nth no_thread threads t).wait ≡ None) → AreTied (replicate 64 no_barrier) (replicate 64 no_semaphore) threads clusters but_none
tied_free threads clusters free = record {
  queued = λ t _. queue t;
  wakes = λ t _ asleep. absurd (false≢true (sym (ap is_asleep (free t)) ∙ asleep));
} where
  queue : (t : ℕ) → IsQueued (replicate 64 no_barrier) (replicate 64 no_semaphore) threads t
  queue t (OfBarrier i) = ap (λ (x : BarrierState). times t x.arrivals) (none_stands i) ∙ ap (λ w. cond (is_for (object_of_wait w) (OfBarrier i)) 1 0) (sym (free t))
  queue t (OfSemaphore i) = ap (λ (x : SemaphoreState). times t (waiting x.queue.arrivals)) (none_locks i) ∙ ap (λ w. cond (is_for (object_of_wait w) (OfSemaphore i)) 1 0) (sym (free t))

-- where no thread waits and there is no semaphore, each chain is one thread
chained_free : (threads : List Thread) → ((t : ℕ) → (nth no_thread threads t).wait ≡ None) → AreChained (replicate 64 no_semaphore) threads but_none
chained_free threads free = record { owners = λ i t owner. absurd (none_owns t (sym (ap (λ (x : SemaphoreState). x.owner) (none_locks i)) ∙ owner)); ends = λ t. (1, alone (owner_awaited (replicate 64 no_semaphore) (nth no_thread threads t).wait) (ap (owner_awaited (replicate 64 no_semaphore)) (free t))) } where
  none_owns : (t : ℕ) → ◌≡◌ {A = Option ℕ} None (Some t) → ⊥
  none_owns t e = let no : ⊥ = cc in no

  alone : (o : Option ℕ) → o ≡ None → ends_on (λ t. false) o ≡ true
  alone o e = rw e refl

-- a task of an init line waits for nothing
begun_waits : (s : Scenario) (n : ℕ) (inits : List Init) (t : ℕ) → (nth no_thread (places n (map (begun s) inits)) t).wait ≡ None
begun_waits s n inits zero = refl
begun_waits s n inits (suc i) = at n inits i where
  at : (n : ℕ) (inits : List Init) (i : ℕ) → (get_or (places n (map (begun s) inits)) i no_thread).wait ≡ None
  at zero inits i = refl
  at (suc n) [] zero = refl
  at (suc n) [] (suc i) = at n [] i
  at (suc n) (init ∷ inits) zero = refl
  at (suc n) (init ∷ inits) (suc i) = at n inits i

-- where there is no period, no timer is armed and no thread waits, periods are sound
periods_free : (k : Plain) → k.periods ≡ replicate 64 no_period → ((c : ℕ) → (cluster_at k c).timers ≡ []) → ((t : ℕ) → (thread_at k t).wait ≡ None) → ArePeriodsSound k
periods_free k none untimed free = record {
  places = ap (λ (ps : List PeriodState). length ps) none ∙ length-replicate 64 no_period;
  each = λ i. subst (λ (p : PeriodState). IsPeriodSound k.present (thread_at k p.creator) (λ c. (cluster_at k c).timers) i p) (sym (nothing i)) (none_sound k.present (thread_at k 0) (λ c. (cluster_at k c).timers) i (λ c. ap (dues_of (OfPeriod i)) (untimed c)));
  waits = λ t i is. (let waits : None ≡ Some i = sym (ap awaits (free t)) ∙ is in let no : ⊥ = cc in absurd no);
} where
  nothing : (i : ℕ) → period_at k i ≡ no_period
  nothing i = ap (λ (ps : List PeriodState). nth no_period ps i) none ∙ none_timed i

no_timers : (s : Scenario) (c : ℕ) → (cluster_at (vacant s) c).timers ≡ []
no_timers s c = at s.clusters c where
  at : (counts : List ℕ) (c : ℕ) → (get_or (map free_cluster counts) c no_cluster).timers ≡ []
  at [] c = refl
  at (m ∷ counts) zero = refl
  at (m ∷ counts) (suc c) = at counts c

pub sound_vacant : (s : Scenario) → IsWithinLimits s → IsSound (vacant s)
sound_vacant s within =
    let size : length (vacant s).clusters ≡ length s.clusters = length-map s.clusters free_cluster in
    record {
      places = length-places 64 [];
      locks = refl;
      halls = refl;
      pools = refl;
      few_clusters = rw size within.few_clusters;
      some_cluster = rw size within.some_cluster;
      few_cpus = rw (cpus-free s.clusters) within.few_cpus;
      horizon = within.horizon;
      present = omega arith;
      bodies = within.bodies;
      threads = rw size (All-from_recursion (IsInBounds s (length s.clusters) 0) (places 64 []) (all_begun s (length s.clusters) 64 [] within within.some_cluster tt));
      clusters = all_free (vacant s) 0 s.clusters (no_place 64) within.few_cpus;
      named = named_vacant s;
      tied = tied_free (places 64 []) (vacant s).clusters (λ t. ap (λ (x : Thread). x.wait) (no_place 64 t));
      chained = chained_free (places 64 []) (λ t. ap (λ (x : Thread). x.wait) (no_place 64 t));
      periods = periods_free (vacant s) refl (no_timers s) (λ t. ap (λ (x : Thread). x.wait) (no_place 64 t));
    }

gentle_started : (s : Scenario) → IsWithinLimits s → IsGentle (vacant s) (started s)
gentle_started s within =
    let size : length (vacant s).clusters ≡ length s.clusters = length-map s.clusters free_cluster in
    let threads = places 64 (map (begun s) s.inits) in
    record {
      scenario = refl;
      present = refl;
      places = length-places 64 (map (begun s) s.inits) ∙ sym (length-places 64 []);
      locks = refl;
      halls = refl;
      pools = refl;
      threads = rw size (All-from_recursion (IsInBounds s (length s.clusters) 0) threads (all_begun s (length s.clusters) 64 s.inits within within.some_cluster within.homes));
      lines = keeps_same (vacant s).clusters;
      timers = all_untimed threads 0 s.clusters;
      named = named_begun s s.inits within.few_inits;
      tied = tied_free threads (vacant s).clusters (begun_waits s 64 s.inits);
      chained = chained_free threads (begun_waits s 64 s.inits);
    }

pub started_settles : (s : Scenario) → IsWithinLimits s → CanSettle (vacant s) (started s)
started_settles s within = record { gentle = gentle_started s within; periods = periods_free (started s) refl (no_timers s) (begun_waits s 64 s.inits) }

-- The opening state is sound.
pub sound_opening : (s : Scenario) → IsWithinLimits s → IsSound (opening s)
sound_opening s within = sound_settled (vacant s) (started s) [] (sound_vacant s within) (started_settles s within)

-- one more of the first places has a thread
pub places-push : (n : ℕ) (threads : List Thread) (thread : Thread) (at : ℕ) → at ≡ length threads → at < n → slice_set (places n threads) at thread ≡ places n (threads ++ thread ∷ [])
places-push zero threads thread at e within = absurd (never at within) where
  never : (at : ℕ) → at < 0 → ⊥
  never at h = omega (arith, h)
places-push (suc n) [] thread at e within = rw e refl
places-push (suc n) (x ∷ xs) thread zero e within = absurd (omega (arith, e))
places-push (suc n) (x ∷ xs) thread (suc at) e within = ap (λ ts. x ∷ ts) (places-push n xs thread at (omega (arith, e)) (omega (arith, within)))

-- the index behind a number of places
with_next : (threads : List Thread) (at : ℕ) (thread : Thread) → with_nth threads (at + 1) thread ≡ slice_set threads at thread
with_next threads at thread = let e : at + 1 ≡ suc at = omega arith in rw e refl

-- one more init line's task is started
pub started_more : (s : Scenario) (threads threads' : List Thread) (thread : Thread) (init : Init) (at : ℕ) → at < length s.inits → length s.inits ≤ 64 → init ≡ get_or s.inits at init → thread ≡ begun s init → threads' ≡ with_nth threads (at + 1) thread → threads ≡ places 64 (map (begun s) (take at s.inits)) → threads' ≡ places 64 (map (begun s) (take (at + 1) s.inits))
started_more s threads threads' thread init at within few is made set so_far =
    let front = map (begun s) (take at s.inits) in
    let size : at ≡ length front = omega (arith, length-map (take at s.inits) (begun s), length-take at s.inits) in
    let more : map (begun s) (take (at + 1) s.inits) ≡ front ++ begun s init ∷ [] =
    ap (map (begun s)) (take_more s.inits at init within) ∙ map-append (begun s) (take at s.inits) (get_or s.inits at init ∷ []) ∙ ap (λ x. front ++ begun s x ∷ []) (sym is) in
    set ∙ with_next threads at thread ∙ ap (λ ts. slice_set ts at thread) so_far ∙ ap (slice_set (places 64 front) at) made ∙ places-push 64 front (begun s init) at size (omega arith) ∙ ap (places 64) (sym more)

-- behind the first places there is no thread
place_free : (n : ℕ) (threads : List Thread) (at : ℕ) → length threads ≤ at → get_or (places n threads) at no_thread ≡ no_thread
place_free zero threads at few = refl
place_free (suc n) [] zero few = refl
place_free (suc n) [] (suc at) few = no_place_from n at
place_free (suc n) (x ∷ xs) zero few = absurd (omega (arith, few))
place_free (suc n) (x ∷ xs) (suc at) few = place_free n xs at (omega (arith, few))

-- ---- the parts in which tasks of init lines are started

-- the state of some parts in which the tasks of so many init lines are started
abbrev pub begun_in_parts : Scenario → Table → List ClusterPart → List GroupPart → ℕ → Plain
begun_in_parts s table parts groups at = record (joined s table parts groups) { threads = places 64 (map (begun s) (take at s.inits)) }

-- the next task lives nowhere yet,
pub not_begun : (s : Scenario) (old parts : List ClusterPart) (at index : ℕ) → index ≡ at + 1 → ((table : Table) (groups : List GroupPart) → joined s table parts groups ≡ begun_in_parts s table old groups at) → has_begun (thread_lent parts index).life ≡ false
not_begun s old parts at index is so_far =
    let behind : at + 1 ≡ suc at = omega arith in
    let front = map (begun s) (take at s.inits) in
    let few : length front ≤ at = omega (arith, length-map (take at s.inits) (begun s), length-take at s.inits) in
    let none : thread_lent parts index ≡ no_thread =
    ap (thread_lent parts) (is ∙ behind) ∙ ap (λ (k : Plain). thread_at k (suc at)) (so_far no_objects []) ∙ place_free 64 front at few in
    ap (λ (x : Thread). has_begun x.life) none

-- its home is one of the clusters,
pub home_known : (s : Scenario) (init : Init) (at : ℕ) (thread : Thread) → IsWithinLimits s → at < length s.inits → init ≡ get_or s.inits at init → thread ≡ begun s init → thread.home < length s.clusters
home_known s init at thread within less is made =
    let known = All-from_recursion (λ (x : Init). x.cluster < length s.clusters) s.inits within.homes at init less in
    let home : thread.home ≡ init.cluster = ap (λ (x : Thread). x.home) made in
    let same : init.cluster ≡ (get_or s.inits at init).cluster = ap (λ (x : Init). x.cluster) is in
    omega (arith, known, home, same)

-- and then it is started.
pub started_next : (s : Scenario) (table : Table) (groups : List GroupPart) (old parts next : List ClusterPart) (index : ℕ) (thread : Thread) (init : Init) (at : ℕ) → at < length s.inits → length s.inits ≤ 64 → init ≡ get_or s.inits at init → thread ≡ begun s init → index ≡ at + 1 →
    joined s table next groups ≡ put_thread (joined s table parts groups) index thread → joined s table parts groups ≡ begun_in_parts s table old groups at → joined s table next groups ≡ begun_in_parts s table old groups (at + 1)
started_next s table groups old parts next index thread init at within few is made place put so_far =
    let front = places 64 (map (begun s) (take at s.inits)) in
    put ∙ ap (λ k. put_thread k index thread) so_far
    ∙ ap (λ (ts : List Thread). (let k : Plain = record (joined s table old groups) { threads = ts } in k)) (started_more s front (with_nth front index thread) thread init at within few is made (ap (λ i. with_nth front i thread) place) refl)

-- At the end the tasks of all init lines are started.
pub started_all : (s : Scenario) (table : Table) (groups : List GroupPart) (old parts : List ClusterPart) (at : ℕ) → length s.inits ≤ at → joined s table parts groups ≡ begun_in_parts s table old groups at → joined s table parts groups ≡ (let k : Plain = record (joined s table old groups) { threads = places 64 (map (begun s) s.inits) } in k)
started_all s table groups old parts at whole so_far =
    so_far ∙ ap (λ (inits : List Init). (let k : Plain = record (joined s table old groups) { threads = places 64 (map (begun s) inits) } in k)) (take_all at s.inits whole)

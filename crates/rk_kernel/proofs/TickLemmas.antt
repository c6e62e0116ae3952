-- A tick that passes keeps a state sound, before any timer fires.
use Rattle.std.proofs.Common.{◌≡◌, ℕ, zero, suc, ◌+◌, ◌-◌, ◌<◌, ◌≤◌, List, [], ◌∷◌, Bool, true, false, cond, eqb, ◌||◌, ◌&&◌, not, nat_lt, Option, None, Some, length, get_or, arith, refl, ap, sym, ◌∙◌, subst, inl}
use Rattle.std.specs.List.{AllByRecursion, range_with_len}
use Rattle.std.proofs.lemmas.Bool.Decides.{nat_tests}
use Rattle.std.proofs.lemmas.List.Elements.{filter_agree, All-from_recursion, recursion_from_All}
use Rattle.rk_model.specs.declared.scenario.Scenario.{Scenario}
use Rattle.rk_model.specs.declared.entry.What.TheVariants.{Tick, End}
use Rattle.rk_model.specs.declared.state.Thread.{Thread}
use Rattle.rk_model.specs.Lists.{times}
use Rattle.rk_model.specs.State.{Plain, ClusterState, PeriodState, objects_of, no_thread, thread_at, period_at, cluster_at}
use Rattle.rk_model.specs.Scheduling.Priorities.{is_eligible, is_started, is_no_wait, is_spinning}
use Rattle.rk_model.specs.Directives.Objects.{has_begun}
use Rattle.rk_model.specs.Directives.Waits.{object_of_wait, is_for}
use Rattle.rk_model.specs.Scheduling.Chains.{owner_awaited}
use Rattle.rk_model.specs.Scheduling.Running.{least, runs_somewhere}
use Rattle.rk_model.specs.Scheduling.Ticks.{charged, ticked, charge_from, pass, tick}
use Rattle.rk_model.specs.Steps.{clock_of, clock_entry}
use Rattle.rk_model.specs.Limits.{AreRunnable}
use Rattle.rk_directives.specs.Sound.{IsSound, IsInBounds, AllSound, AreChained, own, stands, waits_in, may_time_out, is_asleep, but_none}
use Rattle.rk_directives.specs.SoundPeriods.{awaits, overdue, IsCounted, ArePeriodsSound}
use Rattle.rk_model.specs.declared.period.Job.{Job}
use Rattle.rk_model.specs.Directives.Periods.{running_job, end_of}
use Rattle.rk_period.specs.Periods.{HasBegun}
use Rattle.std.specs.Option.{option_to_list}
use Rattle.std.specs.Prelude.{IfSome}
use Rattle.rk_model.specs.declared.state.Armer.TheVariants.{Thread as OfThread}
use Rattle.rk_model.specs.Scheduling.Timers.{times_armed}
use Rattle.rk_directives.proofs.NamesAgreeLemmas.{named_alike}
use Rattle.rk_directives.proofs.ThreadBoundsLemmas.{arrived_bounds}
use Rattle.rk_directives.proofs.WaitChainLemmas.{chained_loosened}

-- what holds at each of two outcomes of a test holds of the choice
by_test : {X : Type 0} (P : X → Type 0) (b : Bool) (x y : X) → (b ≡ true → P x) → (b ≡ false → P y) → P (cond b x y)
by_test P true x y f g = f refl
by_test P false x y f g = g refl

-- what doesn't look at a thread's line, work left and count of computed ticks, a tick doesn't change
pub charged_steady : {Y : Type 0} (f : Thread → Y) (s : Scenario) (x : Thread) → ((x : Thread) (line left computed : ℕ) → f (record x { line = line; left = left; computed = computed }) ≡ f x) → f (charged s x) ≡ f x
charged_steady f s x steady =
    by_test (λ (y : Thread). f y ≡ f x) (eqb x.left 0) _ _ (λ _. refl)
    (λ _. by_test (λ (y : Thread). f y ≡ f x) (eqb x.left 1) _ _ (λ _. steady x _ _ _) (λ _. steady x x.line _ _))

charge_steady : {Y : Type 0} (f : Thread → Y) (k : Plain) (t : ℕ) (ts : List Thread) (i : ℕ) → ((x : Thread) (line left computed : ℕ) → f (record x { line = line; left = left; computed = computed }) ≡ f x) → f (get_or (charge_from k t ts) i no_thread) ≡ f (get_or ts i no_thread)
unfolding ticked
charge_steady f k t [] i steady = refl
charge_steady f k t (x ∷ xs) zero steady = by_test (λ (y : Thread). f y ≡ f x) (runs_somewhere k t) _ _ (λ _. charged_steady f k.scenario x steady) (λ _. refl)
charge_steady f k t (x ∷ xs) (suc i) steady = charge_steady f k (t + 1) xs i steady

pub passed_steady : {Y : Type 0} (f : Thread → Y) (k : Plain) (t : ℕ) → ((x : Thread) (line left computed : ℕ) → f (record x { line = line; left = left; computed = computed }) ≡ f x) → f (thread_at (pass k) t) ≡ f (thread_at k t)
passed_steady f k zero steady = refl
passed_steady f k (suc i) steady = charge_steady f k 1 k.threads i steady

pub length-charge_from : (k : Plain) (t : ℕ) (ts : List Thread) → length (charge_from k t ts) ≡ length ts
length-charge_from k t [] = refl
length-charge_from k t (x ∷ xs) = omega (arith, length-charge_from k (t + 1) xs)

eligible-pass : (k : Plain) (t : ℕ) → is_eligible (pass k) t ≡ is_eligible k t
unfolding is_eligible
eligible-pass k t = passed_steady (λ (x : Thread). is_started x.life && not x.suspended && (is_no_wait x.wait || is_spinning x.wait)) k t (λ _ _ _ _. refl)

stands-pass : (k : Plain) (c t : ℕ) → stands (pass k) c t ≡ stands k c t
unfolding stands
stands-pass k c t =
    ap (λ b. (eqb (thread_at (pass k) t).home c) && b) (eligible-pass k t) ∙ ap (λ h. (eqb h c) && is_eligible k t) (passed_steady (λ (x : Thread). x.home) k t (λ _ _ _ _. refl))

timed-pass : (k : Plain) (c t : ℕ) → waits_in (pass k).threads c t ≡ waits_in k.threads c t
timed-pass k c t = passed_steady (λ (x : Thread). (eqb x.home c) && may_time_out x.wait) k t (λ _ _ _ _. refl)

own-pass : (k : Plain) (c : ℕ) → own (pass k) c ≡ own k c
own-pass k c = rw length-charge_from (filter_agree (stands (pass k) c) (stands k c) (stands-pass k c) (range_with_len 1 (length k.threads)))

sound_clusters : (k : Plain) (c : ℕ) (clusters : List ClusterState) → AllSound k c clusters → AllSound (pass k) c clusters
sound_clusters k c [] sound = tt
sound_clusters k c (cluster ∷ clusters) sound = (
  record {
    few_cpus = sound.0.few_cpus;
    line = λ t. sound.0.line t ∙ ap (times t) (sym (own-pass k c));
    manned = sound.0.manned;
    timers = λ t. (let few : times_armed (OfThread t) cluster.timers ≤ cond (waits_in (pass k).threads c t) 1 0 = rw (timed-pass k c t) (sound.0.timers t) in few);
  },
  sound_clusters k (c + 1) clusters sound.1,
)

more_left : (left : ℕ) → eqb left 0 ≡ false → eqb left 1 ≡ false → left - 1 ≡ 0 → ⊥
more_left zero some more none = grind (arith, nat_tests, some)
more_left (suc zero) some more none = grind (arith, nat_tests, more)
more_left (suc (suc n)) some more none = omega (arith, none)

-- a thread that is charged in a tick is within the bounds after it
charged_bounds : (s : Scenario) (n p : ℕ) (x : Thread) → AreRunnable s.bodies → IsInBounds s n p x → IsInBounds s n (p + 1) (charged s x)
charged_bounds s n p x runs b =
    let P : Thread → Type 0 = IsInBounds s n (p + 1) in
    by_test P (eqb x.left 0) _ _ (λ _. record { home = b.home; line = b.line; working = b.working; calling = b.calling; apart = b.apart; acts = b.acts; idle = b.idle; computed = omega (arith, b.computed) })
    (λ some. by_test P (eqb x.left 1) _ _
    (λ one.
    let left : 0 < x.left = grind (arith, nat_tests) in
    let a = arrived_bounds s n p x (x.line + 1) runs b.home (omega (arith, b.working left)) b.computed (b.apart left) in
    record { home = a.home; line = a.line; working = a.working; calling = a.calling; apart = a.apart; acts = a.acts; idle = a.idle; computed = omega (arith, b.computed) })
    (λ more. record { home = b.home; line = b.line; working = λ w. b.working (omega (arith, w)); calling = b.calling; apart = λ w. b.apart (omega (arith, w)); acts = λ none. absurd (more_left x.left some more none); idle = b.idle; computed = omega (arith, b.computed) }))

later_bounds : (s : Scenario) (n p : ℕ) (x : Thread) → IsInBounds s n p x → IsInBounds s n (p + 1) x
later_bounds s n p x b = record { home = b.home; line = b.line; working = b.working; calling = b.calling; apart = b.apart; acts = b.acts; idle = b.idle; computed = omega (arith, b.computed) }

charge_bounds : (k : Plain) (n t : ℕ) (ts : List Thread) → AreRunnable k.scenario.bodies → AllByRecursion (IsInBounds k.scenario n k.present) ts → AllByRecursion (IsInBounds k.scenario n (k.present + 1)) (charge_from k t ts)
unfolding ticked
charge_bounds k n t [] runs all = tt
charge_bounds k n t (x ∷ xs) runs all =
    let P : Thread → Type 0 = IsInBounds k.scenario n (k.present + 1) in
    (by_test P (runs_somewhere k t) _ _ (λ _. charged_bounds k.scenario n k.present x runs all.0) (λ _. later_bounds k.scenario n k.present x all.0), charge_bounds k n (t + 1) xs runs all.1)

begun-pass : (k : Plain) (t : ℕ) → has_begun (thread_at (pass k) t).life ≡ has_begun (thread_at k t).life
begun-pass k t = passed_steady (λ (x : Thread). has_begun x.life) k t (λ _ _ _ _. refl)

-- where there is no thread, there is none after a tick
charge_none : (k : Plain) (t : ℕ) (ts : List Thread) (i : ℕ) → get_or ts i no_thread ≡ no_thread → get_or (charge_from k t ts) i no_thread ≡ no_thread
unfolding ticked
charge_none k t [] i none = refl
charge_none k t (x ∷ xs) zero none = by (runs_somewhere k t) (ap (charged k.scenario) none) where
  by : (b : Bool) → charged k.scenario x ≡ no_thread → cond b (charged k.scenario x) x ≡ no_thread
  by true here = here
  by false here = none
charge_none k t (x ∷ xs) (suc i) none = charge_none k (t + 1) xs i none

passed_none : (k : Plain) (t : ℕ) → thread_at k t ≡ no_thread → thread_at (pass k) t ≡ no_thread
passed_none k zero none = refl
passed_none k (suc i) none = charge_none k 1 k.threads i none

waits-pass : (k : Plain) (t : ℕ) → (thread_at (pass k) t).wait ≡ (thread_at k t).wait
waits-pass k t = passed_steady (λ (x : Thread). x.wait) k t (λ _ _ _ _. refl)

homes-pass : (k : Plain) (t : ℕ) → (thread_at (pass k) t).home ≡ (thread_at k t).home
homes-pass k t = passed_steady (λ (x : Thread). x.home) k t (λ _ _ _ _. refl)

-- What is counted of a period fits still after a tick.
counted_pass : (present used used' : ℕ) (period : PeriodState) → used ≤ used' → IsCounted present used period → IsCounted (present + 1) used' period
counted_pass present used used' period more counted = record {
  count = omega (arith, counted.count, later present (end_of period.phase));
  missed = omega (arith, counted.missed, later present (end_of period.phase));
  elapsed = omega (arith, counted.elapsed);
  computed = omega (arith, counted.computed, more);
  job = by (running_job period.phase) counted.job;
  late = counted.late;
  steps = counted.steps;
} where
  later : (present : ℕ) (o : Option ℕ) → overdue (present + 1) o ≤ overdue present o + 1
  later present None = omega arith
  later present (Some next_end) = tests (nat_lt present next_end) (nat_lt (present + 1) next_end) where
    tests : (b d : Bool) → cond d 0 1 ≤ cond b 0 1 + 1
    tests true true = omega arith
    tests true false = omega arith
    tests false true = omega arith
    tests false false = omega arith

  by : (o : Option Job) → IfSome o (HasBegun period.stats present used) → IfSome o (HasBegun period.stats (present + 1) used')
  by None begun = tt
  by (Some job) begun = record { elapsed = begun.elapsed; start = omega (arith, begun.start); computed = begun.computed; before = omega (arith, begun.before, more) }

computed-charged : (s : Scenario) (x : Thread) → x.computed ≤ (charged s x).computed
computed-charged s x = by_test (λ (y : Thread). x.computed ≤ y.computed) (eqb x.left 0) _ _ (λ _. omega arith) (λ _. by_test (λ (y : Thread). x.computed ≤ y.computed) (eqb x.left 1) _ _ (λ _. omega arith) (λ _. omega arith))

computed-ticked : (k : Plain) (t : ℕ) (x : Thread) → x.computed ≤ (ticked k t x).computed
unfolding ticked
computed-ticked k t x = by_test (λ (y : Thread). x.computed ≤ y.computed) (runs_somewhere k t) _ _ (λ _. computed-charged k.scenario x) (λ _. omega arith)

-- no thread has computed less after a tick
computed-pass : (k : Plain) (t : ℕ) → (thread_at k t).computed ≤ (thread_at (pass k) t).computed
computed-pass k zero = omega arith
computed-pass k (suc i) = at 1 k.threads i where
  at : (a : ℕ) (threads : List Thread) (i : ℕ) → (get_or threads i no_thread).computed ≤ (get_or (charge_from k a threads) i no_thread).computed
  at a [] i = omega arith
  at a (x ∷ xs) zero = computed-ticked k a x
  at a (x ∷ xs) (suc i) = at (a + 1) xs i

periods_pass : (k : Plain) → ArePeriodsSound k → ArePeriodsSound (pass k)
periods_pass k sound = record {
  places = sound.places;
  each = λ i. (
      let by = (period_at k i).creator in
      let each = sound.each i in
      record {
        created = λ live. begun-pass k by ∙ each.created live;
        awaited = λ is. ap awaits (waits-pass k by) ∙ each.awaited is;
        timed = λ c. each.timed c ∙ ap (λ h. cond (eqb h c) (option_to_list (end_of (period_at k i).phase)) []) (sym (homes-pass k by));
        counted = counted_pass k.present (thread_at k by).computed (thread_at (pass k) by).computed (period_at k i) (computed-pass k by) each.counted;
      });
  waits = λ t i is. sound.waits t i (sym (ap awaits (waits-pass k t)) ∙ is);
}

-- Each thread waits for what it waited for, and the owners of semaphores live still.
chained_pass : (k : Plain) → AreChained k.semaphores k.threads but_none → AreChained k.semaphores (pass k).threads but_none
chained_pass k chained =
    chained_loosened k.semaphores k.semaphores k.threads (pass k).threads but_none but_none (λ i t owner. begun-pass k t ∙ chained.owners i t owner) (λ t. inl (ap (owner_awaited k.semaphores) (waits-pass k t))) chained

-- A tick below the horizon keeps a state sound.
pub sound_pass : (k : Plain) → IsSound k → k.present < k.scenario.horizon → IsSound (pass k)
sound_pass k sound below = record {
  places = length-charge_from k 1 k.threads ∙ sound.places;
  locks = sound.locks;
  halls = sound.halls;
  pools = sound.pools;
  few_clusters = sound.few_clusters;
  some_cluster = sound.some_cluster;
  few_cpus = sound.few_cpus;
  horizon = sound.horizon;
  present = omega arith;
  bodies = sound.bodies;
  threads = All-from_recursion (IsInBounds k.scenario (length k.clusters) (k.present + 1)) _ (charge_bounds k (length k.clusters) 1 k.threads sound.bodies (recursion_from_All (IsInBounds k.scenario (length k.clusters) k.present) k.threads sound.threads));
  clusters = sound_clusters k 0 k.clusters sound.clusters;
  named = named_alike k.table (objects_of k) (pass k).threads (begun-pass k) (λ t none. passed_none k t (sound.named.blank t (sym (begun-pass k t) ∙ none))) sound.named;
  tied = record {
    queued = λ t apart object. sound.tied.queued t apart object ∙ ap (λ w. cond (is_for (object_of_wait w) object) 1 0) (sym (waits-pass k t));
    wakes = λ t apart asleep. subst (λ d. 1 ≤ times_armed (OfThread t) (cluster_at k d).timers) (sym (homes-pass k t)) (sound.tied.wakes t apart (sym (ap is_asleep (waits-pass k t)) ∙ asleep));
  };
  chained = chained_pass k sound.chained;
  periods = periods_pass k sound.periods;
}

-- ---- what the clock of a quiet kernel does

-- below the horizon it ticks,
pub clock_ticks : (k next : Plain) → least k ≡ None → k.present < k.scenario.horizon → next ≡ tick k → clock_of k ≡ Some (record { entry = clock_entry Tick; next = next })
clock_ticks k next quiet below passed =
    let test : nat_lt k.present k.scenario.horizon ≡ true = grind (arith, nat_tests, below) in
    rw (quiet, test, passed) refl

-- and at the horizon it ends the run.
pub clock_ends : (k : Plain) → least k ≡ None → k.present ≡ k.scenario.horizon → clock_of k ≡ Some (record { entry = clock_entry End; next = k })
clock_ends k quiet there =
    let below : nat_lt k.present k.scenario.horizon ≡ false = grind (arith, nat_tests, there) in
    let test : eqb k.present k.scenario.horizon ≡ true = grind (arith, nat_tests, there) in
    rw (quiet, below, test) refl

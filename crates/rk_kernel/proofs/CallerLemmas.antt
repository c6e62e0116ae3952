-- A processor's thread is eligible; one that runs waits for nothing; and one that has a directive acts.
use Rattle.std.proofs.Common.{◌≡◌, ℕ, zero, suc, ◌+◌, ◌<◌, ◌≤◌, List, [], ◌∷◌, ◌++◌, Bool, true, false, cond, not, ◌&&◌, ◌||◌, ◌==◌, ⊎_elim, Option, Some, None, length, get_or, arith, refl, ap, subst, sym, ◌∙◌}
use Rattle.std.specs.List.{range_with_len}
use Rattle.std.proofs.lemmas.Bool.{false≢true}
use Rattle.std.proofs.lemmas.Bool.Decides.{nat_tests}
use Rattle.rk_model.specs.declared.entry.View.{View}
use Rattle.rk_model.specs.declared.entry.View.TheVariants.{Idle, Spins, Runs}
use Rattle.rk_model.specs.declared.state.Life.{Life}
use Rattle.rk_model.specs.declared.state.Life.TheVariants.{Absent, Dormant, Started, Ended}
use Rattle.rk_model.specs.declared.state.Wait.{Wait}
use Rattle.rk_model.specs.Lists.{times}
use Rattle.rk_model.specs.State.{Plain, ClusterState, thread_at}
use Rattle.rk_model.specs.Scheduling.Priorities.{is_started, is_no_wait, spins, is_eligible}
use Rattle.rk_model.specs.Scheduling.ReadyQueues.{has_cpu}
use Rattle.rk_model.specs.Directives.Objects.{has_begun}
use Rattle.rk_model.specs.Scheduling.Helping.{could_run}
use Rattle.rk_model.specs.Scheduling.Running.{running, ready, caller}
use Rattle.rk_model.specs.Scheduling.Seats.{all_cpus, cpu_at}
use Rattle.rk_directives.specs.Calls.{IsActing}
use Rattle.rk_directives.specs.Sound.{stands, own, AllSound, IsSound}
use Rattle.rk_model.proofs.BooleanLemmas.{equal_test, and_front, and_back, either, or_front, or_back}
use Rattle.rk_model.proofs.CountLemmas.{times-filter, times-has, times_range}
use Rattle.rk_parts.proofs.PutLemmas.{lives_within}
use Rattle.rk_kernel.proofs.RunsLemmas.{RunsOwn, RunsOther, runs_says}

-- what a processor of a list has
at_cpu : (cpus : List (Option ℕ)) (p t : ℕ) → get_or cpus p None ≡ Some t → has_cpu cpus t ≡ true
at_cpu [] p t h = cc
at_cpu (None ∷ cpus) zero t h = cc
at_cpu (None ∷ cpus) (suc p) t h = at_cpu cpus p t h
at_cpu (Some u ∷ cpus) zero t h = or_front (has_cpu cpus t) (equal_test u t cc)
at_cpu (Some u ∷ cpus) (suc p) t h = or_back (u == t) (at_cpu cpus p t h)

has_cpu-append : (xs ys : List (Option ℕ)) (t : ℕ) → has_cpu (xs ++ ys) t ≡ (has_cpu xs t || has_cpu ys t)
has_cpu-append [] ys t = refl
has_cpu-append (None ∷ xs) ys t = has_cpu-append xs ys t
has_cpu-append (Some u ∷ xs) ys t = grind (arith, nat_tests, has_cpu-append xs ys t)

-- a processor's thread is one of its cluster's own
seated_own : (k : Plain) (t c : ℕ) (clusters : List ClusterState) → AllSound k c clusters → has_cpu (all_cpus clusters) t ≡ true → (d : ℕ) × (0 < times t (own k d))
seated_own k t c [] sound h = absurd (false≢true h)
seated_own k t c (cluster ∷ clusters) sound h =
    ⊎_elim
    (λ e. let held : 0 < times t (own k c) = rw (← sound.0.line t) (times-has t cluster.line (sound.0.manned t e)) in (c, held))
    (λ e. seated_own k t (c + 1) clusters sound.1 e)
    (either (has_cpu cluster.cpus t) (has_cpu (all_cpus clusters) t) (rw has_cpu-append at h))

passes : (b : Bool) (n : ℕ) → 0 < cond b n 0 → (b ≡ true) × (0 < n)
passes true n h = (refl, h)
passes false n h = absurd (omega arith)

seated_stands : (k : Plain) (p t : ℕ) → IsSound k → cpu_at k p ≡ Some t → (d : ℕ) × ((stands k d t ≡ true) × (0 < times t (range_with_len 1 (length k.threads))))
seated_stands k p t sound h =
    let r = range_with_len 1 (length k.threads) in
    let s = seated_own k t 0 k.clusters sound.clusters (at_cpu (all_cpus k.clusters) p t h) in
    let e : 0 < cond (stands k s.0 t) (times t r) 0 = rw (← times-filter (stands k s.0) t r) s.1 in
    (s.0, passes (stands k s.0 t) (times t r) e)

pub stands_eligible : (k : Plain) (c t : ℕ) → stands k c t ≡ true → is_eligible k t ≡ true
unfolding stands
stands_eligible k c t h = and_back ((thread_at k t).home == c) (is_eligible k t) h

-- A processor's thread is eligible.
pub seated_eligible : (k : Plain) (p t : ℕ) → IsSound k → cpu_at k p ≡ Some t → is_eligible k t ≡ true
seated_eligible k p t sound h = let s = seated_stands k p t sound h in stands_eligible k s.0 t s.1.0

-- It is one of the 64.
pub seated_within : (k : Plain) (p t : ℕ) → IsSound k → cpu_at k p ≡ Some t → (0 < t) × (t ≤ 64)
seated_within k p t sound h =
    let s = seated_stands k p t sound h in
    let w = times_range t 1 (length k.threads) s.1.1 in
    let low : 0 < t = omega arith in
    let high : t ≤ 64 = omega (arith, sound.places) in
    (low, high)

started_life : (life : Life) → is_started life ≡ true → life ≡ Started
started_life Absent h = absurd (false≢true h)
started_life Dormant h = absurd (false≢true h)
started_life Started h = refl
started_life Ended h = absurd (false≢true h)

no_wait : (wait : Option Wait) → is_no_wait wait ≡ true → wait ≡ None
no_wait None h = refl
no_wait (Some w) h = absurd (false≢true h)

apart_wait : (wait : Option Wait) (spinning : Bool) → spinning ≡ false → (is_no_wait wait || spinning) ≡ true → wait ≡ None
apart_wait None spinning not h = refl
apart_wait (Some w) spinning not h = absurd (false≢true (sym not ∙ h))

-- ---- who runs, on its own processor or on one that helps it

-- a thread that could run is eligible,
pub could_eligible : (k : Plain) (t : ℕ) → could_run k t ≡ true → is_eligible k t ≡ true
unfolding could_run
could_eligible k t h = and_front (is_eligible k t) (is_no_wait (thread_at k t).wait) h

-- and waits for nothing
pub could_waits_not : (k : Plain) (t : ℕ) → could_run k t ≡ true → (thread_at k t).wait ≡ None
unfolding could_run
could_waits_not k t h = no_wait (thread_at k t).wait (and_back (is_eligible k t) (is_no_wait (thread_at k t).wait) h)

waits_apart : (k : Plain) (t : ℕ) → is_eligible k t ≡ true → spins k t ≡ false → (thread_at k t).wait ≡ None
unfolding is_eligible
waits_apart k t e apart =
    let thread = thread_at k t in
    apart_wait thread.wait (spins k t) apart (and_back (is_started thread.life && not thread.suspended) (is_no_wait thread.wait || spins k t) e)

-- A thread that runs is eligible,
pub runs_eligible : (k : Plain) (p t : ℕ) → IsSound k → running k p ≡ Runs t → is_eligible k t ≡ true
runs_eligible k p t sound h = ⊎_elim (λ (own : RunsOwn k p t). seated_eligible k p t sound own.has) (λ (other : RunsOther k p t). could_eligible k t other.offer.ready) (runs_says k p t h)

-- waits for nothing,
pub runs_waits_not : (k : Plain) (p t : ℕ) → IsSound k → running k p ≡ Runs t → (thread_at k t).wait ≡ None
runs_waits_not k p t sound h =
    ⊎_elim (λ (own : RunsOwn k p t). waits_apart k t (seated_eligible k p t sound own.has) own.spins_not) (λ (other : RunsOther k p t). could_waits_not k t other.offer.ready) (runs_says k p t h)

-- is started,
pub runs_started : (k : Plain) (p t : ℕ) → IsSound k → running k p ≡ Runs t → (thread_at k t).life ≡ Started
unfolding is_eligible
runs_started k p t sound h =
    let thread = thread_at k t in
    started_life thread.life
    (and_front (is_started thread.life) (not thread.suspended)
    (and_front (is_started thread.life && not thread.suspended) (is_no_wait thread.wait || spins k t) (runs_eligible k p t sound h)))

-- and is one of the 64.
pub runs_within : (k : Plain) (p t : ℕ) → IsSound k → running k p ≡ Runs t → (0 < t) × (t ≤ 64)
runs_within k p t sound h =
    let seat = lives_within k.threads t (ap has_begun (runs_started k p t sound h)) in
    let high : t ≤ 64 = omega (arith, seat.1, sound.places) in
    (seat.0, high)

-- ---- who has a directive

-- A thread that has a directive runs, and has no work left.
pub record HasTurn (k : Plain) (p t : ℕ) : Type 0 where
  pub runs : running k p ≡ Runs t
  pub works_not : (thread_at k t).left ≡ 0

pub caller_turn : (k : Plain) (p t : ℕ) → caller k p ≡ Some t → HasTurn k p t
caller_turn k p t h = by (running k p) refl h where
  left : (u : ℕ) (b : Bool) → ((thread_at k u).left == 0) ≡ b → running k p ≡ Runs u → cond b (Some u) None ≡ Some t → HasTurn k p t
  left u true e runs h =
      let same : u ≡ t = cc in
      let none : (thread_at k u).left ≡ 0 = grind (arith, nat_tests, e) in
      record { runs = runs ∙ ap (λ v. Runs v) same; works_not = subst (λ v. (thread_at k v).left ≡ 0) same none }
  left u false e runs h = let no : ⊥ = cc in absurd no

  by : (view : View) → running k p ≡ view → ready k view ≡ Some t → HasTurn k p t
  by Idle is h = let no : ⊥ = cc in absurd no
  by (Spins u) is h = let no : ⊥ = cc in absurd no
  by (Runs u) is h = left u ((thread_at k u).left == 0) refl is h

-- It has no work left.
pub caller_works_not : (k : Plain) (p t : ℕ) → caller k p ≡ Some t → (thread_at k t).left ≡ 0
caller_works_not k p t h = (caller_turn k p t h).works_not

-- It acts, be it on a processor of its own cluster or on one that helps it.
pub acting_of : (k : Plain) (p t : ℕ) → IsSound k → caller k p ≡ Some t → IsActing k t
acting_of k p t sound h =
    let turn = caller_turn k p t h in
    let w = runs_within k p t sound turn.runs in
    record { sound = sound; low = w.0; high = w.1; started = runs_started k p t sound turn.runs; waits_not = runs_waits_not k p t sound turn.runs; works_not = turn.works_not }

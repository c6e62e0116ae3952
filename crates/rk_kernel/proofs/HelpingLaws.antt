-- A thread that could run and isn't scheduled runs where a scheduled thread spins for it.
use Rattle.std.proofs.Common.{◌≡◌, ℕ, zero, suc, ◌+◌, ◌<◌, ◌≤◌, List, [], ◌∷◌, ◌++◌, Bool, true, false, cond, ◌==◌, ◌&&◌, Option, None, Some, length, get_or, arith, refl, sym, ap, subst, ◌∙◌}
use Rattle.std.proofs.lemmas.Bool.{false≢true}
use Rattle.std.proofs.lemmas.Bool.Decides.{nat_tests}
use Rattle.rk_model.specs.declared.scenario.Scenario.{Scenario}
use Rattle.rk_model.specs.declared.entry.Entry.{Entry}
use Rattle.rk_model.specs.declared.entry.View.TheVariants.{Runs}
use Rattle.rk_model.specs.Lists.{has, times}
use Rattle.rk_model.specs.State.{Plain, ClusterState, no_cluster, thread_at, cluster_at}
use Rattle.rk_model.specs.Scheduling.Chains.{end_of, waits_on}
use Rattle.rk_model.specs.Scheduling.Helping.{offer_of, offered, is_seated, scene}
use Rattle.rk_model.specs.Scheduling.Priorities.{urgency}
use Rattle.rk_model.specs.Scheduling.ReadyQueues.{most_urgent, runners}
use Rattle.rk_model.specs.Scheduling.Running.{running}
use Rattle.rk_model.specs.Scheduling.Seats.{all_cpus, cpu_at}
use Rattle.rk_model.specs.Histories.{after}
use Rattle.rk_model.proofs.BooleanLemmas.{and_front, same_number}
use Rattle.rk_model.proofs.CountLemmas.{times-has, has_times}
use Rattle.rk_model.proofs.HelpingLemmas.{IsOffer, offer_is, helper_found, helped_least, nowhere_seated}
use Rattle.rk_directives.specs.Sound.{stands, IsSound}
use Rattle.rk_kernel.specs.Manned.{AreManned}
use Rattle.rk_kernel.specs.SchedulingLaws.{seats, IsManned, IsPreempted, SpinsFor, IsHelped, PreemptedThreadsAreHelped}
use Rattle.rk_kernel.proofs.ReadyQueueLemmas.{sound_at}
use Rattle.rk_kernel.proofs.RunnerLaws.{manned_after, manned_from, runs_once, run_once, seats-append, some_seat}
use Rattle.rk_kernel.proofs.RunsLemmas.{RunsOther, helps_other, helps_runs}

-- ---- processors of a cluster among those of all

seated_cpu : (t : ℕ) (cpus : List (Option ℕ)) → 0 < seats t cpus → (p : ℕ) × (get_or cpus p None ≡ Some t)
seated_cpu t [] h = absurd (omega (arith, h))
seated_cpu t (None ∷ cpus) h = let r = seated_cpu t cpus h in (suc r.0, r.1)
seated_cpu t (Some u ∷ cpus) h = by (u == t) refl h (seated_cpu t cpus) where
  by : (b : Bool) → (u == t) ≡ b → 0 < cond b 1 0 + seats t cpus → (0 < seats t cpus → (p : ℕ) × (get_or cpus p None ≡ Some t)) → (p : ℕ) × (get_or (Some u ∷ cpus) p None ≡ Some t)
  by true e h rest = (0, ap (λ (v : ℕ). Some v) (same_number u t e))
  by false e h rest = let r = rest (omega (arith, h)) in (suc r.0, r.1)

among_all : (t c : ℕ) (clusters : List ClusterState) → c < length clusters → seats t (get_or clusters c no_cluster).cpus ≤ seats t (all_cpus clusters)
among_all t c [] within = absurd (never c within) where
  never : (n : ℕ) → n < 0 → ⊥
  never n h = omega (arith, h)
among_all t zero (cluster ∷ clusters) within = omega (arith, seats-append t cluster.cpus (all_cpus clusters))
among_all t (suc c) (cluster ∷ clusters) within = omega (arith, seats-append t cluster.cpus (all_cpus clusters), among_all t c clusters (omega (arith, within)))

-- a cluster that has a seat
abbrev InCluster : ℕ → List ClusterState → Type 0
InCluster t clusters = (c : ℕ) × ((c < length clusters) × (0 < seats t (get_or clusters c no_cluster).cpus))

of_cluster : (t : ℕ) (clusters : List ClusterState) → 0 < seats t (all_cpus clusters) → InCluster t clusters
of_cluster t [] h = absurd (omega (arith, h))
of_cluster t (cluster ∷ clusters) h = by (seats t cluster.cpus) refl (of_cluster t clusters) where
  by : (n : ℕ) → seats t cluster.cpus ≡ n → (0 < seats t (all_cpus clusters) → InCluster t clusters) → InCluster t (cluster ∷ clusters)
  by zero e rest =
      let r = rest (omega (arith, h, e, seats-append t cluster.cpus (all_cpus clusters))) in
      let low : suc r.0 < length (cluster ∷ clusters) = omega (arith, r.1.0) in
      (suc r.0, (low, r.1.1))
  by (suc n) e rest = let low : 0 < length (cluster ∷ clusters) = omega arith in let some : 0 < seats t cluster.cpus = omega (arith, e) in (0, (low, some))

-- ---- scheduled threads have processors, and no others

manned_at : (k : Plain) (c : ℕ) → AreManned k → c < length k.clusters → (t : ℕ) → seats t (cluster_at k c).cpus ≡ times t (runners k c)
manned_at k c manned within = let e : 0 + c ≡ c = omega arith in rw e at (manned_from (urgency k) 0 c k.clusters within manned)

scheduled_seated : (k : Plain) (c u : ℕ) → AreManned k → c < length k.clusters → has (runners k c) u ≡ true → (p : ℕ) × (cpu_at k p ≡ Some u)
scheduled_seated k c u manned within runs =
    seated_cpu u (all_cpus k.clusters) (omega (arith, among_all u c k.clusters within, manned_at k c manned within u, times-has u (runners k c) runs))

-- the home of a thread that has a processor has it scheduled
seated_scheduled : (k : Plain) (p t : ℕ) → IsSound k → AreManned k → cpu_at k p ≡ Some t → has (runners k (thread_at k t).home) t ≡ true
unfolding stands
seated_scheduled k p t sound manned at =
    let r = of_cluster t k.clusters (some_seat t p (all_cpus k.clusters) at) in
    let c = r.0 in
    let some : 0 < times t (runners k c) = omega (arith, r.1.1, manned_at k c manned r.1.0 t) in
    let once = runs_once k (urgency k c) c (length (cluster_at k c).cpus) (cluster_at k c).line (sound_at k c sound r.1.0).line t in
    let home : (thread_at k t).home ≡ c = by c (stands k c t) refl (omega (arith, some, once)) in
    subst (λ d. has (runners k d) t ≡ true) (sym home) (has_times t (runners k c) some)
  where
    by : (c : ℕ) (b : Bool) → stands k c t ≡ b → 0 < cond b 1 0 → (thread_at k t).home ≡ c
    by c true is h = same_number (thread_at k t).home c (and_front _ _ is)
    by c false is h = absurd (omega (arith, h))

unseated : (k : Plain) (t : ℕ) → IsSound k → AreManned k → IsPreempted k t → is_seated (scene k) t ≡ false
unfolding is_seated
unseated k t sound manned is = nowhere_seated (scene k) t 8 (λ p low at. false≢true (sym is.apart ∙ seated_scheduled k p t sound manned at))

-- ---- who is helped

-- a thread that spins for one that is preempted offers its processor for it
spinner_offers : (k : Plain) (u t : ℕ) → IsSound k → AreManned k → SpinsFor k u t → IsPreempted k t → IsOffer (scene k) u t
spinner_offers k u t sound manned spins is = record {
  spins = spins.spins;
  end = ap (λ n. end_of (waits_on k) n u) sound.places ∙ spins.end;
  ready = is.could;
  apart = unseated k t sound manned is;
}

offered_there : (k : Plain) (p u t : ℕ) → cpu_at k p ≡ Some u → IsOffer (scene k) u t → offered (scene k) p ≡ Some t
offered_there k p u t at offer = ap (offer_of (scene k)) at ∙ offer_is (scene k) u t offer

is_helped : (k : Plain) (c u t : ℕ) → IsSound k → AreManned k → c < length k.clusters → has (runners k c) u ≡ true → SpinsFor k u t → IsPreempted k t → IsHelped k t
is_helped k c u t sound manned within runs spins is =
    let seat = scheduled_seated k c u manned within runs in
    let found = helper_found (scene k) seat.0 t (offered_there k seat.0 u t seat.1 (spinner_offers k u t sound manned spins is)) in
    let other = helps_other k found.0 t found.1.1 in
    record {
      cpu = found.0;
      runs = helps_runs k found.0 t found.1.1;
      alone = λ p also. run_once k sound manned p found.0 t also (helps_runs k found.0 t found.1.1);
      helper = other.spinner;
      has = other.has;
      spins = record { spins = other.offer.spins; end = ap (λ n. end_of (waits_on k) n other.spinner) (sym sound.places) ∙ other.offer.end };
      least = λ p v at for. helped_least (scene k) found.0 p t found.1.1 (offered_there k p v t at (spinner_offers k v t sound manned for is));
    }

pub preempted_helped : PreemptedThreadsAreHelped
preempted_helped s xs is legal c u t within runs spins preempted = let both = manned_after s xs is in is_helped (after s xs) c u t both.0 both.1 within runs spins preempted

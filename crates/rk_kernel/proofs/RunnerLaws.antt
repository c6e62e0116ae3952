-- The processors of each cluster have its runners, each on one.
use Rattle.std.proofs.Common.{◌≡◌, ℕ, zero, suc, ◌+◌, ◌<◌, ◌≤◌, List, [], ◌∷◌, ◌++◌, Bool, true, false, cond, ◌==◌, ◌&&◌, nat_lt, ⊎_elim, Option, None, Some, length, map, replicate, get_or, arith, refl, sym, ap, subst, ◌∙◌}
use Rattle.std.specs.List.{slice_index_or}
use Rattle.std.proofs.lemmas.Bool.{cases_lt}
use Rattle.std.proofs.lemmas.Bool.Decides.{nat_tests}
use Rattle.std.proofs.lemmas.List.{get_or_past}
use Rattle.rk_model.specs.declared.scenario.Scenario.{Scenario}
use Rattle.rk_model.specs.declared.entry.Entry.{Entry}
use Rattle.rk_model.specs.declared.state.Thread.{Thread}
use Rattle.rk_model.specs.Lists.{times}
use Rattle.rk_model.specs.State.{Plain, ClusterState, no_cluster, thread_at, cluster_at}
use Rattle.rk_model.specs.Scheduling.Priorities.{is_eligible, prio, or_least_urgent, urgency, standings}
use Rattle.rk_model.specs.Scheduling.ReadyQueues.{most_urgent, assigned}
use Rattle.rk_model.specs.Scheduling.Settling.{shifts, shifted}
use Rattle.rk_model.specs.Scheduling.Helping.{scene, is_seated}
use Rattle.rk_model.specs.Scheduling.Seats.{all_cpus, cpu_at}
use Rattle.rk_model.specs.Scheduling.Ticks.{pass}
use Rattle.rk_model.specs.Steps.{Act, act}
use Rattle.rk_model.specs.Limits.{IsWithinLimits}
use Rattle.rk_model.specs.Histories.{free_cluster, vacant, opening, after}
use Rattle.rk_model.specs.Text.Scenarios.{IsScenario}
use Rattle.rk_model.proofs.AssignmentLemmas.{length-assigned}
use Rattle.rk_parts.specs.Settled.{settled_from}
use Rattle.rk_parts.proofs.SettlingLemmas.{urgency-with_clusters}
use Rattle.rk_directives.specs.Sound.{stands, own, AllSound, IsClusterSound, IsSound, KeepsLines}
use Rattle.rk_kernel.specs.Manned.{HasRunners, AllManned, AreManned, RunOnce}
use Rattle.rk_kernel.specs.SchedulingLaws.{seats, ProcessorsHaveTheRunners, NoneRunsTwice}
use Rattle.rk_parts.specs.Threads.{bearing}
use Rattle.rk_kernel.proofs.BearingLemmas.{BearAlike, urgency_alike}
use Rattle.rk_kernel.proofs.ReadyQueueLemmas.{own_once, line_moved, sound_at}
use Rattle.rk_model.proofs.HelpingLemmas.{helped_once, not_seated}
use Rattle.rk_kernel.proofs.RunsLemmas.{RunsOwn, RunsOther, runs_says}
use Rattle.rk_kernel.proofs.TickLemmas.{passed_steady, length-charge_from}
use Rattle.rk_kernel.proofs.SeatLemmas.{seats_assigned}
use Rattle.rk_kernel.proofs.UrgencyLaws.{none_urgent, most_few, times-most_urgent}
use Rattle.rk_kernel.proofs.SoundSettlingLemmas.{each_settled, settled_each}
use Rattle.rk_kernel.proofs.HistoryLemmas.{IsKept, kept_after, kept_opening, kept_act}

at_most_once : (b : Bool) → cond b 1 0 ≤ 1
at_most_once true = omega arith
at_most_once false = omega arith

-- a runner of a cluster with its own line stands among the runners once
pub runs_once : (k : Plain) (key : ℕ → ℕ) (c m : ℕ) (line : List ℕ) → ((t : ℕ) → times t line ≡ times t (own k c)) → (t : ℕ) → times t (most_urgent key m line) ≤ cond (stands k c t) 1 0
runs_once k key c m line held t = omega (arith, times-most_urgent key m line t, held t, own_once k c t)

-- what a cluster's processors have after settling
manned_settled : (k next : Plain) (last : List ℕ) (key : ℕ → ℕ) (c : ℕ) (a b : ClusterState) → length next.threads ≡ length k.threads → IsClusterSound k c a → HasRunners (urgency k c) a → b.line ≡ a.line → b.cpus ≡ a.cpus →
    (t : ℕ) → let line = shifted (shifts (standings k) (standings next) last c) (length next.threads) b.line in seats t (assigned b.cpus (most_urgent key (length b.cpus) line)) ≡ times t (most_urgent key (length (assigned b.cpus (most_urgent key (length b.cpus) line))) line)
manned_settled k next last key c a b size sound manned same kept t =
    let line = shifted (shifts (standings k) (standings next) last c) (length next.threads) b.line in
    let running = most_urgent key (length b.cpus) line in
    let held = line_moved k next last c b.line size (λ u. rw same (sound.line u)) in
    let few : (u : ℕ) → seats u b.cpus ≤ 1 = λ u. rw kept (omega (arith, manned u, runs_once k (urgency k c) c (length a.cpus) a.line sound.line u, at_most_once (stands k c u))) in
    let once : (u : ℕ) → times u running ≤ 1 = λ u. omega (arith, runs_once next key c (length b.cpus) line held u, at_most_once (stands next c u)) in
    seats_assigned b.cpus running few once (most_few key (length b.cpus) line) t ∙ ap (λ m. times t (most_urgent key m line)) (sym (length-assigned b.cpus running))

all_manned : (k next : Plain) (last : List ℕ) (key : ℕ → ℕ → ℕ) (c : ℕ) (olds news : List ClusterState) → length next.threads ≡ length k.threads → AllSound k c olds → AllManned (urgency k) c olds → KeepsLines olds news →
    AllManned key c (settled_from (shifts (standings k) (standings next) last) key (length next.threads) c news)
all_manned k next last key c [] [] size sound manned keeps = tt
all_manned k next last key c [] (b ∷ news) size sound manned keeps = absurd keeps
all_manned k next last key c (a ∷ olds) [] size sound manned keeps = absurd keeps
all_manned k next last key c (a ∷ olds) (b ∷ news) size sound manned keeps =
    (manned_settled k next last (key c) c a b size sound.0 manned.0 keeps.0 keeps.1, all_manned k next last key (c + 1) olds news size sound.1 manned.1 keeps.2)

other_key : (key key' : ℕ → ℕ → ℕ) (c : ℕ) (clusters : List ClusterState) → ((d t : ℕ) → key d t ≡ key' d t) → AllManned key c clusters → AllManned key' c clusters
other_key key key' c clusters same manned = let e : key ≡ key' = λ i d t. same d t i in subst (λ (f : ℕ → ℕ → ℕ). AllManned f c clusters) e manned

-- what passes with a tick bears on no priority
passed_alike : (k : Plain) → BearAlike k (pass k)
passed_alike k = record {
  threads = length-charge_from k 1 k.threads;
  semaphores = refl;
  bears = λ u. passed_steady bearing k u (λ _ _ _ _. refl);
}

urgency-pass : (k : Plain) (c t : ℕ) → urgency k c t ≡ urgency (pass k) c t
urgency-pass k c t = sym (urgency_alike k (pass k) c t (passed_alike k))

kept_manned : IsKept AreManned
kept_manned = record {
  settled = λ k next last sound gentle manned.
      let clusters = each_settled k next last in
      subst AreManned (sym (settled_each k next last))
      (other_key (urgency next) (urgency (record next { clusters = clusters })) 0 clusters (λ d t. sym (urgency-with_clusters next clusters d t))
      (all_manned k next last (urgency next) 0 k.clusters next.clusters gentle.places sound.clusters manned gentle.lines));
  passed = λ k sound manned. other_key (urgency k) (urgency (pass k)) 0 k.clusters (urgency-pass k) manned;
}

no_seats : (t m : ℕ) → seats t (replicate m None) ≡ 0
no_seats t zero = refl
no_seats t (suc m) = no_seats t m

manned_free : (key : ℕ → ℕ → ℕ) (c : ℕ) (counts : List ℕ) → AllManned key c (map free_cluster counts)
manned_free key c [] = tt
manned_free key c (m ∷ counts) = (λ t. no_seats t m ∙ ap (times t) (sym (none_urgent (key c) (length (free_cluster m).cpus))), manned_free key (c + 1) counts)

-- The processors have their runners at opening,
pub manned_opening : (s : Scenario) → IsWithinLimits s → AreManned (opening s)
manned_opening s within = (kept_opening AreManned kept_manned s within (manned_free (urgency (vacant s)) 0 s.clusters)).1

-- and after what a seat does.
pub manned_act : (k : Plain) (q : ℕ) (a : Act) → IsSound k → AreManned k → act k q ≡ Some a → AreManned a.next
manned_act k q a sound manned did = (kept_act AreManned kept_manned k q a (sound, manned) did).1

pub manned_after : (s : Scenario) (xs : List Entry) → IsScenario s → IsSound (after s xs) × AreManned (after s xs)
manned_after s xs is = kept_after AreManned kept_manned s xs is (manned_free (urgency (vacant s)) 0 s.clusters)

pub manned_from : (key : ℕ → ℕ → ℕ) (c i : ℕ) (clusters : List ClusterState) → i < length clusters → AllManned key c clusters → HasRunners (key (c + i)) (slice_index_or clusters i no_cluster)
manned_from key c i [] within manned = absurd (never i within) where
  never : (i : ℕ) → i < 0 → ⊥
  never i h = omega (arith, h)
manned_from key c zero (cluster ∷ clusters) within manned =
    let e : c + 0 ≡ c = omega arith in
    rw e manned.0
manned_from key c (suc i) (cluster ∷ clusters) within manned =
    let e : c + suc i ≡ c + 1 + i = omega arith in
    rw e (manned_from key (c + 1) i clusters (omega arith) manned.1)

pub processors_manned : ProcessorsHaveTheRunners
processors_manned s xs is legal c within =
    let k = after s xs in
    let both = manned_after s xs is in
    let cluster = cluster_at k c in
    let e : 0 + c ≡ c = omega arith in
    record {
      once = λ t. omega (arith, runs_once k (urgency k c) c (length cluster.cpus) cluster.line (sound_at k c both.0 within).line t, at_most_once (stands k c t));
      manned = rw e at (manned_from (urgency k) 0 c k.clusters within both.1);
    }

pub seats-append : (t : ℕ) (xs ys : List (Option ℕ)) → seats t (xs ++ ys) ≡ seats t xs + seats t ys
seats-append t [] ys = omega arith
seats-append t (None ∷ xs) ys = seats-append t xs ys
seats-append t (Some u ∷ xs) ys = omega (arith, seats-append t xs ys)

stands_home : (k : Plain) (c t n : ℕ) → n ≤ cond (stands k c t) 1 0 → n ≤ cond ((thread_at k t).home == c) 1 0
unfolding stands
stands_home k c t n h = by ((thread_at k t).home == c) (is_eligible k t) n h where
  by : (a b : Bool) (n : ℕ) → n ≤ cond (a && b) 1 0 → n ≤ cond a 1 0
  by true true n h = h
  by true false n h = omega (arith, h)
  by false b n h = h

here_or_behind : (h c x y : ℕ) → x ≤ cond (h == c) 1 0 → y ≤ cond (nat_lt h (c + 1)) 0 1 → x + y ≤ cond (nat_lt h c) 0 1
here_or_behind h c x y a b = grind (arith, nat_tests, a, b)

-- all processors with a thread are of its home, and there is one at most
few_seats : (k : Plain) (t c : ℕ) (clusters : List ClusterState) → AllSound k c clusters → AllManned (urgency k) c clusters → seats t (all_cpus clusters) ≤ cond (nat_lt (thread_at k t).home c) 0 1
few_seats k t c [] sound manned = omega arith
few_seats k t c (cluster ∷ clusters) sound manned =
    let here = stands_home k c t (seats t cluster.cpus) (omega (arith, manned.0 t, runs_once k (urgency k c) c (length cluster.cpus) cluster.line sound.0.line t)) in
    omega (arith, seats-append t cluster.cpus (all_cpus clusters), here_or_behind (thread_at k t).home c (seats t cluster.cpus) (seats t (all_cpus clusters)) here (few_seats k t (c + 1) clusters sound.1 manned.1))

pub some_seat : (t p : ℕ) (cpus : List (Option ℕ)) → get_or cpus p None ≡ Some t → 0 < seats t cpus
some_seat t p [] e = let no : ⊥ = cc in absurd no
some_seat t zero (None ∷ cpus) e = let no : ⊥ = cc in absurd no
some_seat t zero (Some u ∷ cpus) e = let same : u ≡ t = cc in grind (arith, nat_tests, same)
some_seat t (suc p) (None ∷ cpus) e = some_seat t p cpus e
some_seat t (suc p) (Some u ∷ cpus) e = omega (arith, some_seat t p cpus e)

-- where a thread has one processor at most, two that have it are the same
same_seat : (t p q : ℕ) (cpus : List (Option ℕ)) → seats t cpus ≤ 1 → get_or cpus p None ≡ Some t → get_or cpus q None ≡ Some t → p ≡ q
same_seat t p q [] few e f = let no : ⊥ = cc in absurd no
same_seat t zero zero (o ∷ cpus) few e f = refl
same_seat t zero (suc q) (None ∷ cpus) few e f = let no : ⊥ = cc in absurd no
same_seat t zero (suc q) (Some u ∷ cpus) few e f =
    let same : u ≡ t = cc in
    let some = some_seat t q cpus f in
    absurd (grind (arith, nat_tests, same, some, few))
same_seat t (suc p) zero (None ∷ cpus) few e f = let no : ⊥ = cc in absurd no
same_seat t (suc p) zero (Some u ∷ cpus) few e f =
    let same : u ≡ t = cc in
    let some = some_seat t p cpus e in
    absurd (grind (arith, nat_tests, same, some, few))
same_seat t (suc p) (suc q) (None ∷ cpus) few e f = ap (λ n. suc n) (same_seat t p q cpus few e f)
same_seat t (suc p) (suc q) (Some u ∷ cpus) few e f = ap (λ n. suc n) (same_seat t p q cpus (omega (arith, few)) e f)

-- No thread has two processors.
seated_once : (k : Plain) (p q t : ℕ) → IsSound k → AreManned k → cpu_at k p ≡ Some t → cpu_at k q ≡ Some t → p ≡ q
seated_once k p q t sound manned e f =
    let few = few_seats k t 0 k.clusters sound.clusters manned in
    same_seat t p q (all_cpus k.clusters) (one (nat_lt (thread_at k t).home 0) few) e f where
      one : (b : Bool) {n : ℕ} → n ≤ cond b 0 1 → n ≤ 1
      one true h = omega (arith, h)
      one false h = h

-- who is helped is on no processor
helped_unseated : (k : Plain) (p q t : ℕ) → IsSound k → RunsOther k p t → cpu_at k q ≡ Some t → ⊥
unfolding is_seated
helped_unseated k p q t sound other has = ⊎_elim (λ low. not_seated (scene k) t 8 q other.offer.apart low has) (λ high. (let none : cpu_at k q ≡ None = get_or_past (all_cpus k.clusters) q None (omega (arith, sound.few_cpus, high)) in let no : None ≡ Some t = sym none ∙ has in let f : ⊥ = cc in f)) (cases_lt q 8)

-- No thread runs on two processors: neither on two that have it, nor on two that help it, nor on one of each.
pub run_once : (k : Plain) → IsSound k → AreManned k → RunOnce k
run_once k sound manned p q t e f =
    ⊎_elim
    (λ (own : RunsOwn k p t). ⊎_elim (λ (mine : RunsOwn k q t). seated_once k p q t sound manned own.has mine.has) (λ (other : RunsOther k q t). absurd (helped_unseated k q p t sound other own.has)) (runs_says k q t f))
    (λ (other : RunsOther k p t). ⊎_elim (λ (mine : RunsOwn k q t). absurd (helped_unseated k p q t sound other mine.has)) (λ (more : RunsOther k q t). helped_once (scene k) p q t other.helps more.helps) (runs_says k q t f))
    (runs_says k p t e)

pub none_twice : NoneRunsTwice
none_twice s xs is legal = let both = manned_after s xs is in run_once (after s xs) both.0 both.1

-- Settling changes nothing where all threads stand as before.
use Rattle.std.proofs.Common.{◌≡◌, ℕ, ◌+◌, ◌<◌, List, [], ◌∷◌, ◌++◌, Bool, true, false, cond, not, ◌==◌, ltb, Option, Some, None, length, map, arith, refl, ap, sym, ◌∙◌}
use Rattle.std.specs.List.{filter, range_with_len}
use Rattle.std.proofs.lemmas.List.{append-nil}
use Rattle.std.proofs.lemmas.Bool.{false≢true}
use Rattle.std.proofs.lemmas.Bool.Decides.{nat_tests}
use Rattle.rk_model.specs.declared.settling.Standing.{Standing}
use Rattle.rk_model.specs.declared.settling.Shift.TheVariants.{Stay, Leave, ToEnd, ToFront}
use Rattle.rk_model.specs.Lists.{has, times}
use Rattle.rk_model.specs.State.{Plain, ClusterState}
use Rattle.rk_model.specs.Scheduling.Priorities.{urgency, standings, nth_standing}
use Rattle.rk_model.specs.Scheduling.ReadyQueues.{has_cpu, kept, filled, assigned, most_urgent}
use Rattle.rk_model.specs.Scheduling.Settling.{belongs, is_stay, is_to_end, is_to_front, shift_of, shifts, making, shifted, settle}
use Rattle.rk_model.proofs.CountLemmas.{times-has, has_times}
use Rattle.rk_parts.specs.Noted.{key_of}
use Rattle.rk_parts.specs.Settled.{settled_cluster, settled_from}
use Rattle.rk_model.proofs.AgreeingKeysLemmas.{most_urgent_agree}
use Rattle.rk_parts.proofs.SettlingLemmas.{settle_noted}
use Rattle.rk_parts.proofs.StandingLemmas.{length-standings, urgency_here}
use Rattle.rk_model.proofs.BooleanLemmas.{equal_test, or_front, or_back}
use Rattle.rk_kernel.specs.SchedulingLaws.{seats}
use Rattle.rk_kernel.specs.Manned.{HasRunners, AllManned, AreManned}
use Rattle.rk_directives.specs.Sound.{IsSound, IsClusterSound, AllSound}
use Rattle.rk_kernel.proofs.ReadyQueueLemmas.{line_belongs}
use Rattle.rk_kernel.proofs.SeatLemmas.{has_seat, no_seat}

-- what none of a list passes leaves nothing
filter_none : (p : ℕ → Bool) (xs : List ℕ) → ((t : ℕ) → has xs t ≡ true → p t ≡ false) → filter p xs ≡ []
filter_none p [] none = refl
filter_none p (x ∷ xs) none =
    let here = none x (or_front (has xs x) (equal_test x x refl)) in
    rw here (filter_none p xs (λ t h. none t (or_back (x == t) h)))

-- what all of a list pass leaves all
filter_all : (p : ℕ → Bool) (xs : List ℕ) → ((t : ℕ) → has xs t ≡ true → p t ≡ true) → filter p xs ≡ xs
filter_all p [] all = refl
filter_all p (x ∷ xs) all =
    let here = all x (or_front (has xs x) (equal_test x x refl)) in
    rw here (ap (λ ys. x ∷ ys) (filter_all p xs (λ t h. all t (or_back (x == t) h))))

-- a thread that stands as before stays where it belongs in the line, and goes nowhere
stands_still : (c : ℕ) (s : Standing) → (is_to_front (shift_of c s s false) ≡ false) × (is_to_end (shift_of c s s false) ≡ false) × (is_stay (shift_of c s s false) ≡ belongs c s)
unfolding shift_of
stands_still c s = by (belongs c s) (ltb s.prio s.prio) (grind (arith, nat_tests)) where
  by : (e b : Bool) → b ≡ false → let m = cond (not e) Leave (cond (not e) ToEnd (cond b ToEnd (cond false ToEnd (cond b ToFront Stay)))) in (is_to_front m ≡ false) × (is_to_end m ≡ false) × (is_stay m ≡ e)
  by true true less = absurd (false≢true (sym less))
  by true false less = (refl, refl, refl)
  by false b less = (refl, refl, refl)

-- a line of threads that belong there is as before
line_still : (xs : List Standing) (c n : ℕ) (line : List ℕ) → ((t : ℕ) → has line t ≡ true → belongs c (nth_standing xs t) ≡ true) → shifted (shifts xs xs [] c) n line ≡ line
unfolding shifts
line_still xs c n line held =
    let shift = shifts xs xs [] c in
    let front = filter_none (λ t. is_to_front (shift t)) (range_with_len 1 n) (λ t h. (stands_still c (nth_standing xs t)).0) in
    let ends = filter_none (λ t. is_to_end (shift t)) (range_with_len 1 n) (λ t h. (stands_still c (nth_standing xs t)).1) in
    let stay = filter_all (λ t. is_stay (shift t)) line (λ t h. (stands_still c (nth_standing xs t)).2 ∙ held t h) in
    ap (λ (ys : List ℕ). (ys ++ filter (λ t. is_stay (shift t)) line) ++ making is_to_end shift n) front
    ∙ ap (λ (ys : List ℕ). ys ++ making is_to_end shift n) stay
    ∙ ap (λ (ys : List ℕ). line ++ ys) ends
    ∙ append-nil line

kept_all : (running : List ℕ) (cpus : List (Option ℕ)) → ((t : ℕ) → has_cpu cpus t ≡ true → has running t ≡ true) → map (kept running) cpus ≡ cpus
kept_all running [] runs = refl
kept_all running (None ∷ cpus) runs = ap (λ (xs : List (Option ℕ)). None ∷ xs) (kept_all running cpus runs)
kept_all running (Some u ∷ cpus) runs =
    let here = runs u (or_front (has_cpu cpus u) (equal_test u u refl)) in
    rw here (ap (λ (xs : List (Option ℕ)). Some u ∷ xs) (kept_all running cpus (λ t h. runs t (or_back (u == t) h))))

filled_none : (cpus : List (Option ℕ)) → filled cpus [] ≡ cpus
filled_none [] = refl
filled_none (None ∷ cpus) = ap (λ (xs : List (Option ℕ)). None ∷ xs) (filled_none cpus)
filled_none (Some u ∷ cpus) = ap (λ (xs : List (Option ℕ)). Some u ∷ xs) (filled_none cpus)

-- processors that have exactly the runners keep them
assigned_still : (cpus : List (Option ℕ)) (running : List ℕ) → ((t : ℕ) → seats t cpus ≡ times t running) → assigned cpus running ≡ cpus
assigned_still cpus running manned =
    let stays = kept_all running cpus (λ t h. has_times t running (omega (arith, manned t, has_seat t cpus h))) in
    let fresh = filter_none (λ t. not (has_cpu cpus t)) running (λ t h. ap not (seated t (has_cpu cpus t) refl (omega (arith, manned t, times-has t running h)))) in
    ap (λ (xs : List (Option ℕ)). filled xs (filter (λ t. not (has_cpu cpus t)) running)) stays
    ∙ ap (λ (xs : List ℕ). filled cpus xs) fresh
    ∙ filled_none cpus
  where
    seated : (t : ℕ) (b : Bool) → has_cpu cpus t ≡ b → 0 < seats t cpus → has_cpu cpus t ≡ true
    seated t true e some = e
    seated t false e some = absurd (omega (arith, some, no_seat t cpus e))

-- the threads of a cluster's line belong there
line_own : (k : Plain) (c : ℕ) (cluster : ClusterState) → IsClusterSound k c cluster → (t : ℕ) → has cluster.line t ≡ true → belongs c (nth_standing (standings k) t) ≡ true
line_own k c cluster sound t h = sym (line_belongs k c cluster.line sound.line t) ∙ h

-- by the priorities that are noted its runners are the same
noted_runners : (k : Plain) (c : ℕ) (cluster : ClusterState) → IsClusterSound k c cluster → HasRunners (urgency k c) cluster → HasRunners (key_of (standings k)) cluster
noted_runners k c cluster sound manned t =
    manned t
    ∙ ap (times t) (sym (most_urgent_agree (key_of (standings k)) (urgency k c) (length cluster.cpus) cluster.line (λ u h. urgency_here k c u (line_own k c cluster sound u h))))

cluster_still : (k : Plain) (n c : ℕ) (cluster : ClusterState) → IsClusterSound k c cluster → HasRunners (key_of (standings k)) cluster → settled_cluster (shifts (standings k) (standings k) [] c) (key_of (standings k)) n cluster ≡ cluster
cluster_still k n c cluster sound manned =
    let key = key_of (standings k) in
    let m = length cluster.cpus in
    let line = line_still (standings k) c n cluster.line (line_own k c cluster sound) in
    ap (λ (xs : List ℕ). (let x : ClusterState = record cluster { line = xs; cpus = assigned cluster.cpus (most_urgent key m xs) } in x)) line
    ∙ ap (λ (xs : List (Option ℕ)). (let x : ClusterState = record cluster { cpus = xs } in x)) (assigned_still cluster.cpus (most_urgent key m cluster.line) manned)

-- clusters of a state whose processors have their runners settle to themselves
clusters_still : (k : Plain) (n c : ℕ) (clusters : List ClusterState) → AllSound k c clusters → AllManned (urgency k) c clusters → settled_from (shifts (standings k) (standings k) []) (λ d. key_of (standings k)) n c clusters ≡ clusters
clusters_still k n c [] sound manned = refl
clusters_still k n c (cluster ∷ clusters) sound manned =
    ap (λ (x : ClusterState). x ∷ settled_from (shifts (standings k) (standings k) []) (λ d. key_of (standings k)) n (c + 1) clusters) (cluster_still k n c cluster sound.0 (noted_runners k c cluster sound.0 manned.0))
    ∙ ap (λ (xs : List ClusterState). cluster ∷ xs) (clusters_still k n (c + 1) clusters sound.1 manned.1)

-- states of as many standings have as many threads
as_many : (k next : Plain) → standings next ≡ standings k → length next.threads ≡ length k.threads
as_many k next stand = sym (length-standings next 1 (length next.threads)) ∙ ap (λ (xs : List Standing). length xs) stand ∙ length-standings k 1 (length k.threads)

-- Where all threads stand as before and none goes last, settling changes nothing.
pub settled_still : (k next : Plain) → IsSound k → AreManned k → next.clusters ≡ k.clusters → standings next ≡ standings k → settle k next [] ≡ next
settled_still k next sound manned same stand =
    sym (settle_noted (standings k) next [] (as_many k next stand ∙ sound.places))
    ∙ ap (λ (xs : List Standing). (let x : Plain = record next { clusters = settled_from (shifts (standings k) xs []) (λ d. key_of xs) 64 0 next.clusters } in x)) stand
    ∙ ap (λ (cs : List ClusterState). (let x : Plain = record next { clusters = settled_from (shifts (standings k) (standings k) []) (λ d. key_of (standings k)) 64 0 cs } in x)) same
    ∙ ap (λ (cs : List ClusterState). (let x : Plain = record next { clusters = cs } in x)) (clusters_still k 64 0 k.clusters sound.clusters manned ∙ sym same)

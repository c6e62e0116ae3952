-- Settling, cluster by cluster.
use Rattle.std.proofs.Common.{◌≡◌, ℕ, zero, suc, ◌+◌, ◌<◌, List, [], ◌∷◌, ◌++◌, Bool, true, false, cond, not, nat_lt, ◌||◌, ◌==◌, length, get_or, arith, refl, sym, ap, ◌∙◌}
use Rattle.std.specs.List.{filter, range_with_len}
use Rattle.std.proofs.lemmas.Bool.{false≢true}
use Rattle.std.proofs.lemmas.Bool.Decides.{nat_tests}
use Rattle.rk_model.specs.declared.settling.Standing.{Standing}
use Rattle.rk_model.specs.declared.settling.Shift.{Shift}
use Rattle.rk_model.specs.declared.settling.Shift.TheVariants.{Stay, Leave, ToEnd, ToFront}
use Rattle.rk_model.specs.Lists.{has}
use Rattle.rk_model.specs.State.{Plain, ClusterState, no_cluster, cluster_at}
use Rattle.rk_model.specs.Scheduling.Priorities.{standing, standings_from, standings, is_eligible, home_prio, prio, contribution, is_behind, own, urgency, nth_standing}
use Rattle.rk_model.specs.Scheduling.ReadyQueues.{assigned, most_urgent, runners}
use Rattle.rk_model.specs.Scheduling.Settling.{belongs, shift_of, shifts, is_stay, is_to_end, is_to_front, making, shifted, shifted_from, shifted_by, assigned_from, settle_by, settle}
use Rattle.rk_model.proofs.CountLemmas.{has-append}
use Rattle.rk_parts.specs.Settled.{settled_cluster, settled_from}
use Rattle.rk_parts.specs.Noted.{key_of}
use Rattle.rk_model.proofs.AgreeingKeysLemmas.{most_urgent_agree}
use Rattle.rk_parts.proofs.StandingLemmas.{urgency_here}

standing-with_clusters : (k : Plain) (clusters : List ClusterState) (t : ℕ) → standing (record k { clusters = clusters }) t ≡ standing k t
unfolding standing is_eligible home_prio prio contribution is_behind own
standing-with_clusters k clusters t = refl

standings_from-with_clusters : (k : Plain) (clusters : List ClusterState) (t n : ℕ) → standings_from (record k { clusters = clusters }) t n ≡ standings_from k t n
standings_from-with_clusters k clusters t zero = refl
standings_from-with_clusters k clusters t (suc n) = rw (standing-with_clusters k clusters t, standings_from-with_clusters k clusters (t + 1) n) refl

-- how the threads stand doesn't depend on the clusters
pub standings-with_clusters : (k : Plain) (clusters : List ClusterState) → standings (record k { clusters = clusters }) ≡ standings k
standings-with_clusters k clusters = standings_from-with_clusters k clusters 1 (length k.threads)

-- settling changes no standing
pub standings-settle_by : (stood : List Standing) (now : Plain) (last : List ℕ) → standings (settle_by stood now last) ≡ standings now
standings-settle_by stood now last = standings-with_clusters now (settle_by stood now last).clusters

pub standings-settle : (before now : Plain) (last : List ℕ) → standings (settle before now last) ≡ standings now
standings-settle before now last = standings-settle_by (standings before) now last

-- nor do the priorities depend on the clusters
pub urgency-with_clusters : (k : Plain) (clusters : List ClusterState) (c t : ℕ) → urgency (record k { clusters = clusters }) c t ≡ urgency k c t
unfolding urgency prio contribution is_behind own
urgency-with_clusters k clusters c t = refl

-- clusters that follow the shifts and are then assigned, where these are those of a state from a number on
assigned_moved : (k now : Plain) (shift : ℕ → ℕ → Shift) (n c : ℕ) (clusters : List ClusterState) → ((d t : ℕ) → urgency k d t ≡ urgency now d t) → ((i : ℕ) → i < length clusters → cluster_at k (c + i) ≡ get_or (shifted_from shift n c clusters) i no_cluster) →
    assigned_from k c (shifted_from shift n c clusters) ≡ settled_from shift (urgency now) n c clusters
assigned_moved k now shift n c [] same are = refl
assigned_moved k now shift n c (cluster ∷ clusters) same are =
    let line = shifted (shift c) n cluster.line in
    let zero_more : c + 0 ≡ c = omega arith in
    let here : cluster_at k c ≡ (let x : ClusterState = record cluster { line = line } in x) = rw zero_more at (are 0 (omega arith)) in
    let keys : urgency k c ≡ urgency now c = λ i t. same c t i in
    let runs : runners k c ≡ most_urgent (urgency now c) (length cluster.cpus) line =
    ap (λ (x : ClusterState). most_urgent (urgency k c) (length x.cpus) x.line) here ∙ ap (λ (key : ℕ → ℕ). most_urgent key (length cluster.cpus) line) keys in
    let rest = assigned_moved k now shift n (c + 1) clusters same (λ i h. let e : c + suc i ≡ c + 1 + i = omega arith in (rw e at (are (suc i) (omega (arith, h))))) in
    ap (λ (ts : List ℕ). (let x : ClusterState = record cluster { line = line; cpus = assigned cluster.cpus ts } in x) ∷ assigned_from k (c + 1) (shifted_from shift n (c + 1) clusters)) runs
    ∙ ap (λ (cs : List ClusterState). settled_cluster (shift c) (urgency now c) n cluster ∷ cs) rest

length-shifted_from : (shift : ℕ → ℕ → Shift) (n c : ℕ) (clusters : List ClusterState) → length (shifted_from shift n c clusters) ≡ length clusters
length-shifted_from shift n c [] = refl
length-shifted_from shift n c (cluster ∷ clusters) = omega (arith, length-shifted_from shift n (c + 1) clusters)

-- Settling settles each cluster by itself.
pub settle_each : (stood : List Standing) (now : Plain) (last : List ℕ) → settle_by stood now last ≡ (let k : Plain = record now { clusters = settled_from (shifts stood (standings now) last) (urgency now) (length now.threads) 0 now.clusters } in k)
settle_each stood now last =
    let shift = shifts stood (standings now) last in
    let n = length now.threads in
    let k = shifted_by stood now last in
    ap (λ (cs : List ClusterState). (let x : Plain = record now { clusters = cs } in x))
    (assigned_moved k now shift n 0 now.clusters (λ d t. urgency-with_clusters now k.clusters d t) (λ i h. let e : 0 + i ≡ i = omega arith in rw e refl))

-- ---- whom a line has after the shifts

true_filter : (p : ℕ → Bool) (t : ℕ) (xs : List ℕ) → has (filter p xs) t ≡ true → p t ≡ true
true_filter p t [] h = absurd (false≢true h)
true_filter p t (x ∷ xs) h = by (p x) refl h (true_filter p t xs) where
  first : (b : Bool) → (x == t) ≡ b → (b || has (filter p xs) t) ≡ true → p x ≡ true → (has (filter p xs) t ≡ true → p t ≡ true) → p t ≡ true
  first true e h is more = let same : x ≡ t = grind (arith, nat_tests, e) in ap p (sym same) ∙ is
  first false e h is more = more h

  by : (b : Bool) → p x ≡ b → has (cond b (x ∷ filter p xs) (filter p xs)) t ≡ true → (has (filter p xs) t ≡ true → p t ≡ true) → p t ≡ true
  by true is h more = first (x == t) refl h is more
  by false is h more = more h

either : (a b : Bool) (P : Type 0) → (a || b) ≡ true → (a ≡ true → P) → (b ≡ true → P) → P
either true b P h f g = f refl
either false b P h f g = g h

asked_belongs : (c : ℕ) (before now : Standing) (last : Bool) (test : Shift → Bool) → test Leave ≡ false → test (shift_of c before now last) ≡ true → belongs c now ≡ true
unfolding shift_of
asked_belongs c before now last test leaves asked = by (belongs c now) asked where
  by : (b : Bool) → test (cond (not b) Leave (cond (not (belongs c before)) ToEnd (cond (nat_lt now.prio before.prio) ToEnd (cond last ToEnd (cond (nat_lt before.prio now.prio) ToFront Stay))))) ≡ true → b ≡ true
  by true h = refl
  by false h = absurd (false≢true (sym leaves ∙ h))

makes_belongs : (before now : List Standing) (last : List ℕ) (c t : ℕ) (test : Shift → Bool) → test Leave ≡ false → test (shifts before now last c t) ≡ true → belongs c (nth_standing now t) ≡ true
unfolding shifts
makes_belongs before now last c t test leaves asked = asked_belongs c (nth_standing before t) (nth_standing now t) (has last t) test leaves asked

-- each belongs there
pub moved_belongs : (before now : List Standing) (last : List ℕ) (c n : ℕ) (line : List ℕ) (t : ℕ) → has (shifted (shifts before now last c) n line) t ≡ true → belongs c (nth_standing now t) ≡ true
moved_belongs before now last c n line t h =
    let shift = shifts before now last c in
    let front = making is_to_front shift n in
    let stay = filter (λ u. is_stay (shift u)) line in
    let behind = making is_to_end shift n in
    either (has (front ++ stay) t) (has behind t) _ (sym (has-append (front ++ stay) behind t) ∙ h)
    (λ f. either (has front t) (has stay t) _ (sym (has-append front stay t) ∙ f)
    (λ g. makes_belongs before now last c t is_to_front refl (true_filter (λ u. is_to_front (shift u)) t (range_with_len 1 n) g))
    (λ g. makes_belongs before now last c t is_stay refl (true_filter (λ u. is_stay (shift u)) t line g)))
    (λ f. makes_belongs before now last c t is_to_end refl (true_filter (λ u. is_to_end (shift u)) t (range_with_len 1 n) f))

-- clusters settle alike by priorities that agree for those that belong there
settled_alike : (before now : List Standing) (last : List ℕ) (key other : ℕ → ℕ → ℕ) (n c : ℕ) (clusters : List ClusterState) → ((d t : ℕ) → belongs d (nth_standing now t) ≡ true → key d t ≡ other d t) →
    settled_from (shifts before now last) key n c clusters ≡ settled_from (shifts before now last) other n c clusters
settled_alike before now last key other n c [] same = refl
settled_alike before now last key other n c (cluster ∷ clusters) same =
    let line = shifted (shifts before now last c) n cluster.line in
    let runs = most_urgent_agree (key c) (other c) (length cluster.cpus) line (λ t h. same c t (moved_belongs before now last c n cluster.line t h)) in
    ap (λ (ts : List ℕ). (let x : ClusterState = record cluster { line = line; cpus = assigned cluster.cpus ts } in x) ∷ settled_from (shifts before now last) key n (c + 1) clusters) runs
    ∙ ap (λ (cs : List ClusterState). settled_cluster (shifts before now last c) (other c) n cluster ∷ cs) (settled_alike before now last key other n (c + 1) clusters same)

-- and so does one cluster
pub cluster_alike : (before now : List Standing) (last : List ℕ) (key other : ℕ → ℕ) (n c : ℕ) (cluster : ClusterState) → ((t : ℕ) → belongs c (nth_standing now t) ≡ true → key t ≡ other t) → settled_cluster (shifts before now last c) key n cluster ≡ settled_cluster (shifts before now last c) other n cluster
cluster_alike before now last key other n c cluster same =
    let line = shifted (shifts before now last c) n cluster.line in
    let runs = most_urgent_agree key other (length cluster.cpus) line (λ t h. same t (moved_belongs before now last c n cluster.line t h)) in
    ap (λ (ts : List ℕ). (let x : ClusterState = record cluster { line = line; cpus = assigned cluster.cpus ts } in x)) runs

-- Settling by the priorities that are noted is settling.
pub settle_noted : (stood : List Standing) (now : Plain) (last : List ℕ) → length now.threads ≡ 64 → (let k : Plain = record now { clusters = settled_from (shifts stood (standings now) last) (λ d. key_of (standings now)) 64 0 now.clusters } in k) ≡ settle_by stood now last
settle_noted stood now last size =
    ap (λ (cs : List ClusterState). (let k : Plain = record now { clusters = cs } in k))
    (settled_alike stood (standings now) last (λ d. key_of (standings now)) (urgency now) 64 0 now.clusters (λ d t h. urgency_here now d t h)
    ∙ ap (λ n. settled_from (shifts stood (standings now) last) (urgency now) n 0 now.clusters) (sym size))
    ∙ sym (settle_each stood now last)

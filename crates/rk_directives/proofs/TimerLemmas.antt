-- Timers and the threads that they are of.
use Rattle.std.proofs.Common.{◌≡◌, ◌≢◌, ℕ, zero, suc, ◌+◌, ◌<◌, ◌≤◌, List, [], ◌∷◌, ◌++◌, Bool, true, false, cond, not, eqb, ◌==◌, length, arith, refl, ap, sym, ◌∙◌}
use Rattle.std.specs.List.{slice_set, slice_index_or}
use Rattle.std.proofs.lemmas.Bool.{false≢true}
use Rattle.std.proofs.lemmas.Bool.Decides.{nat_tests}
use Rattle.rk_model.specs.declared.state.Thread.{Thread}
use Rattle.rk_model.specs.declared.state.Armed.{Armed}
use Rattle.rk_model.specs.declared.state.Armer.TheVariants.{Thread as OfThread}
use Rattle.rk_model.specs.State.{Plain, ClusterState, no_cluster, cluster_at}
use Rattle.rk_model.specs.Scheduling.Timers.{is_same, times_armed, without_timer, with_timer, is_due, without_due}
use Rattle.rk_directives.specs.Sound.{IsSound, AllSound, AreTimed, AllTimed, KeepsLines, waits_in}

-- each cluster keeps its line and processors where nothing changes
pub keeps_same : (clusters : List ClusterState) → KeepsLines clusters clusters
keeps_same [] = tt
keeps_same (cluster ∷ clusters) = (refl, refl, keeps_same clusters)

-- and where one has other timers
pub keeps_timers : (olds news : List ClusterState) (i : ℕ) (timers : List Armed) → KeepsLines olds news → KeepsLines olds (slice_set news i (record (slice_index_or news i no_cluster) { timers = timers }))
keeps_timers [] [] i timers keeps = tt
keeps_timers [] (b ∷ news) i timers keeps = absurd keeps
keeps_timers (a ∷ olds) [] i timers keeps = absurd keeps
keeps_timers (a ∷ olds) (b ∷ news) zero timers keeps = keeps
keeps_timers (a ∷ olds) (b ∷ news) (suc i) timers keeps = (keeps.0, keeps.1, keeps_timers olds news i timers keeps.2)

-- the timers of all clusters of a sound state
pub timed_sound : (k : Plain) (c : ℕ) (clusters : List ClusterState) → AllSound k c clusters → AllTimed k.threads c clusters
timed_sound k c [] sound = tt
timed_sound k c (cluster ∷ clusters) sound = (sound.0.timers, timed_sound k (c + 1) clusters sound.1)

no_more : (n : ℕ) (a b : Bool) → (a ≡ true → b ≡ true) → n ≤ cond a 1 0 → n ≤ cond b 1 0
no_more n true b more few = rw (more refl) few
no_more n false b more few = omega (arith, few)

-- where those that waited in a cluster still wait there
pub timed_kept : (old new : List Thread) (c : ℕ) (clusters : List ClusterState) → ((d t : ℕ) → waits_in old d t ≡ true → waits_in new d t ≡ true) → AllTimed old c clusters → AllTimed new c clusters
timed_kept old new c [] kept timed = tt
timed_kept old new c (cluster ∷ clusters) kept timed =
    (λ t. no_more (times_armed (OfThread t) cluster.timers) (waits_in old c t) (waits_in new c t) (kept c t) (timed.0 t), timed_kept old new (c + 1) clusters kept timed.1)

-- a thread has no timer in any of these clusters
abbrev pub AllUnarmed : ℕ → List ClusterState → Type 0
AllUnarmed t [] = Unit {0}
AllUnarmed t (cluster ∷ clusters) = (times_armed (OfThread t) cluster.timers ≡ 0) × AllUnarmed t clusters

unarmed_by : (t u n : ℕ) (b : Bool) (a z : Bool) → eqb u t ≡ b → (t ≡ u → n ≡ 0) → (u ≢ t → a ≡ true → z ≡ true) → n ≤ cond a 1 0 → n ≤ cond z 1 0
unarmed_by t u n true a z e none kept few = let same : t ≡ u = grind (arith, nat_tests, e) in omega (arith, none same)
unarmed_by t u n false a z e none kept few = no_more n a z (kept (λ q. false≢true (sym e ∙ grind (arith, nat_tests, q)))) few

-- where all but one that has no timer still wait where they did
pub timed_unarmed : (old new : List Thread) (t c : ℕ) (clusters : List ClusterState) → AllUnarmed t clusters → ((d u : ℕ) → u ≢ t → waits_in old d u ≡ true → waits_in new d u ≡ true) → AllTimed old c clusters → AllTimed new c clusters
timed_unarmed old new t c [] none kept timed = tt
timed_unarmed old new t c (cluster ∷ clusters) none kept timed =
    (λ u. unarmed_by t u (times_armed (OfThread u) cluster.timers) (eqb u t) (waits_in old c u) (waits_in new c u) refl (λ q. ap (λ v. times_armed (OfThread v) cluster.timers) (sym q) ∙ none.0) (kept c u) (timed.0 u), timed_unarmed old new t (c + 1) clusters none.1 kept timed.1)

-- where a cluster has other timers, of no thread more
pub timed_fewer : (threads : List Thread) (c i : ℕ) (clusters : List ClusterState) (timers : List Armed) → ((t : ℕ) → times_armed (OfThread t) timers ≤ times_armed (OfThread t) (slice_index_or clusters i no_cluster).timers) → AllTimed threads c clusters →
    AllTimed threads c (slice_set clusters i (record (slice_index_or clusters i no_cluster) { timers = timers }))
timed_fewer threads c i [] timers fewer timed = tt
timed_fewer threads c zero (cluster ∷ clusters) timers fewer timed = (λ t. omega (arith, fewer t, timed.0 t), timed.1)
timed_fewer threads c (suc i) (cluster ∷ clusters) timers fewer timed = (timed.0, timed_fewer threads (c + 1) i clusters timers fewer timed.1)

-- a thread that waits in no cluster has no timer
none_armed : (n : ℕ) (b : Bool) → b ≡ false → n ≤ cond b 1 0 → n ≡ 0
none_armed n b e few = let low : n ≤ 0 = rw e at few in omega (arith, low)

-- a thread that waits in at most the cluster h, and whose timers there are gone, has none
pub unarmed_without : (threads : List Thread) (t h c i : ℕ) (clusters : List ClusterState) (timers : List Armed) → h ≡ c + i → ((d : ℕ) → d ≢ h → waits_in threads d t ≡ false) → times_armed (OfThread t) timers ≡ 0 → AllTimed threads c clusters →
    AllUnarmed t (slice_set clusters i (record (slice_index_or clusters i no_cluster) { timers = timers }))
unarmed_without threads t h c i [] timers e apart none timed = tt
unarmed_without threads t h c zero (cluster ∷ clusters) timers e apart none timed = (none, behind threads t h (c + 1) clusters (omega (arith, e)) apart timed.1) where
  behind : (threads : List Thread) (t h c : ℕ) (clusters : List ClusterState) → h < c → ((d : ℕ) → d ≢ h → waits_in threads d t ≡ false) → AllTimed threads c clusters → AllUnarmed t clusters
  behind threads t h c [] above apart timed = tt
  behind threads t h c (cluster ∷ clusters) above apart timed =
      (none_armed (times_armed (OfThread t) cluster.timers) (waits_in threads c t) (apart c (λ q. omega (arith, q))) (timed.0 t), behind threads t h (c + 1) clusters (omega arith) apart timed.1)
unarmed_without threads t h c (suc i) (cluster ∷ clusters) timers e apart none timed =
    (none_armed (times_armed (OfThread t) cluster.timers) (waits_in threads c t) (apart c (λ q. omega (arith, e, q))) (timed.0 t), unarmed_without threads t h (c + 1) i clusters timers (omega (arith, e)) apart none timed.1)

-- the timers without those of a thread
pub times-without_timer : (t u : ℕ) (timers : List Armed) → times_armed (OfThread u) (without_timer (OfThread t) timers) ≤ times_armed (OfThread u) timers
times-without_timer t u [] = omega arith
times-without_timer t u (timer ∷ timers) = by (is_same timer.who (OfThread t)) (times-without_timer t u timers) where
  by : (b : Bool) → times_armed (OfThread u) (without_timer (OfThread t) timers) ≤ times_armed (OfThread u) timers → times_armed (OfThread u) (cond (not b) (timer ∷ without_timer (OfThread t) timers) (without_timer (OfThread t) timers)) ≤ times_armed (OfThread u) (timer ∷ timers)
  by true few = omega (arith, few)
  by false few = omega (arith, few)

pub none-without_timer : (t : ℕ) (timers : List Armed) → times_armed (OfThread t) (without_timer (OfThread t) timers) ≡ 0
none-without_timer t [] = refl
none-without_timer t (timer ∷ timers) = by (is_same timer.who (OfThread t)) refl (none-without_timer t timers) where
  by : (b : Bool) → is_same timer.who (OfThread t) ≡ b → times_armed (OfThread t) (without_timer (OfThread t) timers) ≡ 0 → times_armed (OfThread t) (cond (not b) (timer ∷ without_timer (OfThread t) timers) (without_timer (OfThread t) timers)) ≡ 0
  by true e none = none
  by false e none = rw e (omega (arith, none))

-- the timers without the first that is due
pub times-without_due : (tick t : ℕ) (timers : List Armed) → times_armed (OfThread t) (without_due tick timers) ≤ times_armed (OfThread t) timers
times-without_due tick t [] = omega arith
times-without_due tick t (timer ∷ timers) = by (is_due tick timer) (times-without_due tick t timers) where
  by : (b : Bool) → times_armed (OfThread t) (without_due tick timers) ≤ times_armed (OfThread t) timers → times_armed (OfThread t) (cond b timers (timer ∷ without_due tick timers)) ≤ times_armed (OfThread t) (timer ∷ timers)
  by true few = omega arith
  by false few = omega (arith, few)

-- one more timer
pub times-push : (u t due : ℕ) (timers : List Armed) → times_armed (OfThread u) (timers ++ (let x : Armed = record { who = OfThread t; due = due } in x) ∷ []) ≡ times_armed (OfThread u) timers + cond (t == u) 1 0
times-push u t due [] = omega arith
times-push u t due (timer ∷ timers) = omega (arith, times-push u t due timers)

armed_by : (t u n m : ℕ) (b : Bool) (a : Bool) → (t == u) ≡ b → m ≡ n + cond b 1 0 → (t ≡ u → n ≡ 0) → (t ≡ u → a ≡ true) → n ≤ cond a 1 0 → m ≤ cond a 1 0
armed_by t u n m true a e push none waits few = let same : t ≡ u = grind (arith, nat_tests, e) in rw (waits same) (omega (arith, push, none same))
armed_by t u n m false a e push none waits few = omega (arith, push, few)

-- a thread that waits in a cluster and has no timer there may have one
pub timed_armed : (threads : List Thread) (t due h c i : ℕ) (clusters : List ClusterState) → h ≡ c + i → waits_in threads h t ≡ true → times_armed (OfThread t) (slice_index_or clusters i no_cluster).timers ≡ 0 → AllTimed threads c clusters →
    AllTimed threads c (slice_set clusters i (with_timer (slice_index_or clusters i no_cluster) (record { who = OfThread t; due = due })))
timed_armed threads t due h c i [] e waits none timed = tt
timed_armed threads t due h c zero (cluster ∷ clusters) e waits none timed =
    let here : h ≡ c = omega (arith, e) in
    (λ u. armed_by t u (times_armed (OfThread u) cluster.timers) _ (t == u) (waits_in threads c u) refl (times-push u t due cluster.timers) (λ q. ap (λ v. times_armed (OfThread v) cluster.timers) (sym q) ∙ none) (λ q. ap (waits_in threads c) (sym q) ∙ ap (λ d. waits_in threads d t) (sym here) ∙ waits) (timed.0 u), timed.1)
timed_armed threads t due h c (suc i) (cluster ∷ clusters) e waits none timed = (timed.0, timed_armed threads t due h (c + 1) i clusters (omega (arith, e)) waits none timed.1)

-- the timers of a cluster of a sound state
pub timers_of : (k : Plain) (h : ℕ) → IsSound k → h < length k.clusters → AreTimed k.threads h (cluster_at k h).timers
timers_of k h sound within u =
    let e : 0 + h ≡ h = omega arith in
    rw e at (at k.threads 0 h k.clusters within (timed_sound k 0 k.clusters sound.clusters) u)
  where
    at : (threads : List Thread) (c i : ℕ) (clusters : List ClusterState) → i < length clusters → AllTimed threads c clusters → (t : ℕ) → times_armed (OfThread t) (slice_index_or clusters i no_cluster).timers ≤ cond (waits_in threads (c + i) t) 1 0
    at threads c i [] within timed t = omega arith
    at threads c zero (cluster ∷ clusters) within timed t =
        let e : c + 0 ≡ c = omega arith in
        rw e (timed.0 t)
    at threads c (suc i) (cluster ∷ clusters) within timed t =
        let e : c + suc i ≡ c + 1 + i = omega arith in
        rw e (at threads (c + 1) i clusters (omega arith) timed.1 t)

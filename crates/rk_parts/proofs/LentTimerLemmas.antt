-- To change the timers of a lent part is to change them in the state that the parts stand for.
use Rattle.std.proofs.Common.{◌≡◌, ℕ, zero, suc, ◌+◌, ◌<◌, ◌≤◌, List, [], ◌∷◌, Bool, true, false, cond, ◌==◌, Option, Some, None, length, arith, refl, sym, ap, ◌∙◌, get_or, set}
use Rattle.std.specs.Bool.{if◌then◌else◌}
use Rattle.std.proofs.lemmas.Bool.{false≢true}
use Rattle.std.proofs.lemmas.Bool.Decides.{nat_tests}
use Rattle.rk_model.specs.declared.scenario.Scenario.{Scenario}
use Rattle.rk_model.specs.declared.state.Armed.{Armed}
use Rattle.rk_model.specs.declared.state.Thread.{Thread}
use Rattle.rk_model.specs.Lists.{nth}
use Rattle.rk_model.specs.Names.{Table}
use Rattle.rk_model.specs.State.{ClusterState, no_thread, no_cluster, cluster_at, put_cluster}
use Rattle.rk_model.specs.Directives.Objects.{has_begun}
use Rattle.rk_model.specs.Scheduling.Timers.{without_due}
use Rattle.rk_parts.specs.declared.parts.ClusterPart.{ClusterPart}
use Rattle.rk_groups.specs.declared.group.GroupPart.{GroupPart}
use Rattle.rk_parts.specs.Joined.{cluster_of, lives_in, held, numbered, present_of, threads_of, clusters_of, clusters_by, joined, thread_lent, timers_lent}
use Rattle.rk_parts.specs.Lent.{found_in, number_in, AreLaid, frame, layouts, PutsTimers, TakesDue, with_timers}
use Rattle.rk_parts.specs.Threads.{Threads}
use Rattle.rk_parts.specs.Noted.{part_at}
use Rattle.rk_groups.proofs.ListedLemmas.{get_or-listed, same_listed, set-listed}
use Rattle.rk_groups.proofs.FoundLemmas.{found_here, found_later, found_nowhere}
use Rattle.rk_parts.proofs.HeldLemmas.{held_else, held_found, found_lives, found_within, lives_found}
use Rattle.rk_parts.proofs.LayoutLemmas.{Lie, lie, layouts_same, stored_same, accounts_same, holdings_same}
use Rattle.rk_parts.proofs.PutLemmas.{clusters_joined, present_same, part_is, thread_held}
use Rattle.rk_parts.proofs.ReplaceLemmas.{number_is, number_within}

-- ---- the part of a cluster

first_number : (b : Bool) (x rest : ClusterState) → b ≡ true → (if b then x else rest) ≡ x
first_number b x rest e = rw e refl

next_number : (b : Bool) (x rest : ClusterState) → b ≡ false → (if b then x else rest) ≡ rest
next_number b x rest e = rw e refl

-- the cluster of a number is that of the part that is found
pub numbered_found : (counts : List ℕ) (parts : List ClusterPart) (at c : ℕ) → number_in parts c ≡ Some at → numbered counts parts c ≡ cluster_of (part_at parts at)
numbered_found counts [] at c found = absurd (cc)
numbered_found counts (p ∷ ps) zero c found = first_number (p.lined.number == c) (cluster_of p) (numbered counts ps c) (found_here (p.lined.number == c) (number_in ps c) found)
numbered_found counts (p ∷ ps) (suc at) c found =
    let later = found_later (p.lined.number == c) (number_in ps c) at found in
    next_number (p.lined.number == c) (cluster_of p) (numbered counts ps c) later.here_not ∙ numbered_found counts ps at c later.there

number_nowhere : (parts : List ClusterPart) (at c : ℕ) → number_in parts c ≡ None → at < length parts → ((part_at parts at).lined.number == c) ≡ false
number_nowhere [] at c none within = absurd (never at within) where
  never : (at : ℕ) → at < 0 → ⊥
  never at h = omega (arith, h)
number_nowhere (p ∷ ps) zero c none within = (found_nowhere (p.lined.number == c) (number_in ps c) none).here_not
number_nowhere (p ∷ ps) (suc at) c none within = number_nowhere ps at c (found_nowhere (p.lined.number == c) (number_in ps c) none).there_not (omega (arith, within))

-- parts of clusters of their own are found by their numbers
pub number_found : (counts : List ℕ) (parts : List ClusterPart) (at c : ℕ) → Lie counts parts → at < length parts → (part_at parts at).lined.number ≡ c → number_in parts c ≡ Some at
number_found counts parts at c is within number = by (number_in parts c) refl where
  by : (o : Option ℕ) → number_in parts c ≡ o → number_in parts c ≡ Some at
  by None e = let no = number_nowhere parts at c e within in absurd (grind (arith, nat_tests, no, number))
  by (Some i) e = e ∙ ap (λ j. Some j) (is.apart i at (number_within parts i c e) within (number_is parts i c e ∙ sym number))

-- ---- its timers

pick : (b d : Bool) (x y rest : ClusterState) → b ≡ d → (if d then x else rest) ≡ cond b x (if d then y else rest)
pick true true x y rest e = refl
pick false false x y rest e = refl
pick true false x y rest e = absurd (false≢true (sym e))
pick false true x y rest e = absurd (false≢true e)

pass : (b d : Bool) (x y rest : ClusterState) → (b ≡ true → d ≡ false) → (if d then y else cond b x rest) ≡ cond b x (if d then y else rest)
pass true d x y rest other = rw (other refl) refl
pass false d x y rest other = refl

same_test : (n c u : ℕ) → (n == c) ≡ true → (u == c) ≡ (n == u)
same_test n c u e = grind (arith, nat_tests, e)

other_test : (n c u : ℕ) → (n == c) ≡ false → (u == c) ≡ true → (n == u) ≡ false
other_test n c u e f = grind (arith, nat_tests, e, f)

-- the clusters of parts of which one is another of the same number
pub numbered_put : (counts : List ℕ) (parts : List ClusterPart) (at c u : ℕ) (part : ClusterPart) → number_in parts c ≡ Some at → part.lined.number ≡ (part_at parts at).lined.number → numbered counts (set parts at part) u ≡ cond (u == c) (cluster_of part) (numbered counts parts u)
numbered_put counts [] at c u part found same = absurd (cc)
numbered_put counts (p ∷ ps) zero c u part found same =
    let here = found_here (p.lined.number == c) (number_in ps c) found in
    ap (λ n. if n == u then cluster_of part else numbered counts ps u) same
    ∙ pick (u == c) (p.lined.number == u) (cluster_of part) (cluster_of p) (numbered counts ps u) (same_test p.lined.number c u here)
numbered_put counts (p ∷ ps) (suc at) c u part found same =
    let later = found_later (p.lined.number == c) (number_in ps c) at found in
    ap (λ rest. if p.lined.number == u then cluster_of p else rest) (numbered_put counts ps at c u part later.there same)
    ∙ pass (u == c) (p.lined.number == u) (cluster_of part) (cluster_of p) (numbered counts ps u) (other_test p.lined.number c u later.here_not)

-- the cluster of a number in the state
pub cluster_numbered : (counts : List ℕ) (parts : List ClusterPart) (c : ℕ) → c < length counts → get_or (clusters_of counts parts) c no_cluster ≡ numbered counts parts c
unfolding clusters_by
cluster_numbered counts parts c h = let e : 0 + c ≡ c = omega arith in get_or-listed (numbered counts parts) 0 (length counts) c no_cluster h ∙ ap (numbered counts parts) e

clusters_put : (counts : List ℕ) (parts : List ClusterPart) (at c : ℕ) (part : ClusterPart) → number_in parts c ≡ Some at → part.lined.number ≡ (part_at parts at).lined.number → clusters_of counts (set parts at part) ≡ set (clusters_of counts parts) c (cluster_of part)
unfolding clusters_by
clusters_put counts parts at c part found same =
    let e : 0 + c ≡ c = omega arith in
    set-listed (numbered counts parts) (numbered counts (set parts at part)) 0 (length counts) c (cluster_of part) (λ u. numbered_put counts parts at c u part found same ∙ ap (λ d. cond (u == d) (cluster_of part) (numbered counts parts u)) (sym e))

threads_else : (parts : List ClusterPart) (at : ℕ) (part : ClusterPart) → part.threads ≡ (part_at parts at).threads → threads_of (set parts at part) ≡ threads_of parts
unfolding threads_of
threads_else parts at part same = same_listed (held (set parts at part)) (held parts) 1 64 (λ u. held_else parts at u part (ap (λ (ts : Threads). nth no_thread ts.places u) same))

-- a part with other timers
abbrev pub retimed : ClusterPart → List Armed → ClusterPart
retimed part timers = record part { timers = timers }

same_plain : (s : Scenario) (table : Table) (groups : List GroupPart) (old new : List ClusterPart) (c : ℕ) (cluster : ClusterState) → present_of new ≡ present_of old → clusters_of s.clusters new ≡ set (clusters_of s.clusters old) c cluster → threads_of new ≡ threads_of old → joined s table new groups ≡ put_cluster (joined s table old groups) c cluster
same_plain s table groups old new c cluster e f g = clusters_joined s table groups old new (set (clusters_of s.clusters old) c cluster) (threads_of old) e f g

-- other timers of the part of a cluster
pub state_retimed : (s : Scenario) (table : Table) (groups : List GroupPart) (parts : List ClusterPart) (at c : ℕ) (change : List Armed → List Armed) → number_in parts c ≡ Some at → c < length s.clusters →
    joined s table (set parts at (retimed (part_at parts at) (change (part_at parts at).timers))) groups ≡ with_timers (joined s table parts groups) c change
state_retimed s table groups parts at c change found known =
    let part = part_at parts at in
    let new = retimed part (change part.timers) in
    let is : cluster_at (joined s table parts groups) c ≡ cluster_of part = cluster_numbered s.clusters parts c known ∙ numbered_found s.clusters parts at c found in
    same_plain s table groups parts (set parts at new) c (cluster_of new) (present_same parts at new refl) (clusters_put s.clusters parts at c new found refl) (threads_else parts at new refl)
    ∙ ap (λ (x : ClusterState). put_cluster (joined s table parts groups) c (record x { timers = change x.timers })) (sym is)

retimed_kept : (parts : List ClusterPart) (at : ℕ) (timers : List Armed) → frame (set parts at (retimed (part_at parts at) timers)) ≡ frame parts
retimed_kept parts at timers =
    let lies = layouts_same parts at (retimed (part_at parts at) timers) refl in
    let keeps = stored_same parts at (retimed (part_at parts at) timers) refl in
    let accounts = accounts_same parts at (retimed (part_at parts at) timers) refl in
    λ i. record { layouts = lies i; stored = keeps i; accounts = accounts i }

-- the parts as the code has them
pub as_retimed : (parts : List ClusterPart) (at : ℕ) (part : ClusterPart) (timers : List Armed) (change : List Armed → List Armed) → at < length parts → timers ≡ change (get_or parts at part).timers →
    set parts at (record (get_or parts at part) { timers = timers }) ≡ set parts at (retimed (part_at parts at) (change (part_at parts at).timers))
as_retimed parts at part timers change within is =
    ap (λ ts. set parts at (record (get_or parts at part) { timers = ts })) is
    ∙ ap (λ (p : ClusterPart). set parts at (retimed p (change p.timers))) (part_is parts at part within)

-- Other timers of the part in which a thread lives are other timers of its home.
pub puts_timers : (parts : List ClusterPart) (at t : ℕ) (change : List Armed → List Armed) → 1 ≤ t → t ≤ 64 → found_in parts t ≡ Some at → PutsTimers parts t change (set parts at (retimed (part_at parts at) (change (part_at parts at).timers)))
puts_timers parts at t change low high found = record {
  state = λ s table groups lies. (
      let is = lie s.clusters parts lies in
      let lives = found_lives parts at t found in
      let within = found_within parts at t found in
      let home : (part_at parts at).lined.number ≡ (thread_lent parts t).home = sym (is.home at t lives) ∙ ap (λ (x : Thread). x.home) (sym (held_found parts at t found) ∙ sym (thread_held parts t low high)) in
      let known : (part_at parts at).lined.number < length s.clusters = is.known at t lives in
      rw home at (state_retimed s table groups parts at (part_at parts at).lined.number change (number_found s.clusters parts at (part_at parts at).lined.number is within refl) known));
  threads = threads_else parts at (retimed (part_at parts at) (change (part_at parts at).timers)) refl;
  kept = retimed_kept parts at _;
  held = holdings_same parts at _ refl;
}

-- the first timer that is due is taken out of the part of a cluster
pub takes_due : (parts : List ClusterPart) (at c : ℕ) → number_in parts c ≡ Some at → TakesDue parts c (set parts at (retimed (part_at parts at) (without_due (present_of parts) (part_at parts at).timers)))
takes_due parts at c found = record {
  state = λ s table groups known. state_retimed s table groups parts at c (without_due (present_of parts)) found known;
  kept = retimed_kept parts at _;
  held = holdings_same parts at _ refl;
}

-- the timers in the part in which a thread is found
pub timers_found : (parts : List ClusterPart) (at t : ℕ) → found_in parts t ≡ Some at → timers_lent parts t ≡ (part_at parts at).timers
timers_found [] at t found = absurd (cc)
timers_found (p ∷ ps) zero t found = let e = found_here (lives_in p t) (found_in ps t) found in rw e refl
timers_found (p ∷ ps) (suc at) t found =
    let later = found_later (lives_in p t) (found_in ps t) at found in
    rw later.here_not (timers_found ps at t later.there)

-- are those of its home in the state
pub timers_home : (s : Scenario) (table : Table) (groups : List GroupPart) (parts : List ClusterPart) (t : ℕ) → 1 ≤ t → t ≤ 64 → AreLaid s.clusters (layouts parts) → has_begun (thread_lent parts t).life ≡ true → timers_lent parts t ≡ (cluster_at (joined s table parts groups) (thread_lent parts t).home).timers
timers_home s table groups parts t low high lies lives =
    let is = lie s.clusters parts lies in
    let here = thread_held parts t low high in
    let f = lives_found parts t (ap (λ (x : Thread). has_begun x.life) (sym here) ∙ lives) in
    let there = found_lives parts f.at t f.found in
    let within = found_within parts f.at t f.found in
    let home : (part_at parts f.at).lined.number ≡ (thread_lent parts t).home = sym (is.home f.at t there) ∙ ap (λ (x : Thread). x.home) (sym (held_found parts f.at t f.found) ∙ sym here) in
    let known = is.known f.at t there in
    timers_found parts f.at t f.found
    ∙ ap (λ (x : ClusterState). x.timers) (sym (numbered_found s.clusters parts f.at _ (number_found s.clusters parts f.at _ is within refl)) ∙ sym (cluster_numbered s.clusters parts _ known))
    ∙ ap (λ c. (cluster_at (joined s table parts groups) c).timers) home

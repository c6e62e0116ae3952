-- To settle each of the parts is to settle the state that they stand for.
use Rattle.std.proofs.Common.{◌≡◌, ℕ, zero, suc, ◌+◌, ◌<◌, ◌≤◌, List, [], ◌∷◌, ◌++◌, Bool, true, false, cond, not, ◌==◌, ◌⊎◌, inl, inr, Option, Some, None, length, map, take, drop, arith, refl, sym, ap, ◌∙◌, get_or, set, subst, ⊎_elim, append_assoc, ◌≢◌}
use Rattle.std.specs.Option.{option_to_list}
use Rattle.std.specs.Bool.{IsTrue, if◌then◌else◌}
use Rattle.std.proofs.lemmas.Bool.{false≢true, cases_lt}
use Rattle.std.proofs.lemmas.Bool.Decides.{nat_tests}
use Rattle.std.proofs.lemmas.List.{get_or-map, get_or_past, length-map, drop_more, take_more, take_more_set, drop-set-lt, map_push}
use Rattle.rk_model.specs.declared.scenario.Scenario.{Scenario}
use Rattle.rk_model.specs.declared.settling.Standing.{Standing}
use Rattle.rk_model.specs.declared.settling.Shift.{Shift}
use Rattle.rk_model.specs.declared.settling.Shift.TheVariants.{Leave, ToEnd}
use Rattle.rk_model.specs.declared.state.Thread.{Thread}
use Rattle.rk_model.specs.Lists.{has, nth}
use Rattle.rk_model.specs.Names.{Table}
use Rattle.rk_model.specs.Directives.Objects.{has_begun}
use Rattle.rk_model.specs.State.{Plain, ClusterState, no_thread, thread_at, no_cluster, cluster_at}
use Rattle.rk_model.specs.Scheduling.Priorities.{is_eligible, home_prio, no_standing, standing, standings, nth_standing, urgency, prio, or_least_urgent}
use Rattle.rk_model.specs.Scheduling.Settling.{belongs, shift_of, shifts, settle}
use Rattle.rk_model.proofs.AssignmentLemmas.{length-assigned}
use Rattle.rk_cluster.specs.Registers.{no_changes}
use Rattle.rk_cluster.specs.Clusters.{settled}
use Rattle.rk_line.specs.Places.{threads}
use Rattle.rk_parts.specs.declared.parts.ClusterPart.{ClusterPart}
use Rattle.rk_groups.specs.declared.group.GroupPart.{GroupPart}
use Rattle.rk_agg.specs.Shares.{found as found_in_shares, least_source, Shares}
use Rattle.rk_parts.specs.declared.bearing.Bearing.{Bearing}
use Rattle.rk_parts.specs.declared.holdings.Holding.{Holding}
use Rattle.rk_parts.specs.Contributions.{bears, contributed, IsOne}
use Rattle.rk_parts.specs.Holdings.{holder, holdings}
use Rattle.rk_parts.specs.Threads.{StandAsNoted, bearing, bearing_at, bearings_by, is_ready, no_bearing, stands_by, standing_at, standings_by}
use Rattle.rk_groups.specs.GroupObjects.{listed}
use Rattle.rk_parts.specs.Joined.{cluster_of, placed_in, lives_in, held, numbered, present_of, threads_of, clusters_of, clusters_by, joined, thread_lent}
use Rattle.rk_groups.specs.Groups.{one_more}
use Rattle.rk_parts.specs.Lent.{found_in, number_in, AreLaid, Layout, layout, layouts, Stored, stored_in, stored}
use Rattle.rk_parts.specs.ClusterRegisters.{register}
use Rattle.rk_parts.specs.Noted.{key_of, IsKeyed, no_part, part_at, share_at, bearings_in, standings_in, AreLent, AreNoted, ArePriorities, LinesHold, settled_part, bare, one_lives}
use Rattle.rk_parts.specs.Settled.{settled_cluster, settled_from}
use Rattle.rk_groups.proofs.ListedLemmas.{length-listed, same_listed, same_within}
use Rattle.rk_parts.proofs.HeldLemmas.{held_found, held_nowhere, found_lives, found_within, nowhere_lives, lives_nowhere}
use Rattle.rk_parts.proofs.LayoutLemmas.{Lie, lie}
use Rattle.rk_parts.proofs.PutLemmas.{clusters_joined, thread_held, lives_size, length_threads, length_clusters}
use Rattle.rk_parts.proofs.ReplaceLemmas.{number_is, number_within}
use Rattle.rk_parts.proofs.LentTimerLemmas.{number_found, numbered_found, cluster_numbered}
use Rattle.rk_parts.proofs.StandingLemmas.{belongs_say, eligible_own, length-bearings, length-standings_by, standings_say, standings_say_at, urgency_here}
use Rattle.rk_parts.proofs.SettlingLemmas.{cluster_alike, settle_each}
use Rattle.rk_parts.proofs.MarkLemmas.{all_noted}
use Rattle.rk_parts.proofs.RegisterFillLemmas.{nobody_changes, not_ready}
use Rattle.rk_parts.proofs.ClusterRegisterLemmas.{settled_by_register, keyed_by_register}

-- ---- one part after another

-- one part more is settled
pub one_settled : (last : List ℕ) (parts : List ClusterPart) (i : ℕ) (part next : ClusterPart) (all : List ClusterPart) → i < length parts → part ≡ get_or parts i part → bare next ≡ settled_part last part →
    map bare (take i parts) ++ map (settled_part last) (drop i parts) ≡ all → map bare (take (i + 1) (set parts i next)) ++ map (settled_part last) (drop (i + 1) (set parts i next)) ≡ all
one_settled last parts i part next all within is done so_far =
    let a : map bare (take (i + 1) (set parts i next)) ≡ map bare (take i parts) ++ bare next ∷ [] = ap (map bare) (take_more_set parts i next within) ∙ map_push bare (take i parts) next in
    let b : drop (i + 1) (set parts i next) ≡ drop (i + 1) parts = drop-set-lt (i + 1) parts i next (omega arith) in
    let d : map (settled_part last) (drop i parts) ≡ settled_part last part ∷ map (settled_part last) (drop (i + 1) parts) =
    ap (map (settled_part last)) (drop_more parts i part within) ∙ ap (λ (p : ClusterPart). settled_part last p ∷ map (settled_part last) (drop (i + 1) parts)) (sym is) in
    rw (a, b, append_assoc, done) (rw d at so_far)

-- one part more is settled already
pub one_still : (last : List ℕ) (parts : List ClusterPart) (i : ℕ) (part : ClusterPart) (all : List ClusterPart) → i < length parts → part ≡ get_or parts i part → bare part ≡ settled_part last part →
    map bare (take i parts) ++ map (settled_part last) (drop i parts) ≡ all → map bare (take (i + 1) parts) ++ map (settled_part last) (drop (i + 1) parts) ≡ all
one_still last parts i part all within is still so_far =
    let a : map bare (take (i + 1) parts) ≡ map bare (take i parts) ++ bare part ∷ [] =
    ap (map bare) (take_more parts i part within) ∙ map_push bare (take i parts) (get_or parts i part) ∙ ap (λ (p : ClusterPart). map bare (take i parts) ++ bare p ∷ []) (sym is) in
    let d : map (settled_part last) (drop i parts) ≡ settled_part last part ∷ map (settled_part last) (drop (i + 1) parts) =
    ap (map (settled_part last)) (drop_more parts i part within) ∙ ap (λ (p : ClusterPart). settled_part last p ∷ map (settled_part last) (drop (i + 1) parts)) (sym is) in
    rw (a, append_assoc, still) (rw d at so_far)

pub no_items : (xs : List ℕ) → (length xs == 0) ≡ true → xs ≡ []
no_items [] e = refl
no_items (x ∷ xs) e = absurd (grind (arith, nat_tests, e))

pub is_false : (b : Bool) → IsTrue (not b) → b ≡ false
is_false true h = sym h
is_false false h = refl

-- a part in which nobody is marked and no holding changed, and in which the one that goes last doesn't live, is settled
pub settled_part_still : (marked : List ℕ) (last : Option ℕ) (part : ClusterPart) → marked ≡ [] → StandAsNoted marked part.threads → length part.threads.places ≡ 64 → length part.threads.stood ≡ 64 → length part.threads.borne ≡ 64 → part.holdings.owners ≡ part.holdings.noted → one_lives part.threads.places last ≡ false → settled no_changes part.lined ≡ part.lined →
    bare part ≡ settled_part (option_to_list last) part
settled_part_still marked last part none noted places stood borne held elsewhere still =
    let changes = nobody_changes marked part.threads.stood part.threads.shares part.threads.places last part.lined.number none noted.stood elsewhere in
    let notes : part.threads.stood ≡ standings_in part = all_noted no_standing (standings_in part) marked part.threads.stood (length-standings_by part.threads.shares part.threads.places ∙ places) stood none noted.stood in
    let bears : part.threads.borne ≡ bearings_in part = all_noted no_bearing (bearings_in part) marked part.threads.borne (length-bearings part.threads.places ∙ places) borne none noted.borne in
    let lined : part.lined ≡ settled (register part.threads.stood (standings_in part) (option_to_list last) part.lined.number) part.lined = sym (ap (λ f. settled f part.lined) changes ∙ still) in
    λ i. record { present = part.present; lined = lined i; timers = part.timers; threads = record { places = part.threads.places; stood = notes i; borne = bears i; shares = part.threads.shares }; holdings = record { owners = part.holdings.owners; noted = sym held i }; moves = []; chains = []; seats = []; hosting = [] }

-- ---- whom a part holds

-- What stands at a place of the part of a cluster, and what is held of that index: the same, of that home; no thread; or a thread of another home, which is no thread here.
pub data Seen (c : ℕ) (x y : Thread) : Type 0 where
  Here : x ≡ y → (y.home == c) ≡ true → Seen c x y
  Nowhere : x ≡ no_thread → y ≡ no_thread → Seen c x y
  Away : x ≡ no_thread → (y.home == c) ≡ false → Seen c x y

lives_in_one : (parts : List ClusterPart) (i t : ℕ) → lives_in (part_at parts i) t ≡ true → i < length parts
lives_in_one parts i t h = ⊎_elim (λ less. less) (λ more. absurd (false≢true (sym (dead more t) ∙ h))) (cases_lt i (length parts)) where
  dead : length parts ≤ i → (t : ℕ) → lives_in (part_at parts i) t ≡ false
  dead more zero = refl
  dead more (suc j) = ap (λ (p : ClusterPart). lives_in p (suc j)) (get_or_past parts i no_part more)

pub seen : (counts : List ℕ) (parts : List ClusterPart) (at c t : ℕ) → Lie counts parts → number_in parts c ≡ Some at → Seen c (placed_in (part_at parts at) t) (held parts t)
seen counts parts at c t is found = by (found_in parts t) refl where
  number : (part_at parts at).lined.number ≡ c
  number = number_is parts at c found

  within : at < length parts
  within = number_within parts at c found

  dead : found_in parts t ≡ None → placed_in (part_at parts at) t ≡ no_thread
  dead e = is.blank at t (nowhere_lives parts at t e)

  at_home : (i : ℕ) → found_in parts t ≡ Some i → i ≡ at → Seen c (placed_in (part_at parts at) t) (held parts t)
  at_home i e same =
      let lives = found_lives parts i t e in
      let y = held_found parts i t e in
      let home : (held parts t).home ≡ c = ap (λ (x : Thread). x.home) y ∙ is.home i t lives ∙ ap (λ j. (part_at parts j).lined.number) same ∙ number in
      Here (ap (λ j. placed_in (part_at parts j) t) (sym same) ∙ sym y) (grind (arith, nat_tests, home))

  elsewhere : (i : ℕ) → found_in parts t ≡ Some i → (i ≡ at → ⊥) → Seen c (placed_in (part_at parts at) t) (held parts t)
  elsewhere i e apart =
      let lives = found_lives parts i t e in
      let home : (held parts t).home ≡ (part_at parts i).lined.number = ap (λ (x : Thread). x.home) (held_found parts i t e) ∙ is.home i t lives in
      let here_not : lives_in (part_at parts at) t ≡ false = not_here (lives_in (part_at parts at) t) refl (λ h. apart (is.once i at t lives h)) in
      Away (is.blank at t here_not) (other (held parts t).home c refl (λ h. apart (is.apart i at (found_within parts i t e) within (sym home ∙ h ∙ sym number))))
    where
      not_here : (b : Bool) → lives_in (part_at parts at) t ≡ b → (lives_in (part_at parts at) t ≡ true → ⊥) → lives_in (part_at parts at) t ≡ false
      not_here true q never = absurd (never q)
      not_here false q never = q

      other : (h d : ℕ) → h ≡ h → (h ≡ d → ⊥) → (h == d) ≡ false
      other h d q never = grind (arith, nat_tests, never)

  by : (o : Option ℕ) → found_in parts t ≡ o → Seen c (placed_in (part_at parts at) t) (held parts t)
  by None e = Nowhere (dead e) (held_nowhere parts t e)
  by (Some i) e = by_place (i == at) refl where
    by_place : (b : Bool) → (i == at) ≡ b → Seen c (placed_in (part_at parts at) t) (held parts t)
    by_place true q = at_home i e (grind (arith, nat_tests, q))
    by_place false q = elsewhere i e (λ h. grind (arith, nat_tests, q, h))

-- the thread of any index in the state is the one that the parts hold
pub thread_any : (counts : List ℕ) (parts : List ClusterPart) (t : ℕ) → Lie counts parts → thread_lent parts t ≡ held parts t
unfolding threads_of
thread_any counts parts zero is = sym (held_nowhere parts 0 (lives_nowhere parts 0 (λ at. refl)))
thread_any counts parts (suc i) is = ⊎_elim (λ less. thread_held parts (suc i) (omega arith) (omega (arith, less))) (λ more. past more ∙ sym (held_nowhere parts (suc i) (lives_nowhere parts (suc i) (λ at. dead at more (lives_in (part_at parts at) (suc i)) refl)))) (cases_lt i 64) where
  past : 64 ≤ i → thread_lent parts (suc i) ≡ no_thread
  past more = get_or_past (listed (held parts) 1 64) i no_thread (rw length-listed more)

  dead : (at : ℕ) → 64 ≤ i → (b : Bool) → lives_in (part_at parts at) (suc i) ≡ b → lives_in (part_at parts at) (suc i) ≡ false
  dead at more true q =
      let size = is.size at (lives_in_one parts at (suc i) q) in
      let few = lives_size (part_at parts at) (suc i) q in
      absurd (omega (arith, size, few, more))
  dead at more false q = q

-- ---- what settling asks there

-- a standing in the part of a cluster and one in the state are the same, or neither belongs in the ready queue of the cluster
abbrev pub AsSeen : ℕ → Standing → Standing → Type 0
AsSeen c x y = (x ≡ y) ⊎ ((belongs c x ≡ false) × (belongs c y ≡ false))

dead_away : (c : ℕ) (shares : Shares) (t : ℕ) (b : Bearing) → is_ready b ≡ false → belongs c (stands_by shares t b) ≡ false
dead_away c shares t b e = rw e refl

unready_away : (c : ℕ) (k : Plain) (t : ℕ) → is_ready (bearing (thread_at k t)) ≡ false → belongs c (standing k t) ≡ false
unfolding standing
unready_away c k t e = rw (eligible_own k t, e) refl

home_away : (c : ℕ) (k : Plain) (t : ℕ) → ((thread_at k t).home == c) ≡ false → belongs c (standing k t) ≡ false
unfolding standing
home_away c k t e = by (is_eligible k t) where
  by : (b : Bool) → belongs c (let s : Standing = record { cluster = cond b (Some (thread_at k t).home) None; prio = home_prio k t } in s) ≡ false
  by true = e
  by false = refl

stands_here : (k : Plain) (shares : Shares) (t : ℕ) (x : Thread) → x ≡ thread_at k t → has_begun x.life ≡ true → or_least_urgent (least_source (found_in_shares shares t x.home)) ≡ home_prio k t → stands_by shares t (bearing x) ≡ standing k t
unfolding standing
stands_here k shares t x is lives prios =
    let place : cond (is_ready (bearing x)) (Some x.home) None ≡ cond (is_eligible k t) (Some (thread_at k t).home) None =
    ap (λ (z : Thread). cond (is_ready (bearing z)) (Some z.home) None) is ∙ ap (λ b. cond b (Some (thread_at k t).home) None) (sym (eligible_own k t)) in
    let level : cond (has_begun x.life) (or_least_urgent (least_source (found_in_shares shares t x.home))) 255 ≡ home_prio k t = ap (λ b. cond b (or_least_urgent (least_source (found_in_shares shares t x.home))) 255) lives ∙ prios in
    λ i. record { cluster = place i; prio = level i }

-- what a part has of how a thread stands is how it stands in the state
pub as_seen : (k : Plain) (shares : Shares) (c t : ℕ) (x y : Thread) → thread_at k t ≡ y → Seen c x y → (has_begun y.life ≡ true → y.home ≡ c → or_least_urgent (least_source (found_in_shares shares t c)) ≡ home_prio k t) → AsSeen c (stands_by shares t (bearing x)) (standing k t)
as_seen k shares c t x y is (Nowhere e f) prios =
    inr (dead_away c shares t (bearing x) (ap (λ (z : Thread). is_ready (bearing z)) e), unready_away c k t (ap (λ (z : Thread). is_ready (bearing z)) (is ∙ f)))
as_seen k shares c t x y is (Away e f) prios =
    inr (dead_away c shares t (bearing x) (ap (λ (z : Thread). is_ready (bearing z)) e), home_away c k t (ap (λ (z : Thread). z.home == c) is ∙ f))
as_seen k shares c t x y is (Here e f) prios = by (has_begun y.life) refl where
  home : y.home ≡ c
  home = grind (arith, nat_tests, f)

  by : (b : Bool) → has_begun y.life ≡ b → AsSeen c (stands_by shares t (bearing x)) (standing k t)
  by true lives = inl (stands_here k shares t x (e ∙ sym is) (ap (λ (z : Thread). has_begun z.life) e ∙ lives) (ap (λ (z : Thread). or_least_urgent (least_source (found_in_shares shares t z.home))) e ∙ ap (λ d. or_least_urgent (least_source (found_in_shares shares t d))) home ∙ prios lives home))
  by false dead =
      let no = not_ready (bearing y) dead in
      inr (dead_away c shares t (bearing x) (ap (λ (z : Thread). is_ready (bearing z)) e ∙ no), unready_away c k t (ap (λ (z : Thread). is_ready (bearing z)) is ∙ no))

leaves : (c : ℕ) (before now : Standing) (last : Bool) → belongs c now ≡ false → shift_of c before now last ≡ Leave
unfolding shift_of
leaves c before now last e = rw e refl

comes : (c : ℕ) (before now : Standing) (last : Bool) → belongs c before ≡ false → shift_of c before now last ≡ cond (not (belongs c now)) Leave ToEnd
unfolding shift_of
comes c before now last e = rw e refl

-- settling asks in a cluster of what its part has what it asks of the state
shift_seen : (c : ℕ) (x y v w : Standing) (last : Bool) → AsSeen c x y → AsSeen c v w → shift_of c x v last ≡ shift_of c y w last
shift_seen c x y v w last before (inr g) = leaves c x v last g.0 ∙ sym (leaves c y w last g.1)
shift_seen c x y v w last (inl e) (inl f) = ap (λ z. shift_of c z v last) e ∙ ap (λ z. shift_of c y z last) f
shift_seen c x y v w last (inr g) (inl f) = comes c x v last g.0 ∙ ap (λ z. cond (not (belongs c z)) Leave ToEnd) f ∙ sym (comes c y w last g.1)

belongs_seen : (c : ℕ) (x y : Standing) → AsSeen c x y → belongs c x ≡ belongs c y
belongs_seen c x y (inl e) = ap (belongs c) e
belongs_seen c x y (inr g) = g.0 ∙ sym g.1

prio_seen : (c : ℕ) (x y : Standing) → AsSeen c x y → belongs c y ≡ true → x.prio ≡ y.prio
prio_seen c x y (inl e) h = ap (λ (s : Standing). s.prio) e
prio_seen c x y (inr g) h = absurd (false≢true (sym g.1 ∙ h))

-- ---- all of them

-- the clusters of a state that settle one after another
settled_listed : (shift : ℕ → ℕ → Shift) (key : ℕ → ℕ → ℕ) (n : ℕ) (f : ℕ → ClusterState) (a m : ℕ) → settled_from shift key n a (listed f a m) ≡ listed (λ c. settled_cluster (shift c) (key c) n (f c)) a m
settled_listed shift key n f a zero = refl
settled_listed shift key n f a (suc m) = ap (λ (cs : List ClusterState). settled_cluster (shift a) (key a) n (f a) ∷ cs) (settled_listed shift key n f (a + 1) m)

-- The parts before a change, after it, and settled: both are parts of their states in which all clusters are lent, before it was noted how the threads stand, in both the priorities are the least of what is contributed, what is stored is as before, and each part is settled.
pub record Settles (s : Scenario) (k now : Plain) (before mid new : List ClusterPart) (last : List ℕ) : Type 0 where
  pub prios : ArePriorities k before
  pub prios_after : ArePriorities now mid
  pub threads_after : now.threads ≡ threads_of mid
  pub shares : AreLent (bears mid) (holder (holdings mid)) mid
  pub laid : AreLaid s.clusters (layouts before)
  pub laid_after : AreLaid s.clusters (layouts mid)
  pub lent : (c : ℕ) → c < length s.clusters → number_in mid c ≡ Some c
  pub noted : AreNoted (length s.clusters) before
  pub kept : stored mid ≡ stored before
  pub lines : LinesHold k
  pub threads : k.threads ≡ threads_of before
  pub clusters : k.clusters ≡ clusters_of s.clusters before
  pub done : map bare new ≡ map (settled_part last) mid

stored_at : (parts : List ClusterPart) (i : ℕ) → get_or (stored parts) i (stored_in no_part) ≡ stored_in (part_at parts i)
stored_at [] i = refl
stored_at (p ∷ ps) zero = refl
stored_at (p ∷ ps) (suc i) = stored_at ps i

pub same_stored : (old new : List ClusterPart) (i : ℕ) → stored new ≡ stored old → stored_in (part_at new i) ≡ stored_in (part_at old i)
same_stored old new i e = sym (stored_at new i) ∙ ap (λ (ss : List Stored). get_or ss i (stored_in no_part)) e ∙ stored_at old i

-- what stands in the settled parts
pub bare_at : (parts : List ClusterPart) (i : ℕ) → get_or (map bare parts) i no_part ≡ bare (part_at parts i)
bare_at [] i = refl
bare_at (p ∷ ps) zero = refl
bare_at (p ∷ ps) (suc i) = bare_at ps i

settled_at : (last : List ℕ) (parts : List ClusterPart) (i : ℕ) → i < length parts → get_or (map (settled_part last) parts) i no_part ≡ settled_part last (part_at parts i)
settled_at last parts i within = get_or-map (settled_part last) parts i no_part no_part within

pub part_settled : (last : List ℕ) (mid new : List ClusterPart) (i : ℕ) → map bare new ≡ map (settled_part last) mid → i < length mid → bare (part_at new i) ≡ settled_part last (part_at mid i)
part_settled last mid new i done within = sym (bare_at new i) ∙ ap (λ (ps : List ClusterPart). get_or ps i no_part) done ∙ settled_at last mid i within

pub length_settled : (last : List ℕ) (mid new : List ClusterPart) → map bare new ≡ map (settled_part last) mid → length new ≡ length mid
length_settled last mid new done = sym (length-map new bare) ∙ ap (λ (ps : List ClusterPart). length ps) done ∙ length-map mid (settled_part last)

-- settled parts lie as before,
layout_bare : (parts : List ClusterPart) → layouts (map bare parts) ≡ layouts parts
layout_bare [] = refl
layout_bare (p ∷ ps) = ap (λ (ls : List Layout). layout p ∷ ls) (layout_bare ps)

layout_settled : (last : List ℕ) (parts : List ClusterPart) → layouts (map (settled_part last) parts) ≡ layouts parts
layout_settled last [] = refl
layout_settled last (p ∷ ps) =
    let size = length-assigned p.lined.cpus _ in
    ap (λ n. (let l : Layout = record (layout p) { count = n } in l) ∷ layouts (map (settled_part last) ps)) size ∙ ap (λ (ls : List Layout). layout p ∷ ls) (layout_settled last ps)

pub layouts_settled : (last : List ℕ) (mid new : List ClusterPart) → map bare new ≡ map (settled_part last) mid → layouts new ≡ layouts mid
layouts_settled last mid new done = sym (layout_bare new) ∙ ap (λ (ps : List ClusterPart). layouts ps) done ∙ layout_settled last mid

-- hold the same threads, and have the same tick
held_bare : (parts : List ClusterPart) (t : ℕ) → held (map bare parts) t ≡ held parts t
held_bare [] t = refl
held_bare (p ∷ ps) t = ap (λ x. if lives_in p t then placed_in p t else x) (held_bare ps t)

held_part_settled : (last : List ℕ) (parts : List ClusterPart) (t : ℕ) → held (map (settled_part last) parts) t ≡ held parts t
held_part_settled last [] t = refl
held_part_settled last (p ∷ ps) t = ap (λ x. if lives_in p t then placed_in p t else x) (held_part_settled last ps t)

threads_settled : (last : List ℕ) (mid new : List ClusterPart) → map bare new ≡ map (settled_part last) mid → threads_of new ≡ threads_of mid
unfolding threads_of
threads_settled last mid new done =
    same_listed (held new) (held mid) 1 64 (λ t. sym (held_bare new t) ∙ ap (λ (ps : List ClusterPart). held ps t) done ∙ held_part_settled last mid t)

pub present_bare : (parts : List ClusterPart) → present_of (map bare parts) ≡ present_of parts
present_bare [] = refl
present_bare (p ∷ ps) = refl

present_part_settled : (last : List ℕ) (parts : List ClusterPart) → present_of (map (settled_part last) parts) ≡ present_of parts
present_part_settled last [] = refl
present_part_settled last (p ∷ ps) = refl

present_settled : (last : List ℕ) (mid new : List ClusterPart) → map bare new ≡ map (settled_part last) mid → present_of new ≡ present_of mid
present_settled last mid new done = sym (present_bare new) ∙ ap present_of done ∙ present_part_settled last mid

number_in_settled : (last : List ℕ) (parts : List ClusterPart) (c : ℕ) → number_in (map (settled_part last) parts) c ≡ number_in parts c
number_in_settled last [] c = refl
number_in_settled last (p ∷ ps) c = ap (λ r. if p.lined.number == c then Some 0 else one_more r) (number_in_settled last ps c)

-- how a thread stood before the change, and stands after it
stood_seen : (s : Scenario) (k now : Plain) (before mid new : List ClusterPart) (last : List ℕ) (at t : ℕ) → Settles s k now before mid new last → nth_standing (part_at mid at).threads.stood t ≡ standing_at (part_at before at).threads.shares (part_at before at).threads.places t
stood_seen s k now before mid new last at t is =
    ap (λ (x : Stored). nth_standing x.stood t) (same_stored before mid at is.kept)
    ∙ ap (λ xs. nth_standing xs t) (is.noted.stood at)
    ∙ standings_say_at (part_at before at).threads.shares (part_at before at).threads.places t

seen_none : (c : ℕ) (x y : Thread) → Seen c x y → y ≡ no_thread → x ≡ no_thread
seen_none c x y (Here e f) none = e ∙ none
seen_none c x y (Nowhere e f) none = e
seen_none c x y (Away e f) none = e

home_prio_is : (k : Plain) (t c : ℕ) → (thread_at k t).home ≡ c → or_least_urgent (prio k t c) ≡ home_prio k t
unfolding home_prio
home_prio_is k t c e = ap (λ d. or_least_urgent (prio k t d)) (sym e)

-- what the part of a cluster has of how a thread stands is how it stands in the state
seen_at : (counts : List ℕ) (k : Plain) (parts : List ClusterPart) (c t : ℕ) → Lie counts parts → number_in parts c ≡ Some c → k.threads ≡ threads_of parts → ArePriorities k parts → AsSeen c (standing_at (part_at parts c).threads.shares (part_at parts c).threads.places t) (nth_standing (standings k) t)
seen_at counts k parts c t lies found same prios = by (one_or_not t) where
  shares : Shares
  shares = (part_at parts c).threads.shares

  places : List Thread
  places = (part_at parts c).threads.places

  size : length k.threads ≡ 64
  size = ap (λ (ts : List Thread). length ts) same ∙ length_threads parts

  there : thread_at k t ≡ held parts t
  there = ap (λ (ts : List Thread). nth no_thread ts t) same ∙ thread_any counts parts t lies

  see : Seen c (placed_in (part_at parts c) t) (held parts t)
  see = seen counts parts c c t lies found

  level : IsOne t → (held parts t).home ≡ c → or_least_urgent (least_source (found_in_shares shares t c)) ≡ home_prio k t
  level one home =
      let number = number_is parts c c found in
      ap or_least_urgent (ap (λ d. least_source (found_in_shares shares t d)) (sym number) ∙ prios c t (number_within parts c c found) one ∙ ap (prio k t) number)
      ∙ home_prio_is k t c (ap (λ (x : Thread). x.home) there ∙ home)

  by : (IsOne t) ⊎ (thread_lent parts t ≡ no_thread) → AsSeen c (standing_at (part_at parts c).threads.shares (part_at parts c).threads.places t) (nth_standing (standings k) t)
  by (inl one) = subst (AsSeen c (standing_at shares places t)) (sym (standings_say k t one.0 (rw size one.1))) (as_seen k shares c t (placed_in (part_at parts c) t) (held parts t) there see (λ lives home. level one home))
  by (inr none) =
      let dead : held parts t ≡ no_thread = sym (thread_any counts parts t lies) ∙ none in
      let nobody : thread_at k t ≡ no_thread = ap (λ (ts : List Thread). nth no_thread ts t) same ∙ none in
      inr (dead_away c shares t (bearing_at places t) (ap (λ (z : Thread). is_ready (bearing z)) (seen_none c (placed_in (part_at parts c) t) (held parts t) see dead)), belongs_say k c t ∙ unready_away c k t (ap (λ (z : Thread). is_ready (bearing z)) nobody))

  one_or_not : (t : ℕ) → (IsOne t) ⊎ (thread_lent parts t ≡ no_thread)
  one_or_not zero = inr refl
  one_or_not (suc i) = ⊎_elim (λ less. inl (omega arith, omega (arith, less))) (λ more. inr (get_or_past (threads_of parts) i no_thread (rw length_threads more))) (cases_lt i 64)

-- the numbers of parts that store this
numbers_in : List Stored → ℕ → Option ℕ
numbers_in [] c = None
numbers_in (x ∷ xs) c = if x.lined.number == c then Some 0 else one_more (numbers_in xs c)

numbers_stored : (parts : List ClusterPart) (c : ℕ) → numbers_in (stored parts) c ≡ number_in parts c
unfolding numbers_in
numbers_stored [] c = refl
numbers_stored (p ∷ ps) c = ap (λ r. if p.lined.number == c then Some 0 else one_more r) (numbers_stored ps c)

-- a part is found by its number as long as the parts store the same
pub number_kept : (old new : List ClusterPart) (c : ℕ) → stored new ≡ stored old → number_in new c ≡ number_in old c
number_kept old new c e = sym (numbers_stored new c) ∙ ap (λ (ss : List Stored). numbers_in ss c) e ∙ numbers_stored old c

number_before : (s : Scenario) (k now : Plain) (before mid new : List ClusterPart) (last : List ℕ) (c : ℕ) → Settles s k now before mid new last → c < length s.clusters → number_in before c ≡ Some c
number_before s k now before mid new last c is known = sym (number_kept before mid c is.kept) ∙ is.lent c known

-- the ready queue of a part has exactly the threads that stood there
line_held : (s : Scenario) (k now : Plain) (before mid new : List ClusterPart) (last : List ℕ) (c : ℕ) → Settles s k now before mid new last → c < length s.clusters → (t : ℕ) → has (threads (part_at mid c).lined.line) t ≡ belongs c (nth_standing (part_at mid c).threads.stood t)
line_held s k now before mid new last c is known t =
    let found = number_before s k now before mid new last c is known in
    let lies = lie s.clusters before is.laid in
    let cluster : cluster_at k c ≡ cluster_of (part_at before c) = ap (λ (cs : List ClusterState). get_or cs c no_cluster) is.clusters ∙ cluster_numbered s.clusters before c known ∙ numbered_found s.clusters before c c found in
    let size : length k.clusters ≡ length s.clusters = ap (λ (cs : List ClusterState). length cs) is.clusters ∙ length_clusters s.clusters before in
    ap (λ (x : Stored). has (threads x.lined.line) t) (same_stored before mid c is.kept)
    ∙ ap (λ (x : ClusterState). has x.line t) (sym cluster)
    ∙ is.lines c t (rw size known)
    ∙ sym (belongs_say k c t)
    ∙ sym (belongs_seen c (standing_at (part_at before c).threads.shares (part_at before c).threads.places t) (nth_standing (standings k) t) (seen_at s.clusters k before c t lies found is.threads is.prios))
    ∙ ap (belongs c) (sym (stood_seen s k now before mid new last c t is))

line_keyed : (s : Scenario) (k now : Plain) (before mid new : List ClusterPart) (last : List ℕ) (at : ℕ) → Settles s k now before mid new last → (part_at mid at).lined.number < length s.clusters → IsKeyed (key_of (part_at mid at).threads.stood) (part_at mid at).lined.line
line_keyed s k now before mid new last at is known = subst (λ (x : Stored). IsKeyed (key_of x.stood) x.lined.line) (sym (same_stored before mid at is.kept)) (is.noted.keyed at (rw (ap (λ (x : Stored). x.lined.number) (same_stored before mid at is.kept)) at known))

-- settling asks of the threads of a part what it asks of those of the state
shifts_seen : (s : Scenario) (k now : Plain) (before mid new : List ClusterPart) (last : List ℕ) (c : ℕ) → Settles s k now before mid new last → c < length s.clusters →
    shifts (part_at mid c).threads.stood (standings_in (part_at mid c)) last c ≡ shifts (standings k) (standings now) last c
unfolding shifts
shifts_seen s k now before mid new last c is known =
    let found = number_before s k now before mid new last c is known in
    let lies = lie s.clusters before is.laid in
    let lies_after = lie s.clusters mid is.laid_after in
    λ i t. each t (stood_seen s k now before mid new last c t is) (standings_say_at (part_at mid c).threads.shares (part_at mid c).threads.places t)
    (seen_at s.clusters k before c t lies found is.threads is.prios) (seen_at s.clusters now mid c t lies_after (is.lent c known) is.threads_after is.prios_after) i
  where
    each : (t : ℕ) → nth_standing (part_at mid c).threads.stood t ≡ standing_at (part_at before c).threads.shares (part_at before c).threads.places t → nth_standing (standings_in (part_at mid c)) t ≡ standing_at (part_at mid c).threads.shares (part_at mid c).threads.places t →
        AsSeen c (standing_at (part_at before c).threads.shares (part_at before c).threads.places t) (nth_standing (standings k) t) → AsSeen c (standing_at (part_at mid c).threads.shares (part_at mid c).threads.places t) (nth_standing (standings now) t) →
        shift_of c (nth_standing (part_at mid c).threads.stood t) (nth_standing (standings_in (part_at mid c)) t) (has last t) ≡ shift_of c (nth_standing (standings k) t) (nth_standing (standings now) t) (has last t)
    each t a b f g =
        ap (λ x. shift_of c x (nth_standing (standings_in (part_at mid c)) t) (has last t)) a
        ∙ ap (λ x. shift_of c (standing_at (part_at before c).threads.shares (part_at before c).threads.places t) x (has last t)) b
        ∙ shift_seen c (standing_at (part_at before c).threads.shares (part_at before c).threads.places t) (nth_standing (standings k) t) (standing_at (part_at mid c).threads.shares (part_at mid c).threads.places t) (nth_standing (standings now) t) (has last t) f g

-- and ranks those that belong there by the same priorities
keys_seen : (s : Scenario) (k now : Plain) (before mid new : List ClusterPart) (last : List ℕ) (c t : ℕ) → Settles s k now before mid new last → c < length s.clusters → belongs c (nth_standing (standings now) t) ≡ true → key_of (standings_in (part_at mid c)) t ≡ urgency now c t
keys_seen s k now before mid new last c t is known there =
    ap (λ (x : Standing). x.prio) (standings_say_at (part_at mid c).threads.shares (part_at mid c).threads.places t)
    ∙ prio_seen c (standing_at (part_at mid c).threads.shares (part_at mid c).threads.places t) (nth_standing (standings now) t) (seen_at s.clusters now mid c t (lie s.clusters mid is.laid_after) (is.lent c known) is.threads_after is.prios_after) there
    ∙ urgency_here now c t there

-- the cluster of a part after settling
cluster_settled : (s : Scenario) (k now : Plain) (before mid new : List ClusterPart) (last : List ℕ) (c : ℕ) → Settles s k now before mid new last → c < length s.clusters →
    numbered s.clusters new c ≡ settled_cluster (shifts (standings k) (standings now) last c) (urgency now c) 64 (numbered s.clusters mid c)
cluster_settled s k now before mid new last c is known =
    let part = part_at mid c in
    let found = is.lent c known in
    let number : part.lined.number ≡ c = number_is mid c c found in
    let within = number_within mid c c found in
    let next = part_settled last mid new c is.done within in
    let there : number_in new c ≡ Some c = number_settled mid new c is.done ∙ found in
    let lined : (part_at new c).lined ≡ settled (register part.threads.stood (standings_in part) last c) part.lined =
    ap (λ (p : ClusterPart). p.lined) next ∙ ap (λ n. settled (register part.threads.stood (standings_in part) last n) part.lined) number in
    numbered_found s.clusters new c c there
    ∙ ap (λ (p : ClusterPart). cluster_of p) next
    ∙ ap (λ n. cluster_of (record (settled_part last part) { lined = settled (register part.threads.stood (standings_in part) last n) part.lined })) number
    ∙ settled_by_register part.threads.stood (standings_in part) last c part.lined (settled (register part.threads.stood (standings_in part) last c) part.lined) part.timers (line_held s k now before mid new last c is known) (line_keyed s k now before mid new last c is (rw number known)) refl
    ∙ ap (λ (f : ℕ → Shift). settled_cluster f (key_of (standings_in part)) 64 (cluster_of part)) (shifts_seen s k now before mid new last c is known)
    ∙ cluster_alike (standings k) (standings now) last (key_of (standings_in part)) (urgency now c) 64 c (cluster_of part) (λ t there. keys_seen s k now before mid new last c t is known there)
    ∙ ap (settled_cluster (shifts (standings k) (standings now) last c) (urgency now c) 64) (sym (numbered_found s.clusters mid c c found))
  where
    number_settled : (mid new : List ClusterPart) (c : ℕ) → map bare new ≡ map (settled_part last) mid → number_in new c ≡ number_in mid c
    number_settled mid new c done = sym (number_bare new c) ∙ ap (λ (ps : List ClusterPart). number_in ps c) done ∙ number_in_settled last mid c where
      number_bare : (parts : List ClusterPart) (c : ℕ) → number_in (map bare parts) c ≡ number_in parts c
      number_bare [] c = refl
      number_bare (p ∷ ps) c = ap (λ r. if p.lined.number == c then Some 0 else one_more r) (number_bare ps c)

clusters_settled : (s : Scenario) (k now : Plain) (before mid new : List ClusterPart) (last : List ℕ) → Settles s k now before mid new last →
    clusters_of s.clusters new ≡ settled_from (shifts (standings k) (standings now) last) (urgency now) 64 0 (clusters_of s.clusters mid)
unfolding clusters_by
clusters_settled s k now before mid new last is =
    same_within (numbered s.clusters new) (λ c. settled_cluster (shifts (standings k) (standings now) last c) (urgency now c) 64 (numbered s.clusters mid c)) 0 (length s.clusters)
    (λ i h. let e : 0 + i ≡ i = omega arith in rw e (cluster_settled s k now before mid new last i is h))
    ∙ sym (settled_listed (shifts (standings k) (standings now) last) (urgency now) 64 (numbered s.clusters mid) 0 (length s.clusters))

same_state : (s : Scenario) (table : Table) (groups : List GroupPart) (mid new : List ClusterPart) (clusters : List ClusterState) → present_of new ≡ present_of mid → clusters_of s.clusters new ≡ clusters → threads_of new ≡ threads_of mid → joined s table new groups ≡ (let k : Plain = record (joined s table mid groups) { clusters = clusters } in k)
same_state s table groups mid new clusters e f g = clusters_joined s table groups mid new clusters (threads_of mid) e f g

-- The parts, each settled, stand for the settled state.
pub settled_joined : (s : Scenario) (table : Table) (groups : List GroupPart) (k : Plain) (before mid new : List ClusterPart) (last : List ℕ) → Settles s k (joined s table mid groups) before mid new last → joined s table new groups ≡ settle k (joined s table mid groups) last
settled_joined s table groups k before mid new last is =
    let now = joined s table mid groups in
    let size : length now.threads ≡ 64 = length_threads mid in
    same_state s table groups mid new _ (present_settled last mid new is.done) (clusters_settled s k now before mid new last is) (threads_settled last mid new is.done)
    ∙ ap (λ n. (let x : Plain = record now { clusters = settled_from (shifts (standings k) (standings now) last) (urgency now) n 0 now.clusters } in x)) (sym size)
    ∙ sym (settle_each (standings k) now last)

-- who holds what isn't changed
holdings_bare : (parts : List ClusterPart) → holdings (map bare parts) ≡ holdings parts
holdings_bare [] = refl
holdings_bare (p ∷ ps) = ap (λ (hs : List (List (Option Holding))). p.holdings.owners ∷ hs) (holdings_bare ps)

holdings_part_settled : (last : List ℕ) (parts : List ClusterPart) → holdings (map (settled_part last) parts) ≡ holdings parts
holdings_part_settled last [] = refl
holdings_part_settled last (p ∷ ps) = ap (λ (hs : List (List (Option Holding))). p.holdings.owners ∷ hs) (holdings_part_settled last ps)

pub holdings_alike : (last : List ℕ) (mid new : List ClusterPart) → map bare new ≡ map (settled_part last) mid → holdings new ≡ holdings mid
holdings_alike last mid new done = sym (holdings_bare new) ∙ ap (λ (ps : List ClusterPart). holdings ps) done ∙ holdings_part_settled last mid

past_stood : (parts : List ClusterPart) (at : ℕ) → part_at parts at ≡ no_part → (part_at parts at).threads.stood ≡ standings_in (part_at parts at)
unfolding standings_by
past_stood parts at none = rw none refl

past_borne : (parts : List ClusterPart) (at : ℕ) → part_at parts at ≡ no_part → (part_at parts at).threads.borne ≡ bearings_in (part_at parts at)
unfolding bearings_by
past_borne parts at none = rw none refl

-- It is noted then how their threads stand, what they bear, and how they hold semaphores.
pub noted_settled : (s : Scenario) (k now : Plain) (before mid new : List ClusterPart) (last : List ℕ) → Settles s k now before mid new last → AreNoted (length s.clusters) new
noted_settled s k now before mid new last is = record {
  stood = λ at. ⊎_elim (λ less. stood_now at (rw (length_settled last mid new is.done) at less)) (λ more. past_stood new at (get_or_past new at no_part more)) (cases_lt at (length new));
  keyed = λ at known. ⊎_elim (λ less. keyed_now at (rw (length_settled last mid new is.done) at less) known) (λ more. subst (λ (p : ClusterPart). IsKeyed (key_of p.threads.stood) p.lined.line) (sym (get_or_past new at no_part more)) tt) (cases_lt at (length new));
  borne = λ at. ⊎_elim (λ less. borne_now at (rw (length_settled last mid new is.done) at less)) (λ more. past_borne new at (get_or_past new at no_part more)) (cases_lt at (length new));
  held = λ at. ⊎_elim (λ less. held_now at (rw (length_settled last mid new is.done) at less)) (λ more. (let none = get_or_past new at no_part more in ap (λ (p : ClusterPart). p.holdings.noted) none ∙ sym (ap (λ (p : ClusterPart). p.holdings.owners) none))) (cases_lt at (length new));
  shares = record {
    own = λ at t u less one other. lent_now at t u (rw (length_settled last mid new is.done) at less) one other;
    elsewhere = λ at t d u less other. elsewhere_now at t d u (rw (length_settled last mid new is.done) at less) other;
  };
} where
  borne_now : (at : ℕ) → at < length mid → (part_at new at).threads.borne ≡ bearings_in (part_at new at)
  borne_now at within =
      let next = part_settled last mid new at is.done within in
      ap (λ (p : ClusterPart). p.threads.borne) next ∙ sym (ap bearings_in next)

  held_now : (at : ℕ) → at < length mid → (part_at new at).holdings.noted ≡ (part_at new at).holdings.owners
  held_now at within =
      let next = part_settled last mid new at is.done within in
      ap (λ (p : ClusterPart). p.holdings.noted) next ∙ sym (ap (λ (p : ClusterPart). p.holdings.owners) next)

  same_bears : bears new ≡ bears mid
  same_bears = λ i t. bearing (nth no_thread (threads_settled last mid new is.done i) t)

  lent_now : (at t u : ℕ) → at < length mid → IsOne t → IsOne u → share_at new at t u ≡ contributed (bears new) (holder (holdings new)) t (part_at new at).lined.number u
  lent_now at t u within one other =
      let next = part_settled last mid new at is.done within in
      let number : (part_at new at).lined.number ≡ (part_at mid at).lined.number = ap (λ (p : ClusterPart). p.lined.number) next in
      ap (λ (p : ClusterPart). found_in_shares p.threads.shares t p.lined.number u) next
      ∙ is.shares.own at t u within one other
      ∙ ap (λ n. contributed (bears mid) (holder (holdings mid)) t n u) (sym number)
      ∙ ap (λ (f : ℕ → Bearing). contributed f (holder (holdings mid)) t (part_at new at).lined.number u) (sym same_bears)
      ∙ ap (λ (hs : List (List (Option Holding))). contributed (bears new) (holder hs) t (part_at new at).lined.number u) (sym (holdings_alike last mid new is.done))

  elsewhere_now : (at t d u : ℕ) → at < length mid → d ≢ (part_at new at).lined.number → found_in_shares (part_at new at).threads.shares t d u ≡ None
  elsewhere_now at t d u within other =
      let next = part_settled last mid new at is.done within in
      ap (λ (p : ClusterPart). found_in_shares p.threads.shares t d u) next
      ∙ is.shares.elsewhere at t d u within (λ q. other (q ∙ sym (ap (λ (p : ClusterPart). p.lined.number) next)))

  stood_now : (at : ℕ) → at < length mid → (part_at new at).threads.stood ≡ standings_in (part_at new at)
  stood_now at within =
      let next = part_settled last mid new at is.done within in
      ap (λ (p : ClusterPart). p.threads.stood) next ∙ sym (ap standings_in next)

  keyed_now : (at : ℕ) → at < length mid → (part_at new at).lined.number < length s.clusters → IsKeyed (key_of (part_at new at).threads.stood) (part_at new at).lined.line
  keyed_now at within known =
      let part = part_at mid at in
      let next = part_settled last mid new at is.done within in
      let number : (part_at new at).lined.number ≡ part.lined.number = ap (λ (p : ClusterPart). p.lined.number) next in
      let c = part.lined.number in
      let less : c < length s.clusters = rw number at known in
      let same : at ≡ c = (let both : Some at ≡ Some c = sym (number_found s.clusters mid at c (lie s.clusters mid is.laid_after) within refl) ∙ is.lent c less in cc (both)) in
      let held : (t : ℕ) → has (threads part.lined.line) t ≡ belongs c (nth_standing part.threads.stood t) = λ t. subst (λ i. has (threads (part_at mid i).lined.line) t ≡ belongs c (nth_standing (part_at mid i).threads.stood t)) (sym same) (line_held s k now before mid new last c is less t) in
      subst (λ (p : ClusterPart). IsKeyed (key_of p.threads.stood) p.lined.line) (sym next)
      (keyed_by_register part.threads.stood (standings_in part) last c part.lined held (line_keyed s k now before mid new last at is less))

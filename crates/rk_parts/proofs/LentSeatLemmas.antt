-- The processors of lent parts are those of the state that the parts stand for.
use Rattle.std.proofs.Common.{◌≡◌, ℕ, zero, suc, ◌+◌, ◌-◌, ◌<◌, ◌≤◌, List, [], ◌∷◌, ◌++◌, Bool, true, false, ◌==◌, Option, None, length, take, arith, refl, sym, ap, ◌∙◌, get_or, ⊎_elim}
use Rattle.std.specs.Bool.{if◌then◌else◌}
use Rattle.std.proofs.lemmas.Bool.{cases_lt}
use Rattle.std.proofs.lemmas.Bool.Decides.{nat_tests}
use Rattle.std.proofs.lemmas.List.{get_or_append_left, get_or-append-add, get_or-replicate, get_or_past, length-append, length-replicate}
use Rattle.rk_model.specs.declared.scenario.Scenario.{Scenario}
use Rattle.rk_model.specs.Names.{Table}
use Rattle.rk_model.specs.State.{ClusterState}
use Rattle.rk_model.specs.Scheduling.Seats.{all_cpus, cpu_count, cpu_at}
use Rattle.rk_model.specs.Text.Scenarios.{cpus_in}
use Rattle.rk_model.proofs.BooleanLemmas.{same_number}
use Rattle.rk_parts.specs.declared.parts.ClusterPart.{ClusterPart}
use Rattle.rk_groups.specs.declared.group.GroupPart.{GroupPart}
use Rattle.rk_groups.specs.GroupObjects.{listed}
use Rattle.rk_parts.specs.Joined.{cluster_of, numbered, clusters_by, joined}
use Rattle.rk_parts.specs.Lent.{layouts, AreLaid}
use Rattle.rk_parts.specs.Noted.{part_at}
use Rattle.rk_parts.specs.Seats.{is_seat, seat_in}
use Rattle.rk_parts.proofs.LayoutLemmas.{lie}

-- ---- clusters that have so many processors each

-- Each of the clusters that a function numbers from a number on has as many processors as the counts say.
abbrev HaveCounts : (ℕ → ClusterState) → ℕ → List ℕ → Type 0
HaveCounts f a counts = (i : ℕ) → i < length counts → length (f (a + i)).cpus ≡ get_or counts i 0

first_count : (f : ℕ → ClusterState) (a m : ℕ) (counts : List ℕ) → HaveCounts f a (m ∷ counts) → length (f a).cpus ≡ m
first_count f a m counts has =
    let e : a ≡ a + 0 = omega arith in
    ap (λ c. length (f c).cpus) e ∙ has 0 (omega arith)

later_counts : (f : ℕ → ClusterState) (a m : ℕ) (counts : List ℕ) → HaveCounts f a (m ∷ counts) → HaveCounts f (a + 1) counts
later_counts f a m counts has i h =
    let e : a + 1 + i ≡ a + suc i = omega arith in
    ap (λ c. length (f c).cpus) e ∙ has (suc i) (omega (arith, h))

-- how many processors they have together
cpus_listed : (f : ℕ → ClusterState) (a : ℕ) (counts : List ℕ) → HaveCounts f a counts → length (all_cpus (listed f a (length counts))) ≡ cpus_in counts
cpus_listed f a [] has = refl
cpus_listed f a (m ∷ counts) has =
    let rest = cpus_listed f (a + 1) counts (later_counts f a m counts has) in
    omega (arith, length-append (f a).cpus (all_cpus (listed f (a + 1) (length counts))), first_count f a m counts has, rest)

-- a processor of one of them, behind those of the clusters before it
cpu_listed : (f : ℕ → ClusterState) (a : ℕ) (counts : List ℕ) (i q : ℕ) → HaveCounts f a counts → i < length counts → q < get_or counts i 0 →
    get_or (all_cpus (listed f a (length counts))) (cpus_in (take i counts) + q) None ≡ get_or (f (a + i)).cpus q None
cpu_listed f a [] i q has within less = absurd (omega (arith, within))
cpu_listed f a (m ∷ counts) zero q has within less =
    let size = first_count f a m counts has in
    let here : q < length (f a).cpus = omega (arith, size, less) in
    let e : a ≡ a + 0 = omega arith in
    let z : 0 + q ≡ q = omega arith in
    rw z (get_or_append_left (f a).cpus (all_cpus (listed f (a + 1) (length counts))) None q here ∙ ap (λ c. get_or (f c).cpus q None) e)
cpu_listed f a (m ∷ counts) (suc i) q has within less =
    let rest = all_cpus (listed f (a + 1) (length counts)) in
    let size = first_count f a m counts has in
    let there : cpus_in (take (suc i) (m ∷ counts)) + q ≡ length (f a).cpus + (cpus_in (take i counts) + q) = omega (arith, size) in
    let e : a + 1 + i ≡ a + suc i = omega arith in
    ap (λ p. get_or ((f a).cpus ++ rest) p None) there
    ∙ get_or-append-add (f a).cpus rest (cpus_in (take i counts) + q) None
    ∙ cpu_listed f (a + 1) counts i q (later_counts f a m counts has) (omega (arith, within)) less
    ∙ ap (λ c. get_or (f c).cpus q None) e

-- ---- which cluster has a processor

-- The processor is one of a cluster, with so many of that cluster before it.
record IsOf (counts : List ℕ) (p : ℕ) : Type 0 where
  pub cluster : ℕ
  pub before : ℕ
  pub known : cluster < length counts
  pub less : before < get_or counts cluster 0
  pub is : p ≡ cpus_in (take cluster counts) + before

-- each processor is one of a cluster
of_one : (counts : List ℕ) (p : ℕ) → p < cpus_in counts → IsOf counts p
of_one [] p h = absurd (omega (arith, h))
of_one (m ∷ counts) p h = ⊎_elim first (λ more. later more (of_one counts (p - m) (omega (arith, h, more)))) (cases_lt p m) where
  first : p < m → IsOf (m ∷ counts) p
  first less = record { cluster = 0; before = p; known = omega arith; less = less; is = omega arith }

  later : m ≤ p → IsOf counts (p - m) → IsOf (m ∷ counts) p
  later more rest = record { cluster = suc rest.cluster; before = rest.before; known = omega (arith, rest.known); less = rest.less; is = omega (arith, rest.is, more) }

-- the processors of a cluster stand before those of a later one
stand_before : (counts : List ℕ) (c d : ℕ) → c < d → cpus_in (take c counts) + get_or counts c 0 ≤ cpus_in (take d counts)
stand_before [] zero d h = omega arith
stand_before [] (suc c) d h = omega arith
stand_before counts c zero h = absurd (omega (arith, h))
stand_before (m ∷ counts) zero (suc d) h = omega arith
stand_before (m ∷ counts) (suc c) (suc d) h = omega (arith, stand_before counts c d (omega (arith, h)))

-- and all of them within all processors
stand_within : (counts : List ℕ) (c : ℕ) → cpus_in (take c counts) + get_or counts c 0 ≤ cpus_in counts
stand_within [] zero = omega arith
stand_within [] (suc c) = omega arith
stand_within (m ∷ counts) zero = omega arith
stand_within (m ∷ counts) (suc c) = omega (arith, stand_within counts c)

-- ---- which part has a processor

-- whether a processor is one of so many
seat_inside : (first count p : ℕ) → first ≤ p → p < first + count → is_seat first count p ≡ true
seat_inside first count p low high = grind (arith, nat_tests, low, high)

seat_before : (first count p : ℕ) → p < first → is_seat first count p ≡ false
seat_before first count p h = grind (arith, nat_tests, h)

seat_behind : (first count p : ℕ) → first + count ≤ p → is_seat first count p ≡ false
seat_behind first count p h = grind (arith, nat_tests, h)

-- The part has the processors of its cluster, whose numbers follow on those of the clusters before it.
record Sits (counts : List ℕ) (part : ClusterPart) : Type 0 where
  pub count : length part.lined.cpus ≡ get_or counts part.lined.number 0
  pub first : part.lined.number < length counts → part.lined.first ≡ cpus_in (take part.lined.number counts)

-- what holds where its cluster is one of the state, and where it isn't and has no processors
either_part : {X : Type 0} (counts : List ℕ) (part : ClusterPart) → Sits counts part →
    (part.lined.first ≡ cpus_in (take part.lined.number counts) → X) → (length part.lined.cpus ≡ 0 → X) → X
either_part counts part sits known unknown = ⊎_elim (λ less. known (sits.first less)) (λ more. unknown (sits.count ∙ get_or_past counts part.lined.number 0 more)) (cases_lt part.lined.number (length counts))

-- a cluster without processors has none
no_seats : (first count p : ℕ) → count ≡ 0 → is_seat first count p ≡ false
no_seats first count p e = grind (arith, nat_tests, e)

-- where the part of a processor's cluster begins
begins_at : (counts : List ℕ) (part : ClusterPart) (p : ℕ) (of : IsOf counts p) → Sits counts part → (part.lined.number == of.cluster) ≡ true → part.lined.first ≡ cpus_in (take of.cluster counts)
begins_at counts part p of sits e =
    let same = same_number part.lined.number of.cluster e in
    sits.first (omega (arith, same, of.known)) ∙ ap (λ c. cpus_in (take c counts)) same

-- a processor of a cluster is one of the part of that cluster's number, and of no other
seat_of : (counts : List ℕ) (part : ClusterPart) (p : ℕ) (of : IsOf counts p) → Sits counts part → is_seat part.lined.first (length part.lined.cpus) p ≡ (part.lined.number == of.cluster)
seat_of counts part p of sits = by (part.lined.number == of.cluster) refl where
  first : ℕ
  first = part.lined.first

  count : ℕ
  count = length part.lined.cpus

  other : (part.lined.number == of.cluster) ≡ false → first ≡ cpus_in (take part.lined.number counts) → is_seat first count p ≡ false
  other e begins =
      ⊎_elim
      (λ less. seat_behind first count p (omega (arith, begins, sits.count, of.is, stand_before counts part.lined.number of.cluster less)))
      (λ more. (
      let less : of.cluster < part.lined.number = grind (arith, nat_tests, e, more) in
      seat_before first count p (omega (arith, begins, of.is, of.less, stand_before counts of.cluster part.lined.number less))))
      (cases_lt part.lined.number of.cluster)

  by : (b : Bool) → (part.lined.number == of.cluster) ≡ b → is_seat first count p ≡ b
  by true e =
      let same = same_number part.lined.number of.cluster e in
      let begins = begins_at counts part p of sits e in
      let size : count ≡ get_or counts of.cluster 0 = sits.count ∙ ap (λ c. get_or counts c 0) same in
      seat_inside first count p (omega (arith, begins, of.is)) (omega (arith, begins, size, of.is, of.less))
  by false e = either_part counts part sits (other e) (no_seats first count p)

-- a number behind all processors is none of a part
no_seat_of : (counts : List ℕ) (part : ClusterPart) (p : ℕ) → cpus_in counts ≤ p → Sits counts part → is_seat part.lined.first (length part.lined.cpus) p ≡ false
no_seat_of counts part p high sits =
    either_part counts part sits
    (λ begins. seat_behind part.lined.first (length part.lined.cpus) p (omega (arith, begins, sits.count, high, stand_within counts part.lined.number)))
    (no_seats part.lined.first (length part.lined.cpus) p)

-- each of the parts has the processors of its cluster
abbrev AllSit : List ℕ → List ClusterPart → Type 0
AllSit counts parts = (i : ℕ) → i < length parts → Sits counts (part_at parts i)

first_sits : (counts : List ℕ) (part : ClusterPart) (parts : List ClusterPart) → AllSit counts (part ∷ parts) → Sits counts part
first_sits counts part parts sit = sit 0 (omega arith)

later_sit : (counts : List ℕ) (part : ClusterPart) (parts : List ClusterPart) → AllSit counts (part ∷ parts) → AllSit counts parts
later_sit counts part parts sit i h = sit (suc i) (omega (arith, h))

-- the thread of a processor in the parts is that in the cluster which they stand for
seat_numbered : (counts : List ℕ) (parts : List ClusterPart) (p : ℕ) (of : IsOf counts p) → AllSit counts parts → seat_in parts p ≡ get_or (numbered counts parts of.cluster).cpus of.before None
seat_numbered counts [] p of sit = sym (get_or-replicate (get_or counts of.cluster 0) of.before None None of.less)
seat_numbered counts (part ∷ parts) p of sit = rw (seat_of counts part p of sits) (by (part.lined.number == of.cluster) refl (seat_numbered counts parts p of (later_sit counts part parts sit))) where
  sits : Sits counts part
  sits = first_sits counts part parts sit

  by : (b : Bool) → (part.lined.number == of.cluster) ≡ b → seat_in parts p ≡ get_or (numbered counts parts of.cluster).cpus of.before None →
      (if b then get_or part.lined.cpus (p - part.lined.first) None else seat_in parts p) ≡ get_or (if b then cluster_of part else numbered counts parts of.cluster).cpus of.before None
  by true e rest =
      let begins = begins_at counts part p of sits e in
      let place : p - part.lined.first ≡ of.before = omega (arith, begins, of.is) in
      ap (λ q. get_or part.lined.cpus q None) place
  by false e rest = rest

-- behind all processors they have none
no_seat_in : (counts : List ℕ) (parts : List ClusterPart) (p : ℕ) → cpus_in counts ≤ p → AllSit counts parts → seat_in parts p ≡ None
no_seat_in counts [] p high sit = refl
no_seat_in counts (part ∷ parts) p high sit = rw (no_seat_of counts part p high (first_sits counts part parts sit)) (no_seat_in counts parts p high (later_sit counts part parts sit))

-- ---- the state that the parts stand for

-- each cluster has its processors, whether its part is lent or not
numbered_counts : (counts : List ℕ) (parts : List ClusterPart) → AllSit counts parts → (c : ℕ) → length (numbered counts parts c).cpus ≡ get_or counts c 0
numbered_counts counts [] sit c = length-replicate (get_or counts c 0) None
numbered_counts counts (part ∷ parts) sit c = by (part.lined.number == c) refl (numbered_counts counts parts (later_sit counts part parts sit) c) where
  by : (b : Bool) → (part.lined.number == c) ≡ b → length (numbered counts parts c).cpus ≡ get_or counts c 0 → length (if b then cluster_of part else numbered counts parts c).cpus ≡ get_or counts c 0
  by true e rest = let same = same_number part.lined.number c e in (first_sits counts part parts sit).count ∙ ap (λ d. get_or counts d 0) same
  by false e rest = rest

all_sit : (counts : List ℕ) (parts : List ClusterPart) → AreLaid counts (layouts parts) → AllSit counts parts
all_sit counts parts laid = let is = lie counts parts laid in λ i h. record { count = is.count i h; first = is.first i h }

have_counts : (counts : List ℕ) (parts : List ClusterPart) → AllSit counts parts → HaveCounts (numbered counts parts) 0 counts
have_counts counts parts sit i h = let z : 0 + i ≡ i = omega arith in rw z (numbered_counts counts parts sit i)

-- behind all processors the parts have none
pub seats_end : (counts : List ℕ) (parts : List ClusterPart) (p : ℕ) → AreLaid counts (layouts parts) → cpus_in counts ≤ p → seat_in parts p ≡ None
seats_end counts parts p laid high = no_seat_in counts parts p high (all_sit counts parts laid)

-- how many processors there are
pub cpu_count_joined : (s : Scenario) (table : Table) (groups : List GroupPart) (parts : List ClusterPart) → AreLaid s.clusters (layouts parts) → cpu_count (joined s table parts groups) ≡ cpus_in s.clusters
unfolding clusters_by
cpu_count_joined s table groups parts laid = cpus_listed (numbered s.clusters parts) 0 s.clusters (have_counts s.clusters parts (all_sit s.clusters parts laid))

-- the thread that the parts have on a processor is the one that the state has there
pub seat_joined : (s : Scenario) (table : Table) (groups : List GroupPart) (parts : List ClusterPart) (p : ℕ) → AreLaid s.clusters (layouts parts) → seat_in parts p ≡ cpu_at (joined s table parts groups) p
unfolding clusters_by
seat_joined s table groups parts p laid = ⊎_elim (λ less. one (of_one counts p less)) none (cases_lt p (cpus_in counts)) where
  counts : List ℕ
  counts = s.clusters

  sit : AllSit counts parts
  sit = all_sit counts parts laid

  has : HaveCounts (numbered counts parts) 0 counts
  has = have_counts counts parts sit

  cpus : List (Option ℕ)
  cpus = all_cpus (listed (numbered counts parts) 0 (length counts))

  one : IsOf counts p → seat_in parts p ≡ get_or cpus p None
  one of =
      let z : 0 + of.cluster ≡ of.cluster = omega arith in
      seat_numbered counts parts p of sit
      ∙ ap (λ c. get_or (numbered counts parts c).cpus of.before None) (sym z)
      ∙ sym (cpu_listed (numbered counts parts) 0 counts of.cluster of.before has of.known of.less)
      ∙ ap (λ q. get_or cpus q None) (sym of.is)

  none : cpus_in counts ≤ p → seat_in parts p ≡ get_or cpus p None
  none high = no_seat_in counts parts p high sit ∙ sym (get_or_past cpus p None (omega (arith, high, cpus_listed (numbered counts parts) 0 counts has)))

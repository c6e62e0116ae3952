-- The parts of a state in which there is no task yet.
use Rattle.std.proofs.Common.{◌≡◌, ℕ, zero, suc, ◌+◌, ◌<◌, ◌≤◌, List, [], ◌∷◌, Bool, true, false, cond, ◌==◌, Option, None, length, map, take, replicate, get_or, arith, refl, sym, ap, ◌∙◌, subst, ⊎_elim}
use Rattle.std.proofs.lemmas.Bool.{false≢true, cases_lt}
use Rattle.std.proofs.lemmas.List.{length-replicate, length-map, get_or-map, get_or_past, ext_get_or}
use Rattle.rk_model.specs.declared.scenario.Scenario.{Scenario}
use Rattle.rk_model.specs.declared.settling.Standing.{Standing}
use Rattle.rk_model.specs.declared.state.Thread.{Thread}
use Rattle.rk_model.specs.Lists.{nth}
use Rattle.rk_model.specs.State.{SemaphoreState, no_thread, no_semaphore, no_barrier, no_partition, no_period}
use Rattle.rk_model.specs.Directives.Objects.{has_begun}
use Rattle.rk_model.specs.Scheduling.Priorities.{no_standing}
use Rattle.rk_model.specs.Histories.{places, free_cluster, vacant}
use Rattle.rk_model.specs.Text.Scenarios.{cpus_in}
use Rattle.rk_model.specs.Names.{no_objects}
use Rattle.rk_parts.specs.declared.parts.ClusterPart.{ClusterPart}
use Rattle.rk_parts.specs.declared.parts.AllParts.{AllParts}
use Rattle.rk_groups.specs.declared.group.GroupPart.{GroupPart}
use Rattle.rk_agg.specs.Shares.{found, no_shares, nones}
use Rattle.rk_agg.proofs.ShareLemmas.{found_nones}
use Rattle.rk_parts.specs.declared.bearing.Bearing.{Bearing}
use Rattle.rk_parts.specs.declared.holdings.Holding.{Holding}
use Rattle.rk_parts.specs.Contributions.{bears, contributed}
use Rattle.rk_parts.specs.Threads.{bearing, bearing_at, bearings_by, no_bearing, standing_at, standings_by, stands_by}
use Rattle.rk_places.specs.Stores.{none_live, group_of, stored_at}
use Rattle.rk_signal.specs.Barriers.{no_stored}
use Rattle.rk_groups.specs.GroupObjects.{listed, semaphore_group, semaphore_held, semaphores_of, barrier_of, barrier_group, barrier_held, barriers_of, partition_group, partition_held, partitions_of, period_group, period_held, periods_of}
use Rattle.rk_parts.specs.Joined.{cluster_of, placed_in, lives_in, held, numbered, present_of, threads_of, clusters_of, clusters_by, plain_of}
use Rattle.rk_parts.specs.Lent.{AreLaid, layouts, stored}
use Rattle.rk_parts.specs.Noted.{no_part, part_at, bearings_in, standings_in, key_of, IsKeyed, AreNoted, bare}
use Rattle.rk_parts.specs.Holdings.{AreHeld, first_one, holder, holdings, no_holdings, holding_of}
use Rattle.rk_parts.specs.Whole.{ticks_of, ticks_in, AreWhole}
use Rattle.rk_groups.proofs.ListedLemmas.{length-listed, get_or-listed}
use Rattle.rk_parts.proofs.MappedPartLemmas.{mapped_kept}
use Rattle.rk_parts.proofs.HeldLemmas.{held_nowhere, lives_nowhere, no_part_lives}
use Rattle.rk_parts.proofs.LayoutLemmas.{Lie, laid}
use Rattle.rk_parts.proofs.LentTimerLemmas.{numbered_found}
use Rattle.rk_parts.proofs.MarkLemmas.{nth_replicate}
use Rattle.rk_parts.proofs.SettledPartLemmas.{bare_at, present_bare, thread_any}
use Rattle.rk_parts.proofs.WholeLemmas.{lent_all, ticks_bare}
use Rattle.rk_kernel.specs.Made.{vacant_part, vacant_in, vacant_parts, vacant_groups}

-- ---- the processors in front of a cluster

-- the processors in front of the next cluster are those in front of one and its own
cpus_more : (counts : List ℕ) (i : ℕ) → cpus_in (take (suc i) counts) ≡ cpus_in (take i counts) + get_or counts i 0
cpus_more [] zero = refl
cpus_more [] (suc i) = refl
cpus_more (m ∷ counts) zero = omega arith
cpus_more (m ∷ counts) (suc i) = omega (arith, cpus_more counts i)

-- A part that was made is that of its cluster, where its first processor is the one behind those in front.
pub made_part : (counts : List ℕ) (number first count : ℕ) (part : ClusterPart) → first ≡ cpus_in (take number counts) → count ≡ get_or counts number 0 → bare part ≡ vacant_part number first count → bare part ≡ vacant_in counts number
made_part counts number first count part is_first is_count made = made ∙ ap (λ n. vacant_part number n count) is_first ∙ ap (vacant_part number (cpus_in (take number counts))) is_count

-- the first processor of the next cluster
pub next_first : (counts : List ℕ) (number first count : ℕ) → first ≡ cpus_in (take number counts) → count ≡ get_or counts number 0 → first + count ≡ cpus_in (take (suc number) counts)
next_first counts number first count is_first is_count = omega (arith, is_first, is_count, cpus_more counts number)

-- the second cluster has the processors behind those of the first
pub second_first : (counts : List ℕ) (count : ℕ) → count ≡ get_or counts 0 0 → count ≡ cpus_in (take 1 counts)
second_first counts count is_count = omega (arith, is_count, cpus_more counts 0)

-- ---- what stands in the vacant parts

-- These are the parts of all clusters, of so many processors each, and no thread stands in them.
pub record AreVacant (counts : List ℕ) (parts : List ClusterPart) : Type 0 where
  pub four : length parts ≡ 4
  pub each : (c : ℕ) → c < 4 → bare (part_at parts c) ≡ vacant_in counts c

in_vacant : (counts : List ℕ) (c : ℕ) → c < 4 → get_or (vacant_parts counts) c no_part ≡ vacant_in counts c
in_vacant counts zero low = refl
in_vacant counts (suc zero) low = refl
in_vacant counts (suc (suc zero)) low = refl
in_vacant counts (suc (suc (suc zero))) low = refl
in_vacant counts (suc (suc (suc (suc c)))) low = absurd (omega (arith, low))

are_vacant : (counts : List ℕ) (parts : List ClusterPart) → map bare parts ≡ vacant_parts counts → AreVacant counts parts
are_vacant counts parts made = record {
  four = sym (length-map parts bare) ∙ ap (λ (ps : List ClusterPart). length ps) made;
  each = λ c low. sym (bare_at parts c) ∙ ap (λ (ps : List ClusterPart). get_or ps c no_part) made ∙ in_vacant counts c low;
}

-- at each place there is a vacant part, or none
by_part : (counts : List ℕ) (parts : List ClusterPart) (P : ClusterPart → Type 0) (at : ℕ) → AreVacant counts parts → P (vacant_in counts at) → P no_part → P (bare (part_at parts at))
by_part counts parts P at vacant here past =
    ⊎_elim (λ low. subst P (sym (vacant.each at low)) here) (λ high. subst (λ (p : ClusterPart). P (bare p)) (sym (get_or_past parts at no_part (omega (arith, high, vacant.four)))) past) (cases_lt at 4)

-- no thread stands anywhere,
none_placed : (counts : List ℕ) (parts : List ClusterPart) (at t : ℕ) → AreVacant counts parts → placed_in (part_at parts at) t ≡ no_thread
none_placed counts parts at t vacant = by_part counts parts (λ p. placed_in p t ≡ no_thread) at vacant (nth_replicate no_thread 64 t) (no_part_lives t)

none_lives : (counts : List ℕ) (parts : List ClusterPart) (at t : ℕ) → AreVacant counts parts → lives_in (part_at parts at) t ≡ false
none_lives counts parts at t vacant = ap (λ (x : Thread). has_begun x.life) (none_placed counts parts at t vacant)

-- nor is one held
none_held : (counts : List ℕ) (parts : List ClusterPart) (t : ℕ) → AreVacant counts parts → held parts t ≡ no_thread
none_held counts parts t vacant = held_nowhere parts t (lives_nowhere parts t (λ at. none_lives counts parts at t vacant))

listed_none : (f : ℕ → Thread) (a n : ℕ) → ((t : ℕ) → f t ≡ no_thread) → listed f a n ≡ places n []
listed_none f a zero none = refl
listed_none f a (suc n) none = ap (λ x. x ∷ listed f (a + 1) n) (none a) ∙ ap (λ xs. no_thread ∷ xs) (listed_none f (a + 1) n none)

threads_vacant : (counts : List ℕ) (parts : List ClusterPart) → AreVacant counts parts → threads_of parts ≡ places 64 []
unfolding threads_of
threads_vacant counts parts vacant = listed_none (held parts) 1 64 (λ t. none_held counts parts t vacant)

-- each part is that of its cluster
number_vacant : (counts : List ℕ) (parts : List ClusterPart) (c : ℕ) → AreVacant counts parts → c < 4 → (part_at parts c).lined.number ≡ c
number_vacant counts parts c vacant low = ap (λ (p : ClusterPart). p.lined.number) (vacant.each c low)

-- Vacant parts are laid as parts of a state.
lie_vacant : (counts : List ℕ) (parts : List ClusterPart) → AreVacant counts parts → Lie counts parts
lie_vacant counts parts vacant = record {
  apart = λ i j hi hj e. sym (number i (low i hi)) ∙ e ∙ number j (low j hj);
  once = λ i j t a b. absurd (never i t a);
  home = λ i t h. absurd (never i t h);
  known = λ i t h. absurd (never i t h);
  blank = λ i t h. none_placed counts parts i t vacant;
  size = λ i h. ap (λ (p : ClusterPart). length p.threads.places) (vacant.each i (low i h)) ∙ length-replicate 64 no_thread;
  count = λ i h. ap (λ (p : ClusterPart). length p.lined.cpus) (vacant.each i (low i h)) ∙ length-replicate (get_or counts i 0) None ∙ ap (λ n. get_or counts n 0) (sym (number i (low i h)));
  first = λ i h k. ap (λ (p : ClusterPart). p.lined.first) (vacant.each i (low i h)) ∙ ap (λ n. cpus_in (take n counts)) (sym (number i (low i h)));
} where
  low : (i : ℕ) → i < length parts → i < 4
  low i h = omega (arith, h, vacant.four)

  number : (i : ℕ) → i < 4 → (part_at parts i).lined.number ≡ i
  number i h = number_vacant counts parts i vacant h

  never : (i t : ℕ) → lives_in (part_at parts i) t ≡ true → ⊥
  never i t h = false≢true (sym (none_lives counts parts i t vacant) ∙ h)

-- They stand for free clusters.
cluster_vacant : (counts : List ℕ) (parts : List ClusterPart) (c : ℕ) → AreVacant counts parts → length counts ≤ 4 → c < length counts → numbered counts parts c ≡ free_cluster (get_or counts c 0)
cluster_vacant counts parts c vacant few known =
    let found = lent_all counts parts c vacant.four (λ i low. number_vacant counts parts i vacant low) (laid counts parts (lie_vacant counts parts vacant)) few known in
    numbered_found counts parts c c found ∙ ap (λ (p : ClusterPart). cluster_of p) (vacant.each c (omega (arith, few, known)))

clusters_vacant : (counts : List ℕ) (parts : List ClusterPart) → AreVacant counts parts → length counts ≤ 4 → clusters_of counts parts ≡ map free_cluster counts
unfolding clusters_by
clusters_vacant counts parts vacant few =
    ext_get_or (free_cluster 0) (listed (numbered counts parts) 0 (length counts)) (map free_cluster counts) (length-listed (numbered counts parts) 0 (length counts) ∙ sym (length-map counts free_cluster))
    (λ i h.
    let less : i < length counts = rw length-listed at h in
    let e : 0 + i ≡ i = omega arith in
    get_or-listed (numbered counts parts) 0 (length counts) i (free_cluster 0) less ∙ ap (numbered counts parts) e
    ∙ cluster_vacant counts parts i vacant few less ∙ sym (get_or-map free_cluster counts i 0 (free_cluster 0) less))

-- what is the same for each of some indices is listed as so many times the same
listed_no : {X : Type 0} (none : X) (f : ℕ → X) (a n : ℕ) → ((i : ℕ) → f i ≡ none) → listed f a n ≡ replicate n none
listed_no none f a zero is = refl
listed_no none f a (suc n) is = ap (λ x. x ∷ listed f (a + 1) n) (is a) ∙ ap (λ xs. none ∷ xs) (listed_no none f (a + 1) n is)

-- It is noted that no thread stands, bears anything or holds a semaphore, and none contributes to a priority.
standings_none : (n : ℕ) → replicate n no_standing ≡ standings_by no_shares (replicate n no_thread)
unfolding standings_by
standings_none n =
    sym (listed_no no_standing (standing_at no_shares (replicate n no_thread)) 1 n (λ t. ap (λ (x : Thread). stands_by no_shares t (bearing x)) (nth_replicate no_thread n t)))
    ∙ ap (listed (standing_at no_shares (replicate n no_thread)) 1) (sym (length-replicate n no_thread))

none_stand : no_part.threads.stood ≡ standings_in no_part
unfolding standings_by
none_stand = refl

bearings_none : (n : ℕ) → replicate n no_bearing ≡ bearings_by (replicate n no_thread)
unfolding bearings_by
bearings_none n =
    sym (listed_no no_bearing (bearing_at (replicate n no_thread)) 1 n (λ t. ap bearing (nth_replicate no_thread n t)))
    ∙ ap (listed (bearing_at (replicate n no_thread)) 1) (sym (length-replicate n no_thread))

found_empty : (t c u : ℕ) → found [] t c u ≡ None
unfolding nones
found_empty t c u = found_nones 0 t c u

no_shares_in : (counts : List ℕ) (parts : List ClusterPart) (at t c u : ℕ) → AreVacant counts parts → found (part_at parts at).threads.shares t c u ≡ None
no_shares_in counts parts at t c u vacant = by_part counts parts (λ (p : ClusterPart). found p.threads.shares t c u ≡ None) at vacant (found_nones 16384 t c u) (found_empty t c u)

contributed_dead : (bear : ℕ → Bearing) (hold : ℕ → Option Holding) (t c u : ℕ) → has_begun (bear u).life ≡ false → contributed bear hold t c u ≡ None
unfolding contributed
contributed_dead bear hold t c u dead = rw dead refl

none_bears : (counts : List ℕ) (parts : List ClusterPart) (u : ℕ) → AreVacant counts parts → has_begun (bears parts u).life ≡ false
none_bears counts parts u vacant = ap (λ (x : Thread). has_begun x.life) (thread_any counts parts u (lie_vacant counts parts vacant) ∙ none_held counts parts u vacant)

noted_vacant : (count : ℕ) (counts : List ℕ) (parts : List ClusterPart) → AreVacant counts parts → AreNoted count parts
noted_vacant count counts parts vacant = record {
  borne = λ at. by_part counts parts (λ (p : ClusterPart). p.threads.borne ≡ bearings_in p) at vacant (bearings_none 64) (bearings_none 0);
  held = λ at. by_part counts parts (λ (p : ClusterPart). p.holdings.noted ≡ p.holdings.owners) at vacant refl refl;
  shares = record {
    own = λ at t u less one other.
        no_shares_in counts parts at t (part_at parts at).lined.number u vacant
        ∙ sym (contributed_dead (bears parts) (holder (holdings parts)) t (part_at parts at).lined.number u (none_bears counts parts u vacant));
    elsewhere = λ at t d u less other. no_shares_in counts parts at t d u vacant;
  };
  stood = λ at. by_part counts parts (λ (p : ClusterPart). p.threads.stood ≡ standings_in p) at vacant (standings_none 64) none_stand;
  keyed = λ at known. by_part counts parts (λ (p : ClusterPart). IsKeyed (key_of p.threads.stood) p.lined.line) at vacant tt tt;
}

-- ---- the groups

-- the first of some that is one of them is none, where each is
or_none : {X : Type 0} (none : X) (b : Bool) {x rest : X} → x ≡ none → rest ≡ none → cond b x rest ≡ none
or_none none true here more = here
or_none none false here more = more

-- no semaphore is held by vacant groups,
no_semaphore_held : (i : ℕ) → semaphore_held vacant_groups i ≡ no_semaphore
no_semaphore_held i = or_none no_semaphore (0 == group_of i) (placed 0) (or_none no_semaphore (1 == group_of i) (placed 1) (or_none no_semaphore (2 == group_of i) (placed 2) (or_none no_semaphore (3 == group_of i) (placed 3) refl))) where
  placed : (number : ℕ) → stored_at no_semaphore (none_live no_semaphore number) i ≡ no_semaphore
  placed number = nth_replicate no_semaphore 64 i

semaphores_vacant : (groups : List GroupPart) → groups ≡ vacant_groups → semaphores_of groups ≡ replicate 64 no_semaphore
unfolding semaphores_of
semaphores_vacant groups made = ap (λ (gs : List GroupPart). listed (semaphore_held gs) 1 64) made ∙ listed_no no_semaphore (semaphore_held vacant_groups) 1 64 no_semaphore_held

-- no barrier,
no_barrier_held : (i : ℕ) → barrier_held vacant_groups i ≡ no_barrier
no_barrier_held i = or_none no_barrier (0 == group_of i) (placed 0) (or_none no_barrier (1 == group_of i) (placed 1) (or_none no_barrier (2 == group_of i) (placed 2) (or_none no_barrier (3 == group_of i) (placed 3) refl))) where
  placed : (number : ℕ) → barrier_of (stored_at no_stored (none_live no_stored number) i) ≡ no_barrier
  placed number = ap barrier_of (nth_replicate no_stored 64 i)

barriers_vacant : (groups : List GroupPart) → groups ≡ vacant_groups → barriers_of groups ≡ replicate 64 no_barrier
unfolding barriers_of
barriers_vacant groups made = ap (λ (gs : List GroupPart). listed (barrier_held gs) 1 64) made ∙ listed_no no_barrier (barrier_held vacant_groups) 1 64 no_barrier_held

-- no partition
no_partition_held : (i : ℕ) → partition_held vacant_groups i ≡ no_partition
no_partition_held i = or_none no_partition (0 == group_of i) (placed 0) (or_none no_partition (1 == group_of i) (placed 1) (or_none no_partition (2 == group_of i) (placed 2) (or_none no_partition (3 == group_of i) (placed 3) refl))) where
  placed : (number : ℕ) → stored_at no_partition (none_live no_partition number) i ≡ no_partition
  placed number = nth_replicate no_partition 64 i

partitions_vacant : (groups : List GroupPart) → groups ≡ vacant_groups → partitions_of groups ≡ replicate 64 no_partition
unfolding partitions_of
partitions_vacant groups made = ap (λ (gs : List GroupPart). listed (partition_held gs) 1 64) made ∙ listed_no no_partition (partition_held vacant_groups) 1 64 no_partition_held

-- and no period
no_period_held : (i : ℕ) → period_held vacant_groups i ≡ no_period
no_period_held i = or_none no_period (0 == group_of i) (placed 0) (or_none no_period (1 == group_of i) (placed 1) (or_none no_period (2 == group_of i) (placed 2) (or_none no_period (3 == group_of i) (placed 3) refl))) where
  placed : (number : ℕ) → stored_at no_period (none_live no_period number) i ≡ no_period
  placed number = nth_replicate no_period 64 i

periods_vacant : (groups : List GroupPart) → groups ≡ vacant_groups → periods_of groups ≡ replicate 64 no_period
unfolding periods_of
periods_vacant groups made = ap (λ (gs : List GroupPart). listed (period_held gs) 1 64) made ∙ listed_no no_period (period_held vacant_groups) 1 64 no_period_held

-- ---- holdings

none_first : (o rest : Option Holding) → o ≡ None → rest ≡ None → first_one o rest ≡ None
none_first o rest here more = ap (λ x. first_one x rest) here ∙ more

-- no thread holds a semaphore, and none owns one
held_vacant : (counts : List ℕ) (parts : List ClusterPart) (groups : List GroupPart) → map bare parts ≡ vacant_parts counts → groups ≡ vacant_groups → AreHeld (holdings parts) (semaphores_of groups)
held_vacant counts parts groups clusters made = λ i.
    ap (λ hs. holder hs i) holds
    ∙ none_first _ _ (none i) (none_first _ _ (none i) (none_first _ _ (none i) (none_first _ _ (none i) refl)))
    ∙ sym (ap (λ (xs : List SemaphoreState). holding_of (nth no_semaphore xs i)) (semaphores_vacant groups made) ∙ ap (λ (x : SemaphoreState). holding_of x) (nth_replicate no_semaphore 64 i))
  where
    holds : holdings parts ≡ no_holdings.owners ∷ no_holdings.owners ∷ no_holdings.owners ∷ no_holdings.owners ∷ []
    holds = sym (mapped_kept (λ (p : ClusterPart). p.holdings.owners) bare (λ p. refl) parts) ∙ ap (λ (ps : List ClusterPart). holdings ps) clusters

    none : (i : ℕ) → nth None no_holdings.owners i ≡ None
    none i = nth_replicate None 64 i

-- ---- the parts that were made

-- All parts as they are made, where no task was started yet.
pub record AreMade (s : Scenario) (all : AllParts) : Type 0 where
  pub scenario : all.scenario ≡ s
  pub clusters : map bare all.clusters ≡ vacant_parts s.clusters
  pub groups : all.groups ≡ vacant_groups
  pub time : all.table.present ≡ 0
  pub names : all.table.names ≡ no_objects

present_made : (s : Scenario) (all : AllParts) → AreMade s all → present_of all.clusters ≡ 0
present_made s all made = sym (present_bare all.clusters) ∙ ap (λ (ps : List ClusterPart). present_of ps) made.clusters

-- They stand for the state in which there is no task yet,
pub plain_made : (s : Scenario) (all : AllParts) → AreMade s all → length s.clusters ≤ 4 → plain_of all ≡ vacant s
plain_made s all made few =
    let vacant = are_vacant s.clusters all.clusters made.clusters in
    let clusters : clusters_of all.scenario.clusters all.clusters ≡ map free_cluster s.clusters = ap (λ (t : Scenario). clusters_of t.clusters all.clusters) made.scenario ∙ clusters_vacant s.clusters all.clusters vacant few in
    let present = present_made s all made in
    let threads = threads_vacant s.clusters all.clusters vacant in
    let semaphores = semaphores_vacant all.groups made.groups in
    let barriers = barriers_vacant all.groups made.groups in
    let partitions = partitions_vacant all.groups made.groups in
    let periods = periods_vacant all.groups made.groups in
    λ i. record { scenario = made.scenario i; present = present i; clusters = clusters i; threads = threads i; semaphores = semaphores i; barriers = barriers i; partitions = partitions i; periods = periods i; table = made.names i }

-- are whole,
pub whole_made : (s : Scenario) (all : AllParts) → AreMade s all → AreWhole all
whole_made s all made =
    let vacant = are_vacant s.clusters all.clusters made.clusters in
    let present = present_made s all made in
    let ticks : ticks_of (stored all.clusters) ≡ replicate 4 0 = sym (ticks_bare all.clusters) ∙ ap (λ (ps : List ClusterPart). ticks_of (stored ps)) made.clusters in
    record {
      four = vacant.four;
      numbers = λ c low. number_vacant s.clusters all.clusters c vacant low;
      laid = subst (λ (t : Scenario). AreLaid t.clusters (layouts all.clusters)) (sym made.scenario) (laid s.clusters all.clusters (lie_vacant s.clusters all.clusters vacant));
      groups = ap (map barrier_group) made.groups;
      semaphores = ap (map semaphore_group) made.groups;
      partitions = ap (map partition_group) made.groups;
      periods = ap (map period_group) made.groups;
      held = held_vacant s.clusters all.clusters all.groups made.clusters made.groups;
      time = record {
        clusters = ticks ∙ ap (replicate 4) (sym present);
        groups = ap (λ (gs : List GroupPart). ticks_in gs) made.groups ∙ ap (replicate 4) (sym present);
        table = made.time ∙ sym present;
      };
    }

-- and note that no thread stands.
pub noted_made : (s : Scenario) (all : AllParts) → AreMade s all → AreNoted (length s.clusters) all.clusters
noted_made s all made = noted_vacant (length s.clusters) s.clusters all.clusters (are_vacant s.clusters all.clusters made.clusters)

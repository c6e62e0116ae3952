-- All parts of a running kernel, after a change and after settling.
use Rattle.std.proofs.Common.{◌≡◌, ℕ, ◌<◌, ◌≤◌, List, [], ◌∷◌, true, Some, length, map, replicate, arith, refl, sym, ap, ◌∙◌, subst}
use Rattle.std.proofs.lemmas.List.{length-map}
use Rattle.rk_model.specs.declared.scenario.Scenario.{Scenario}
use Rattle.rk_model.specs.Scheduling.Settling.{settle}
use Rattle.rk_parts.specs.declared.parts.ClusterPart.{ClusterPart}
use Rattle.rk_groups.specs.declared.group.GroupPart.{GroupPart}
use Rattle.rk_parts.specs.declared.parts.AllParts.{AllParts}
use Rattle.rk_parts.specs.Holdings.{AreHeld, holder, holdings}
use Rattle.rk_groups.specs.GroupObjects.{semaphore_group, barrier_group, partition_group, period_group, semaphores_of}
use Rattle.rk_parts.specs.Joined.{joined, present_of, plain_of}
use Rattle.rk_parts.specs.Lent.{number_in, AreLaid, layouts, Stored, stored_in, stored}
use Rattle.rk_parts.specs.Noted.{part_at, AreLent, AreNoted, LinesHold, settled_part, bare}
use Rattle.rk_groups.specs.Groups.{GroupFrame, group_frame, group_frames, holds_semaphores, holds_partitions, holds_periods, is_lent}
use Rattle.rk_parts.specs.Whole.{ticks_of, ticks_in, AreFour, AreWhole}
use Rattle.rk_groups.proofs.FoundGroupLemmas.{four_hold}
use Rattle.rk_parts.proofs.HoldingLemmas.{holdings_settled, held_kept}
use Rattle.rk_parts.proofs.LayoutLemmas.{lie}
use Rattle.rk_parts.proofs.LentTimerLemmas.{number_found}
use Rattle.rk_parts.specs.Contributions.{bears}
use Rattle.rk_parts.proofs.PriorityLemmas.{priorities_are}
use Rattle.rk_parts.proofs.SettledPartLemmas.{Settles, same_stored, part_settled, length_settled, layouts_settled, settled_joined, noted_settled}

-- the parts of all clusters of a state are found by their numbers
pub lent_all : (counts : List ℕ) (parts : List ClusterPart) (c : ℕ) → length parts ≡ 4 → ((c : ℕ) → c < 4 → (part_at parts c).lined.number ≡ c) → AreLaid counts (layouts parts) → length counts ≤ 4 → c < length counts → number_in parts c ≡ Some c
lent_all counts parts c four numbers laid few known = number_found counts parts c c (lie counts parts laid) (omega (arith, four, few, known)) (numbers c (omega (arith, few, known)))

pub lent_whole : (all : AllParts) (c : ℕ) → AreWhole all → length all.scenario.clusters ≤ 4 → c < length all.scenario.clusters → number_in all.clusters c ≡ Some c
lent_whole all c whole few known = lent_all all.scenario.clusters all.clusters c whole.four whole.numbers whole.laid few known

-- each index is that of a lent group
pub all_groups_lent : (all : AllParts) (i : ℕ) → AreWhole all → 1 ≤ i → i ≤ 64 → is_lent all.groups i ≡ true
all_groups_lent all i whole low high = four_hold barrier_group all.groups i whole.groups

pub all_semaphores_lent : (all : AllParts) (i : ℕ) → AreWhole all → 1 ≤ i → i ≤ 64 → holds_semaphores all.groups i ≡ true
all_semaphores_lent all i whole low high = four_hold semaphore_group all.groups i whole.semaphores

pub all_partitions_lent : (all : AllParts) (i : ℕ) → AreWhole all → 1 ≤ i → i ≤ 64 → holds_partitions all.groups i ≡ true
all_partitions_lent all i whole low high = four_hold partition_group all.groups i whole.partitions

pub all_periods_lent : (all : AllParts) (i : ℕ) → AreWhole all → 1 ≤ i → i ≤ 64 → holds_periods all.groups i ≡ true
all_periods_lent all i whole low high = four_hold period_group all.groups i whole.periods

-- what groups with the same frame have alike
pub ticks_framed : (old new : List GroupPart) → group_frames new ≡ group_frames old → ticks_in new ≡ ticks_in old
ticks_framed old new same = ticks_are new ∙ ap (λ (fs : List GroupFrame). map (λ (f : GroupFrame). f.present) fs) same ∙ sym (ticks_are old) where
  ticks_are : (groups : List GroupPart) → ticks_in groups ≡ map (λ (f : GroupFrame). f.present) (group_frames groups)
  ticks_are [] = refl
  ticks_are (g ∷ gs) = ap (λ ts. g.present ∷ ts) (ticks_are gs)

-- the same numbers, by one that their frames have
four_framed : (number : GroupPart → ℕ) (framed : GroupFrame → ℕ) (old new : List GroupPart) → ((g : GroupPart) → number g ≡ framed (group_frame g)) → group_frames new ≡ group_frames old → AreFour number old → AreFour number new
four_framed number framed old new is same four = by new ∙ ap (λ (fs : List GroupFrame). map framed fs) same ∙ sym (by old) ∙ four where
  by : (groups : List GroupPart) → map number groups ≡ map framed (group_frames groups)
  by [] = refl
  by (g ∷ gs) = rw (is g) (ap (λ ns. framed (group_frame g) ∷ ns) (by gs))

pub barriers_framed : (old new : List GroupPart) → group_frames new ≡ group_frames old → AreFour barrier_group old → AreFour barrier_group new
barriers_framed old new same four = four_framed barrier_group (λ (f : GroupFrame). f.number) old new (λ g. refl) same four

pub semaphores_framed : (old new : List GroupPart) → group_frames new ≡ group_frames old → AreFour semaphore_group old → AreFour semaphore_group new
semaphores_framed old new same four = four_framed semaphore_group (λ (f : GroupFrame). f.semaphores) old new (λ g. refl) same four

pub partitions_framed : (old new : List GroupPart) → group_frames new ≡ group_frames old → AreFour partition_group old → AreFour partition_group new
partitions_framed old new same four = four_framed partition_group (λ (f : GroupFrame). f.partitions) old new (λ g. refl) same four

pub periods_framed : (old new : List GroupPart) → group_frames new ≡ group_frames old → AreFour period_group old → AreFour period_group new
periods_framed old new same four = four_framed period_group (λ (f : GroupFrame). f.periods) old new (λ g. refl) same four

-- ---- ticks

pub ticks_bare : (parts : List ClusterPart) → ticks_of (stored (map bare parts)) ≡ ticks_of (stored parts)
ticks_bare [] = refl
ticks_bare (p ∷ ps) = ap (λ ts. p.present ∷ ts) (ticks_bare ps)

ticks_part_settled : (last : List ℕ) (parts : List ClusterPart) → ticks_of (stored (map (settled_part last) parts)) ≡ ticks_of (stored parts)
ticks_part_settled last [] = refl
ticks_part_settled last (p ∷ ps) = ap (λ ts. p.present ∷ ts) (ticks_part_settled last ps)

ticks_settled : (last : List ℕ) (mid new : List ClusterPart) → map bare new ≡ map (settled_part last) mid → ticks_of (stored new) ≡ ticks_of (stored mid)
ticks_settled last mid new done = sym (ticks_bare new) ∙ ap (λ (ps : List ClusterPart). ticks_of (stored ps)) done ∙ ticks_part_settled last mid

-- the first of these ticks
abbrev first_tick : List ℕ → ℕ
first_tick [] = 0
first_tick (t ∷ ts) = t

present_first : (parts : List ClusterPart) → present_of parts ≡ first_tick (ticks_of (stored parts))
present_first [] = refl
present_first (p ∷ ps) = refl

-- ---- a change and settling

-- All parts after a change: they are laid as parts of the state, each semaphore is held by its owner, what is contributed to priorities is what the threads contribute, and what they store and what no directive touches is as before.
pub record Keeps (before mid : AllParts) : Type 0 where
  pub shares : AreLent (bears mid.clusters) (holder (holdings mid.clusters)) mid.clusters
  pub laid : AreLaid before.scenario.clusters (layouts mid.clusters)
  pub kept : stored mid.clusters ≡ stored before.clusters
  pub held : AreHeld (holdings mid.clusters) (semaphores_of mid.groups)
  pub scenario : mid.scenario ≡ before.scenario
  pub groups : group_frames mid.groups ≡ group_frames before.groups
  pub table : mid.table.present ≡ before.table.present

length_kept : (old new : List ClusterPart) → stored new ≡ stored old → length new ≡ length old
length_kept old new e = sym (length-map new stored_in) ∙ ap (λ (ss : List Stored). length ss) e ∙ length-map old stored_in

numbers_kept : (before mid : AllParts) → AreWhole before → Keeps before mid → (c : ℕ) → c < 4 → (part_at mid.clusters c).lined.number ≡ c
numbers_kept before mid whole keeps c low = ap (λ (x : Stored). x.lined.number) (same_stored before.clusters mid.clusters c keeps.kept) ∙ whole.numbers c low

four_kept : (before mid : AllParts) → AreWhole before → Keeps before mid → length mid.clusters ≡ 4
four_kept before mid whole keeps = length_kept before.clusters mid.clusters keeps.kept ∙ whole.four

-- they are whole after settling,
pub whole_settled : (before mid : AllParts) (new : List ClusterPart) (last : List ℕ) → AreWhole before → Keeps before mid → map bare new ≡ map (settled_part last) mid.clusters → AreWhole (record mid { clusters = new })
whole_settled before mid new last whole keeps done =
    let four = four_kept before mid whole keeps in
    let ticks : ticks_of (stored new) ≡ ticks_of (stored before.clusters) = ticks_settled last mid.clusters new done ∙ ap (λ (ss : List Stored). ticks_of ss) keeps.kept in
    let present : present_of new ≡ present_of before.clusters = present_first new ∙ ap first_tick ticks ∙ sym (present_first before.clusters) in
    record {
      four = length_settled last mid.clusters new done ∙ four;
      numbers = λ c low. ap (λ (p : ClusterPart). p.lined.number) (part_settled last mid.clusters new c done (omega (arith, four, low))) ∙ numbers_kept before mid whole keeps c low;
      laid = subst (λ (s : Scenario). AreLaid s.clusters (layouts new)) (sym keeps.scenario) (subst (AreLaid before.scenario.clusters) (sym (layouts_settled last mid.clusters new done)) keeps.laid);
      groups = barriers_framed before.groups mid.groups keeps.groups whole.groups;
      semaphores = semaphores_framed before.groups mid.groups keeps.groups whole.semaphores;
      partitions = partitions_framed before.groups mid.groups keeps.groups whole.partitions;
      periods = periods_framed before.groups mid.groups keeps.groups whole.periods;
      held = held_kept (holdings mid.clusters) (holdings new) (semaphores_of mid.groups) (semaphores_of mid.groups) (holdings_settled last mid.clusters new done) (λ i. refl) keeps.held;
      time = record {
        clusters = ticks ∙ whole.time.clusters ∙ ap (replicate 4) (sym present);
        groups = ticks_framed before.groups mid.groups keeps.groups ∙ whole.time.groups ∙ ap (replicate 4) (sym present);
        table = keeps.table ∙ whole.time.table ∙ sym present;
      };
    }

settles : (before mid : AllParts) (new : List ClusterPart) (last : List ℕ) → AreWhole before → AreNoted (length before.scenario.clusters) before.clusters → LinesHold (plain_of before) → length before.scenario.clusters ≤ 4 → Keeps before mid → map bare new ≡ map (settled_part last) mid.clusters →
    Settles before.scenario (plain_of before) (joined before.scenario mid.table.names mid.clusters mid.groups) before.clusters mid.clusters new last
settles before mid new last whole noted lines few keeps done = record {
  prios = priorities_are before.scenario before.table.names before.groups before.clusters whole.held noted.shares;
  prios_after = priorities_are before.scenario mid.table.names mid.groups mid.clusters keeps.held keeps.shares;
  threads_after = refl;
  shares = keeps.shares;
  laid = whole.laid;
  laid_after = keeps.laid;
  lent = λ c known. lent_all before.scenario.clusters mid.clusters c (four_kept before mid whole keeps) (numbers_kept before mid whole keeps) keeps.laid few known;
  noted = noted;
  kept = keeps.kept;
  lines = lines;
  threads = refl;
  clusters = refl;
  done = done;
}

-- stand for the settled state,
pub plain_settled : (before mid : AllParts) (new : List ClusterPart) (last : List ℕ) → AreWhole before → AreNoted (length before.scenario.clusters) before.clusters → LinesHold (plain_of before) → length before.scenario.clusters ≤ 4 → Keeps before mid → map bare new ≡ map (settled_part last) mid.clusters →
    plain_of (record mid { clusters = new }) ≡ settle (plain_of before) (plain_of mid) last
plain_settled before mid new last whole noted lines few keeps done =
    let is = settles before mid new last whole noted lines few keeps done in
    subst (λ (s : Scenario). joined s mid.table.names new mid.groups ≡ settle (plain_of before) (joined s mid.table.names mid.clusters mid.groups) last) (sym keeps.scenario)
    (settled_joined before.scenario mid.table.names mid.groups (plain_of before) before.clusters mid.clusters new last is)

-- and note how their threads stand.
pub all_noted_settled : (before mid : AllParts) (new : List ClusterPart) (last : List ℕ) → AreWhole before → AreNoted (length before.scenario.clusters) before.clusters → LinesHold (plain_of before) → length before.scenario.clusters ≤ 4 → Keeps before mid → map bare new ≡ map (settled_part last) mid.clusters →
    AreNoted (length mid.scenario.clusters) new
all_noted_settled before mid new last whole noted lines few keeps done =
    subst (λ (s : Scenario). AreNoted (length s.clusters) new) (sym keeps.scenario)
    (noted_settled before.scenario (plain_of before) (joined before.scenario mid.table.names mid.clusters mid.groups) before.clusters mid.clusters new last (settles before mid new last whole noted lines few keeps done))

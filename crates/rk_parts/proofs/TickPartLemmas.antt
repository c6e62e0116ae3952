-- Parts with another tick.
use Rattle.std.proofs.Common.{◌≡◌, ℕ, zero, suc, ◌+◌, ◌<◌, List, [], ◌∷◌, ◌++◌, ◌==◌, length, map, take, drop, replicate, arith, refl, sym, ap, ◌∙◌, get_or, set, subst, append_assoc}
use Rattle.std.specs.Bool.{if◌then◌else◌}
use Rattle.std.proofs.lemmas.List.{length-map, drop_more, take_more_set, drop-set-lt}
use Rattle.rk_model.specs.declared.scenario.Scenario.{Scenario}
use Rattle.rk_parts.specs.declared.parts.ClusterPart.{ClusterPart}
use Rattle.rk_groups.specs.declared.group.GroupPart.{GroupPart}
use Rattle.rk_parts.specs.declared.parts.AllParts.{AllParts}
use Rattle.rk_model.specs.Lists.{nth}
use Rattle.rk_model.specs.State.{Plain, SemaphoreState, no_semaphore, no_barrier, no_partition, no_period, no_thread}
use Rattle.rk_parts.specs.Contributions.{bears}
use Rattle.rk_parts.specs.Holdings.{holder, holding_of, holdings}
use Rattle.rk_parts.specs.Threads.{bearing}
use Rattle.rk_groups.specs.GroupObjects.{semaphore_group, semaphore_in, semaphores_of, barrier_group, barrier_in, barriers_of, partition_group, partition_in, partitions_of, period_group, period_in, periods_of, held_by}
use Rattle.rk_parts.specs.Joined.{present_of, threads_of, clusters_of, plain_of}
use Rattle.rk_parts.specs.Lent.{AreLaid, layout, layouts, stored}
use Rattle.rk_parts.specs.Noted.{part_at, bearings_in, standings_in, key_of, IsKeyed, AreNoted}
use Rattle.rk_parts.specs.Whole.{AreWhole, AreFour, ticks_of, ticks_in, at_tick, group_at_tick}
use Rattle.rk_places.specs.Stores.{group_of}
use Rattle.rk_groups.proofs.FoundGroupLemmas.{semaphores_same, barriers_same, partitions_same, periods_same}
use Rattle.rk_parts.proofs.HoldingLemmas.{held_kept}
use Rattle.rk_parts.proofs.MappedPartLemmas.{mapped_kept, LeavesThreads, threads_mapped, clusters_mapped}
use Rattle.rk_parts.proofs.PutLemmas.{Ranked, keys_in, lent_alike, told_in}

-- one more of a list is changed
pub one_mapped : {X : Type 0} (f : X → X) (xs : List X) (i : ℕ) (x next : X) (all : List X) → i < length xs → x ≡ get_or xs i x → next ≡ f x →
    take i xs ++ map f (drop i xs) ≡ all → take (i + 1) (set xs i next) ++ map f (drop (i + 1) (set xs i next)) ≡ all
one_mapped f xs i x next all within is done so_far =
    let a = take_more_set xs i next within in
    let b : drop (i + 1) (set xs i next) ≡ drop (i + 1) xs = drop-set-lt (i + 1) xs i next (omega arith) in
    let d : map f (drop i xs) ≡ f x ∷ map f (drop (i + 1) xs) = ap (map f) (drop_more xs i x within) ∙ ap (λ y. f y ∷ map f (drop (i + 1) xs)) (sym is) in
    rw (a, b, append_assoc, done) (rw d at so_far)

leaves : (n : ℕ) → LeavesThreads (at_tick n)
leaves n = record { threads = λ p. refl; lined = λ p. refl; timers = λ p. refl }

present_tick : (n m : ℕ) (parts : List ClusterPart) → length parts ≡ suc m → present_of (map (at_tick n) parts) ≡ n
present_tick n m [] size = let no : ⊥ = cc in absurd no
present_tick n m (p ∷ ps) size = refl

ticks_tick : (n : ℕ) (parts : List ClusterPart) → ticks_of (stored (map (at_tick n) parts)) ≡ replicate (length parts) n
ticks_tick n [] = refl
ticks_tick n (p ∷ ps) = ap (λ ts. n ∷ ts) (ticks_tick n ps)

groups_tick : (n : ℕ) (groups : List GroupPart) → ticks_in (map (group_at_tick n) groups) ≡ replicate (length groups) n
groups_tick n [] = refl
groups_tick n (g ∷ gs) = ap (λ ts. n ∷ ts) (groups_tick n gs)

tick_at : {X : Type 0} (f : ClusterPart → X) (n : ℕ) (parts : List ClusterPart) (i : ℕ) → ((p : ClusterPart) → f (at_tick n p) ≡ f p) → f (part_at (map (at_tick n) parts) i) ≡ f (part_at parts i)
tick_at f n [] i same = refl
tick_at f n (p ∷ ps) zero same = same p
tick_at f n (p ∷ ps) (suc i) same = tick_at f n ps i same

held_by_groups : {X : Type 0} (number : GroupPart → ℕ) (there : GroupPart → ℕ → X) (none : X) (n : ℕ) → ((g : GroupPart) → number (group_at_tick n g) ≡ number g) → ((g : GroupPart) (i : ℕ) → there (group_at_tick n g) i ≡ there g i) → (groups : List GroupPart) (i : ℕ) → held_by number there none (map (group_at_tick n) groups) i ≡ held_by number there none groups i
held_by_groups number there none n same alike [] i = refl
held_by_groups number there none n same alike (g ∷ gs) i = rw (same g, alike g i) (ap (λ rest. if number g == group_of i then there g i else rest) (held_by_groups number there none n same alike gs i))

-- the groups have the same numbers
four_tick : (number : GroupPart → ℕ) (n : ℕ) (old new : List GroupPart) → ((g : GroupPart) → number (group_at_tick n g) ≡ number g) → new ≡ map (group_at_tick n) old → AreFour number old → AreFour number new
four_tick number n old new same ticked four = ap (map number) ticked ∙ by old ∙ four where
  by : (groups : List GroupPart) → map number (map (group_at_tick n) groups) ≡ map number groups
  by [] = refl
  by (g ∷ gs) = rw (same g) (ap (λ ns. number g ∷ ns) (by gs))

semaphores_tick : (n : ℕ) (groups : List GroupPart) → semaphores_of (map (group_at_tick n) groups) ≡ semaphores_of groups
semaphores_tick n groups = semaphores_same groups (map (group_at_tick n) groups) (held_by_groups semaphore_group semaphore_in no_semaphore n (λ g. refl) (λ g i. refl) groups)

barriers_tick : (n : ℕ) (groups : List GroupPart) → barriers_of (map (group_at_tick n) groups) ≡ barriers_of groups
barriers_tick n groups = barriers_same groups (map (group_at_tick n) groups) (held_by_groups barrier_group barrier_in no_barrier n (λ g. refl) (λ g i. refl) groups)

partitions_tick : (n : ℕ) (groups : List GroupPart) → partitions_of (map (group_at_tick n) groups) ≡ partitions_of groups
partitions_tick n groups = partitions_same groups (map (group_at_tick n) groups) (held_by_groups partition_group partition_in no_partition n (λ g. refl) (λ g i. refl) groups)

periods_tick : (n : ℕ) (groups : List GroupPart) → periods_of (map (group_at_tick n) groups) ≡ periods_of groups
periods_tick n groups = periods_same groups (map (group_at_tick n) groups) (held_by_groups period_group period_in no_period n (λ g. refl) (λ g i. refl) groups)

-- all parts with another tick stand for the state with that tick,
pub state_tick : (n : ℕ) (old new : AllParts) → AreWhole old → new.clusters ≡ map (at_tick n) old.clusters → new.groups ≡ map (group_at_tick n) old.groups → new.scenario ≡ old.scenario → new.table.names ≡ old.table.names → plain_of new ≡ (let k : Plain = record (plain_of old) { present = n } in k)
state_tick n old new whole clusters groups scenario names =
    let tick : present_of new.clusters ≡ n = ap present_of clusters ∙ present_tick n 3 old.clusters whole.four in
    let cs : clusters_of new.scenario.clusters new.clusters ≡ clusters_of old.scenario.clusters old.clusters =
    ap (λ (s : Scenario). clusters_of s.clusters new.clusters) scenario ∙ ap (λ (ps : List ClusterPart). clusters_of old.scenario.clusters ps) clusters ∙ clusters_mapped (at_tick n) (leaves n) old.scenario.clusters old.clusters in
    let ts : threads_of new.clusters ≡ threads_of old.clusters = ap (λ (ps : List ClusterPart). threads_of ps) clusters ∙ threads_mapped (at_tick n) (leaves n) old.clusters in
    let ss : semaphores_of new.groups ≡ semaphores_of old.groups = ap (λ (gs : List GroupPart). semaphores_of gs) groups ∙ semaphores_tick n old.groups in
    let bs : barriers_of new.groups ≡ barriers_of old.groups = ap (λ (gs : List GroupPart). barriers_of gs) groups ∙ barriers_tick n old.groups in
    let qs : partitions_of new.groups ≡ partitions_of old.groups = ap (λ (gs : List GroupPart). partitions_of gs) groups ∙ partitions_tick n old.groups in
    let es : periods_of new.groups ≡ periods_of old.groups = ap (λ (gs : List GroupPart). periods_of gs) groups ∙ periods_tick n old.groups in
    λ i. record { scenario = scenario i; present = tick i; clusters = cs i; threads = ts i; semaphores = ss i; barriers = bs i; partitions = qs i; periods = es i; table = names i }

-- are whole
pub whole_tick : (n : ℕ) (old new : AllParts) → AreWhole old → new.clusters ≡ map (at_tick n) old.clusters → new.groups ≡ map (group_at_tick n) old.groups → new.table.present ≡ n → new.scenario ≡ old.scenario → AreWhole new
whole_tick n old new whole clusters groups table scenario =
    let tick : present_of new.clusters ≡ n = ap present_of clusters ∙ present_tick n 3 old.clusters whole.four in
    let four : length old.groups ≡ 4 = sym (length-map old.groups (λ (group : GroupPart). group.present)) ∙ ap (λ (ts : List ℕ). length ts) whole.time.groups in
    record {
      four = ap (λ (ps : List ClusterPart). length ps) clusters ∙ length-map old.clusters (at_tick n) ∙ whole.four;
      numbers = λ c h. ap (λ (ps : List ClusterPart). (part_at ps c).lined.number) clusters ∙ tick_at (λ (p : ClusterPart). p.lined.number) n old.clusters c (λ p. refl) ∙ whole.numbers c h;
      laid = subst (λ (s : Scenario). AreLaid s.clusters (layouts new.clusters)) (sym scenario) (subst (AreLaid old.scenario.clusters) (sym (ap (λ (ps : List ClusterPart). layouts ps) clusters ∙ mapped_kept layout (at_tick n) (λ p. refl) old.clusters)) whole.laid);
      groups = four_tick barrier_group n old.groups new.groups (λ g. refl) groups whole.groups;
      semaphores = four_tick semaphore_group n old.groups new.groups (λ g. refl) groups whole.semaphores;
      partitions = four_tick partition_group n old.groups new.groups (λ g. refl) groups whole.partitions;
      periods = four_tick period_group n old.groups new.groups (λ g. refl) groups whole.periods;
      held = held_kept (holdings old.clusters) (holdings new.clusters) (semaphores_of old.groups) (semaphores_of new.groups) (ap (λ (ps : List ClusterPart). holdings ps) clusters ∙ mapped_kept (λ (p : ClusterPart). p.holdings.owners) (at_tick n) (λ p. refl) old.clusters)
          (λ i. ap (λ (ss : List SemaphoreState). holding_of (nth no_semaphore ss i)) (ap (λ (gs : List GroupPart). semaphores_of gs) groups ∙ semaphores_tick n old.groups)) whole.held;
      time = record {
        clusters = ap (λ (ps : List ClusterPart). ticks_of (stored ps)) clusters ∙ ticks_tick n old.clusters ∙ ap (λ m. replicate m n) whole.four ∙ ap (replicate 4) (sym tick);
        groups = ap (λ (gs : List GroupPart). ticks_in gs) groups ∙ groups_tick n old.groups ∙ ap (λ m. replicate m n) four ∙ ap (replicate 4) (sym tick);
        table = table ∙ sym tick;
      };
    }

-- and are noted as before.
pub noted_tick : (n count : ℕ) (parts : List ClusterPart) → AreNoted count parts → AreNoted count (map (at_tick n) parts)
noted_tick n count parts noted = record {
  stood = λ at. tick_at (λ (p : ClusterPart). p.threads.stood) n parts at (λ p. refl) ∙ noted.stood at ∙ sym (tick_at standings_in n parts at (λ p. refl));
  borne = λ at. tick_at (λ (p : ClusterPart). p.threads.borne) n parts at (λ p. refl) ∙ noted.borne at ∙ sym (tick_at bearings_in n parts at (λ p. refl));
  held = λ at. tick_at (λ (p : ClusterPart). p.holdings.noted) n parts at (λ p. refl) ∙ noted.held at ∙ sym (tick_at (λ (p : ClusterPart). p.holdings.owners) n parts at (λ p. refl));
  shares = lent_alike (bears parts) (bears (map (at_tick n) parts)) (holder (holdings parts)) (holder (holdings (map (at_tick n) parts))) parts (map (at_tick n) parts)
      (length-map parts (at_tick n))
      (λ at. tick_at told_in n parts at (λ p. refl))
      (λ i t. bearing (nth no_thread (threads_mapped (at_tick n) (record { threads = λ p. refl; lined = λ p. refl; timers = λ p. refl }) parts i) t))
      (λ i. holder (mapped_kept (λ (p : ClusterPart). p.holdings.owners) (at_tick n) (λ p. refl) parts i))
      noted.shares;
  keyed = λ at known. subst (λ (k : Ranked). IsKeyed (key_of k.stood) k.line) (sym (tick_at keys_in n parts at (λ p. refl))) (noted.keyed at (rw (tick_at (λ (p : ClusterPart). p.lined.number) n parts at (λ p. refl)) at known));
}

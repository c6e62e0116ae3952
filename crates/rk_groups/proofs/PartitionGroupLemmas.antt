-- The partitions of lent groups, and what a change of one of them does.
use Rattle.std.proofs.Common.{◌≡◌, ℕ, ◌≤◌, List, true, cond, ◌==◌, Some, None, length, subst, arith, refl, sym, ap, ◌∙◌, get_or, set}
use Rattle.std.proofs.lemmas.Bool.{false≢true}
use Rattle.rk_model.specs.Lists.{with_nth}
use Rattle.rk_model.specs.State.{PartitionState, no_semaphore, no_barrier, no_partition, no_period}
use Rattle.rk_model.proofs.IndexLemmas.{nth-with_other, nth-with_same}
use Rattle.rk_places.specs.Stores.{Store, IsOfGroup, IsStoreOf, put_at}
use Rattle.rk_groups.specs.declared.group.GroupPart.{GroupPart}
use Rattle.rk_groups.specs.GroupObjects.{semaphore_group, semaphore_in, barrier_group, barrier_in, partition_group, partition_in, partition_held, partitions_of, partition_lent, period_group, period_in}
use Rattle.rk_groups.specs.Groups.{no_group, group_at, partitions_in, holds_partitions, PutsPartition}
use Rattle.rk_groups.proofs.FoundGroupLemmas.{nth-listed, put-listed, found_number, found_inside, found_holds, nowhere_holds, never_held, holds_there, holds_one, semaphores_same, barriers_same, periods_same, frames_same}
use Rattle.rk_groups.proofs.ListedLemmas.{get_or-any, length-listed}

-- The partition of an index in the state that groups stand for.
partition_is_held : (groups : List GroupPart) (i : ℕ) → 1 ≤ i → i ≤ 64 → partition_lent groups i ≡ partition_held groups i
unfolding partitions_of
partition_is_held groups i low high = nth-listed (partition_held groups) no_partition i low high

-- there are 64 places for partitions
pub length_partitions : (groups : List GroupPart) → length (partitions_of groups) ≡ 64
unfolding partitions_of
length_partitions groups = length-listed (partition_held groups) 1 64

-- ---- the group of an index

-- the group at a place, whatever stands for none
group_is : (groups : List GroupPart) (at i : ℕ) (group : GroupPart) → partitions_in groups i ≡ Some at → group_at groups at ≡ get_or groups at group
group_is groups at i group found = get_or-any groups at no_group group (found_inside partition_group groups at i found)

-- the partition of an index, where its group is found,
pub partition_stands : (groups : List GroupPart) (at i : ℕ) (group : GroupPart) → 1 ≤ i → i ≤ 64 → Some at ≡ partitions_in groups i → partition_in (get_or groups at group) i ≡ partition_lent groups i
partition_stands groups at i group low high found =
    sym (partition_is_held groups i low high ∙ found_holds partition_group partition_in no_partition groups at i (sym found) ∙ ap (λ (g : GroupPart). partition_in g i) (group_is groups at i group (sym found)))

-- and where it isn't;
pub partition_nowhere : (groups : List GroupPart) (i : ℕ) → 1 ≤ i → i ≤ 64 → partitions_in groups i ≡ None → partition_lent groups i ≡ no_partition
partition_nowhere groups i low high none = partition_is_held groups i low high ∙ nowhere_holds partition_group partition_in no_partition groups i none

-- the index is that of the group
pub of_partitions : (groups : List GroupPart) (at i : ℕ) (group : GroupPart) → 1 ≤ i → i ≤ 64 → Some at ≡ partitions_in groups i → IsOfGroup (get_or groups at group).partitions.group i
of_partitions groups at i group low high found =
    record { low = low; high = high; of = sym (found_number partition_group groups at i (sym found)) ∙ ap (λ (g : GroupPart). g.partitions.group) (group_is groups at i group (sym found)) }

-- a group that is lent is found, and so is that of a partition that lives
pub never_lent : (groups : List GroupPart) (i : ℕ) → partitions_in groups i ≡ None → holds_partitions groups i ≡ true → ⊥
never_lent groups i none lent = never_held partition_group groups i none lent

pub never_live : (groups : List GroupPart) (i : ℕ) → 1 ≤ i → i ≤ 64 → partitions_in groups i ≡ None → (partition_lent groups i).live ≡ true → ⊥
never_live groups i low high none live = false≢true (sym (ap (λ (p : PartitionState). p.live) (partition_nowhere groups i low high none)) ∙ live)

-- ---- a change of a partition

-- where the partitions that groups hold are those of others but for one, so are those of the state
partitions_put : (old new : List GroupPart) (i : ℕ) (p : PartitionState) → 1 ≤ i → ((u : ℕ) → partition_held new u ≡ cond (u == i) p (partition_held old u)) → partitions_of new ≡ with_nth (partitions_of old) i p
unfolding partitions_of
partitions_put old new i p low same = put-listed (partition_held old) (partition_held new) i p low same

-- a group with another partition at an index
abbrev with_partition : GroupPart → ℕ → PartitionState → GroupPart
with_partition group i x = record group { partitions = put_at group.partitions i x }

puts_partition : (groups : List GroupPart) (at i : ℕ) (x : PartitionState) → 1 ≤ i → i ≤ 64 → partitions_in groups i ≡ Some at → IsStoreOf no_partition (group_at groups at).partitions → PutsPartition groups i x (set groups at (with_partition (group_at groups at) i x))
puts_partition groups at i x low high found store =
    let group = group_at groups at in
    let next = with_partition group i x in
    let within : i ≤ length group.partitions.places = omega (arith, high, store.count) in
    let put : partition_in next i ≡ x = nth-with_same no_partition x group.partitions.places i low within in
    record {
      partitions = partitions_put groups (set groups at next) i x low (holds_one partition_group partition_in no_partition groups at i next x refl found put (λ u other. nth-with_other no_partition x group.partitions.places i u other));
      barriers = barriers_same groups (set groups at next) (λ u. holds_there barrier_group barrier_in no_barrier groups at u next refl refl);
      periods = periods_same groups (set groups at next) (λ u. holds_there period_group period_in no_period groups at u next refl refl);
      semaphores = semaphores_same groups (set groups at next) (λ u. holds_there semaphore_group semaphore_in no_semaphore groups at u next refl refl);
      kept = frames_same groups at next refl;
    }

-- the groups after a partition of one of them was changed, as the code has them
pub partition_put : (groups : List GroupPart) (at i : ℕ) (group : GroupPart) (store : Store PartitionState) (x p : PartitionState) → 1 ≤ i → i ≤ 64 → Some at ≡ partitions_in groups i → IsStoreOf no_partition (group_at groups at).partitions → store ≡ put_at (get_or groups at group).partitions i x → x ≡ p →
    PutsPartition groups i p (set groups at (record (get_or groups at group) { partitions = store }))
partition_put groups at i group store x p low high found is_store is stands =
    subst (λ (y : PartitionState). PutsPartition groups i y (set groups at (record (get_or groups at group) { partitions = store }))) stands
    (subst (PutsPartition groups i x) (sym same) (puts_partition groups at i x low high (sym found) is_store))
  where
    same : set groups at (record (get_or groups at group) { partitions = store }) ≡ set groups at (with_partition (group_at groups at) i x)
    same =
        ap (λ (s : Store PartitionState). set groups at (record (get_or groups at group) { partitions = s })) is
        ∙ ap (λ (g : GroupPart). set groups at (with_partition g i x)) (sym (group_is groups at i group (sym found)))

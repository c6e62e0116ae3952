-- The objects of the groups of a running kernel, as many groups as are lent. What nobody lent is vacant.
use Rattle.std.specs.Prelude.{ℕ, zero, suc, ◌+◌, List, [], ◌∷◌, ◌==◌, if◌then◌else◌}
use Rattle.rk_model.specs.declared.limits.TheConstants.{MOST_OBJECTS}
use Rattle.rk_model.specs.Lists.{nth}
use Rattle.rk_model.specs.State.{SemaphoreState, BarrierState, PartitionState, PeriodState, no_semaphore, no_barrier, no_partition, no_period}
use Rattle.rk_model.specs.Queues.{threads as waiting}
use Rattle.rk_places.specs.Stores.{group_of, stored_at}
use Rattle.rk_signal.specs.Barriers.{Stored, no_stored}
use Rattle.rk_groups.specs.declared.group.GroupPart.{GroupPart}

-- so many things, numbered from a number on
abbrev pub listed : {X : Type 0} → (ℕ → X) → ℕ → ℕ → List X
listed f a zero = []
listed f a (suc n) = f a ∷ listed f (a + 1) n

-- the barrier that a place of a group stands for
abbrev pub barrier_of : Stored → BarrierState
barrier_of stored = record { live = stored.live; automatic = stored.automatic; most = stored.most; arrivals = waiting stored.queue.arrivals }

-- the number of a group, as its semaphores, its barriers, its partitions and its periods have it
abbrev pub semaphore_group : GroupPart → ℕ
semaphore_group group = group.semaphores.group

abbrev pub barrier_group : GroupPart → ℕ
barrier_group group = group.barriers.group

abbrev pub partition_group : GroupPart → ℕ
partition_group group = group.partitions.group

abbrev pub period_group : GroupPart → ℕ
period_group group = group.periods.group

-- what a group has at an index, in the first of these groups whose number is that of the index's group; where its group isn't lent, what stands for none
abbrev pub held_by : {X : Type 0} → (GroupPart → ℕ) → (GroupPart → ℕ → X) → X → List GroupPart → ℕ → X
held_by number at none [] i = none
held_by number at none (group ∷ groups) i = if number group == group_of i then at group i else held_by number at none groups i

-- the semaphore, the barrier, the partition and the period that a group has at an index
abbrev pub semaphore_in : GroupPart → ℕ → SemaphoreState
semaphore_in group i = stored_at no_semaphore group.semaphores i

abbrev pub barrier_in : GroupPart → ℕ → BarrierState
barrier_in group i = barrier_of (stored_at no_stored group.barriers i)

abbrev pub partition_in : GroupPart → ℕ → PartitionState
partition_in group i = stored_at no_partition group.partitions i

abbrev pub period_in : GroupPart → ℕ → PeriodState
period_in group i = stored_at no_period group.periods i

-- the semaphore, the barrier, the partition and the period of an index, in the first of these groups that is its group
abbrev pub semaphore_held : List GroupPart → ℕ → SemaphoreState
semaphore_held groups i = held_by semaphore_group semaphore_in no_semaphore groups i

abbrev pub barrier_held : List GroupPart → ℕ → BarrierState
barrier_held groups i = held_by barrier_group barrier_in no_barrier groups i

abbrev pub partition_held : List GroupPart → ℕ → PartitionState
partition_held groups i = held_by partition_group partition_in no_partition groups i

abbrev pub period_held : List GroupPart → ℕ → PeriodState
period_held groups i = held_by period_group period_in no_period groups i

-- the semaphores of these groups, at their indices
unfoldable pub semaphores_of : List GroupPart → List SemaphoreState
semaphores_of groups = listed (semaphore_held groups) 1 MOST_OBJECTS

-- the barriers of these groups, at their indices
unfoldable pub barriers_of : List GroupPart → List BarrierState
barriers_of groups = listed (barrier_held groups) 1 MOST_OBJECTS

-- the partitions of these groups, at their indices
unfoldable pub partitions_of : List GroupPart → List PartitionState
partitions_of groups = listed (partition_held groups) 1 MOST_OBJECTS

-- the periods of these groups, at their indices
unfoldable pub periods_of : List GroupPart → List PeriodState
periods_of groups = listed (period_held groups) 1 MOST_OBJECTS

-- the semaphore of an index, as these groups have it; no semaphore at 0 and above 64
abbrev pub semaphore_lent : List GroupPart → ℕ → SemaphoreState
semaphore_lent groups i = nth no_semaphore (semaphores_of groups) i

-- the barrier of an index, as these groups have it; no barrier at 0 and above 64
abbrev pub barrier_lent : List GroupPart → ℕ → BarrierState
barrier_lent groups i = nth no_barrier (barriers_of groups) i

-- the partition of an index, as these groups have it; no partition at 0 and above 64
abbrev pub partition_lent : List GroupPart → ℕ → PartitionState
partition_lent groups i = nth no_partition (partitions_of groups) i

-- the period of an index, as these groups have it; no period at 0 and above 64
abbrev pub period_lent : List GroupPart → ℕ → PeriodState
period_lent groups i = nth no_period (periods_of groups) i

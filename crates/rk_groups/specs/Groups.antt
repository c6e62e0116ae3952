-- The lent groups of objects: which are lent, and what a change of an object does to them.
use Rattle.std.specs.Prelude.{ℕ, ◌+◌, ◌≡◌, List, [], ◌∷◌, ◌++◌, Bool, false, ◌||◌, ◌==◌, Option, Some, None, map, if◌then◌else◌}
use Rattle.std.specs.List.{slice_index_or}
use Rattle.rk_model.specs.declared.entry.Reply.{Reply}
use Rattle.rk_model.specs.declared.status.Status.{Status}
use Rattle.rk_model.specs.declared.status.Status.TheVariants.{Successful, Waits}
use Rattle.rk_model.specs.declared.waiting.Wake.{Wake}
use Rattle.rk_model.specs.Lists.{with_nth}
use Rattle.rk_model.specs.State.{SemaphoreState, BarrierState, PartitionState, PeriodState, no_semaphore}
use Rattle.rk_model.specs.Directives.Barriers.{is_full}
use Rattle.rk_model.specs.Directives.Waits.{Object, bare, without_arrival, without_waiter, without_waiter_in}
use Rattle.rk_model.specs.Queues.{waits_in}
use Rattle.rk_places.specs.Stores.{Store, group_of, stored_at, put_at}
use Rattle.rk_signal.specs.Barriers.{Stored, no_stored, without_waiter as without_arriver}
use Rattle.rk_groups.specs.declared.group.GroupPart.{GroupPart}
use Rattle.rk_groups.specs.GroupObjects.{semaphore_group, barrier_group, partition_group, period_group, held_by, semaphores_of, barriers_of, partitions_of, periods_of}

-- the place behind another one, if there is one
abbrev pub one_more : Option ℕ → Option ℕ
one_more None = None
one_more (Some n) = Some (n + 1)

-- a group without a place
abbrev pub no_group : GroupPart
no_group = record { present = 0; semaphores = record { group = 0; places = [] }; barriers = record { group = 0; places = [] }; partitions = record { group = 0; places = [] }; periods = record { group = 0; places = [] }; wakes = [] }

-- the group that stands at a place among these
abbrev pub group_at : List GroupPart → ℕ → GroupPart
group_at groups at = slice_index_or groups at no_group

-- the first of these groups whose number is that of an index's group
abbrev pub first_of : (GroupPart → ℕ) → List GroupPart → ℕ → Option ℕ
first_of number [] i = None
first_of number (group ∷ groups) i = if number group == group_of i then Some 0 else one_more (first_of number groups i)

-- as the semaphores have the numbers, and as the barriers, the partitions and the periods have them
abbrev pub semaphores_in : List GroupPart → ℕ → Option ℕ
semaphores_in groups i = first_of semaphore_group groups i

abbrev pub group_in : List GroupPart → ℕ → Option ℕ
group_in groups i = first_of barrier_group groups i

abbrev pub partitions_in : List GroupPart → ℕ → Option ℕ
partitions_in groups i = first_of partition_group groups i

abbrev pub periods_in : List GroupPart → ℕ → Option ℕ
periods_in groups i = first_of period_group groups i

-- whether one of these groups has the number of an index's group
abbrev pub holds : (GroupPart → ℕ) → List GroupPart → ℕ → Bool
holds number [] i = false
holds number (group ∷ groups) i = (number group == group_of i) || holds number groups i

-- whether the group of an index is lent, as the semaphores have the numbers, and as the barriers, the partitions and the periods have them
abbrev pub holds_semaphores : List GroupPart → ℕ → Bool
holds_semaphores groups i = holds semaphore_group groups i

abbrev pub is_lent : List GroupPart → ℕ → Bool
is_lent groups i = holds barrier_group groups i

abbrev pub holds_partitions : List GroupPart → ℕ → Bool
holds_partitions groups i = holds partition_group groups i

abbrev pub holds_periods : List GroupPart → ℕ → Bool
holds_periods groups i = holds period_group groups i

-- the waits that the last call on the group of an index ended; none where it isn't lent
abbrev pub wakes_in : GroupPart → ℕ → List Wake
wakes_in group i = group.wakes

abbrev pub wakes_at : List GroupPart → ℕ → List Wake
wakes_at groups i = held_by barrier_group wakes_in [] groups i

-- the same, as the semaphores have the numbers
abbrev pub woken_in : List GroupPart → ℕ → List Wake
woken_in groups i = held_by semaphore_group wakes_in [] groups i

-- What no directive changes of a group: its number, as its barriers, its semaphores, its partitions and its periods have it, and the present tick.
pub record GroupFrame : Type 0 where
  pub number : ℕ
  pub semaphores : ℕ
  pub partitions : ℕ
  pub periods : ℕ
  pub present : ℕ

abbrev pub group_frame : GroupPart → GroupFrame
group_frame group = record { number = group.barriers.group; semaphores = group.semaphores.group; partitions = group.partitions.group; periods = group.periods.group; present = group.present }

abbrev pub group_frames : List GroupPart → List GroupFrame
group_frames groups = map group_frame groups

-- The groups stand for the barriers with another one at an index, and keep their frame.
pub record PutsBarrier (old : List GroupPart) (i : ℕ) (barrier : BarrierState) (new : List GroupPart) : Type 0 where
  pub barriers : barriers_of new ≡ with_nth (barriers_of old) i barrier
  pub partitions : partitions_of new ≡ partitions_of old
  pub periods : periods_of new ≡ periods_of old
  pub semaphores : semaphores_of new ≡ semaphores_of old
  pub kept : group_frames new ≡ group_frames old

-- The groups stand for the partitions with another one at an index, and keep their frame.
pub record PutsPartition (old : List GroupPart) (i : ℕ) (partition : PartitionState) (new : List GroupPart) : Type 0 where
  pub partitions : partitions_of new ≡ with_nth (partitions_of old) i partition
  pub barriers : barriers_of new ≡ barriers_of old
  pub periods : periods_of new ≡ periods_of old
  pub semaphores : semaphores_of new ≡ semaphores_of old
  pub kept : group_frames new ≡ group_frames old

-- The groups stand for the periods with another one at an index, and keep their frame.
pub record PutsPeriod (old : List GroupPart) (i : ℕ) (period : PeriodState) (new : List GroupPart) : Type 0 where
  pub periods : periods_of new ≡ with_nth (periods_of old) i period
  pub barriers : barriers_of new ≡ barriers_of old
  pub partitions : partitions_of new ≡ partitions_of old
  pub semaphores : semaphores_of new ≡ semaphores_of old
  pub kept : group_frames new ≡ group_frames old

-- The groups stand for the semaphores with another one at an index, and keep their frame.
pub record PutsSemaphore (old : List GroupPart) (i : ℕ) (semaphore : SemaphoreState) (new : List GroupPart) : Type 0 where
  pub semaphores : semaphores_of new ≡ with_nth (semaphores_of old) i semaphore
  pub barriers : barriers_of new ≡ barriers_of old
  pub partitions : partitions_of new ≡ partitions_of old
  pub periods : periods_of new ≡ periods_of old
  pub kept : group_frames new ≡ group_frames old

-- A thread has left the queue of an object, if it is one, and the groups keep their frame.
pub record Leaves (old : List GroupPart) (t : ℕ) (object : Option Object) (new : List GroupPart) : Type 0 where
  pub barriers : barriers_of new ≡ without_arrival (barriers_of old) t object
  pub semaphores : semaphores_of new ≡ without_waiter_in (semaphores_of old) t object
  pub partitions : partitions_of new ≡ partitions_of old
  pub periods : periods_of new ≡ periods_of old
  pub kept : group_frames new ≡ group_frames old

-- the waits of these threads, ended with a status and without an out number, in order
abbrev pub ended_waits : Status → List ℕ → List Wake
ended_waits status threads = map (λ t. record { thread = t; status = status; out = 0 }) threads

-- a barrier after one more thread came to wait at it: where it released all, none waits any more; else it waits as the last
abbrev pub waited_at : ℕ → BarrierState → BarrierState
waited_at t barrier = if is_full barrier then record barrier { arrivals = [] } else record barrier { arrivals = barrier.arrivals ++ t ∷ [] }

-- the waits that ended then,
abbrev pub woken_at : BarrierState → List Wake
woken_at barrier = if is_full barrier then ended_waits Successful barrier.arrivals else []

-- and what the thread was answered.
abbrev pub reply_at : BarrierState → Reply
reply_at barrier = if is_full barrier then bare Successful else bare Waits

-- the barriers of a group after a thread has left one of them, where it waits there
abbrev pub left_at : Store Stored → ℕ → ℕ → Store Stored
left_at store i t = if waits_in (stored_at no_stored store i).queue t then put_at store i (without_arriver t (stored_at no_stored store i)) else store

-- the semaphores of a group after a thread has left the queue of one of them; where it doesn't wait there, nothing changes
abbrev pub left_semaphore : Store SemaphoreState → ℕ → ℕ → Store SemaphoreState
left_semaphore store i t = put_at store i (without_waiter t (stored_at no_semaphore store i))

-- The directives of the partition manager.
use Rattle.std.specs.Prelude.{ℕ, zero, suc, ◌+◌, ◌/◌, ◌%◌, ◌==◌, nat_lt, Bool, true, not, ◌&&◌, ◌||◌, List, [], ◌∷◌, ◌++◌, length, Option, Some, None, if◌then◌else◌}
use Rattle.rk_model.specs.declared.ids.Class.TheVariants.{Partition}
use Rattle.rk_model.specs.declared.limits.TheConstants.{MOST_BUFFERS, ALIGNMENT, ADDRESSES}
use Rattle.rk_model.specs.declared.scenario.Target.{Target}
use Rattle.rk_model.specs.declared.status.Status.{Status}
use Rattle.rk_model.specs.declared.status.Status.TheVariants.{InvalidAddress, InvalidSize, ResourceInUse, Unsatisfied}
use Rattle.rk_model.specs.Lists.{has}
use Rattle.rk_model.specs.State.{Plain, PartitionState, no_partition, partition_at, put_partition}
use Rattle.rk_model.specs.Directives.Objects.{bits_of, object_named, create, ident, without_object}
use Rattle.rk_model.specs.Directives.Outcomes.{Outcome, Refused, done, on_found}

-- ---- buffers

-- so many addresses, from the first in steps of a size
abbrev pub addresses : ℕ → ℕ → ℕ → List ℕ
addresses first size zero = []
addresses first size (suc count) = first ∷ addresses (first + size) size count

-- the addresses of all buffers of this start, length and size, in rising order
abbrev pub all_buffers : ℕ → ℕ → ℕ → List ℕ
all_buffers start length size = addresses start size (length / size)

-- the addresses of all buffers of a partition, free or out
abbrev pub buffers : PartitionState → List ℕ
buffers partition = all_buffers partition.start partition.length partition.size

-- whether the address is that of a buffer of the partition that is out
abbrev pub is_out : PartitionState → ℕ → Bool
is_out partition address = has (buffers partition) address && not (has partition.free address)

-- whether a buffer is out: fewer buffers are free than there are
abbrev pub is_in_use : PartitionState → Bool
is_in_use partition = nat_lt (length partition.free) (partition.length / partition.size)

-- ---- part.create

-- the memory has no bytes, or not enough for a buffer, or a buffer is no multiple of 8 bytes
abbrev pub has_invalid_size : ℕ → ℕ → Bool
has_invalid_size length size = (length == 0) || ((size == 0) || (nat_lt length size || not (size % ALIGNMENT == 0)))

-- the memory doesn't start at a multiple of 8, or it ends behind the last address
abbrev pub has_invalid_address : ℕ → ℕ → Bool
has_invalid_address start length = not (start % ALIGNMENT == 0) || nat_lt ADDRESSES (start + length)

-- why memory of this start, length and size of buffers can't be a partition, if it can't: the first of these conditions that holds decides
abbrev pub memory_refusal : ℕ → ℕ → ℕ → Option Status
memory_refusal start length size =
    if start == 0 then Some InvalidAddress
    else if has_invalid_size length size then Some InvalidSize
    else if has_invalid_address start length then Some InvalidAddress
    else if nat_lt MOST_BUFFERS (length / size) then Some InvalidSize
    else None

-- a partition that was created: all its buffers are free
abbrev pub new_partition : ℕ → ℕ → ℕ → PartitionState
new_partition start length size = record { live = true; start = start; length = length; size = size; free = all_buffers start length size }

-- part.create (rtems_partition_create): INVALID_NAME where the name is 0; INVALID_ADDRESS where the start is 0; INVALID_SIZE where the length or the size is 0, the size is above the length or no multiple of 8; INVALID_ADDRESS where the start is no multiple of 8, or start and length add to more than 4294967296; INVALID_SIZE where there are more than 1,024 buffers; TOO_MANY where 64 partitions live; else a partition with all its buffers free. Out: its id.
abbrev pub partition_create : Plain → ℕ → ℕ → ℕ → ℕ → Outcome
partition_create k name start length size =
    create k Partition name (memory_refusal start length size) (λ index next. put_partition next index (new_partition start length size))

-- part.ident (rtems_partition_ident): INVALID_NAME where no live partition has the name. Out: the id of the live partition of least index that has it.
abbrev pub partition_ident : Plain → ℕ → Outcome
partition_ident k name = ident k Partition name

-- ---- buffers that are taken and given back

-- the first of the free buffers is taken, if there is one
abbrev pub taken_first : Plain → ℕ → List ℕ → Outcome
taken_first k i [] = Refused Unsatisfied
taken_first k i (address ∷ free) = done address (put_partition k i (record (partition_at k i) { free = free }))

-- part.get (rtems_partition_get_buffer): INVALID_ID where the partition is unknown; UNSATISFIED where no buffer is free; else the first free buffer is taken. Out: its address.
abbrev pub partition_get : Plain → ℕ → Target → Outcome
partition_get k t id = on_found (object_named k t Partition id) (λ i. taken_first k i (partition_at k i).free)

-- a partition with one more free buffer, which is the last of them
abbrev pub with_free : PartitionState → ℕ → PartitionState
with_free partition address = record partition { free = partition.free ++ address ∷ [] }

-- an address is given back to a partition
abbrev pub given_back_to : Plain → ℕ → ℕ → Outcome
given_back_to k i address =
    if is_out (partition_at k i) address then done 0 (put_partition k i (with_free (partition_at k i) address)) else Refused InvalidAddress

-- part.return (rtems_partition_return_buffer): INVALID_ID where the partition is unknown; INVALID_ADDRESS where the address is that of no buffer, or of one that isn't out; else the buffer goes last among the free ones.
abbrev pub partition_return : Plain → ℕ → Target → Target → Outcome
partition_return k t id address = on_found (object_named k t Partition id) (λ i. given_back_to k i (bits_of k t address))

-- ---- part.delete

-- the state in which a partition lives no longer, and its index is free
abbrev pub without_partition : Plain → ℕ → Plain
without_partition k i = without_object (put_partition k i no_partition) Partition i

-- a partition is removed, where no buffer is out
abbrev pub removed_at : Plain → ℕ → Outcome
removed_at k i = if is_in_use (partition_at k i) then Refused ResourceInUse else done 0 (without_partition k i)

-- part.delete (rtems_partition_delete): INVALID_ID where the partition is unknown; RESOURCE_IN_USE where a buffer is out; else it lives no longer.
abbrev pub partition_delete : Plain → ℕ → Target → Outcome
partition_delete k t id = on_found (object_named k t Partition id) (λ i. removed_at k i)

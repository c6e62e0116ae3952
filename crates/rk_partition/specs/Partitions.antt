-- What the directives of the partition manager do to the partitions of a group.
use Rattle.std.specs.Prelude.{ℕ, ◌≡◌, ◌≤◌, true, false, List, [], ◌∷◌, length, Option, Some, None, if◌then◌else◌}
use Rattle.rk_model.specs.declared.entry.Reply.{Reply}
use Rattle.rk_model.specs.declared.status.Status.{Status}
use Rattle.rk_model.specs.declared.status.Status.TheVariants.{Successful, InvalidAddress, ResourceInUse, Unsatisfied}
use Rattle.rk_model.specs.Lists.{has, times}
use Rattle.rk_model.specs.State.{PartitionState, no_partition}
use Rattle.rk_model.specs.Directives.Partitions.{buffers, is_out, is_in_use, memory_refusal, with_free}

-- the answer to a refusal, if there is one
abbrev pub answered : Option Status → Status
answered None = Successful
answered (Some status) = status

-- rtems_partition_create: what it answers to a start, a length and a size of buffers
abbrev pub judged : ℕ → ℕ → ℕ → Status
judged start length size = answered (memory_refusal start length size)

-- Where no partition lives, the place is empty. The memory of one that lives is in order. No address is free more often than it is that of a buffer: so what is free is a buffer, and is free once.
pub record IsStored (stored : PartitionState) : Type 0 where
  pub vacant : stored.live ≡ false → stored ≡ no_partition
  pub made : stored.live ≡ true → memory_refusal stored.start stored.length stored.size ≡ None
  pub once : (address : ℕ) → times address stored.free ≤ times address (buffers stored)

-- the answer of a directive that is done, with an out number
abbrev pub successful : ℕ → Reply
successful out = record { status = Successful; out = out }

-- the answer of a directive that refuses
abbrev pub refused : Status → Reply
refused status = record { status = status; out = 0 }

-- the free buffers without the first
abbrev pub all_but_first : List ℕ → List ℕ
all_but_first [] = []
all_but_first (first ∷ rest) = rest

-- rtems_partition_get_buffer: the first free buffer, if there is one, is free no longer,
abbrev pub without_first : PartitionState → PartitionState
without_first stored = record stored { free = all_but_first stored.free }

-- and the answer is its address, or that no buffer is free.
abbrev pub reply_to_get : List ℕ → Reply
reply_to_get [] = refused Unsatisfied
reply_to_get (first ∷ rest) = successful first

-- A buffer that is taken was free, and is out then.
pub record IsTaken (address : ℕ) (stored : PartitionState) : Type 0 where
  pub free : has stored.free address ≡ true
  pub out : is_out (without_first stored) address ≡ true

-- A buffer of the partition is out.
pub record HasOut (stored : PartitionState) : Type 0 where
  pub address : ℕ
  pub out : is_out stored address ≡ true

-- rtems_partition_return_buffer: a buffer that is out is free again,
abbrev pub returned : ℕ → PartitionState → PartitionState
returned address stored = if is_out stored address then with_free stored address else stored

-- and each other address is refused.
abbrev pub reply_to_return : ℕ → PartitionState → Reply
reply_to_return address stored = if is_out stored address then successful 0 else refused InvalidAddress

-- rtems_partition_delete: a partition of which no buffer is out lives no longer,
abbrev pub deleted : PartitionState → PartitionState
deleted stored = if is_in_use stored then stored else no_partition

-- and each other is refused.
abbrev pub reply_to_delete : PartitionState → Reply
reply_to_delete stored = if is_in_use stored then refused ResourceInUse else successful 0

-- What the code has of a partition, as the definitions see it.
use Rattle.std.specs.Prelude.{ℕ, true, false, List, Option, Some, None}
use Rattle.rk_partition.specs.declared.partition.Partition.{Partition}
use Rattle.rk_model.specs.State.{PartitionState}

-- the place of a partition, if there is one, and of its free buffers
abbrev pub stored_by : Option Partition → List ℕ → PartitionState
stored_by None free = record { live = false; start = 0; length = 0; size = 0; free = free }
stored_by (Some partition) free = record { live = true; start = partition.start; length = partition.length; size = partition.size; free = free }

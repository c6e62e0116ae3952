-- Parts as they are made at opening.
use Rattle.std.specs.Prelude.{ℕ, List, [], ◌∷◌, take}
use Rattle.std.specs.List.{slice_index_or}
use Rattle.rk_model.specs.State.{no_semaphore, no_partition, no_period}
use Rattle.rk_model.specs.Text.Scenarios.{cpus_in}
use Rattle.rk_cluster.specs.Clusters.{empty_cluster}
use Rattle.rk_parts.specs.declared.parts.ClusterPart.{ClusterPart}
use Rattle.rk_groups.specs.declared.group.GroupPart.{GroupPart}
use Rattle.rk_parts.specs.Holdings.{no_holdings}
use Rattle.rk_places.specs.Stores.{none_live}
use Rattle.rk_signal.specs.Barriers.{no_stored}
use Rattle.rk_parts.specs.Threads.{no_threads}

-- the part of a cluster without threads, of so many processors from a first on
abbrev pub vacant_part : ℕ → ℕ → ℕ → ClusterPart
vacant_part number first count = record { present = 0; lined = empty_cluster number first count; timers = []; threads = no_threads; holdings = no_holdings; moves = []; chains = []; seats = []; hosting = [] }

-- the part of a cluster among clusters of so many processors each
abbrev pub vacant_in : List ℕ → ℕ → ClusterPart
vacant_in counts c = vacant_part c (cpus_in (take c counts)) (slice_index_or counts c 0)

-- the parts of all clusters, without threads
abbrev pub vacant_parts : List ℕ → List ClusterPart
vacant_parts counts = vacant_in counts 0 ∷ vacant_in counts 1 ∷ vacant_in counts 2 ∷ vacant_in counts 3 ∷ []

-- the part of a group in which no object lives
abbrev pub vacant_group : ℕ → GroupPart
vacant_group number = record { present = 0; semaphores = none_live no_semaphore number; barriers = none_live no_stored number; partitions = none_live no_partition number; periods = none_live no_period number; wakes = [] }

-- the parts of all groups, in which no object lives
abbrev pub vacant_groups : List GroupPart
vacant_groups = vacant_group 0 ∷ vacant_group 1 ∷ vacant_group 2 ∷ vacant_group 3 ∷ []

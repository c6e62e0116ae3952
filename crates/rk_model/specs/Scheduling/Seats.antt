-- The processors of a state, and their threads.
use Rattle.std.specs.Prelude.{ℕ, List, [], ◌∷◌, ◌++◌, Option, None, length}
use Rattle.std.specs.List.{slice_index_or}
use Rattle.rk_model.specs.State.{Plain, ClusterState}

-- the threads of all processors, which are numbered through all clusters from 0
abbrev pub all_cpus : List ClusterState → List (Option ℕ)
all_cpus [] = []
all_cpus (cluster ∷ clusters) = cluster.cpus ++ all_cpus clusters

-- how many processors there are
abbrev pub cpu_count : Plain → ℕ
cpu_count k = length (all_cpus k.clusters)

-- the thread of a processor
abbrev pub cpu_at : Plain → ℕ → Option ℕ
cpu_at k p = slice_index_or (all_cpus k.clusters) p None

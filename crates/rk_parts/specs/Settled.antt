-- Clusters that settle one by one.
use Rattle.std.specs.Prelude.{ℕ, ◌+◌, List, [], ◌∷◌, length}
use Rattle.rk_model.specs.declared.settling.Shift.{Shift}
use Rattle.rk_model.specs.State.{ClusterState}
use Rattle.rk_model.specs.Scheduling.ReadyQueues.{assigned, most_urgent}
use Rattle.rk_model.specs.Scheduling.Settling.{shifted}

-- a cluster with another ready queue, and its processors assigned by it
abbrev pub lined_up : (ℕ → ℕ) → List ℕ → ClusterState → ClusterState
lined_up key line cluster = record cluster { line = line; cpus = assigned cluster.cpus (most_urgent key (length cluster.cpus) line) }

-- a cluster whose line has followed the shifts of so many threads, and whose processors are assigned by it
abbrev pub settled_cluster : (ℕ → Shift) → (ℕ → ℕ) → ℕ → ClusterState → ClusterState
settled_cluster shift key n cluster = lined_up key (shifted shift n cluster.line) cluster

-- the clusters from a number on, each settled by the shifts there, and by the priorities there
abbrev pub settled_from : (ℕ → ℕ → Shift) → (ℕ → ℕ → ℕ) → ℕ → ℕ → List ClusterState → List ClusterState
settled_from shift key n c [] = []
settled_from shift key n c (cluster ∷ clusters) = settled_cluster (shift c) (key c) n cluster ∷ settled_from shift key n (c + 1) clusters

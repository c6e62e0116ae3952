-- Clusters: a ready queue, and the thread that each processor has.
use Rattle.std.specs.Prelude.{ℕ, ◌≡◌, List, [], Option, None, length, replicate}
use Rattle.rk_model.specs.Scheduling.ReadyQueues.{most_urgent, assigned}
use Rattle.rk_line.specs.declared.line.Place.{Place}
use Rattle.rk_line.specs.Places.{threads, prio_in}
use Rattle.rk_cluster.specs.declared.moves.Change.{Change}
use Rattle.rk_cluster.specs.Registers.{moved}

-- A cluster: its number, from 0; the number of its first processor among those of all clusters; its ready queue; and the thread that each of its processors has.
pub record Cluster : Type 0 where
  pub number : ℕ
  pub first : ℕ
  pub line : List Place
  pub cpus : List (Option ℕ)

-- a cluster without threads
abbrev pub empty_cluster : ℕ → ℕ → ℕ → Cluster
empty_cluster number first cpus = record { number = number; first = first; line = []; cpus = replicate cpus None }

-- the runners of so many processors: the threads of a ready queue with fewer more urgent ones, the most urgent first
abbrev pub runners_of : ℕ → List Place → List ℕ
runners_of cpus line = most_urgent (prio_in line) cpus (threads line)

-- a cluster with another ready queue, and the processors assigned by it
abbrev pub lined_up : Cluster → List Place → Cluster
lined_up cluster line = record cluster { line = line; cpus = assigned cluster.cpus (runners_of (length cluster.cpus) line) }

-- A cluster after the changes: its ready queue follows them, and then its processors are assigned.
abbrev pub settled : (ℕ → Option Change) → Cluster → Cluster
settled changes cluster = lined_up cluster (moved changes cluster.line)

-- Assigning the processors by the ready queue again changes nothing.
abbrev pub AreAssigned : List Place → List (Option ℕ) → Type 0
AreAssigned line cpus = assigned cpus (runners_of (length cpus) line) ≡ cpus

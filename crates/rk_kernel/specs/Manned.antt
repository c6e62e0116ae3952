-- Processors that have the runners of their clusters.
use Rattle.std.specs.Prelude.{ℕ, ◌+◌, ◌≡◌, List, [], ◌∷◌, length}
use Rattle.rk_model.specs.declared.entry.View.TheVariants.{Runs}
use Rattle.rk_model.specs.Lists.{times}
use Rattle.rk_model.specs.State.{Plain, ClusterState}
use Rattle.rk_model.specs.Scheduling.Priorities.{urgency}
use Rattle.rk_model.specs.Scheduling.ReadyQueues.{most_urgent}
use Rattle.rk_model.specs.Scheduling.Running.{running}
use Rattle.rk_kernel.specs.SchedulingLaws.{seats}

-- the processors of a cluster have the most urgent threads of its line, each on one
abbrev pub HasRunners : (ℕ → ℕ) → ClusterState → Type 0
HasRunners key cluster = (t : ℕ) → seats t cluster.cpus ≡ times t (most_urgent key (length cluster.cpus) cluster.line)

-- it is so of the clusters from a number on, each with the priorities there
abbrev pub AllManned : (ℕ → ℕ → ℕ) → ℕ → List ClusterState → Type 0
AllManned key c [] = Unit {0}
AllManned key c (cluster ∷ clusters) = HasRunners (key c) cluster × AllManned key (c + 1) clusters

-- All processors of a state have their clusters' runners.
abbrev pub AreManned : Plain → Type 0
AreManned k = AllManned (urgency k) 0 k.clusters

-- No thread runs on two processors of a state.
abbrev pub RunOnce : Plain → Type 0
RunOnce k = (p q t : ℕ) → running k p ≡ Runs t → running k q ≡ Runs t → p ≡ q

-- What parts store of the threads fits them: how they stand, and their priorities in the ready queues.
use Rattle.std.specs.Prelude.{ℕ, ◌≡◌, ◌≢◌, ◌<◌, List, [], ◌∷◌, Bool, false, Option, Some, None, length}
use Rattle.std.specs.List.{slice_index_or}
use Rattle.rk_model.specs.declared.settling.Standing.{Standing}
use Rattle.rk_model.specs.declared.state.Thread.{Thread}
use Rattle.rk_model.specs.Lists.{has, nth}
use Rattle.rk_model.specs.State.{Plain, no_thread, cluster_at}
use Rattle.rk_model.specs.Directives.Objects.{has_begun}
use Rattle.rk_model.specs.Scheduling.Priorities.{prio, standing, nth_standing}
use Rattle.rk_model.specs.Scheduling.Settling.{belongs}
use Rattle.rk_line.specs.declared.line.Place.{Place}
use Rattle.rk_cluster.specs.Clusters.{settled}
use Rattle.rk_parts.specs.declared.parts.ClusterPart.{ClusterPart}
use Rattle.rk_parts.specs.declared.bearing.Bearing.{Bearing}
use Rattle.rk_parts.specs.Holdings.{holder, holdings}
use Rattle.rk_parts.specs.Threads.{bearings_by, standings_by}
use Rattle.rk_parts.specs.Contributions.{bears, contributed, IsOne}
use Rattle.rk_parts.specs.declared.holdings.Holding.{Holding}
use Rattle.rk_agg.specs.Shares.{found, least_source}
use Rattle.rk_parts.specs.ClusterRegisters.{register}

-- the priority by which threads that stand so are ranked
abbrev pub key_of : List Standing → ℕ → ℕ
key_of stood t = (nth_standing stood t).prio

-- each place of a ready queue has the priority that a function gives its thread
abbrev pub IsKeyed : (ℕ → ℕ) → List Place → Type 0
IsKeyed key [] = Unit {0}
IsKeyed key (place ∷ line) = (place.prio ≡ key place.thread) × IsKeyed key line

-- a part without threads and processors
abbrev pub no_part : ClusterPart
no_part = record {
  present = 0;
  lined = record { number = 0; first = 0; line = []; cpus = [] };
  timers = [];
  threads = record { places = []; stood = []; borne = []; shares = [] };
  holdings = record { owners = []; noted = [] };
  moves = [];
  chains = [];
  seats = [];
  hosting = [];
}

-- the part at a place among these
abbrev pub part_at : List ClusterPart → ℕ → ClusterPart
part_at parts at = slice_index_or parts at no_part

-- how the threads of a part stand, by what is contributed to their priorities
abbrev pub standings_in : ClusterPart → List Standing
standings_in part = standings_by part.threads.shares part.threads.places

-- what the threads of a part bear
abbrev pub bearings_in : ClusterPart → List Bearing
bearings_in part = bearings_by part.threads.places

-- what a thread contributes to another in the cluster of the part at a place
abbrev pub share_at : List ClusterPart → ℕ → ℕ → ℕ → Option ℕ
share_at parts at t u = found (part_at parts at).threads.shares t (part_at parts at).lined.number u

-- No part has contributions in another cluster than its own.
abbrev pub NoneElsewhere : List ClusterPart → Type 0
NoneElsewhere parts = (at t d u : ℕ) → at < length parts → d ≢ (part_at parts at).lined.number → found (part_at parts at).threads.shares t d u ≡ None

-- Each part has exactly the contributions in its cluster, as its threads bear this and semaphores are held so.
pub record AreLent (bear : ℕ → Bearing) (hold : ℕ → Option Holding) (parts : List ClusterPart) : Type 0 where
  pub own : (at t u : ℕ) → at < length parts → IsOne t → IsOne u → share_at parts at t u ≡ contributed bear hold t (part_at parts at).lined.number u
  pub elsewhere : NoneElsewhere parts

-- The priority of each thread in the cluster of each part is the least of what is contributed to it there.
abbrev pub ArePriorities : Plain → List ClusterPart → Type 0
ArePriorities k parts = (at t : ℕ) → at < length parts → IsOne t → least_source (found (part_at parts at).threads.shares t (part_at parts at).lined.number) ≡ prio k t (part_at parts at).lined.number

-- In each of these parts it is noted how its threads stand, what they bear, and how they hold semaphores; the ready queue of each of so many clusters has their priorities; and what is contributed to priorities is what the threads, as they are, contribute.
pub record AreNoted (count : ℕ) (parts : List ClusterPart) : Type 0 where
  pub borne : (at : ℕ) → (part_at parts at).threads.borne ≡ bearings_in (part_at parts at)
  pub held : (at : ℕ) → (part_at parts at).holdings.noted ≡ (part_at parts at).holdings.owners
  pub shares : AreLent (bears parts) (holder (holdings parts)) parts
  pub stood : (at : ℕ) → (part_at parts at).threads.stood ≡ standings_in (part_at parts at)
  pub keyed : (at : ℕ) → (part_at parts at).lined.number < count → IsKeyed (key_of (part_at parts at).threads.stood) (part_at parts at).lined.line

-- The ready queue of each cluster of a state has exactly the threads that belong there.
abbrev pub LinesHold : Plain → Type 0
LinesHold k = (c t : ℕ) → c < length k.clusters → has (cluster_at k c).line t ≡ belongs c (standing k t)

-- whether a thread, if there is one, lives at its place among these
abbrev pub one_lives : List Thread → Option ℕ → Bool
one_lives places None = false
one_lives places (Some t) = has_begun (nth no_thread places t).life

-- a part after settling, where some threads go last, but for the room for this and for helping: its cluster has followed the register, and it is noted how its threads stand, what they bear, and how they hold semaphores
abbrev pub settled_part : List ℕ → ClusterPart → ClusterPart
settled_part last part = record part {
  lined = settled (register part.threads.stood (standings_in part) last part.lined.number) part.lined;
  threads = record part.threads { stood = standings_in part; borne = bearings_in part };
  holdings = record part.holdings { noted = part.holdings.owners };
  moves = [];
  chains = [];
  seats = [];
  hosting = [];
}

-- a part but for the room for settling it, and for whom its processors help, which is found after it
abbrev pub bare : ClusterPart → ClusterPart
bare part = record part { moves = []; chains = []; seats = []; hosting = [] }

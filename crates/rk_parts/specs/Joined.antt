-- The state that parts of a running kernel stand for, as many as are lent. What nobody lent is vacant in it.
use Rattle.std.specs.Prelude.{ℕ, List, [], ◌∷◌, Bool, ◌==◌, length, if◌then◌else◌}
use Rattle.std.specs.List.{slice_index_or}
use Rattle.rk_model.specs.declared.limits.TheConstants.{MOST_OBJECTS}
use Rattle.rk_model.specs.declared.scenario.Scenario.{Scenario}
use Rattle.rk_model.specs.declared.state.Armed.{Armed}
use Rattle.rk_model.specs.declared.state.Thread.{Thread}
use Rattle.rk_model.specs.Lists.{nth}
use Rattle.rk_model.specs.Names.{Table, no_objects}
use Rattle.rk_model.specs.State.{Plain, ClusterState, no_thread}
use Rattle.rk_model.specs.Histories.{free_cluster}
use Rattle.rk_model.specs.Directives.Objects.{has_begun}
use Rattle.rk_line.specs.Places.{threads}
use Rattle.rk_parts.specs.declared.parts.ClusterPart.{ClusterPart}
use Rattle.rk_groups.specs.declared.group.GroupPart.{GroupPart}
use Rattle.rk_parts.specs.declared.parts.AllParts.{AllParts}
use Rattle.rk_groups.specs.GroupObjects.{barriers_of, listed, partitions_of, periods_of, semaphores_of}

-- the cluster that a part stands for
abbrev pub cluster_of : ClusterPart → ClusterState
cluster_of part = record { line = threads part.lined.line; cpus = part.lined.cpus; timers = part.timers }

-- what stands in a part at the place of a thread
abbrev pub placed_in : ClusterPart → ℕ → Thread
placed_in part t = nth no_thread part.threads.places t

-- whether a thread lives in a part
abbrev pub lives_in : ClusterPart → ℕ → Bool
lives_in part t = has_begun (placed_in part t).life

-- the thread of an index that lives in one of these parts; no thread where it lives in none
abbrev pub held : List ClusterPart → ℕ → Thread
held [] t = no_thread
held (part ∷ parts) t = if lives_in part t then placed_in part t else held parts t

-- the cluster of a number among these parts; where its part isn't lent, one without threads that has so many processors
abbrev pub numbered : List ℕ → List ClusterPart → ℕ → ClusterState
numbered counts [] c = free_cluster (slice_index_or counts c 0)
numbered counts (part ∷ parts) c = if part.lined.number == c then cluster_of part else numbered counts parts c

-- the present tick of these parts
abbrev pub present_of : List ClusterPart → ℕ
present_of [] = 0
present_of (part ∷ parts) = part.present

-- the threads that live in these parts, at their places
unfoldable pub threads_of : List ClusterPart → List Thread
threads_of parts = listed (held parts) 1 MOST_OBJECTS

-- the clusters of these parts, where there are clusters of so many processors each
unfoldable pub clusters_by : List ClusterPart → List ℕ → List ClusterState
clusters_by parts counts = listed (numbered counts parts) 0 (length counts)

abbrev pub clusters_of : List ℕ → List ClusterPart → List ClusterState
clusters_of counts parts = clusters_by parts counts

-- The state that these parts stand for, in the run of a scenario and with this table.
abbrev pub joined : Scenario → Table → List ClusterPart → List GroupPart → Plain
joined s table parts groups = record { scenario = s; present = present_of parts; clusters = clusters_of s.clusters parts; threads = threads_of parts; semaphores = semaphores_of groups; barriers = barriers_of groups; partitions = partitions_of groups; periods = periods_of groups; table = table }

-- the state that all parts of a running kernel stand for
abbrev pub plain_of : AllParts → Plain
plain_of all = joined all.scenario all.table.names all.clusters all.groups

-- a run of nothing
abbrev pub no_scenario : Scenario
no_scenario = record { clusters = []; horizon = 0; limit = 0; bodies = []; inits = [] }

-- The state of these parts by themselves. What the threads alone say is the same in each state that the parts stand for.
abbrev pub lent : List ClusterPart → Plain
lent parts = joined no_scenario no_objects parts []

-- the thread of an index, as these parts have it
abbrev pub thread_lent : List ClusterPart → ℕ → Thread
thread_lent parts t = nth no_thread (threads_of parts) t

-- the timers in the part in which a thread lives
abbrev pub timers_lent : List ClusterPart → ℕ → List Armed
timers_lent [] t = []
timers_lent (part ∷ parts) t = if lives_in part t then part.timers else timers_lent parts t

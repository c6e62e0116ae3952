-- What the part of one cluster has of a state, and a directive that needs no more of it.
use Rattle.std.specs.Prelude.{ℕ, ◌≡◌, true, ◌&&◌, ◌==◌, Some, map, length, replicate, if◌then◌else◌}
use Rattle.std.specs.List.{slice_index_or}
use Rattle.rk_model.specs.declared.limits.TheConstants.{MOST_OBJECTS}
use Rattle.rk_model.specs.declared.scenario.Target.{Target}
use Rattle.rk_model.specs.declared.state.Thread.{Thread}
use Rattle.rk_model.specs.State.{Plain, ClusterState, no_thread, no_semaphore, no_barrier, no_partition, no_period, thread_at, cluster_at}
use Rattle.rk_model.specs.Histories.{free_cluster}
use Rattle.rk_model.specs.Directives.Objects.{has_begun}
use Rattle.rk_model.specs.Directives.Outcomes.{Outcome, answer_of, changed}
use Rattle.rk_model.specs.Directives.Tasks.{task_named, task_suspend}
use Rattle.rk_groups.specs.GroupObjects.{listed}

-- a thread that lives in a cluster, and no thread elsewhere
abbrev pub cut_thread : ℕ → Thread → Thread
cut_thread c x = if has_begun x.life && (x.home == c) then x else no_thread

-- a cluster that is this one, and one of idle processors elsewhere
abbrev pub cut_cluster : Plain → ℕ → ℕ → ClusterState
cut_cluster k c d = if d == c then cluster_at k d else free_cluster (slice_index_or k.scenario.clusters d 0)

-- The state cut to one cluster: what that cluster's part has of it, and vacant elsewhere; semaphores, barriers, partitions and periods are in no part of a cluster.
abbrev pub cut : Plain → ℕ → Plain
cut k c = record k { clusters = listed (cut_cluster k c) 0 (length k.clusters); threads = map (cut_thread c) k.threads; semaphores = replicate MOST_OBJECTS no_semaphore; barriers = replicate MOST_OBJECTS no_barrier; partitions = replicate MOST_OBJECTS no_partition; periods = replicate MOST_OBJECTS no_period }

-- a thread lives in a cluster
pub record LivesAt (k : Plain) (c t : ℕ) : Type 0 where
  pub life : has_begun (thread_at k t).life ≡ true
  pub home : ((thread_at k t).home == c) ≡ true

-- On the state cut to a cluster a row comes to the same answer, and to the cut of the state to which it comes on the whole.
pub record Commutes (k : Plain) (c : ℕ) (whole lent : Outcome) : Type 0 where
  pub told : answer_of lent ≡ answer_of whole
  pub state : changed (cut k c) lent ≡ cut (changed k whole) c

-- task.suspend of a task of the caller's home needs that cluster's part alone.
abbrev pub SuspendNeedsItsClusterAlone : Type 0
SuspendNeedsItsClusterAlone = (k : Plain) (c t u : ℕ) (id : Target) → LivesAt k c t → LivesAt k c u → task_named k t id ≡ Some u → Commutes k c (task_suspend k t id) (task_suspend (cut k c) t id)

-- What is put in its group is put in the state that the parts stand for.
use Rattle.std.proofs.Common.{◌≡◌, ℕ, List, Option, ap, ◌∙◌}
use Rattle.rk_model.specs.declared.scenario.Scenario.{Scenario}
use Rattle.rk_model.specs.declared.state.Wait.{Wait}
use Rattle.rk_model.specs.Names.{Table}
use Rattle.rk_model.specs.State.{SemaphoreState, BarrierState, PartitionState, PeriodState, put_semaphore, put_barrier, put_partition, put_period}
use Rattle.rk_model.specs.Directives.Waits.{object_of_wait, without_arrival, without_waiter_in, leave}
use Rattle.rk_parts.specs.declared.parts.ClusterPart.{ClusterPart}
use Rattle.rk_groups.specs.declared.group.GroupPart.{GroupPart}
use Rattle.rk_groups.specs.Groups.{Leaves, PutsBarrier, PutsPartition, PutsPeriod, PutsSemaphore}
use Rattle.rk_groups.specs.GroupObjects.{semaphores_of, barriers_of}
use Rattle.rk_parts.specs.Joined.{joined, thread_lent}

-- a barrier that is put in its group is put in the state,
pub barrier_joined : (s : Scenario) (table : Table) (parts : List ClusterPart) (old new : List GroupPart) (i : ℕ) (b : BarrierState) → PutsBarrier old i b new → joined s table parts new ≡ put_barrier (joined s table parts old) i b
barrier_joined s table parts old new i b puts = λ k. record (joined s table parts old) { semaphores = puts.semaphores k; barriers = puts.barriers k; partitions = puts.partitions k; periods = puts.periods k }

-- and a thread that leaves the queue of what it waits for leaves it in the state.
pub left_joined : (s : Scenario) (table : Table) (parts : List ClusterPart) (old new : List GroupPart) (t : ℕ) (wait : Option Wait) → wait ≡ (thread_lent parts t).wait → Leaves old t (object_of_wait wait) new → joined s table parts new ≡ leave (joined s table parts old) t
left_joined s table parts old new t wait waits leaves =
    let is : barriers_of new ≡ without_arrival (barriers_of old) t (object_of_wait (thread_lent parts t).wait) = leaves.barriers ∙ ap (λ (w : Option Wait). without_arrival (barriers_of old) t (object_of_wait w)) waits in
    let are : semaphores_of new ≡ without_waiter_in (semaphores_of old) t (object_of_wait (thread_lent parts t).wait) = leaves.semaphores ∙ ap (λ (w : Option Wait). without_waiter_in (semaphores_of old) t (object_of_wait w)) waits in
    λ k. record (joined s table parts old) { semaphores = are k; barriers = is k; partitions = leaves.partitions k; periods = leaves.periods k }

-- a partition that is put in its group is put in the state
pub partition_joined : (s : Scenario) (table : Table) (parts : List ClusterPart) (old new : List GroupPart) (i : ℕ) (p : PartitionState) → PutsPartition old i p new → joined s table parts new ≡ put_partition (joined s table parts old) i p
partition_joined s table parts old new i p puts = λ k. record (joined s table parts old) { semaphores = puts.semaphores k; barriers = puts.barriers k; partitions = puts.partitions k; periods = puts.periods k }

-- a period that is put in its group is put in the state
pub period_joined : (s : Scenario) (table : Table) (parts : List ClusterPart) (old new : List GroupPart) (i : ℕ) (p : PeriodState) → PutsPeriod old i p new → joined s table parts new ≡ put_period (joined s table parts old) i p
period_joined s table parts old new i p puts = λ k. record (joined s table parts old) { semaphores = puts.semaphores k; barriers = puts.barriers k; partitions = puts.partitions k; periods = puts.periods k }

-- a semaphore that is put in its group is put in the state
pub semaphore_joined : (s : Scenario) (table : Table) (parts : List ClusterPart) (old new : List GroupPart) (i : ℕ) (x : SemaphoreState) → PutsSemaphore old i x new → joined s table parts new ≡ put_semaphore (joined s table parts old) i x
semaphore_joined s table parts old new i x puts = λ k. record (joined s table parts old) { semaphores = puts.semaphores k; barriers = puts.barriers k; partitions = puts.partitions k; periods = puts.periods k }

use Rattle.std.proofs.Common.{◌≡◌, length}
use Rattle.rk_model.specs.Scheduling.Ticks.{fire_each, fire_cluster}
use Rattle.rk_parts.specs.Firing.{due_now}
use Rattle.rk_parts.specs.Joined.{plain_of}
use Rattle.rk_kernel.specs.Ready.{IsReady}
use Rattle.rk_kernel.proofs.clock.fire_cluster.Given as goal

abbrev pub invariant-firing : goal.invariant-firing
invariant-firing l = record {
  ready : IsReady l.all;
  scenario : l.all.scenario ≡ l.fn.all.scenario;
  so_far : fire_each (plain_of l.all) l.cluster (due_now (plain_of l.all) l.cluster) ≡ fire_cluster (plain_of l.fn.all) l.cluster;
}

abbrev pub decreases-firing : goal.decreases-firing
decreases-firing l = length (due_now (plain_of l.all) l.cluster)

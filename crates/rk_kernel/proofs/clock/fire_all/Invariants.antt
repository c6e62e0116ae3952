use Rattle.std.proofs.Common.{◌≡◌, ◌-◌, length}
use Rattle.rk_model.specs.Scheduling.Ticks.{fire_from, fire_all}
use Rattle.rk_parts.specs.Joined.{plain_of}
use Rattle.rk_kernel.specs.Ready.{IsReady}
use Rattle.rk_kernel.proofs.clock.fire_all.Given as goal

abbrev pub invariant-loop-cluster : goal.invariant-loop-cluster
invariant-loop-cluster l = record {
  ready : IsReady l.all;
  scenario : l.all.scenario ≡ l.fn.all.scenario;
  so_far : fire_from (plain_of l.all) l.cluster (length l.fn.all.scenario.clusters - l.cluster) ≡ fire_all (plain_of l.fn.all);
}

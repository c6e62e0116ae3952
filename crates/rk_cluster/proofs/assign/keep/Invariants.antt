use Rattle.std.proofs.Common.{◌≡◌, ◌++◌, take, drop, map, length}
use Rattle.rk_model.specs.Scheduling.ReadyQueues.{kept}
use Rattle.rk_cluster.proofs.assign.keep.Given as goal

abbrev pub invariant-loop-at : goal.invariant-loop-at
invariant-loop-at l = record {
  size : length l.cpus ≡ length l.fn.cpus;
  told : take l.at l.cpus ++ map (kept l.running) (drop l.at l.cpus) ≡ map (kept l.running) l.fn.cpus;
}

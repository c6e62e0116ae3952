use Rattle.std.proofs.Common.{◌≡◌, ◌++◌, ◌≤◌, take, drop, length}
use Rattle.rk_model.specs.Scheduling.ReadyQueues.{filled}
use Rattle.rk_cluster.proofs.assign.fill.Given as goal

abbrev pub invariant-loop-at : goal.invariant-loop-at
invariant-loop-at l = record {
  size : length l.cpus ≡ length l.fn.cpus;
  within : l.next ≤ length l.threads;
  told : take l.at l.cpus ++ filled (drop l.at l.cpus) (drop l.next l.threads) ≡ filled l.fn.cpus l.threads;
}

use Rattle.std.proofs.Common.{◌≡◌, ◌≤◌, ◌++◌, length, drop, not}
use Rattle.std.specs.List.{filter}
use Rattle.rk_model.specs.Scheduling.ReadyQueues.{has_cpu}
use Rattle.rk_cluster.proofs.assign.find_fresh.Given as goal

abbrev pub invariant-loop-thread : goal.invariant-loop-thread
invariant-loop-thread l = record {
  few : length l.out ≤ l.thread-index;
  found : l.out ++ filter (λ t. not (has_cpu l.cpus t)) (drop l.thread-index l.running) ≡ filter (λ t. not (has_cpu l.cpus t)) l.running;
}

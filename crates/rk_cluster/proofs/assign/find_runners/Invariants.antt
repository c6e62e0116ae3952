use Rattle.std.proofs.Common.{◌≡◌, ◌≤◌, length}
use Rattle.rk_cluster.specs.Clusters.{runners_of}
use Rattle.rk_cluster.proofs.assign.find_runners.Given as goal

abbrev pub invariant-loop-n : goal.invariant-loop-n
invariant-loop-n l = record {
  few : length l.out ≤ l.n;
  found : l.out ≡ runners_of l.n l.line;
}

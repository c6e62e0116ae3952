use Rattle.std.proofs.Common.{◌≡◌, ◌++◌, map, take, drop, length}
use Rattle.rk_parts.specs.Hosted.{idle_part}
use Rattle.rk_parts.proofs.helping.host_none.Given as goal

abbrev pub invariant-loop-at : goal.invariant-loop-at
invariant-loop-at l = record {
  size : length l.clusters ≡ length l.fn.clusters;
  so_far : take l.at l.clusters ++ map idle_part (drop l.at l.clusters) ≡ map idle_part l.fn.clusters;
}

use Rattle.std.proofs.Common.{◌≡◌, ◌++◌, map, take, drop, length}
use Rattle.rk_parts.specs.Whole.{at_tick}
use Rattle.rk_parts.proofs.ticks.set_clusters.Given as goal

abbrev pub invariant-loop-at : goal.invariant-loop-at
invariant-loop-at l = record {
  size : length l.clusters ≡ length l.fn.clusters;
  so_far : take l.at l.clusters ++ map (at_tick l.tick) (drop l.at l.clusters) ≡ map (at_tick l.tick) l.fn.clusters;
}

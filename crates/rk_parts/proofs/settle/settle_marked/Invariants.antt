use Rattle.std.proofs.Common.{◌≡◌, [], ◌++◌, map, take, drop, length}
use Rattle.rk_parts.specs.Noted.{bare, settled_part}
use Rattle.rk_parts.proofs.settle.settle_marked.Given as goal

abbrev pub invariant-loop-at : goal.invariant-loop-at
invariant-loop-at l = record {
  size : length l.clusters ≡ length l.fn.clusters;
  so_far : map bare (take l.at l.clusters) ++ map (settled_part []) (drop l.at l.clusters) ≡ map (settled_part []) l.fn.clusters;
}

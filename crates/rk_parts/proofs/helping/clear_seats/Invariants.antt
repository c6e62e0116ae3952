use Rattle.std.proofs.Common.{◌≡◌, ◌++◌, map, take, drop, length}
use Rattle.rk_parts.specs.Hosted.{without_seats}
use Rattle.rk_parts.proofs.helping.clear_seats.Given as goal

abbrev pub invariant-loop-at : goal.invariant-loop-at
invariant-loop-at l = record {
  size : length l.clusters ≡ length l.fn.clusters;
  so_far : take l.at l.clusters ++ map without_seats (drop l.at l.clusters) ≡ map without_seats l.fn.clusters;
}

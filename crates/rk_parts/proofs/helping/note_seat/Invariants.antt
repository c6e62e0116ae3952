use Rattle.std.proofs.Common.{◌≡◌, ◌++◌, map, take, drop, length}
use Rattle.rk_parts.specs.Hosted.{with_seat}
use Rattle.rk_parts.proofs.helping.note_seat.Given as goal

abbrev pub invariant-loop-at : goal.invariant-loop-at
invariant-loop-at l = record {
  size : length l.clusters ≡ length l.fn.clusters;
  left : drop l.at l.clusters ≡ drop l.at l.fn.clusters;
  so_far : take l.at l.clusters ++ map (with_seat l.cpu l.thread) (drop l.at l.clusters) ≡ map (with_seat l.cpu l.thread) l.fn.clusters;
}

use Rattle.std.proofs.Common.{◌≡◌, ◌++◌, map, take, drop, length}
use Rattle.std.specs.Option.{option_to_list}
use Rattle.rk_parts.specs.Noted.{bare, settled_part}
use Rattle.rk_parts.proofs.settle.settle_last.Given as goal

abbrev pub invariant-loop-at : goal.invariant-loop-at
invariant-loop-at l = record {
  size : length l.clusters ≡ length l.fn.clusters;
  so_far : map bare (take l.at l.clusters) ++ map (settled_part (option_to_list l.last)) (drop l.at l.clusters) ≡ map (settled_part (option_to_list l.last)) l.fn.clusters;
}

use Rattle.std.proofs.Common.{◌≡◌, ◌++◌, map, take, drop, length}
use Rattle.std.specs.List.{AllByRecursion}
use Rattle.rk_parts.specs.Holdings.{with_owner, IsNotedIn}
use Rattle.rk_parts.proofs.holdings.note_owner.Given as goal

abbrev pub invariant-loop-at : goal.invariant-loop-at
invariant-loop-at l = record {
  size : length l.clusters ≡ length l.fn.clusters;
  so_far : take l.at l.clusters ++ map (with_owner l.index l.holding) (drop l.at l.clusters) ≡ map (with_owner l.index l.holding) l.fn.clusters;
  noted : AllByRecursion (IsNotedIn l.index l.holding) (take l.at l.clusters);
}

use Rattle.std.proofs.Common.{◌≡◌, ◌++◌, map, take, drop, length}
use Rattle.rk_parts.specs.Whole.{group_at_tick}
use Rattle.rk_parts.proofs.ticks.set_groups.Given as goal

abbrev pub invariant-loop-at : goal.invariant-loop-at
invariant-loop-at l = record {
  size : length l.groups ≡ length l.fn.groups;
  so_far : take l.at l.groups ++ map (group_at_tick l.tick) (drop l.at l.groups) ≡ map (group_at_tick l.tick) l.fn.groups;
}

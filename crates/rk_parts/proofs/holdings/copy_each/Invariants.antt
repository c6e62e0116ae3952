use Rattle.std.proofs.Common.{◌≡◌, None, drop, length}
use Rattle.rk_parts.specs.Threads.{AsNoted}
use Rattle.rk_parts.proofs.holdings.copy_each.Given as goal

abbrev pub invariant-loop-index : goal.invariant-loop-index
invariant-loop-index l = record {
  size : length l.noted ≡ 64;
  so_far : AsNoted None (drop l.index-index l.changed) l.noted l.owners;
}

use Rattle.std.proofs.Common.{◌≡◌, drop}
use Rattle.rk_parts.specs.Joined.{held}
use Rattle.rk_parts.proofs.lent.held_of.Given as goal

abbrev pub invariant-loop-part : goal.invariant-loop-part
invariant-loop-part l = held (drop l.part-index l.clusters) l.thread ≡ held l.clusters l.thread

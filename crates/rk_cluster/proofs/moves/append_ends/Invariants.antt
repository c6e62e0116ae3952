use Rattle.std.proofs.Common.{◌-◌}
use Rattle.rk_cluster.proofs.RegisterPassLemmas.{IsRising}
use Rattle.rk_cluster.proofs.moves.append_ends.Given as goal

abbrev pub invariant-rising : goal.invariant-rising
invariant-rising l = IsRising l.marks l.rest l.done l.changes l.fn.line l.line

abbrev pub decreases-rising : goal.decreases-rising
decreases-rising l = 64 - l.done

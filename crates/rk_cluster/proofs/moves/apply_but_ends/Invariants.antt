use Rattle.rk_cluster.proofs.RegisterPassLemmas.{IsFalling}
use Rattle.rk_cluster.proofs.moves.apply_but_ends.Given as goal

abbrev pub invariant-falling : goal.invariant-falling
invariant-falling l = IsFalling l.marks l.rest l.done l.changes l.fn.line l.line

abbrev pub decreases-falling : goal.decreases-falling
decreases-falling l = l.done

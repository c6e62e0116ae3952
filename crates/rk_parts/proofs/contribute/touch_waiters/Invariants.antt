use Rattle.rk_parts.proofs.ContributingLemmas.{IsTouchingWaiters}
use Rattle.rk_parts.proofs.contribute.touch_waiters.Given as goal

abbrev pub invariant-loop-at : goal.invariant-loop-at
invariant-loop-at l = IsTouchingWaiters l.clusters l.index l.at l.fn.touched l.touched

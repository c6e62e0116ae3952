use Rattle.rk_parts.proofs.ContributingLemmas.{IsTouchingHeld}
use Rattle.rk_parts.proofs.contribute.touch_held.Given as goal

abbrev pub invariant-loop-at : goal.invariant-loop-at
invariant-loop-at l = IsTouchingHeld l.clusters l.at l.fn.touched l.touched

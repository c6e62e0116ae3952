use Rattle.rk_parts.proofs.ContributingLemmas.{IsTouchingParts}
use Rattle.rk_parts.proofs.contribute.touch_marked.Given as goal

abbrev pub invariant-loop-at : goal.invariant-loop-at
invariant-loop-at l = IsTouchingParts l.clusters l.at l.fn.touched l.touched

use Rattle.rk_parts.proofs.ContributingLemmas.{IsTouchingChanged}
use Rattle.rk_parts.proofs.contribute.touch_changed.Given as goal

abbrev pub invariant-loop-index : goal.invariant-loop-index
invariant-loop-index l = IsTouchingChanged l.clusters l.changed l.index-index l.fn.touched l.touched

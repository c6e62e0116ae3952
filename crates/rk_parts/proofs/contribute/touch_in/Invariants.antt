use Rattle.rk_parts.proofs.ContributingLemmas.{IsTouching}
use Rattle.rk_parts.proofs.contribute.touch_in.Given as goal

abbrev pub invariant-loop-thread : goal.invariant-loop-thread
invariant-loop-thread l = IsTouching l.marked l.thread-index l.fn.touched l.touched

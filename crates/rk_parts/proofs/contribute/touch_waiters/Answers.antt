use Rattle.std.proofs.Common.{arith, sym, ◌∙◌}
use Rattle.rk_parts.proofs.ContributingLemmas.{waiters_none, waiters_flagged, waiters_passed, waiters_all}
use Rattle.rk_parts.proofs.contribute.touch_waiters.Goals.{then-waits_for, else-waits_for}
use Rattle.rk_parts.proofs.contribute.touch_waiters.Goals as goal

pub loop-at-init : goal.loop-at-init
loop-at-init c = waiters_none c.args.clusters.now c.args.index c.args.touched.now

pub loop-at-preserved : goal.loop-at-preserved
loop-at-preserved c = elim c.if-waits_for.branch [
  | then-waits_for w ↦ rw w.touched-is (waiters_flagged c.args.clusters.now c.args.index c.loop-at.at c.new-thread.result c.args.touched.now c.loop-at.touched w.raise.new.flags c.new-thread.ensures w.raise.ensures c.loop-at.invariant)
  | else-waits_for w ↦ rw w.touched-is (waiters_passed c.args.clusters.now c.args.index c.loop-at.at c.new-thread.result c.args.touched.now c.loop-at.touched c.new-thread.ensures (sym c.waits_for.ensures ∙ w.if-waits_for.false) c.loop-at.invariant)
]

pub returns-clause-kept : goal.returns-clause-kept
returns-clause-kept c = c.loop-at.invariant.are.kept

pub returns-clause-waiters : goal.returns-clause-waiters
returns-clause-waiters c = waiters_all c.args.clusters.now c.args.index c.loop-at.at c.args.touched.now c.loop-at.touched (omega arith) c.loop-at.invariant

use Rattle.std.proofs.Common.{arith}
use Rattle.rk_parts.proofs.ContributingLemmas.{held_none, held_one, held_all}
use Rattle.rk_parts.proofs.contribute.touch_held.Goals as goal

pub loop-at-init : goal.loop-at-init
loop-at-init c = held_none c.args.clusters.now c.args.touched.now

pub loop-at-preserved : goal.loop-at-preserved
loop-at-preserved c = held_one c.args.clusters.now c.loop-at.at c.args.touched.now c.loop-at.touched c.touch_changed.new.touched c.touch_changed.ensures.kept c.touch_changed.ensures.apart c.loop-at.invariant

pub returns-clause-kept : goal.returns-clause-kept
returns-clause-kept c = c.loop-at.invariant.are.kept

pub returns-clause-apart : goal.returns-clause-apart
returns-clause-apart c = held_all c.args.clusters.now c.loop-at.at c.args.touched.now c.loop-at.touched (omega arith) c.loop-at.invariant

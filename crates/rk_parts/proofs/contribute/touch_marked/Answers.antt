use Rattle.std.proofs.Common.{arith}
use Rattle.rk_parts.proofs.ContributingLemmas.{touching_part, touched_parts}
use Rattle.rk_parts.proofs.contribute.touch_marked.Goals as goal

pub loop-at-init : goal.loop-at-init
loop-at-init c = record { are = record { kept = λ t low. low }; rest = λ at t less low. absurd (omega (arith, less)) }

pub loop-at-preserved : goal.loop-at-preserved
loop-at-preserved c = touching_part c.args.clusters.now c.loop-at.at c.index-clusters-at.result c.args.touched.now c.loop-at.touched c.touch_in.new.touched (omega arith) c.index-clusters-at.is c.touch_in.ensures.kept c.touch_in.ensures.rest c.loop-at.invariant

pub returns-clause-kept : goal.returns-clause-kept
returns-clause-kept c = c.loop-at.invariant.are.kept

pub returns-clause-rest : goal.returns-clause-rest
returns-clause-rest c = touched_parts c.args.clusters.now c.loop-at.at c.args.touched.now c.loop-at.touched (omega arith) c.loop-at.invariant

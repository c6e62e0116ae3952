use Rattle.std.proofs.Common.{arith, refl}
use Rattle.rk_parts.proofs.ContributingLemmas.{touching_one, touched_all}
use Rattle.std.proofs.lemmas.List.{drop_all}
use Rattle.rk_parts.proofs.contribute.touch_in.Goals as goal

pub loop-thread-init : goal.loop-thread-init
loop-thread-init c = record { are = record { kept = λ t low. low }; rest = λ t low none. none }

pub loop-thread-preserved : goal.loop-thread-preserved
loop-thread-preserved c = touching_one c.marked-marked.result.now c.loop-thread.thread-index c.thread-item.result c.args.touched.now c.loop-thread.touched c.raise.new.flags (omega arith) c.thread-item.is c.raise.ensures c.loop-thread.invariant

pub returns-clause-kept : goal.returns-clause-kept
returns-clause-kept c = c.loop-thread.invariant.are.kept

pub returns-clause-rest : goal.returns-clause-rest
returns-clause-rest c = touched_all c.args.part.now.threads c.marked-marked.result.now c.loop-thread.thread-index c.args.touched.now c.loop-thread.touched (drop_all c.loop-thread.thread-index c.marked-marked.result.now (omega arith)) c.marked-marked.ensures.others c.loop-thread.invariant c.args.part.now refl

use Rattle.std.proofs.Common.{Option, IfSome, subst}
use Rattle.rk_model.specs.declared.scenario.Op.{Op}
use Rattle.rk_model.specs.Limits.{IsNear}
use Rattle.rk_directives.proofs.DirectiveLemmas.LentLemmas.{all_narrow}
use Rattle.rk_directives.proofs.actions.perform_at.Goals as goal

pub perform-requires-clause-near : goal.perform-requires-clause-near
perform-requires-clause-near c = subst (λ (o : Option Op). IfSome o IsNear) c.in-Some.is c.requires.near

pub returns-in-Some : goal.returns-in-Some
returns-in-Some c = rw c.in-Some.is c.perform.ensures

pub returns-in-None : goal.returns-in-None
returns-in-None c = rw c.in-None.is (all_narrow c.args.all.now _ _ _ c.requires.whole (c.task_exit.ensures c.args.all.now.scenario))

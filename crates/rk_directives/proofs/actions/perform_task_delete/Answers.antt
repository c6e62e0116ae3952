use Rattle.rk_model.specs.declared.ids.Class.TheVariants.{Task}
use Rattle.rk_directives.proofs.DirectiveLemmas.LentLemmas.{all_every}
use Rattle.rk_directives.proofs.actions.perform_task_delete.Goals as goal

pub task_delete-requires-clause-named : goal.task_delete-requires-clause-named
task_delete-requires-clause-named c = c.requires.acts.sound.named.class Task

pub returns : goal.returns
returns c = all_every c.args.all.now _ _ _ _ _ c.requires.whole (c.task_delete.ensures c.args.all.now.scenario)

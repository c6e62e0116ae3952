use Rattle.std.proofs.Common.{refl, sym, ◌∙◌}
use Rattle.rk_directives.proofs.DirectiveLemmas.LentLemmas.{deletes, deletes_not}
use Rattle.rk_directives.proofs.tasks.task_delete.Goals as goal

pub returns-then-eq : goal.returns-then-eq
returns-then-eq c = λ s. deletes s c.args.clusters.now c.without_task.new.clusters c.args.groups.now c.without_task.new.groups c.args.names.now c.without_task.new.names c.args.caller c.in-Some.task c.args.id _ (sym c.task_named.ensures.found ∙ c.in-Some.is) (sym c.is_in_use.ensures ∙ c.if-is_in_use.false) (rw (sym c.eq.ensures ∙ c.if-eq.true) refl) (c.without_task.ensures s)

pub returns-else-eq : goal.returns-else-eq
returns-else-eq c = λ s. deletes s c.args.clusters.now c.without_task.new.clusters c.args.groups.now c.without_task.new.groups c.args.names.now c.without_task.new.names c.args.caller c.in-Some.task c.args.id _ (sym c.task_named.ensures.found ∙ c.in-Some.is) (sym c.is_in_use.ensures ∙ c.if-is_in_use.false) (c.done.ensures ∙ (rw (sym c.eq.ensures ∙ c.if-eq.false) refl)) (c.without_task.ensures s)

pub returns-then-is_in_use : goal.returns-then-is_in_use
returns-then-is_in_use c = λ s. deletes_not s c.args.clusters.now c.args.groups.now c.args.names.now c.args.caller c.in-Some.task c.args.id (sym c.task_named.ensures.found ∙ c.in-Some.is) (sym c.is_in_use.ensures ∙ c.if-is_in_use.true)

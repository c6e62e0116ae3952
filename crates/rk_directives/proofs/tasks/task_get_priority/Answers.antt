use Rattle.std.proofs.Common.{ℕ, Option, None, Some, refl, sym, ◌∙◌, ap, subst}
use Rattle.rk_model.specs.declared.entry.Answer.TheVariants.{Done}
use Rattle.rk_model.specs.declared.status.Status.TheVariants.{Successful}
use Rattle.rk_parts.specs.Contributions.{IsOne}
use Rattle.rk_directives.proofs.DirectiveLemmas.LentLemmas.{tells_prio}
use Rattle.rk_directives.proofs.tasks.task_get_priority.Goals as goal

pub returns-in-None-prio_of : goal.returns-in-None-prio_of
returns-in-None-prio_of c = λ s.
    tells_prio s c.args.clusters.now c.args.groups.now c.args.caller c.in-Some.task c.args.cluster c.args.id None _ (sym c.task_named.ensures.found ∙ c.in-Some.is)
    (sym c.in-None-prio_of.is ∙ c.prio_of.ensures ∙ c.requires.each c.in-Some.task c.args.cluster (subst IsOne c.at-index.ensures.value (c.at-index.ensures.low, c.at-index.ensures.high)))
    refl

pub returns-in-Some-prio_of : goal.returns-in-Some-prio_of
returns-in-Some-prio_of c = λ s.
    tells_prio s c.args.clusters.now c.args.groups.now c.args.caller c.in-Some.task c.args.cluster c.args.id (Some c.in-Some-prio_of.prio) _ (sym c.task_named.ensures.found ∙ c.in-Some.is)
    (sym c.in-Some-prio_of.is ∙ c.prio_of.ensures ∙ c.requires.each c.in-Some.task c.args.cluster (subst IsOne c.at-index.ensures.value (c.at-index.ensures.low, c.at-index.ensures.high)))
    (c.done.ensures ∙ ap (λ (p : ℕ). Done Successful p None) (c.from.ensures ∙ c.level.ensures.value))

use Rattle.std.proofs.Common.{rules, sym, ◌∙◌, ◌≡◌, ℕ, None, false, nat_lt, subst}
use Rattle.rk_model.specs.declared.limits.TheConstants.{LEAST_URGENT}
use Rattle.rk_model.specs.State.{Plain}
use Rattle.rk_model.specs.declared.entry.Answer.TheVariants.{Done}
use Rattle.rk_model.specs.declared.status.Status.TheVariants.{Successful}
use Rattle.rk_model.specs.Scheduling.Priorities.{home_prio}
use Rattle.rk_model.specs.Directives.Tasks.{task_set_priority}
use Rattle.rk_directives.specs.Does.{DoesBoth, lent_both}
use Rattle.rk_directives.proofs.DirectiveLemmas.LentLemmas.{not_zero, tells_priority, sets_priority}
use Rattle.rk_directives.proofs.tasks.task_set_priority.Goals as goal

pub returns-then-prio-eq0 : goal.returns-then-prio-eq0
returns-then-prio-eq0 c = λ s.
    let old = c.args.clusters.now in
    let groups = c.args.groups.now in
    let before : c.from-before.result ≡ home_prio (lent_both old groups) c.in-Some.task = c.from-before.ensures ∙ c.level.ensures.value ∙ c.prio_at_home.ensures ∙ c.requires.prios c.in-Some.task (search rules, search rules) in
    rw (c.done.ensures)
    (subst (λ p. DoesBoth s (λ k. task_set_priority k c.args.caller c.args.id p) (Done Successful c.from-before.result None) old groups old groups) (sym c.if-prio-eq0.true)
    (tells_priority s old groups c.args.caller c.in-Some.task c.from-before.result c.args.id (sym c.task_named.ensures.found ∙ c.in-Some.is) before))

pub returns-else-prio-eq0 : goal.returns-else-prio-eq0
returns-else-prio-eq0 c = λ s.
    let old = c.args.clusters.now in
    let groups = c.args.groups.now in
    let before : c.from-before.result ≡ home_prio (lent_both old groups) c.in-Some.task = c.from-before.ensures ∙ c.level.ensures.value ∙ c.prio_at_home.ensures ∙ c.requires.prios c.in-Some.task (search rules, search rules) in
    let few : nat_lt LEAST_URGENT c.args.prio ≡ false = search rules in
    sets_priority s old c.with_base.new.clusters groups c.args.caller c.in-Some.task c.args.prio c.new.result c.from-before.result c.args.id (sym c.task_named.ensures.found ∙ c.in-Some.is) few (not_zero c.args.prio c.if-prio-eq0.false) c.new.ensures before c.with_base.ensures

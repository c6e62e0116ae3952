use Rattle.std.proofs.Common.{sym, ◌∙◌}
use Rattle.rk_model.specs.declared.ids.Class.TheVariants.{Period}
use Rattle.rk_model.specs.State.{Plain}
use Rattle.rk_model.specs.Directives.Objects.{object_named}
use Rattle.rk_model.specs.Directives.Periods.{cancelled_by}
use Rattle.rk_directives.proofs.DirectiveLemmas.LentLemmas.{unknown_both, found_both}
use Rattle.rk_directives.proofs.periods.period_cancel.Goals as goal

pub cancel_at-requires-clause-goes_on : goal.cancel_at-requires-clause-goes_on
cancel_at-requires-clause-goes_on c = c.requires.goes_on c.in-Some.index (sym c.period_named.ensures.found ∙ c.in-Some.is)

pub returns-in-None : goal.returns-in-None
returns-in-None c = λ s. unknown_both s c.args.clusters.now c.args.groups.now (λ (k : Plain). object_named k c.args.caller Period c.args.id) (λ (k : Plain) i. cancelled_by k c.args.caller i) (λ table. sym c.period_named.ensures.found ∙ c.in-None.is)

pub returns-in-Some : goal.returns-in-Some
returns-in-Some c = λ s.
    found_both s c.args.clusters.now c.cancel_at.new.clusters c.args.groups.now c.cancel_at.new.groups (λ (k : Plain). object_named k c.args.caller Period c.args.id) (λ (k : Plain) i. cancelled_by k c.args.caller i) c.in-Some.index c.cancel_at.result
    (λ table. sym c.period_named.ensures.found ∙ c.in-Some.is) (c.cancel_at.ensures s)

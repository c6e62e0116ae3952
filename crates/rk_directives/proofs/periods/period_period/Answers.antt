use Rattle.std.proofs.Common.{sym, ◌∙◌}
use Rattle.rk_model.specs.declared.ids.Class.TheVariants.{Period}
use Rattle.rk_model.specs.State.{Plain}
use Rattle.rk_model.specs.Directives.Objects.{object_named}
use Rattle.rk_model.specs.Directives.Periods.{called}
use Rattle.rk_directives.proofs.DirectiveLemmas.LentLemmas.{unknown_both, found_both}
use Rattle.rk_directives.proofs.periods.period_period.Goals as goal

pub call_at-requires-clause-callable : goal.call_at-requires-clause-callable
call_at-requires-clause-callable c = c.requires.callable c.in-Some.index (sym c.period_named.ensures.found ∙ c.in-Some.is)

pub returns-in-None : goal.returns-in-None
returns-in-None c = λ s. unknown_both s c.args.clusters.now c.args.groups.now (λ (k : Plain). object_named k c.args.caller Period c.args.id) (λ (k : Plain) i. called k c.args.caller i c.args.length) (λ table. sym c.period_named.ensures.found ∙ c.in-None.is)

pub returns-in-Some : goal.returns-in-Some
returns-in-Some c = λ s.
    found_both s c.args.clusters.now c.call_at.new.clusters c.args.groups.now c.call_at.new.groups (λ (k : Plain). object_named k c.args.caller Period c.args.id) (λ (k : Plain) i. called k c.args.caller i c.args.length) c.in-Some.index c.call_at.result
    (λ table. sym c.period_named.ensures.found ∙ c.in-Some.is) (c.call_at.ensures s)

use Rattle.std.proofs.Common.{ap, sym, ◌∙◌}
use Rattle.rk_model.specs.State.{Plain, period_at}
use Rattle.rk_kernel.proofs.StatisticsLaws.{statistics_shown}
use Rattle.rk_kernel.proofs.kernel.period_stats.Goals as goal

pub returns-then-is_live-clause-history : goal.returns-then-is_live-clause-history
returns-then-is_live-clause-history c = λ s xs is legal same.
    let reached = c.parts.view_is ∙ same in
    c.stats.ensures
    ∙ ap (λ (k : Plain). (period_at k c.args.index).stats) reached
    ∙ statistics_shown s xs is legal c.args.index (sym (ap (λ (k : Plain). (period_at k c.args.index).live) reached) ∙ sym c.is_live.ensures ∙ c.if-is_live.true)

use Rattle.std.proofs.Common.{sym, ap, ◌∙◌}
use Rattle.rk_model.specs.State.{PeriodState}
use Rattle.rk_period.specs.Periods.{removed, reply_to_remove}
use Rattle.rk_groups.proofs.PeriodGroupLemmas.{of_periods, period_stands, period_put, never_live}
use Rattle.rk_groups.proofs.periods.remove.Goals as goal

pub remove-requires-clause-place : goal.remove-requires-clause-place
remove-requires-clause-place c = of_periods c.args.groups.now c.in-Some.at c.args.index c.index-groups-at.result c.requires.low c.requires.high c.in-Some.ensures.place

pub remove-requires-clause-live : goal.remove-requires-clause-live
remove-requires-clause-live c =
    ap (λ (p : PeriodState). p.live) (period_stands c.args.groups.now c.in-Some.at c.args.index c.index-groups-at.result c.requires.low c.requires.high c.in-Some.ensures.place) ∙ c.requires.live

pub returns-in-Some-clause-period : goal.returns-in-Some-clause-period
returns-in-Some-clause-period c =
    let stands = period_stands c.args.groups.now c.in-Some.at c.args.index c.index-groups-at.result c.requires.low c.requires.high c.in-Some.ensures.place in
    period_put c.args.groups.now c.in-Some.at c.args.index c.index-groups-at.result _ _ _ c.requires.low c.requires.high c.in-Some.ensures.place c.in-Some.ensures.store c.remove.ensures.period (ap removed stands)

pub returns-in-Some-clause-reply : goal.returns-in-Some-clause-reply
returns-in-Some-clause-reply c =
    let stands = period_stands c.args.groups.now c.in-Some.at c.args.index c.index-groups-at.result c.requires.low c.requires.high c.in-Some.ensures.place in
    c.remove.ensures.reply ∙ ap reply_to_remove stands

pub returns-in-None : goal.returns-in-None
returns-in-None c = absurd (never_live c.args.groups.now c.args.index c.requires.low c.requires.high (sym c.in-None.ensures.place) c.requires.live)

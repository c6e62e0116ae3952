use Rattle.std.proofs.Common.{sym, ap, subst, ◌∙◌, ◌≡◌, false}
use Rattle.rk_model.specs.State.{PeriodState}
use Rattle.rk_period.specs.Periods.{waits_for, cancelled_by, reply_to_cancel}
use Rattle.rk_groups.proofs.PeriodGroupLemmas.{of_periods, period_stands, period_put, never_live}
use Rattle.rk_groups.proofs.periods.cancel.Goals as goal

pub cancel-requires-clause-place : goal.cancel-requires-clause-place
cancel-requires-clause-place c = of_periods c.args.groups.now c.in-Some.at c.args.index c.index-groups-at.result c.requires.low c.requires.high c.in-Some.ensures.place

pub cancel-requires-clause-live : goal.cancel-requires-clause-live
cancel-requires-clause-live c =
    ap (λ (p : PeriodState). p.live) (period_stands c.args.groups.now c.in-Some.at c.args.index c.index-groups-at.result c.requires.low c.requires.high c.in-Some.ensures.place) ∙ c.requires.live

pub cancel-requires-clause-goes_on : goal.cancel-requires-clause-goes_on
cancel-requires-clause-goes_on c =
    subst (λ (p : PeriodState). waits_for p c.args.by ≡ false) (sym (period_stands c.args.groups.now c.in-Some.at c.args.index c.index-groups-at.result c.requires.low c.requires.high c.in-Some.ensures.place)) c.requires.goes_on

pub returns-in-Some-clause-period : goal.returns-in-Some-clause-period
returns-in-Some-clause-period c =
    let stands = period_stands c.args.groups.now c.in-Some.at c.args.index c.index-groups-at.result c.requires.low c.requires.high c.in-Some.ensures.place in
    period_put c.args.groups.now c.in-Some.at c.args.index c.index-groups-at.result _ _ _ c.requires.low c.requires.high c.in-Some.ensures.place c.in-Some.ensures.store c.cancel.ensures.period (ap (cancelled_by c.args.by) stands)

pub returns-in-Some-clause-reply : goal.returns-in-Some-clause-reply
returns-in-Some-clause-reply c =
    let stands = period_stands c.args.groups.now c.in-Some.at c.args.index c.index-groups-at.result c.requires.low c.requires.high c.in-Some.ensures.place in
    c.cancel.ensures.reply ∙ ap (reply_to_cancel c.args.by) stands

pub returns-in-None : goal.returns-in-None
returns-in-None c = absurd (never_live c.args.groups.now c.args.index c.requires.low c.requires.high (sym c.in-None.ensures.place) c.requires.live)

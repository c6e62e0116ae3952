use Rattle.std.proofs.Common.{sym, ap, subst, ◌∙◌, ◌≡◌, false}
use Rattle.rk_model.specs.State.{PeriodState}
use Rattle.rk_period.specs.Periods.{Fits, waits_for, called, reply_to_call}
use Rattle.rk_groups.proofs.PeriodGroupLemmas.{of_periods, period_stands, period_put, never_live}
use Rattle.rk_groups.proofs.periods.call.Goals as goal

pub period-requires-clause-place : goal.period-requires-clause-place
period-requires-clause-place c = of_periods c.args.groups.now c.in-Some.at c.args.index c.index-groups-at.result c.requires.low c.requires.high c.in-Some.ensures.place

pub period-requires-clause-live : goal.period-requires-clause-live
period-requires-clause-live c =
    ap (λ (p : PeriodState). p.live) (period_stands c.args.groups.now c.in-Some.at c.args.index c.index-groups-at.result c.requires.low c.requires.high c.in-Some.ensures.place) ∙ c.requires.live

pub period-requires-clause-goes_on : goal.period-requires-clause-goes_on
period-requires-clause-goes_on c =
    subst (λ (p : PeriodState). waits_for p c.args.by ≡ false) (sym (period_stands c.args.groups.now c.in-Some.at c.args.index c.index-groups-at.result c.requires.low c.requires.high c.in-Some.ensures.place)) c.requires.goes_on

pub period-requires-clause-fits : goal.period-requires-clause-fits
period-requires-clause-fits c =
    subst (λ (p : PeriodState). c.args.by ≡ p.creator → Fits c.args.now c.args.used p) (sym (period_stands c.args.groups.now c.in-Some.at c.args.index c.index-groups-at.result c.requires.low c.requires.high c.in-Some.ensures.place)) c.requires.fits

pub returns-in-Some-clause-period : goal.returns-in-Some-clause-period
returns-in-Some-clause-period c =
    let stands = period_stands c.args.groups.now c.in-Some.at c.args.index c.index-groups-at.result c.requires.low c.requires.high c.in-Some.ensures.place in
    period_put c.args.groups.now c.in-Some.at c.args.index c.index-groups-at.result _ _ _ c.requires.low c.requires.high c.in-Some.ensures.place c.in-Some.ensures.store c.period.ensures.period (ap (called c.args.by c.args.length c.args.now c.args.used) stands)

pub returns-in-Some-clause-reply : goal.returns-in-Some-clause-reply
returns-in-Some-clause-reply c =
    let stands = period_stands c.args.groups.now c.in-Some.at c.args.index c.index-groups-at.result c.requires.low c.requires.high c.in-Some.ensures.place in
    c.period.ensures.reply ∙ ap (reply_to_call c.args.by c.args.length) stands

pub returns-in-None : goal.returns-in-None
returns-in-None c = absurd (never_live c.args.groups.now c.args.index c.requires.low c.requires.high (sym c.in-None.ensures.place) c.requires.live)

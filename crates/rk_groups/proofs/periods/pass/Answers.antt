use Rattle.std.proofs.Common.{sym, ap, subst, ◌∙◌, ◌≡◌, Some}
use Rattle.rk_model.specs.State.{PeriodState}
use Rattle.rk_model.specs.Directives.Periods.{end_of, passed}
use Rattle.rk_period.specs.Periods.{Fits, passing_of}
use Rattle.rk_groups.proofs.PeriodGroupLemmas.{of_periods, period_stands, period_put, never_live}
use Rattle.rk_groups.proofs.periods.pass.Goals as goal

pub passed-requires-clause-place : goal.passed-requires-clause-place
passed-requires-clause-place c = of_periods c.args.groups.now c.in-Some.at c.args.index c.index-groups-at.result c.requires.low c.requires.high c.in-Some.ensures.place

pub passed-requires-clause-live : goal.passed-requires-clause-live
passed-requires-clause-live c =
    ap (λ (p : PeriodState). p.live) (period_stands c.args.groups.now c.in-Some.at c.args.index c.index-groups-at.result c.requires.low c.requires.high c.in-Some.ensures.place) ∙ c.requires.live

pub passed-requires-clause-due : goal.passed-requires-clause-due
passed-requires-clause-due c =
    subst (λ (p : PeriodState). end_of p.phase ≡ Some c.args.now) (sym (period_stands c.args.groups.now c.in-Some.at c.args.index c.index-groups-at.result c.requires.low c.requires.high c.in-Some.ensures.place)) c.requires.due

pub passed-requires-clause-fits : goal.passed-requires-clause-fits
passed-requires-clause-fits c =
    subst (λ (p : PeriodState). Fits c.args.now c.args.used p) (sym (period_stands c.args.groups.now c.in-Some.at c.args.index c.index-groups-at.result c.requires.low c.requires.high c.in-Some.ensures.place)) c.requires.fits

pub returns-clause-period : goal.returns-clause-period
returns-clause-period c =
    let stands = period_stands c.args.groups.now c.in-Some.at c.args.index c.index-groups-at.result c.requires.low c.requires.high c.in-Some.ensures.place in
    period_put c.args.groups.now c.in-Some.at c.args.index c.index-groups-at.result _ _ _ c.requires.low c.requires.high c.in-Some.ensures.place c.in-Some.ensures.store c.passed.ensures.period (ap (passed c.args.now c.args.used) stands)

pub returns-clause-passing : goal.returns-clause-passing
returns-clause-passing c =
    let stands = period_stands c.args.groups.now c.in-Some.at c.args.index c.index-groups-at.result c.requires.low c.requires.high c.in-Some.ensures.place in
    c.passed.ensures.passing ∙ ap (λ (p : PeriodState). passing_of p.phase) stands

pub unreachable-requires : goal.unreachable-requires
unreachable-requires c = never_live c.args.groups.now c.args.index c.requires.low c.requires.high (sym c.place_of.ensures.place ∙ c.in-None.is) c.requires.live

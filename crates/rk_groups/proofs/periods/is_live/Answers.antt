use Rattle.std.proofs.Common.{◌≡◌, None, sym, ap, ◌∙◌}
use Rattle.rk_model.specs.State.{PeriodState}
use Rattle.rk_groups.specs.Groups.{periods_in}
use Rattle.rk_groups.proofs.PeriodGroupLemmas.{of_periods, period_stands, period_nowhere}
use Rattle.rk_groups.proofs.periods.is_live.Goals as goal

pub is_live-requires : goal.is_live-requires
is_live-requires c = of_periods c.args.groups.now c.in-Some.at c.args.index _ c.requires.low c.requires.high (sym c.in-Some.is ∙ c.place_of.ensures.place)

pub returns-in-Some : goal.returns-in-Some
returns-in-Some c =
    c.is_live.ensures.value ∙ ap (λ (p : PeriodState). p.live) (period_stands c.args.groups.now c.in-Some.at c.args.index c.index-groups-at.result c.requires.low c.requires.high (sym c.in-Some.is ∙ c.place_of.ensures.place))

pub returns-in-None : goal.returns-in-None
returns-in-None c =
    let none : periods_in c.args.groups.now c.args.index ≡ None = sym c.place_of.ensures.place ∙ c.in-None.is in
    ap (λ (p : PeriodState). p.live) (sym (period_nowhere c.args.groups.now c.args.index c.requires.low c.requires.high none))

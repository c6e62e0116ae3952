use Rattle.std.proofs.Common.{sym, ap, ◌∙◌}
use Rattle.rk_model.specs.State.{PeriodState}
use Rattle.rk_groups.proofs.PeriodGroupLemmas.{of_periods, period_stands, never_live}
use Rattle.rk_groups.proofs.periods.creator.Goals as goal

pub creator-requires-clause-place : goal.creator-requires-clause-place
creator-requires-clause-place c = of_periods c.args.groups.now c.in-Some.at c.args.index c.index-groups-at.result c.requires.low c.requires.high c.in-Some.ensures.place

pub creator-requires-clause-live : goal.creator-requires-clause-live
creator-requires-clause-live c =
    ap (λ (p : PeriodState). p.live) (period_stands c.args.groups.now c.in-Some.at c.args.index c.index-groups-at.result c.requires.low c.requires.high c.in-Some.ensures.place) ∙ c.requires.live

pub returns : goal.returns
returns c =
    c.creator.ensures ∙ ap (λ (p : PeriodState). p.creator) (period_stands c.args.groups.now c.in-Some.at c.args.index c.index-groups-at.result c.requires.low c.requires.high c.in-Some.ensures.place)

pub unreachable-requires : goal.unreachable-requires
unreachable-requires c = never_live c.args.groups.now c.args.index c.requires.low c.requires.high (sym c.place_of.ensures.place ∙ c.in-None.is) c.requires.live

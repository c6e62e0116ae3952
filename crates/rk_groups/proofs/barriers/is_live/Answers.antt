use Rattle.std.proofs.Common.{◌≡◌, None, sym, ap, ◌∙◌}
use Rattle.rk_model.specs.State.{BarrierState}
use Rattle.rk_groups.specs.Groups.{group_in}
use Rattle.rk_groups.proofs.GroupLemmas.{of_group, stands_for, barrier_is_held, barrier_nowhere}
use Rattle.rk_groups.proofs.barriers.is_live.Goals as goal

pub is_live-requires : goal.is_live-requires
is_live-requires c = of_group c.args.groups.now c.in-Some.at c.args.index _ c.requires.low c.requires.high (sym c.in-Some.is ∙ c.place_of.ensures.place)

pub returns-in-Some : goal.returns-in-Some
returns-in-Some c =
    c.is_live.ensures.value ∙ ap (λ (b : BarrierState). b.live) (stands_for c.args.groups.now c.in-Some.at c.args.index c.index-groups-at.result c.requires.low c.requires.high (sym c.in-Some.is ∙ c.place_of.ensures.place))

pub returns-in-None : goal.returns-in-None
returns-in-None c =
    let none : group_in c.args.groups.now c.args.index ≡ None = sym c.place_of.ensures.place ∙ c.in-None.is in
    ap (λ (b : BarrierState). b.live) (sym (barrier_is_held c.args.groups.now c.args.index c.requires.low c.requires.high ∙ barrier_nowhere c.args.groups.now c.args.index none))

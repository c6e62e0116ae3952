use Rattle.std.proofs.Common.{refl, sym, ap, ◌∙◌}
use Rattle.std.specs.List.{slice_index_or}
use Rattle.rk_model.specs.State.{BarrierState}
use Rattle.rk_model.specs.Directives.Barriers.{new_barrier}
use Rattle.rk_places.specs.Stores.{Store}
use Rattle.rk_signal.specs.Barriers.{Stored, barrier}
use Rattle.rk_groups.specs.declared.group.GroupPart.{GroupPart}
use Rattle.rk_groups.proofs.GroupLemmas.{of_group, stands_for, put_there, never_lent}
use Rattle.rk_groups.proofs.barriers.create.Goals as goal

pub create-requires-clause-place : goal.create-requires-clause-place
create-requires-clause-place c = of_group c.args.groups.now c.in-Some.at c.args.index c.index-groups-at.result c.requires.low c.requires.high c.in-Some.ensures.place

pub create-requires-clause-vacant : goal.create-requires-clause-vacant
create-requires-clause-vacant c =
    ap (λ (b : BarrierState). b.live) (stands_for c.args.groups.now c.in-Some.at c.args.index c.index-groups-at.result c.requires.low c.requires.high c.in-Some.ensures.place) ∙ c.requires.vacant

pub returns-in-Some : goal.returns-in-Some
returns-in-Some c =
    let group = slice_index_or c.args.groups.now c.in-Some.at c.index-groups-at.result in
    put_there c.args.groups.now c.in-Some.at c.args.index c.index-groups-at.result _ (barrier c.args.automatic c.args.most) group.wakes (new_barrier c.args.automatic c.args.most) c.requires.low c.requires.high (sym c.in-Some.ensures.place) c.in-Some.ensures.store
    (ap (λ (s : Store Stored). (let g : GroupPart = record group { barriers = s } in g)) c.create.ensures) refl

pub returns-in_default : goal.returns-in_default
returns-in_default c = absurd (never_lent c.args.groups.now c.args.index (sym c.in_default.ensures.place) c.requires.lent)

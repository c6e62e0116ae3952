use Rattle.std.proofs.Common.{refl, sym, ap, ◌∙◌}
use Rattle.std.specs.List.{slice_index_or}
use Rattle.rk_model.specs.declared.status.Status.TheVariants.{ObjectWasDeleted}
use Rattle.rk_model.specs.State.{BarrierState, no_barrier}
use Rattle.rk_places.specs.Stores.{stored_at}
use Rattle.rk_signal.specs.Barriers.{no_stored}
use Rattle.rk_groups.specs.Groups.{ended_waits}
use Rattle.rk_groups.proofs.GroupLemmas.{of_group, stands_for, put_there, woken_there, never_live, ended_is}
use Rattle.rk_groups.proofs.barriers.remove.Goals as goal

pub remove_in-requires-clause-place : goal.remove_in-requires-clause-place
remove_in-requires-clause-place c = of_group c.args.groups.now c.in-Some.at c.args.index c.index-groups-at.result c.requires.low c.requires.high c.in-Some.ensures.place

pub remove_in-requires-clause-live : goal.remove_in-requires-clause-live
remove_in-requires-clause-live c =
    ap (λ (b : BarrierState). b.live) (stands_for c.args.groups.now c.in-Some.at c.args.index c.index-groups-at.result c.requires.low c.requires.high c.in-Some.ensures.place) ∙ c.requires.live

pub returns-in-Some-clause-barrier : goal.returns-in-Some-clause-barrier
returns-in-Some-clause-barrier c =
    put_there c.args.groups.now c.in-Some.at c.args.index c.index-groups-at.result c.remove_in.new.group no_stored _ no_barrier c.requires.low c.requires.high (sym c.in-Some.ensures.place) c.in-Some.ensures.store c.remove_in.ensures refl

pub returns-in-Some-clause-woken : goal.returns-in-Some-clause-woken
returns-in-Some-clause-woken c =
    let x = stored_at no_stored (slice_index_or c.args.groups.now c.in-Some.at c.index-groups-at.result).barriers c.args.index in
    let stands = stands_for c.args.groups.now c.in-Some.at c.args.index c.index-groups-at.result c.requires.low c.requires.high c.in-Some.ensures.place in
    woken_there c.args.groups.now c.in-Some.at c.args.index c.index-groups-at.result c.remove_in.new.group no_stored _ _ (sym c.in-Some.ensures.place) c.remove_in.ensures (ended_is ObjectWasDeleted x.queue.arrivals ∙ ap (λ (b : BarrierState). ended_waits ObjectWasDeleted b.arrivals) stands)

pub returns-in_default : goal.returns-in_default
returns-in_default c = absurd (never_live c.args.groups.now c.args.index c.requires.low c.requires.high (sym c.in_default.ensures.place) c.requires.live)

use Rattle.std.proofs.Common.{sym, ap, ◌∙◌}
use Rattle.std.specs.List.{slice_index_or}
use Rattle.rk_model.specs.Lists.{has}
use Rattle.rk_model.specs.State.{BarrierState}
use Rattle.rk_places.specs.Stores.{stored_at}
use Rattle.rk_signal.specs.Barriers.{no_stored}
use Rattle.rk_groups.specs.Groups.{waited_at, woken_at, reply_at}
use Rattle.rk_groups.proofs.GroupLemmas.{of_group, stands_for, put_there, woken_there, never_live, waited_is, woken_is, reply_is}
use Rattle.rk_groups.proofs.barriers.wait.Goals as goal

pub wait_in-requires-clause-place : goal.wait_in-requires-clause-place
wait_in-requires-clause-place c = of_group c.args.groups.now c.in-Some.at c.args.index c.index-groups-at.result c.requires.low c.requires.high c.in-Some.ensures.place

pub wait_in-requires-clause-live : goal.wait_in-requires-clause-live
wait_in-requires-clause-live c =
    ap (λ (b : BarrierState). b.live) (stands_for c.args.groups.now c.in-Some.at c.args.index c.index-groups-at.result c.requires.low c.requires.high c.in-Some.ensures.place) ∙ c.requires.live

pub wait_in-requires-clause-absent : goal.wait_in-requires-clause-absent
wait_in-requires-clause-absent c =
    ap (λ (b : BarrierState). has b.arrivals c.args.by.thread) (stands_for c.args.groups.now c.in-Some.at c.args.index c.index-groups-at.result c.requires.low c.requires.high c.in-Some.ensures.place) ∙ c.requires.absent

pub returns-in-Some-clause-barrier : goal.returns-in-Some-clause-barrier
returns-in-Some-clause-barrier c =
    let x = stored_at no_stored (slice_index_or c.args.groups.now c.in-Some.at c.index-groups-at.result).barriers c.args.index in
    let stands = stands_for c.args.groups.now c.in-Some.at c.args.index c.index-groups-at.result c.requires.low c.requires.high c.in-Some.ensures.place in
    put_there c.args.groups.now c.in-Some.at c.args.index c.index-groups-at.result c.wait_in.new.group _ _ _ c.requires.low c.requires.high (sym c.in-Some.ensures.place) c.in-Some.ensures.store c.wait_in.ensures.group (waited_is c.args.by x ∙ ap (waited_at c.args.by.thread) stands)

pub returns-in-Some-clause-woken : goal.returns-in-Some-clause-woken
returns-in-Some-clause-woken c =
    let x = stored_at no_stored (slice_index_or c.args.groups.now c.in-Some.at c.index-groups-at.result).barriers c.args.index in
    let stands = stands_for c.args.groups.now c.in-Some.at c.args.index c.index-groups-at.result c.requires.low c.requires.high c.in-Some.ensures.place in
    woken_there c.args.groups.now c.in-Some.at c.args.index c.index-groups-at.result c.wait_in.new.group _ _ _ (sym c.in-Some.ensures.place) c.wait_in.ensures.group (woken_is x ∙ ap woken_at stands)

pub returns-in-Some-clause-reply : goal.returns-in-Some-clause-reply
returns-in-Some-clause-reply c =
    let x = stored_at no_stored (slice_index_or c.args.groups.now c.in-Some.at c.index-groups-at.result).barriers c.args.index in
    c.wait_in.ensures.reply ∙ reply_is x ∙ ap reply_at (stands_for c.args.groups.now c.in-Some.at c.args.index c.index-groups-at.result c.requires.low c.requires.high c.in-Some.ensures.place)

pub returns-in-None : goal.returns-in-None
returns-in-None c = absurd (never_live c.args.groups.now c.args.index c.requires.low c.requires.high (sym c.in-None.ensures.place) c.requires.live)

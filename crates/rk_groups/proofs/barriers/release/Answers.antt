use Rattle.std.proofs.Common.{length, sym, ap, ◌∙◌}
use Rattle.std.specs.List.{slice_index_or}
use Rattle.rk_model.specs.declared.entry.Reply.{Reply}
use Rattle.rk_model.specs.declared.status.Status.TheVariants.{Successful}
use Rattle.rk_model.specs.State.{BarrierState}
use Rattle.rk_queue.proofs.QueueLemmas.{length-threads}
use Rattle.rk_places.specs.Stores.{stored_at}
use Rattle.rk_signal.specs.Barriers.{no_stored}
use Rattle.rk_groups.specs.Groups.{ended_waits}
use Rattle.rk_groups.proofs.GroupLemmas.{of_group, stands_for, put_there, woken_there, never_live, ended_is, without_arrivals}
use Rattle.rk_groups.proofs.barriers.release.Goals as goal

pub release_in-requires-clause-place : goal.release_in-requires-clause-place
release_in-requires-clause-place c = of_group c.args.groups.now c.in-Some.at c.args.index c.index-groups-at.result c.requires.low c.requires.high c.in-Some.ensures.place

pub release_in-requires-clause-live : goal.release_in-requires-clause-live
release_in-requires-clause-live c =
    ap (λ (b : BarrierState). b.live) (stands_for c.args.groups.now c.in-Some.at c.args.index c.index-groups-at.result c.requires.low c.requires.high c.in-Some.ensures.place) ∙ c.requires.live

pub returns-in-Some-clause-barrier : goal.returns-in-Some-clause-barrier
returns-in-Some-clause-barrier c =
    let stands = stands_for c.args.groups.now c.in-Some.at c.args.index c.index-groups-at.result c.requires.low c.requires.high c.in-Some.ensures.place in
    put_there c.args.groups.now c.in-Some.at c.args.index c.index-groups-at.result c.release_in.new.group _ _ _ c.requires.low c.requires.high (sym c.in-Some.ensures.place) c.in-Some.ensures.store c.release_in.ensures.group (ap without_arrivals stands)

pub returns-in-Some-clause-woken : goal.returns-in-Some-clause-woken
returns-in-Some-clause-woken c =
    let x = stored_at no_stored (slice_index_or c.args.groups.now c.in-Some.at c.index-groups-at.result).barriers c.args.index in
    let stands = stands_for c.args.groups.now c.in-Some.at c.args.index c.index-groups-at.result c.requires.low c.requires.high c.in-Some.ensures.place in
    woken_there c.args.groups.now c.in-Some.at c.args.index c.index-groups-at.result c.release_in.new.group _ _ _ (sym c.in-Some.ensures.place) c.release_in.ensures.group (ended_is Successful x.queue.arrivals ∙ ap (λ (b : BarrierState). ended_waits Successful b.arrivals) stands)

pub returns-in-Some-clause-reply : goal.returns-in-Some-clause-reply
returns-in-Some-clause-reply c =
    let x = stored_at no_stored (slice_index_or c.args.groups.now c.in-Some.at c.index-groups-at.result).barriers c.args.index in
    let stands = stands_for c.args.groups.now c.in-Some.at c.args.index c.index-groups-at.result c.requires.low c.requires.high c.in-Some.ensures.place in
    c.release_in.ensures.reply ∙ ap (λ n. (let reply : Reply = record { status = Successful; out = n } in reply)) (sym (length-threads x.queue.arrivals) ∙ ap (λ (b : BarrierState). length b.arrivals) stands)

pub returns-in-None : goal.returns-in-None
returns-in-None c = absurd (never_live c.args.groups.now c.args.index c.requires.low c.requires.high (sym c.in-None.ensures.place) c.requires.live)

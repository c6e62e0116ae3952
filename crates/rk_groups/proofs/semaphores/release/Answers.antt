use Rattle.std.proofs.Common.{sym, ap, ◌∙◌}
use Rattle.rk_model.specs.State.{SemaphoreState}
use Rattle.rk_sem.specs.SemaphoreCalls.{released, reply_to_release, woken_by_release}
use Rattle.rk_groups.proofs.SemaphoreGroupLemmas.{of_semaphores, semaphore_stands, semaphore_put, semaphore_woken, never_live}
use Rattle.rk_groups.proofs.semaphores.release.Goals as goal

pub release_in-requires-clause-place : goal.release_in-requires-clause-place
release_in-requires-clause-place c = of_semaphores c.args.groups.now c.in-Some.at c.args.index c.index-groups-at.result c.requires.low c.requires.high c.in-Some.ensures.place

pub release_in-requires-clause-live : goal.release_in-requires-clause-live
release_in-requires-clause-live c =
    ap (λ (s : SemaphoreState). s.live) (semaphore_stands c.args.groups.now c.in-Some.at c.args.index c.index-groups-at.result c.requires.low c.requires.high c.in-Some.ensures.place) ∙ c.requires.live

pub returns-in-Some-clause-semaphore : goal.returns-in-Some-clause-semaphore
returns-in-Some-clause-semaphore c =
    let stands = semaphore_stands c.args.groups.now c.in-Some.at c.args.index c.index-groups-at.result c.requires.low c.requires.high c.in-Some.ensures.place in
    semaphore_put c.args.groups.now c.in-Some.at c.args.index c.index-groups-at.result c.release_in.new.group _ _ _ c.requires.low c.requires.high c.in-Some.ensures.place c.in-Some.ensures.store c.release_in.ensures.group (ap (released c.args.by) stands)

pub returns-in-Some-clause-woken : goal.returns-in-Some-clause-woken
returns-in-Some-clause-woken c =
    let stands = semaphore_stands c.args.groups.now c.in-Some.at c.args.index c.index-groups-at.result c.requires.low c.requires.high c.in-Some.ensures.place in
    semaphore_woken c.args.groups.now c.in-Some.at c.args.index c.index-groups-at.result c.release_in.new.group _ _ _ c.in-Some.ensures.place c.release_in.ensures.group (ap (woken_by_release c.args.by) stands)

pub returns-in-Some-clause-reply : goal.returns-in-Some-clause-reply
returns-in-Some-clause-reply c =
    let stands = semaphore_stands c.args.groups.now c.in-Some.at c.args.index c.index-groups-at.result c.requires.low c.requires.high c.in-Some.ensures.place in
    c.release_in.ensures.reply ∙ ap (reply_to_release c.args.by) stands

pub returns-in-None : goal.returns-in-None
returns-in-None c = absurd (never_live c.args.groups.now c.args.index c.requires.low c.requires.high (sym c.in-None.ensures.place) c.requires.live)

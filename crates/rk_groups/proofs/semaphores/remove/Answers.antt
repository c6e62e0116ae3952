use Rattle.std.proofs.Common.{sym, ap, ◌∙◌}
use Rattle.rk_model.specs.Directives.Semaphores.{after_deleting}
use Rattle.rk_model.specs.State.{SemaphoreState}
use Rattle.rk_sem.specs.SemaphoreCalls.{reply_to_remove, woken_by_remove}
use Rattle.rk_groups.proofs.SemaphoreGroupLemmas.{of_semaphores, semaphore_stands, semaphore_put, semaphore_woken, never_live}
use Rattle.rk_groups.proofs.semaphores.remove.Goals as goal

pub remove_in-requires-clause-place : goal.remove_in-requires-clause-place
remove_in-requires-clause-place c = of_semaphores c.args.groups.now c.in-Some.at c.args.index c.index-groups-at.result c.requires.low c.requires.high c.in-Some.ensures.place

pub remove_in-requires-clause-live : goal.remove_in-requires-clause-live
remove_in-requires-clause-live c =
    ap (λ (s : SemaphoreState). s.live) (semaphore_stands c.args.groups.now c.in-Some.at c.args.index c.index-groups-at.result c.requires.low c.requires.high c.in-Some.ensures.place) ∙ c.requires.live

pub returns-in-Some-clause-semaphore : goal.returns-in-Some-clause-semaphore
returns-in-Some-clause-semaphore c =
    let stands = semaphore_stands c.args.groups.now c.in-Some.at c.args.index c.index-groups-at.result c.requires.low c.requires.high c.in-Some.ensures.place in
    semaphore_put c.args.groups.now c.in-Some.at c.args.index c.index-groups-at.result c.remove_in.new.group _ _ _ c.requires.low c.requires.high c.in-Some.ensures.place c.in-Some.ensures.store c.remove_in.ensures.group (ap after_deleting stands)

pub returns-in-Some-clause-woken : goal.returns-in-Some-clause-woken
returns-in-Some-clause-woken c =
    let stands = semaphore_stands c.args.groups.now c.in-Some.at c.args.index c.index-groups-at.result c.requires.low c.requires.high c.in-Some.ensures.place in
    semaphore_woken c.args.groups.now c.in-Some.at c.args.index c.index-groups-at.result c.remove_in.new.group _ _ _ c.in-Some.ensures.place c.remove_in.ensures.group (ap woken_by_remove stands)

pub returns-in-Some-clause-reply : goal.returns-in-Some-clause-reply
returns-in-Some-clause-reply c =
    let stands = semaphore_stands c.args.groups.now c.in-Some.at c.args.index c.index-groups-at.result c.requires.low c.requires.high c.in-Some.ensures.place in
    c.remove_in.ensures.reply ∙ ap reply_to_remove stands

pub returns-in-None : goal.returns-in-None
returns-in-None c = absurd (never_live c.args.groups.now c.args.index c.requires.low c.requires.high (sym c.in-None.ensures.place) c.requires.live)

use Rattle.std.proofs.Common.{◌≡◌, false, sym, ap, subst, ◌∙◌}
use Rattle.rk_model.specs.Queues.{waits_in}
use Rattle.rk_model.specs.State.{SemaphoreState}
use Rattle.rk_sem.specs.SemaphoreCalls.{obtained, reply_to_obtain}
use Rattle.rk_groups.proofs.SemaphoreGroupLemmas.{of_semaphores, semaphore_stands, store_put, never_live}
use Rattle.rk_groups.proofs.semaphores.obtain.Goals as goal

pub obtain-requires-clause-place : goal.obtain-requires-clause-place
obtain-requires-clause-place c = of_semaphores c.args.groups.now c.in-Some.at c.args.index c.index-groups-at.result c.requires.low c.requires.high c.in-Some.ensures.place

pub obtain-requires-clause-live : goal.obtain-requires-clause-live
obtain-requires-clause-live c =
    ap (λ (s : SemaphoreState). s.live) (semaphore_stands c.args.groups.now c.in-Some.at c.args.index c.index-groups-at.result c.requires.low c.requires.high c.in-Some.ensures.place) ∙ c.requires.live

pub obtain-requires-clause-absent : goal.obtain-requires-clause-absent
obtain-requires-clause-absent c =
    subst (λ (s : SemaphoreState). waits_in s.queue c.args.by.thread ≡ false) (sym (semaphore_stands c.args.groups.now c.in-Some.at c.args.index c.index-groups-at.result c.requires.low c.requires.high c.in-Some.ensures.place)) c.requires.absent

pub returns-in-Some-clause-semaphore : goal.returns-in-Some-clause-semaphore
returns-in-Some-clause-semaphore c =
    let stands = semaphore_stands c.args.groups.now c.in-Some.at c.args.index c.index-groups-at.result c.requires.low c.requires.high c.in-Some.ensures.place in
    store_put c.args.groups.now c.in-Some.at c.args.index c.index-groups-at.result _ _ _ c.requires.low c.requires.high c.in-Some.ensures.place c.in-Some.ensures.store c.obtain.ensures.semaphore (ap (obtained c.args.by c.args.wish c.args.closes) stands)

pub returns-in-Some-clause-reply : goal.returns-in-Some-clause-reply
returns-in-Some-clause-reply c =
    let stands = semaphore_stands c.args.groups.now c.in-Some.at c.args.index c.index-groups-at.result c.requires.low c.requires.high c.in-Some.ensures.place in
    c.obtain.ensures.reply ∙ ap (reply_to_obtain c.args.by c.args.wish c.args.closes) stands

pub returns-in-None : goal.returns-in-None
returns-in-None c = absurd (never_live c.args.groups.now c.args.index c.requires.low c.requires.high (sym c.in-None.ensures.place) c.requires.live)

use Rattle.std.proofs.Common.{◌≡◌, true, sym, ap, subst, ◌∙◌}
use Rattle.rk_model.specs.Queues.{waits_in}
use Rattle.rk_model.specs.Directives.Semaphores.{with_prio_of}
use Rattle.rk_model.specs.State.{SemaphoreState}
use Rattle.rk_groups.proofs.SemaphoreGroupLemmas.{of_semaphores, semaphore_stands, store_put, never_live}
use Rattle.rk_groups.proofs.semaphores.reorder.Goals as goal

pub reorder-requires-clause-place : goal.reorder-requires-clause-place
reorder-requires-clause-place c = of_semaphores c.args.groups.now c.in-Some.at c.args.index c.index-groups-at.result c.requires.low c.requires.high c.in-Some.ensures.place

pub reorder-requires-clause-live : goal.reorder-requires-clause-live
reorder-requires-clause-live c =
    ap (λ (s : SemaphoreState). s.live) (semaphore_stands c.args.groups.now c.in-Some.at c.args.index c.index-groups-at.result c.requires.low c.requires.high c.in-Some.ensures.place) ∙ c.requires.live

pub reorder-requires-clause-waits : goal.reorder-requires-clause-waits
reorder-requires-clause-waits c =
    subst (λ (s : SemaphoreState). waits_in s.queue c.args.thread ≡ true) (sym (semaphore_stands c.args.groups.now c.in-Some.at c.args.index c.index-groups-at.result c.requires.low c.requires.high c.in-Some.ensures.place)) c.requires.waits

pub returns-in-Some : goal.returns-in-Some
returns-in-Some c =
    let stands = semaphore_stands c.args.groups.now c.in-Some.at c.args.index c.index-groups-at.result c.requires.low c.requires.high c.in-Some.ensures.place in
    store_put c.args.groups.now c.in-Some.at c.args.index c.index-groups-at.result _ _ _ c.requires.low c.requires.high c.in-Some.ensures.place c.in-Some.ensures.store c.reorder.ensures (ap (with_prio_of c.args.thread c.args.prio) stands)

pub returns-in_default : goal.returns-in_default
returns-in_default c = absurd (never_live c.args.groups.now c.args.index c.requires.low c.requires.high (sym c.in_default.ensures.place) c.requires.live)

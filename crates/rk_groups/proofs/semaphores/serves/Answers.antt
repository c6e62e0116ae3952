use Rattle.std.proofs.Common.{sym, ap, subst, ◌∙◌}
use Rattle.rk_model.specs.Queues.{IsQueue}
use Rattle.rk_model.specs.State.{SemaphoreState}
use Rattle.rk_sem.specs.SemaphoreCalls.{serves}
use Rattle.rk_groups.proofs.SemaphoreGroupLemmas.{of_semaphores, semaphore_stands, never_live}
use Rattle.rk_groups.proofs.semaphores.serves.Goals as goal

pub waits_at-waits-requires : goal.waits_at-waits-requires
waits_at-waits-requires c = of_semaphores c.args.groups.now c.in-Some.at c.args.index c.index-groups-at.result c.requires.low c.requires.high c.in-Some.ensures.place

pub serves-requires-clause-place : goal.serves-requires-clause-place
serves-requires-clause-place c = of_semaphores c.args.groups.now c.in-Some.at c.args.index c.index-groups-at-in-Some.result c.requires.low c.requires.high c.in-Some.ensures.place

pub serves-requires-clause-live : goal.serves-requires-clause-live
serves-requires-clause-live c =
    ap (λ (s : SemaphoreState). s.live) (semaphore_stands c.args.groups.now c.in-Some.at c.args.index c.index-groups-at-in-Some.result c.requires.low c.requires.high c.in-Some.ensures.place) ∙ c.requires.live

pub returns-in-Some-clause-value : goal.returns-in-Some-clause-value
returns-in-Some-clause-value c = c.serves.ensures ∙ ap (serves c.args.by) (semaphore_stands c.args.groups.now c.in-Some.at c.args.index c.index-groups-at-in-Some.result c.requires.low c.requires.high c.in-Some.ensures.place)

pub returns-in-Some-clause-queue : goal.returns-in-Some-clause-queue
returns-in-Some-clause-queue c = subst (λ (s : SemaphoreState). IsQueue s.queue.arrivals s.queue.turns) (semaphore_stands c.args.groups.now c.in-Some.at c.args.index c.index-groups-at.result c.requires.low c.requires.high c.in-Some.ensures.place) c.waits_at-waits.ensures.queue

pub returns-in-None : goal.returns-in-None
returns-in-None c = absurd (never_live c.args.groups.now c.args.index c.requires.low c.requires.high (sym c.in-None.ensures.place) c.requires.live)

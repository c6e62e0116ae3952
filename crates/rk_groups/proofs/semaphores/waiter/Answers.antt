use Rattle.std.proofs.Common.{sym, ap, ◌∙◌}
use Rattle.std.specs.Prelude.{slice_get}
use Rattle.rk_model.specs.Queues.{threads}
use Rattle.rk_model.specs.State.{SemaphoreState}
use Rattle.rk_groups.proofs.SemaphoreGroupLemmas.{of_semaphores, semaphore_stands, semaphore_nowhere}
use Rattle.rk_groups.proofs.semaphores.waiter.Goals as goal

pub waiter-requires : goal.waiter-requires
waiter-requires c = of_semaphores c.args.groups.now c.in-Some.place c.args.index c.index-groups-place.result c.requires.low c.requires.high c.in-Some.ensures.place

pub returns-in-Some : goal.returns-in-Some
returns-in-Some c = c.waiter.ensures ∙ ap (λ (s : SemaphoreState). slice_get (threads s.queue.arrivals) c.args.at) (semaphore_stands c.args.groups.now c.in-Some.place c.args.index c.index-groups-place.result c.requires.low c.requires.high c.in-Some.ensures.place)

pub returns-in-None : goal.returns-in-None
returns-in-None c = ap (λ (s : SemaphoreState). slice_get (threads s.queue.arrivals) c.args.at) (sym (semaphore_nowhere c.args.groups.now c.args.index c.requires.low c.requires.high (sym c.in-None.ensures.place)))

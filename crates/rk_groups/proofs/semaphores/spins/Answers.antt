use Rattle.std.proofs.Common.{sym, ap, ◌∙◌}
use Rattle.rk_model.specs.State.{SemaphoreState}
use Rattle.rk_model.specs.Directives.Semaphores.{is_mrsp}
use Rattle.rk_groups.proofs.SemaphoreGroupLemmas.{of_semaphores, semaphore_stands, semaphore_nowhere}
use Rattle.rk_groups.proofs.semaphores.spins.Goals as goal

pub spins-requires : goal.spins-requires
spins-requires c = of_semaphores c.args.groups.now c.in-Some.at c.args.index c.index-groups-at.result c.requires.low c.requires.high c.in-Some.ensures.place

pub returns-in-Some : goal.returns-in-Some
returns-in-Some c = c.spins.ensures ∙ ap (λ (s : SemaphoreState). is_mrsp s.protocol) (semaphore_stands c.args.groups.now c.in-Some.at c.args.index c.index-groups-at.result c.requires.low c.requires.high c.in-Some.ensures.place)

pub returns-in-None : goal.returns-in-None
returns-in-None c = ap (λ (s : SemaphoreState). is_mrsp s.protocol) (sym (semaphore_nowhere c.args.groups.now c.args.index c.requires.low c.requires.high (sym c.in-None.ensures.place)))

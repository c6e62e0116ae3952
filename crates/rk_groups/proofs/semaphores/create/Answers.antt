use Rattle.std.proofs.Common.{refl, sym, ap, ◌∙◌}
use Rattle.rk_model.specs.State.{SemaphoreState}
use Rattle.rk_groups.proofs.SemaphoreGroupLemmas.{of_semaphores, semaphore_stands, store_put, never_lent}
use Rattle.rk_groups.proofs.semaphores.create.Goals as goal

pub create-requires-clause-place : goal.create-requires-clause-place
create-requires-clause-place c = of_semaphores c.args.groups.now c.in-Some.at c.args.index c.index-groups-at.result c.requires.low c.requires.high c.in-Some.ensures.place

pub create-requires-clause-vacant : goal.create-requires-clause-vacant
create-requires-clause-vacant c =
    ap (λ (s : SemaphoreState). s.live) (semaphore_stands c.args.groups.now c.in-Some.at c.args.index c.index-groups-at.result c.requires.low c.requires.high c.in-Some.ensures.place) ∙ c.requires.vacant

pub returns-in-Some : goal.returns-in-Some
returns-in-Some c =
    store_put c.args.groups.now c.in-Some.at c.args.index c.index-groups-at.result _ _ _ c.requires.low c.requires.high c.in-Some.ensures.place c.in-Some.ensures.store c.create.ensures refl

pub returns-in_default : goal.returns-in_default
returns-in_default c = absurd (never_lent c.args.groups.now c.args.index (sym c.in_default.ensures.place) c.requires.lent)

use Rattle.std.proofs.Common.{sym, ap, ◌∙◌}
use Rattle.rk_model.specs.Directives.Semaphores.{flushed}
use Rattle.rk_model.specs.State.{SemaphoreState}
use Rattle.rk_sem.specs.SemaphoreCalls.{woken_by_flush}
use Rattle.rk_groups.proofs.SemaphoreGroupLemmas.{of_semaphores, semaphore_stands, semaphore_put, semaphore_woken, never_live}
use Rattle.rk_groups.proofs.semaphores.flush.Goals as goal

pub flush_in-requires-clause-place : goal.flush_in-requires-clause-place
flush_in-requires-clause-place c = of_semaphores c.args.groups.now c.in-Some.at c.args.index c.index-groups-at.result c.requires.low c.requires.high c.in-Some.ensures.place

pub flush_in-requires-clause-live : goal.flush_in-requires-clause-live
flush_in-requires-clause-live c =
    ap (λ (s : SemaphoreState). s.live) (semaphore_stands c.args.groups.now c.in-Some.at c.args.index c.index-groups-at.result c.requires.low c.requires.high c.in-Some.ensures.place) ∙ c.requires.live

pub returns-in-Some-clause-semaphore : goal.returns-in-Some-clause-semaphore
returns-in-Some-clause-semaphore c =
    let stands = semaphore_stands c.args.groups.now c.in-Some.at c.args.index c.index-groups-at.result c.requires.low c.requires.high c.in-Some.ensures.place in
    semaphore_put c.args.groups.now c.in-Some.at c.args.index c.index-groups-at.result c.flush_in.new.group _ _ _ c.requires.low c.requires.high c.in-Some.ensures.place c.in-Some.ensures.store c.flush_in.ensures.group (ap flushed stands)

pub returns-in-Some-clause-woken : goal.returns-in-Some-clause-woken
returns-in-Some-clause-woken c =
    let stands = semaphore_stands c.args.groups.now c.in-Some.at c.args.index c.index-groups-at.result c.requires.low c.requires.high c.in-Some.ensures.place in
    semaphore_woken c.args.groups.now c.in-Some.at c.args.index c.index-groups-at.result c.flush_in.new.group _ _ _ c.in-Some.ensures.place c.flush_in.ensures.group (ap woken_by_flush stands)

pub returns-in-None : goal.returns-in-None
returns-in-None c = absurd (never_live c.args.groups.now c.args.index c.requires.low c.requires.high (sym c.in-None.ensures.place) c.requires.live)

use Rattle.std.proofs.Common.{arith, sym, ap, ◌∙◌}
use Rattle.rk_model.specs.State.{SemaphoreState}
use Rattle.rk_groups.proofs.SemaphoreGroupLemmas.{of_semaphores, semaphore_stands, semaphore_nowhere, semaphore_outside}
use Rattle.rk_groups.proofs.semaphores.protocol.Goals.{then-index-lt1-via-then-index-lt1, then-index-lt1-via-else-index-lt1+then-index-gt-MOST_OBJECTS}
use Rattle.rk_groups.proofs.semaphores.protocol.Goals as goal

pub returns-then-index-lt1 : goal.returns-then-index-lt1
returns-then-index-lt1 c = ap (λ (s : SemaphoreState). s.protocol) (sym (semaphore_outside c.args.groups.now c.args.index (λ low high. elim c.then-index-lt1.branch [
  | then-index-lt1-via-then-index-lt1 w ↦ omega (arith, low, w.if-index-lt1)
  | then-index-lt1-via-else-index-lt1+then-index-gt-MOST_OBJECTS w ↦ omega (arith, high, w.if-index-gt-MOST_OBJECTS)
])))

pub protocol-requires : goal.protocol-requires
protocol-requires c = of_semaphores c.args.groups.now c.in-Some.at c.args.index c.index-groups-at.result (omega (arith, c.if-index-lt1.false)) (omega (arith, c.if-index-gt-MOST_OBJECTS.false)) c.in-Some.ensures.place

pub returns-in-Some : goal.returns-in-Some
returns-in-Some c = c.protocol.ensures ∙ ap (λ (s : SemaphoreState). s.protocol) (semaphore_stands c.args.groups.now c.in-Some.at c.args.index c.index-groups-at.result (omega (arith, c.if-index-lt1.false)) (omega (arith, c.if-index-gt-MOST_OBJECTS.false)) c.in-Some.ensures.place)

pub returns-in-None : goal.returns-in-None
returns-in-None c = ap (λ (s : SemaphoreState). s.protocol) (sym (semaphore_nowhere c.args.groups.now c.args.index (omega (arith, c.if-index-lt1.false)) (omega (arith, c.if-index-gt-MOST_OBJECTS.false)) (sym c.in-None.ensures.place)))

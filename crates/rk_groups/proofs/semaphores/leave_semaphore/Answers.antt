use Rattle.std.proofs.Common.{arith, sym}
use Rattle.rk_groups.proofs.SemaphoreGroupLemmas.{of_semaphores, semaphore_nowhere, semaphore_outside, leaves_none, leaves_semaphore}
use Rattle.rk_groups.proofs.semaphores.leave_semaphore.Goals.{then-index-lt1-via-then-index-lt1, then-index-lt1-via-else-index-lt1+then-index-gt-MOST_OBJECTS}
use Rattle.rk_groups.proofs.semaphores.leave_semaphore.Goals as goal

pub returns-then-index-lt1 : goal.returns-then-index-lt1
returns-then-index-lt1 c = leaves_none c.args.groups.now c.args.index c.args.thread (semaphore_outside c.args.groups.now c.args.index (λ low high. elim c.then-index-lt1.branch [
  | then-index-lt1-via-then-index-lt1 w ↦ omega (arith, low, w.if-index-lt1)
  | then-index-lt1-via-else-index-lt1+then-index-gt-MOST_OBJECTS w ↦ omega (arith, high, w.if-index-gt-MOST_OBJECTS)
]))

pub leave_in-requires : goal.leave_in-requires
leave_in-requires c = of_semaphores c.args.groups.now c.in-Some.at c.args.index c.index-groups-at.result (omega (arith, c.if-index-lt1.false)) (omega (arith, c.if-index-gt-MOST_OBJECTS.false)) c.in-Some.ensures.place

pub returns-in-Some : goal.returns-in-Some
returns-in-Some c = leaves_semaphore c.args.groups.now c.in-Some.at c.args.index c.args.thread c.index-groups-at.result _ (omega (arith, c.if-index-lt1.false)) (omega (arith, c.if-index-gt-MOST_OBJECTS.false)) c.in-Some.ensures.place c.in-Some.ensures.store c.leave_in.ensures

pub returns-in_default : goal.returns-in_default
returns-in_default c = leaves_none c.args.groups.now c.args.index c.args.thread (semaphore_nowhere c.args.groups.now c.args.index (omega (arith, c.if-index-lt1.false)) (omega (arith, c.if-index-gt-MOST_OBJECTS.false)) (sym c.in_default.ensures.place))

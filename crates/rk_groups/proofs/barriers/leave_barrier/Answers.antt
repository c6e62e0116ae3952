use Rattle.std.proofs.Common.{◌≡◌, Some, sym, subst, arith}
use Rattle.rk_model.specs.Directives.Waits.{OfBarrier}
use Rattle.rk_groups.specs.Groups.{group_in, Leaves}
use Rattle.rk_groups.proofs.GroupLemmas.{of_group, as_left, leaves_found, leaves_nowhere, leaves_outside}
use Rattle.rk_groups.proofs.barriers.leave_barrier.Goals.{then-index-lt1-via-then-index-lt1, then-index-lt1-via-else-index-lt1+then-index-gt-MOST_OBJECTS}
use Rattle.rk_groups.proofs.barriers.leave_barrier.Goals as goal

pub returns-then-index-lt1 : goal.returns-then-index-lt1
returns-then-index-lt1 c = leaves_outside c.args.groups.now c.args.index c.args.thread (λ low high. elim c.then-index-lt1.branch [
  | then-index-lt1-via-then-index-lt1 w ↦ omega (arith, low, w.if-index-lt1)
  | then-index-lt1-via-else-index-lt1+then-index-gt-MOST_OBJECTS w ↦ omega (arith, high, w.if-index-gt-MOST_OBJECTS)
])

pub leave_in-requires : goal.leave_in-requires
leave_in-requires c =
    of_group c.args.groups.now c.in-Some.at c.args.index c.index-groups-at.result (omega (arith, c.if-index-lt1.false)) (omega (arith, c.if-index-gt-MOST_OBJECTS.false)) c.in-Some.ensures.place

pub returns-in-Some : goal.returns-in-Some
returns-in-Some c =
    let groups = c.args.groups.now in
    let i = c.args.index in
    let t = c.args.thread in
    let found : group_in groups i ≡ Some c.in-Some.at = sym c.in-Some.ensures.place in
    subst (Leaves groups t (Some (OfBarrier i))) (sym (as_left groups c.in-Some.at i t c.index-groups-at.result c.leave_in.new.barriers found c.leave_in.ensures))
    (leaves_found groups c.in-Some.at i t (omega (arith, c.if-index-lt1.false)) (omega (arith, c.if-index-gt-MOST_OBJECTS.false)) found c.in-Some.ensures.store)

pub returns-in_default : goal.returns-in_default
returns-in_default c =
    leaves_nowhere c.args.groups.now c.args.index c.args.thread (omega (arith, c.if-index-lt1.false)) (omega (arith, c.if-index-gt-MOST_OBJECTS.false)) (sym c.in_default.ensures.place)

use Rattle.std.proofs.Common.{◌<◌, ◌≤◌, length, sym, refl}
use Rattle.rk_wheel.proofs.WheelLemmas.{due_taken, due_given, none_due, wheel_without_due}
use Rattle.rk_wheel.proofs.wheel.Wheel.take_due.Goals as goal

pub invariant_of-self : goal.invariant_of-self
invariant_of-self c =
    let is = due_taken c.args.now _ c.self.inside.timers c.self.inside.timers _ _ c.as_slice.ensures refl c.first_due-at.ensures c.take.ensures.rest in
    rw is (wheel_without_due c.args.now c.self.inside.timers c.self.invariant)

pub returns-then-at-len-clause-first : goal.returns-then-at-len-clause-first
returns-then-at-len-clause-first c =
    let within : c.first_due-at.result < length c.self.inside.timers = rw c.len.ensures at c.if-at-len.true in
    due_given c.args.now _ c.self.inside.timers _ _ c.take.result c.as_slice.ensures c.self.view_is c.first_due-at.ensures within c.take.ensures.item

pub returns-then-at-len-clause-rest : goal.returns-then-at-len-clause-rest
returns-then-at-len-clause-rest c = due_taken c.args.now _ c.self.inside.timers _ _ _ c.as_slice.ensures c.self.view_is c.first_due-at.ensures c.take.ensures.rest

pub returns-else-at-len-clause-first : goal.returns-else-at-len-clause-first
returns-else-at-len-clause-first c =
    let past : length c.self.inside.timers ≤ c.first_due-at.result = rw c.len.ensures at c.if-at-len.false in
    sym (none_due c.args.now _ c.self.inside.timers _ _ c.as_slice.ensures c.self.view_is c.first_due-at.ensures past).0

pub returns-else-at-len-clause-rest : goal.returns-else-at-len-clause-rest
returns-else-at-len-clause-rest c =
    let past : length c.self.inside.timers ≤ c.first_due-at.result = rw c.len.ensures at c.if-at-len.false in
    sym (none_due c.args.now _ c.self.inside.timers _ _ c.as_slice.ensures c.self.view_is c.first_due-at.ensures past).1

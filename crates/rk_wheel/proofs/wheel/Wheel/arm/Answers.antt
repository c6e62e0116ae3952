use Rattle.std.proofs.Common.{arith}
use Rattle.rk_wheel.proofs.WheelLemmas.{free, wheel_room, wheel_last}
use Rattle.rk_wheel.proofs.wheel.Wheel.arm.Goals as goal

pub push-requires : goal.push-requires
push-requires c =
    let none = free c.self.inside.timers _ c.new_timer.result _ _ c.self.view_is c.new_timer.ensures.value c.requires.free in
    let room = wheel_room c.self.inside.timers c.new_timer.result c.self.invariant none c.new_timer.ensures.within in
    (omega arith, room)

pub invariant_of-self : goal.invariant_of-self
invariant_of-self c =
    let none = free c.self.inside.timers _ c.new_timer.result _ _ c.self.view_is c.new_timer.ensures.value c.requires.free in
    rw c.push.ensures (wheel_last c.self.inside.timers c.new_timer.result c.self.invariant none c.new_timer.ensures.within)

use Rattle.std.proofs.Common.{arith, refl}
use Rattle.rk_wheel.proofs.WheelLemmas.{there, taken, wheel_without}
use Rattle.rk_wheel.proofs.wheel.Wheel.cancel.Goals as goal

pub take-requires : goal.take-requires
take-requires c =
    let within = there c.args.who _ c.self.inside.timers _ _ c.as_slice.ensures c.self.view_is c.position_of-at.ensures c.requires in
    (omega arith, within)

pub invariant_of-self : goal.invariant_of-self
invariant_of-self c =
    let is = taken c.args.who _ c.self.inside.timers c.self.inside.timers _ _ c.as_slice.ensures refl c.position_of-at.ensures c.self.invariant c.take.ensures.rest in
    rw is (wheel_without c.args.who c.self.inside.timers c.self.invariant)

pub returns : goal.returns
returns c = taken c.args.who _ c.self.inside.timers _ _ _ c.as_slice.ensures c.self.view_is c.position_of-at.ensures c.self.invariant c.take.ensures.rest

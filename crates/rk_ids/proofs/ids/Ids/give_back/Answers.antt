use Rattle.std.proofs.Common.{arith, refl}
use Rattle.rk_ids.proofs.FreeIndexLemmas.{there, taken_out, room_to_free, split_given}
use Rattle.rk_ids.proofs.ids.Ids.give_back.Goals as goal

pub take-requires : goal.take-requires
take-requires c = (omega arith, there c.args.index _ c.self.inside.live _ c.as_slice.ensures c.position_of-at.ensures (rw (← c.self.view_is) at c.requires))

pub push-requires : goal.push-requires
push-requires c = (omega arith, room_to_free (record { live = c.self.inside.live; free = c.self.inside.free }) c.args.index c.self.invariant (rw (← c.self.view_is) at c.requires))

pub invariant_of-self : goal.invariant_of-self
invariant_of-self c =
    let out = taken_out c.args.index _ c.self.inside.live _ c.self.inside.free _ c.as_slice.ensures c.position_of-at.ensures c.self.invariant c.take.ensures.rest in
    rw (out, c.push.ensures) (split_given c.self.inside.live c.self.inside.free c.args.index c.self.invariant (rw (← c.self.view_is) at c.requires))

pub returns : goal.returns
returns c =
    let out = taken_out c.args.index _ c.self.inside.live _ c.self.inside.free _ c.as_slice.ensures c.position_of-at.ensures c.self.invariant c.take.ensures.rest in
    rw (out, c.push.ensures, ← c.self.view_is) refl

use Rattle.std.proofs.Common.{◌<◌, List, length, arith, ap}
use Rattle.rk_places.specs.Stores.{GroupItems}
use Rattle.rk_places.specs.SlabKeys.{placed}
use Rattle.rk_places.proofs.SlabKeyLemmas.{key_count, made_last, made_more}
use Rattle.rk_places.proofs.places.Places.push.Goals as goal

pub insert_reserved-key-requires : goal.insert_reserved-key-requires
insert_reserved-key-requires g c =
    let few : length (placed c.self.inside.slots c.self.inside.keys) < 16 = rw (← c.self.view_is) at c.requires in
    let count = key_count c.self.inside.group c.self.inside.slots c.self.inside.keys c.self.invariant in
    omega (arith, few, count, c.self.invariant.count, c.self.invariant.room)

pub push-requires : goal.push-requires
push-requires g c =
    let few : length (placed c.self.inside.slots c.self.inside.keys) < 16 = rw (← c.self.view_is) at c.requires in
    let count = key_count c.self.inside.group c.self.inside.slots c.self.inside.keys c.self.invariant in
    let low : length c.self.inside.keys < 16 = omega (arith, few, count) in
    (omega arith, low)

pub invariant_of-self : goal.invariant_of-self
invariant_of-self g c =
    let few : length (placed c.self.inside.slots c.self.inside.keys) < 16 = rw (← c.self.view_is) at c.requires in
    let count = key_count c.self.inside.group c.self.inside.slots c.self.inside.keys c.self.invariant in
    let low : length c.self.inside.keys < 16 = omega (arith, few, count) in
    rw c.push.ensures (made_more c.self.inside.group c.insert_reserved-key.result c.self.inside.slots c.insert_reserved-key.new.self c.self.inside.keys c.args.slot c.self.invariant low c.insert_reserved-key.ensures.was_vacant c.insert_reserved-key.ensures.updates c.insert_reserved-key.ensures.len c.insert_reserved-key.ensures.capacity)

pub returns : goal.returns
returns g c =
    rw (← c.self.view_is, c.push.ensures) (ap (λ (items : List g.row.T.Denot). (let held : GroupItems g.row.T.Denot = record { group = c.self.inside.group; items = items } in held)) (made_last c.self.inside.group c.insert_reserved-key.result c.self.inside.slots c.insert_reserved-key.new.self c.self.inside.keys c.args.slot c.self.invariant c.insert_reserved-key.ensures.was_vacant c.insert_reserved-key.ensures.updates))

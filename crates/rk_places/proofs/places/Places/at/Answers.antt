use Rattle.rk_places.specs.Stores.{IsFull, IsOfGroup}
use Rattle.rk_places.specs.SlabKeys.{placed}
use Rattle.rk_places.proofs.SlabKeyLemmas.{keys_full, at_key, stands_there}
use Rattle.rk_places.proofs.places.Places.at.Goals as goal

pub key_at-requires-clause-count : goal.key_at-requires-clause-count
key_at-requires-clause-count g c =
    let full : IsFull (record { group = c.self.inside.group; items = placed c.self.inside.slots c.self.inside.keys }) = rw (← c.self.view_is) at c.requires.full in
    keys_full c.self.inside.group c.self.inside.slots c.self.inside.keys c.self.invariant full

pub index-requires : goal.index-requires
index-requires g c =
    let full : IsFull (record { group = c.self.inside.group; items = placed c.self.inside.slots c.self.inside.keys }) = rw (← c.self.view_is) at c.requires.full in
    let is : IsOfGroup c.self.inside.group c.args.index = rw (← c.self.view_is) at c.requires.place in
    at_key c.self.inside.group c.self.inside.slots c.self.inside.keys c.args.index c.key_at.result c.self.invariant full is c.key_at.ensures

pub returns : goal.returns
returns g c =
    let full : IsFull (record { group = c.self.inside.group; items = placed c.self.inside.slots c.self.inside.keys }) = rw (← c.self.view_is) at c.requires.full in
    let is : IsOfGroup c.self.inside.group c.args.index = rw (← c.self.view_is) at c.requires.place in
    rw (← c.self.view_is) (stands_there c.self.inside.group c.self.inside.slots c.self.inside.keys c.args.index c.key_at.result c.index.result.now c.self.invariant full is c.key_at.ensures c.index.ensures)

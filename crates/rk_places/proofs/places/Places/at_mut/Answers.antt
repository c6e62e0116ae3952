use Rattle.std.proofs.Common.{List, refl, ap}
use Rattle.rk_places.specs.Stores.{GroupItems, IsFull, IsOfGroup}
use Rattle.rk_places.specs.SlabKeys.{placed}
use Rattle.rk_places.proofs.SlabKeyLemmas.{keys_full, at_key, stands_there, written_there}
use Rattle.rk_places.proofs.places.Places.at_mut.Goals as goal

pub key_at-key-requires-clause-count : goal.key_at-key-requires-clause-count
key_at-key-requires-clause-count g c =
    let full : IsFull (record { group = c.self.inside.group; items = placed c.self.inside.slots c.self.inside.keys }) = rw (← c.self.view_is) at c.requires.full in
    keys_full c.self.inside.group c.self.inside.slots c.self.inside.keys c.self.invariant full

pub index_mut-requires : goal.index_mut-requires
index_mut-requires g c =
    let full : IsFull (record { group = c.self.inside.group; items = placed c.self.inside.slots c.self.inside.keys }) = rw (← c.self.view_is) at c.requires.full in
    let is : IsOfGroup c.self.inside.group c.args.index = rw (← c.self.view_is) at c.requires.place in
    at_key c.self.inside.group c.self.inside.slots c.self.inside.keys c.args.index c.key_at-key.result c.self.invariant full is c.key_at-key.ensures

pub returns : goal.returns
returns g c =
    let full : IsFull (record { group = c.self.inside.group; items = placed c.self.inside.slots c.self.inside.keys }) = rw (← c.self.view_is) at c.requires.full in
    let is : IsOfGroup c.self.inside.group c.args.index = rw (← c.self.view_is) at c.requires.place in
    let there = stands_there c.self.inside.group c.self.inside.slots c.self.inside.keys c.args.index c.key_at-key.result c.index_mut.result.now c.self.invariant full is c.key_at-key.ensures c.index_mut.ensures.value in (
      (refl, λ w. rw (← c.self.view_is) (ap (λ (items : List g.row.T.Denot). (let held : GroupItems g.row.T.Denot = record { group = c.self.inside.group; items = items } in held)) (written_there c.self.inside.group c.self.inside.slots c.self.inside.keys c.args.index c.key_at-key.result w c.self.invariant full is c.key_at-key.ensures))),
      record { writes_back = tt; value = rw (← c.self.view_is) there },
    )

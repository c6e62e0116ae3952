use Rattle.std.proofs.Common.{◌≡◌, rules, arith, refl, length}
use Rattle.rk_ids.proofs.FreeIndexLemmas.{full_split, first_of, room_to_make, free_within, split_taken}
use Rattle.rk_ids.proofs.ids.Ids.make.Goals as goal

pub returns-then-is_empty-clause-full : goal.returns-then-is_empty-clause-full
returns-then-is_empty-clause-full c =
    let none = c.is_empty.ensures.0 c.if-is_empty.true in
    let full = full_split (record { live = c.self.inside.live; free = c.self.inside.free }) c.self.invariant none in
    ((λ e. (search rules, rw (← c.self.view_is) full)), (λ h. refl))

pub push-requires : goal.push-requires
push-requires c =
    let first = first_of c.self.inside.free _ _ _ c.is_empty.ensures.1 c.if-is_empty.false c.take-index.ensures.item c.take-index.ensures.rest in
    (omega arith, room_to_make (record { live = c.self.inside.live; free = c.self.inside.free }) _ _ c.self.invariant first)

pub of-requires-clause-low : goal.of-requires-clause-low
of-requires-clause-low c =
    let first = first_of c.self.inside.free _ _ _ c.is_empty.ensures.1 c.if-is_empty.false c.take-index.ensures.item c.take-index.ensures.rest in
    let w = free_within (record { live = c.self.inside.live; free = c.self.inside.free }) _ _ c.self.invariant first in
    w.0

pub of-requires-clause-high : goal.of-requires-clause-high
of-requires-clause-high c =
    let first = first_of c.self.inside.free _ _ _ c.is_empty.ensures.1 c.if-is_empty.false c.take-index.ensures.item c.take-index.ensures.rest in
    let w = free_within (record { live = c.self.inside.live; free = c.self.inside.free }) _ _ c.self.invariant first in
    w.1

pub invariant_of-self : goal.invariant_of-self
invariant_of-self c =
    let first = first_of c.self.inside.free _ _ _ c.is_empty.ensures.1 c.if-is_empty.false c.take-index.ensures.item c.take-index.ensures.rest in
    rw c.push.ensures (split_taken c.self.inside.live c.self.inside.free _ _ c.args.name.bits c.self.invariant first)

pub returns-clause-made : goal.returns-clause-made
returns-clause-made c =
    let of_self = first_of c.self.inside.free _ _ _ c.is_empty.ensures.1 c.if-is_empty.false c.take-index.ensures.item c.take-index.ensures.rest in
    let w = free_within (record { live = c.self.inside.live; free = c.self.inside.free }) _ _ c.self.invariant of_self in
    record {
      index = c.take-index.result;
      free = c.take-index.new.self;
      first = rw (← c.self.view_is) of_self;
      low = w.0;
      high = w.1;
      id = rw (← c.self.view_is) c.of.ensures;
      made = rw (c.push.ensures, ← c.self.view_is) refl;
    }

pub returns-clause-full : goal.returns-clause-full
returns-clause-full c =
    let of_self = first_of c.self.inside.free _ _ _ c.is_empty.ensures.1 c.if-is_empty.false c.take-index.ensures.item c.take-index.ensures.rest in
    let room = room_to_make (record { live = c.self.inside.live; free = c.self.inside.free }) _ _ c.self.invariant of_self in
    ((λ e. absurd (let no : ⊥ = cc in no)), (λ h. let full : length c.self.inside.live ≡ 64 = rw (← c.self.view_is) at h.1 in absurd (omega (arith, room, full))))

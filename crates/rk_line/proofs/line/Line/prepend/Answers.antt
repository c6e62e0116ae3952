use Rattle.std.proofs.Common.{arith}
use Rattle.rk_line.proofs.LineLemmas.{line_first, line_room, free}
use Rattle.rk_line.proofs.line.Line.prepend.Goals as goal

pub insert-requires : goal.insert-requires
insert-requires c =
    let none = free c.self.inside.places _ c.new.result _ _ c.self.view_is c.new.ensures.value c.requires in
    let room = line_room c.self.inside.places c.new.result.thread c.self.invariant none c.new.ensures.low c.new.ensures.high in
    (omega arith, (omega arith, room))

pub invariant_of-self : goal.invariant_of-self
invariant_of-self c =
    let none = free c.self.inside.places _ c.new.result _ _ c.self.view_is c.new.ensures.value c.requires in
    rw c.insert.ensures (line_first c.self.inside.places c.new.result c.self.invariant none c.new.ensures.low c.new.ensures.high)

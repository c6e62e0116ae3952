use Rattle.std.proofs.Common.{arith}
use Rattle.rk_line.proofs.LineLemmas.{line_last, line_room, free}
use Rattle.rk_line.proofs.line.Line.append.Goals as goal

pub push-requires : goal.push-requires
push-requires c =
    let none = free c.self.inside.places _ c.new.result _ _ c.self.view_is c.new.ensures.value c.requires in
    let room = line_room c.self.inside.places c.new.result.thread c.self.invariant none c.new.ensures.low c.new.ensures.high in
    (omega arith, room)

pub invariant_of-self : goal.invariant_of-self
invariant_of-self c =
    let none = free c.self.inside.places _ c.new.result _ _ c.self.view_is c.new.ensures.value c.requires in
    rw c.push.ensures (line_last c.self.inside.places c.new.result c.self.invariant none c.new.ensures.low c.new.ensures.high)

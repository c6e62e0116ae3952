use Rattle.std.proofs.Common.{arith, refl}
use Rattle.rk_line.proofs.LineLemmas.{there, taken, line_without}
use Rattle.rk_line.proofs.line.Line.remove.Goals as goal

pub take-requires : goal.take-requires
take-requires c =
    let within = there c.args.thread _ c.self.inside.places _ _ c.as_slice.ensures c.self.view_is c.position_of-at.ensures c.requires in
    (omega arith, within)

pub invariant_of-self : goal.invariant_of-self
invariant_of-self c =
    let is = taken c.args.thread _ c.self.inside.places c.self.inside.places _ _ c.as_slice.ensures refl c.position_of-at.ensures c.self.invariant c.take.ensures.rest in
    rw is (line_without c.args.thread c.self.inside.places c.self.invariant)

pub returns : goal.returns
returns c = taken c.args.thread _ c.self.inside.places _ _ _ c.as_slice.ensures c.self.view_is c.position_of-at.ensures c.self.invariant c.take.ensures.rest

use Rattle.std.proofs.Common.{arith, refl}
use Rattle.rk_line.proofs.LineLemmas.{there, reset, line_with_prio}
use Rattle.rk_line.proofs.line.Line.change.Goals as goal

pub set-requires : goal.set-requires
set-requires c =
    let within = there c.args.thread _ c.self.inside.places _ _ c.as_slice.ensures c.self.view_is c.position_of-at.ensures c.requires in
    (omega arith, within)

pub invariant_of-self : goal.invariant_of-self
invariant_of-self c =
    let is = reset c.args.thread c.args.prio _ c.self.inside.places c.self.inside.places _ _ c.as_slice.ensures refl c.position_of-at.ensures c.self.invariant c.set.ensures in
    rw is (line_with_prio c.args.thread c.args.prio c.self.inside.places c.self.invariant)

pub returns : goal.returns
returns c = reset c.args.thread c.args.prio _ c.self.inside.places _ _ _ c.as_slice.ensures c.self.view_is c.position_of-at.ensures c.self.invariant c.set.ensures

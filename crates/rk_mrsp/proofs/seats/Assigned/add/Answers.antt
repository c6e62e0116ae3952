use Rattle.std.proofs.Common.{◌≡◌, ◌<◌, ◌∷◌, ◌++◌, [], false, length, ap, sym, ◌∙◌, subst, arith}
use Rattle.rk_mrsp.specs.Scenes.{has_seat, AreSeats}
use Rattle.rk_mrsp.proofs.SeatLemmas.{few_more, one_more_seat}
use Rattle.rk_mrsp.proofs.seats.Assigned.add.Goals as goal

pub push-requires : goal.push-requires
push-requires c =
    let free : has_seat c.self.inside.seats c.args.cpu ≡ false = ap (λ xs. has_seat xs c.args.cpu) c.self.view_is ∙ c.requires.free in
    (omega arith, few_more c.self.inside.seats c.args.cpu c.args.thread c.self.invariant c.requires.low free)

pub invariant_of-self : goal.invariant_of-self
invariant_of-self c =
    let free : has_seat c.self.inside.seats c.args.cpu ≡ false = ap (λ xs. has_seat xs c.args.cpu) c.self.view_is ∙ c.requires.free in
    subst AreSeats (sym c.push.ensures) (one_more_seat c.self.inside.seats c.args.cpu c.args.thread c.self.invariant c.requires.low free)

use Rattle.std.proofs.Common.{◌≡◌, ◌≤◌, length, ap, subst}
use Rattle.rk_mrsp.proofs.SeatLemmas.{few_seats}
use Rattle.rk_mrsp.proofs.seats.Assigned.seats.Goals as goal

pub returns-clause-few : goal.returns-clause-few
returns-clause-few c = subst (λ xs. length xs ≤ 8) c.self.view_is (few_seats c.self.inside.seats c.self.invariant)

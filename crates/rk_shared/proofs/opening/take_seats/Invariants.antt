use Rattle.std.proofs.Common.{◌≡◌, ◌≤◌, vec_len}
use Rattle.std.specs.Prelude.{vec_capacity}
use Rattle.rk_model.specs.declared.limits.TheConstants.{MOST_PROCESSORS}
use Rattle.rk_model.specs.Keys.{seat_key}
use Rattle.rk_shared.specs.SeatViews.{first_seats}
use Rattle.rk_shared.specs.Openings.{AreLeft}
use Rattle.rk_shared.proofs.opening.take_seats.Given as goal

abbrev pub invariant-loop-number : goal.invariant-loop-number
invariant-loop-number l =
    AreLeft l.journal.opening (seat_key l.number) (seat_key 8) l.marks × (l.cpus.items ≡ first_seats l.journal.opening l.number)
    × (vec_len l.cpus ≡ l.number) × (MOST_PROCESSORS ≤ vec_capacity l.cpus)

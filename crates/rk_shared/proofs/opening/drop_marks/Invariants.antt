use Rattle.rk_model.specs.Keys.{seat_key}
use Rattle.rk_shared.specs.Openings.{AreLeft}
use Rattle.rk_shared.proofs.opening.drop_marks.Given as goal

abbrev pub invariant-loop-number : goal.invariant-loop-number
invariant-loop-number l = AreLeft l.journal.opening (seat_key l.number) (seat_key 8) l.marks

use Rattle.std.proofs.Common.{◌≡◌, ◌+◌, take, nat_le, count_by}
use Rattle.rk_line.specs.declared.line.Place.{Place}
use Rattle.rk_line.proofs.line.left_after.Given as goal

abbrev pub invariant-loop-place : goal.invariant-loop-place
invariant-loop-place l = l.left + count_by (λ (place : Place). nat_le place.prio l.most) (take l.place-index l.places) ≡ l.number

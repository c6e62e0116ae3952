use Rattle.std.proofs.Common.{◌≡◌, length}
use Rattle.rk_places.proofs.tests.numbered.Given as goal

abbrev pub invariant-loop-number : goal.invariant-loop-number
invariant-loop-number l = (l.places.group ≡ l.group) × (length l.places.items ≡ l.number)

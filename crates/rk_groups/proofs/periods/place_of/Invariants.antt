use Rattle.std.proofs.Common.{◌≡◌, drop}
use Rattle.rk_groups.specs.Groups.{periods_in}
use Rattle.rk_groups.proofs.FoundLemmas.{behind}
use Rattle.rk_groups.proofs.periods.place_of.Given as goal

abbrev pub invariant-loop-at : goal.invariant-loop-at
invariant-loop-at l = behind l.at (periods_in (drop l.at l.groups) l.index) ≡ periods_in l.groups l.index

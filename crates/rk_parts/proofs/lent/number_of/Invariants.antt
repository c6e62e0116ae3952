use Rattle.std.proofs.Common.{◌≡◌, drop}
use Rattle.rk_parts.specs.Lent.{number_in}
use Rattle.rk_groups.proofs.FoundLemmas.{behind}
use Rattle.rk_parts.proofs.lent.number_of.Given as goal

abbrev pub invariant-loop-at : goal.invariant-loop-at
invariant-loop-at l = behind l.at (number_in (drop l.at l.clusters) l.number) ≡ number_in l.clusters l.number

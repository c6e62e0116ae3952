use Rattle.std.proofs.Common.{◌≡◌, drop}
use Rattle.rk_parts.specs.Lent.{found_in}
use Rattle.rk_groups.proofs.FoundLemmas.{behind}
use Rattle.rk_parts.proofs.lent.place_of.Given as goal

abbrev pub invariant-loop-at : goal.invariant-loop-at
invariant-loop-at l = behind l.at (found_in (drop l.at l.clusters) l.thread) ≡ found_in l.clusters l.thread

use Rattle.std.proofs.Common.{◌≡◌, drop}
use Rattle.rk_groups.specs.Groups.{partitions_in}
use Rattle.rk_groups.proofs.FoundLemmas.{behind}
use Rattle.rk_groups.proofs.partitions.place_of.Given as goal

abbrev pub invariant-loop-at : goal.invariant-loop-at
invariant-loop-at l = behind l.at (partitions_in (drop l.at l.groups) l.index) ≡ partitions_in l.groups l.index

use Rattle.std.proofs.Common.{◌≡◌, drop}
use Rattle.rk_groups.specs.Groups.{semaphores_in}
use Rattle.rk_groups.proofs.FoundLemmas.{behind}
use Rattle.rk_groups.proofs.semaphores.place_of.Given as goal

abbrev pub invariant-loop-at : goal.invariant-loop-at
invariant-loop-at l = behind l.at (semaphores_in (drop l.at l.groups) l.index) ≡ semaphores_in l.groups l.index

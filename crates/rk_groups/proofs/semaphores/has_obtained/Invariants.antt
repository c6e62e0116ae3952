use Rattle.std.proofs.Common.{◌≡◌, drop}
use Rattle.rk_model.specs.Directives.Semaphores.{has_obtained}
use Rattle.rk_groups.specs.GroupObjects.{semaphores_of}
use Rattle.rk_groups.proofs.semaphores.has_obtained.Given as goal

abbrev pub invariant-loop-at : goal.invariant-loop-at
invariant-loop-at l = has_obtained (drop l.at (semaphores_of l.groups)) l.thread ≡ has_obtained (semaphores_of l.groups) l.thread

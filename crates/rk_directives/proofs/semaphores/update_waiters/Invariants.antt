use Rattle.rk_directives.specs.Does.{lent_both}
use Rattle.rk_directives.proofs.DirectiveLemmas.PresentPriorityLemmas.{IsUpdating}
use Rattle.rk_directives.proofs.semaphores.update_waiters.Given as goal

abbrev pub invariant-loop-at : goal.invariant-loop-at
invariant-loop-at l = IsUpdating (lent_both l.clusters l.fn.groups) l.at l.fn.groups l.index l.groups

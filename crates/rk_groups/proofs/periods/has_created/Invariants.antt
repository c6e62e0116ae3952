use Rattle.std.proofs.Common.{◌≡◌, drop}
use Rattle.rk_model.specs.Directives.Tasks.{has_created}
use Rattle.rk_groups.specs.GroupObjects.{periods_of}
use Rattle.rk_groups.proofs.periods.has_created.Given as goal

abbrev pub invariant-loop-at : goal.invariant-loop-at
invariant-loop-at l = has_created (drop l.at (periods_of l.groups)) l.thread ≡ has_created (periods_of l.groups) l.thread

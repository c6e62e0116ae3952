use Rattle.std.proofs.Common.{sym, ◌∙◌}
use Rattle.rk_groups.proofs.SemaphoreGroupLemmas.{semaphore_wakes, wakes_nowhere}
use Rattle.rk_groups.proofs.semaphores.wakes_of.Goals as goal

pub returns-in-Some : goal.returns-in-Some
returns-in-Some c = c.list.ensures ∙ semaphore_wakes c.args.groups.now c.in-Some.at c.args.index c.index-groups-at.result c.in-Some.ensures.place

pub returns-in-None : goal.returns-in-None
returns-in-None c = sym (wakes_nowhere c.args.groups.now c.args.index (sym c.in-None.ensures.place))

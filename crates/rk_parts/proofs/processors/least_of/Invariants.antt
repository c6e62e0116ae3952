use Rattle.std.proofs.Common.{◌≡◌, ◌-◌, List}
use Rattle.rk_model.specs.Names.{Table}
use Rattle.rk_model.specs.Scheduling.Running.{least, least_from}
use Rattle.rk_model.specs.Scheduling.Seats.{cpu_count}
use Rattle.rk_groups.specs.declared.group.GroupPart.{GroupPart}
use Rattle.rk_groups.specs.GroupObjects.{semaphores_of}
use Rattle.rk_parts.specs.Holdings.{AreHeld, holdings}
use Rattle.rk_parts.specs.Joined.{joined}
use Rattle.rk_parts.proofs.processors.least_of.Given as goal

abbrev pub invariant-loop-cpu : goal.invariant-loop-cpu
invariant-loop-cpu l = (table : Table) (groups : List GroupPart) → AreHeld (holdings l.clusters) (semaphores_of groups) →
    least_from (joined l.scenario table l.clusters groups) l.cpu (cpu_count (joined l.scenario table l.clusters groups) - l.cpu) ≡ least (joined l.scenario table l.clusters groups)

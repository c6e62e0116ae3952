use Rattle.std.proofs.Common.{◌≡◌, List, drop}
use Rattle.rk_model.specs.declared.scenario.Scenario.{Scenario}
use Rattle.rk_model.specs.Names.{Table}
use Rattle.rk_groups.specs.declared.group.GroupPart.{GroupPart}
use Rattle.rk_parts.specs.Holdings.{holdings}
use Rattle.rk_parts.specs.Joined.{joined}
use Rattle.rk_parts.specs.Lent.{AreLaid, layouts, frame}
use Rattle.rk_directives.specs.Does.{AllLive, woken}
use Rattle.rk_directives.proofs.waits.wake_all.Given as goal

abbrev pub invariant-loop-wake : goal.invariant-loop-wake
invariant-loop-wake l = record {
  live : AllLive l.clusters (drop l.wake-index l.wakes);
  state : (s : Scenario) (table : Table) (groups : List GroupPart) → AreLaid s.clusters (layouts l.fn.clusters) → woken (joined s table l.clusters groups) (drop l.wake-index l.wakes) ≡ woken (joined s table l.fn.clusters groups) l.wakes;
  kept : frame l.clusters ≡ frame l.fn.clusters;
  held : holdings l.clusters ≡ holdings l.fn.clusters;
}

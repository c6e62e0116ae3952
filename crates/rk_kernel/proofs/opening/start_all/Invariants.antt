use Rattle.std.proofs.Common.{◌≡◌, List, take, map}
use Rattle.rk_model.specs.Names.{Table}
use Rattle.rk_model.specs.Histories.{begun, places}
use Rattle.rk_groups.specs.declared.group.GroupPart.{GroupPart}
use Rattle.rk_parts.specs.Holdings.{holdings}
use Rattle.rk_parts.specs.Joined.{joined}
use Rattle.rk_parts.specs.Lent.{accounts, layouts, stored, AreLaid}
use Rattle.rk_kernel.proofs.opening.start_all.Given as goal

abbrev pub invariant-loop-at : goal.invariant-loop-at
invariant-loop-at l = record {
  started : (table : Table) (groups : List GroupPart) → joined l.scenario table l.clusters groups ≡ record (joined l.scenario table l.fn.clusters groups) { threads = places 64 (map (begun l.scenario) (take l.at l.scenario.inits)) };
  laid : AreLaid l.scenario.clusters (layouts l.clusters);
  kept : stored l.clusters ≡ stored l.fn.clusters;
  accounts : accounts l.clusters ≡ accounts l.fn.clusters;
  held : holdings l.clusters ≡ holdings l.fn.clusters;
}

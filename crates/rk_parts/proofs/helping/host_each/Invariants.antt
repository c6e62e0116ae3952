use Rattle.std.proofs.Common.{◌≡◌, ◌++◌, map, take, drop, length}
use Rattle.std.specs.List.{AllByRecursion}
use Rattle.rk_parts.specs.declared.parts.ClusterPart.{ClusterPart}
use Rattle.rk_parts.specs.Hosted.{hosting_part}
use Rattle.rk_parts.proofs.helping.host_each.Given as goal

abbrev pub invariant-loop-at : goal.invariant-loop-at
invariant-loop-at l = record {
  size : length l.clusters ≡ length l.fn.clusters;
  so_far : take l.at l.clusters ++ map hosting_part (drop l.at l.clusters) ≡ map hosting_part l.fn.clusters;
  sizes : AllByRecursion (λ (part : ClusterPart). length part.chains ≡ 64) (take l.at l.clusters);
}

use Rattle.std.proofs.Common.{◌≡◌, ◌++◌, map, take, drop, length}
use Rattle.std.specs.List.{AllByRecursion}
use Rattle.rk_parts.specs.declared.parts.ClusterPart.{ClusterPart}
use Rattle.rk_parts.specs.Hosted.{with_link}
use Rattle.rk_parts.proofs.helping.note_link.Given as goal

abbrev pub invariant-loop-at : goal.invariant-loop-at
invariant-loop-at l = record {
  size : length l.clusters ≡ length l.fn.clusters;
  so_far : take l.at l.clusters ++ map (with_link l.thread l.link) (drop l.at l.clusters) ≡ map (with_link l.thread l.link) l.fn.clusters;
  sizes : AllByRecursion (λ (part : ClusterPart). length part.chains ≡ 64) (take l.at l.clusters);
}

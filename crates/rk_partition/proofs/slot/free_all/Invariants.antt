use Rattle.std.proofs.Common.{◌≡◌}
use Rattle.rk_model.specs.Directives.Partitions.{addresses}
use Rattle.rk_partition.proofs.slot.free_all.Given as goal

abbrev pub invariant-loop-before : goal.invariant-loop-before
invariant-loop-before l = l.free ≡ addresses l.partition.start l.partition.size l.before

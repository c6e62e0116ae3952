use Rattle.std.proofs.Common.{take}
use Rattle.std.specs.List.{AllByRecursion}
use Rattle.rk_parts.specs.Hosted.{IsStill}
use Rattle.rk_parts.proofs.helping.are_still.Given as goal

abbrev pub invariant-loop-part : goal.invariant-loop-part
invariant-loop-part l = AllByRecursion IsStill (take l.part-index l.clusters)

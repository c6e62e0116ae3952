use Rattle.std.proofs.Common.{◌≡◌, drop}
use Rattle.rk_parts.specs.Hosted.{hosted_in}
use Rattle.rk_parts.proofs.processors.helped_of.Given as goal

abbrev pub invariant-loop-part : goal.invariant-loop-part
invariant-loop-part l = hosted_in (drop l.part-index l.clusters) l.cpu ≡ hosted_in l.clusters l.cpu

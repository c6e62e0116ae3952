use Rattle.std.proofs.Common.{drop}
use Rattle.rk_parts.proofs.ContributingLemmas.{IsCapping}
use Rattle.rk_parts.proofs.contribute.with_ceilings.Given as goal

abbrev pub invariant-loop-part : goal.invariant-loop-part
invariant-loop-part l = IsCapping l.clusters (drop l.part-index l.clusters) l.capped

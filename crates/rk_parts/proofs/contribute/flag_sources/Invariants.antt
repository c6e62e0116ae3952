use Rattle.rk_parts.proofs.ContributingLemmas.{IsFlaggingParts}
use Rattle.rk_parts.proofs.contribute.flag_sources.Given as goal

abbrev pub invariant-loop-at : goal.invariant-loop-at
invariant-loop-at l = IsFlaggingParts l.clusters l.thread l.at l.fn.stale l.stale

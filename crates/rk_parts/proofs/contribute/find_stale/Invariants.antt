use Rattle.rk_model.specs.IndexSets.{weight}
use Rattle.rk_parts.proofs.ContributingLemmas.{IsFindingStale}
use Rattle.rk_parts.proofs.contribute.find_stale.Given as goal

abbrev pub invariant-finding : goal.invariant-finding
invariant-finding l = IsFindingStale l.touched l.clusters l.rest l.fn.stale l.stale

abbrev pub decreases-finding : goal.decreases-finding
decreases-finding l = weight l.rest

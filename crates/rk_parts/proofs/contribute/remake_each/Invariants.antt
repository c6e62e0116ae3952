use Rattle.rk_model.specs.IndexSets.{weight}
use Rattle.rk_parts.proofs.ContributingLemmas.{IsRemaking}
use Rattle.rk_parts.proofs.contribute.remake_each.Given as goal

abbrev pub invariant-remaking : goal.invariant-remaking
invariant-remaking l = IsRemaking l.fn.clusters l.clusters l.rest

abbrev pub decreases-remaking : goal.decreases-remaking
decreases-remaking l = weight l.rest

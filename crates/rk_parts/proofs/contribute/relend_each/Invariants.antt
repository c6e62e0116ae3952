use Rattle.rk_model.specs.IndexSets.{weight}
use Rattle.rk_parts.proofs.ContributingLemmas.{IsRelending}
use Rattle.rk_parts.proofs.contribute.relend_each.Given as goal

abbrev pub invariant-lending : goal.invariant-lending
invariant-lending l = IsRelending l.fn.threads l.threads l.cluster l.source l.home l.own l.flags l.rest

abbrev pub decreases-lending : goal.decreases-lending
decreases-lending l = weight l.rest

use Rattle.rk_model.specs.IndexSets.{weight}
use Rattle.rk_agg.proofs.ShareLemmas.{IsComparing}
use Rattle.rk_parts.specs.Contributions.{ceiling_by}
use Rattle.rk_parts.specs.Holdings.{holder, holdings}
use Rattle.rk_parts.proofs.contribute.least_ceiling.Given as goal

abbrev pub invariant-comparing : goal.invariant-comparing
invariant-comparing l = IsComparing (λ i. ceiling_by l.thread l.cluster (holder (holdings l.clusters) i)) l.rest l.best

abbrev pub decreases-comparing : goal.decreases-comparing
decreases-comparing l = weight l.rest

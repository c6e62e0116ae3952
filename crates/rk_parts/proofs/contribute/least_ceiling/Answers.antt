use Rattle.std.proofs.Common.{ap, ◌∙◌}
use Rattle.rk_agg.specs.Shares.{least_source}
use Rattle.rk_agg.proofs.ShareLemmas.{comparing_starts, comparing_goes_on, comparing_ends}
use Rattle.rk_parts.specs.Contributions.{ceiling_by, least_ceiling}
use Rattle.rk_parts.specs.Holdings.{holder, holdings}
use Rattle.rk_parts.proofs.ContributingLemmas.{no_ceiling_raises}
use Rattle.rk_parts.proofs.contribute.least_ceiling.Goals as goal

pub comparing-init : goal.comparing-init
comparing-init c = comparing_starts (λ i. ceiling_by c.args.thread c.args.cluster (holder (holdings c.args.clusters.now) i)) c.with_ceilings-rest.result (λ i low. no_ceiling_raises (holder (holdings c.args.clusters.now) i) c.args.thread c.args.cluster (c.with_ceilings-rest.ensures i low))

pub comparing-preserved : goal.comparing-preserved
comparing-preserved c = comparing_goes_on (λ i. ceiling_by c.args.thread c.args.cluster (holder (holdings c.args.clusters.now) i)) c.comparing.rest c.take_least.new.self c.in-Some.at c.comparing.best c.lesser_of-best.result c.ceiling_of.result c.in-Some.ensures.some (c.ceiling_of.ensures ∙ ap (ceiling_by c.args.thread c.args.cluster) (c.holder-holding.ensures ∙ ap (holder (holdings c.args.clusters.now)) c.from.ensures)) c.lesser_of-best.ensures c.comparing.invariant

pub returns : goal.returns
unfolding least_ceiling least_source
returns c = comparing_ends (λ i. ceiling_by c.args.thread c.args.cluster (holder (holdings c.args.clusters.now) i)) c.comparing.rest c.comparing.best c.in_default.ensures.none c.comparing.invariant

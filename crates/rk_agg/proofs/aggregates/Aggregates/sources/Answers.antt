use Rattle.std.proofs.Common.{◌∙◌, ap, arith, is_some}
use Rattle.rk_model.specs.IndexSets.{is_in}
use Rattle.rk_agg.specs.Shares.{found, Shares}
use Rattle.rk_agg.proofs.ShareLemmas.{found_nowhere, set_there}
use Rattle.rk_agg.proofs.aggregates.Aggregates.sources.Goals as goal

pub returns-then-cluster-lt-MOST_CLUSTERS : goal.returns-then-cluster-lt-MOST_CLUSTERS
returns-then-cluster-lt-MOST_CLUSTERS c = λ u.
    ap (λ set. is_in set u) (set_there c.self.inside.sources c.row_of.result c.args.thread c.args.cluster c.at.result c.self.invariant.1.sources_each c.row_of.ensures.within c.row_of.ensures.value c.at.ensures)
    ∙ c.self.invariant.1.are_sources c.args.thread c.args.cluster u c.row_of.ensures.row
    ∙ ap (λ (xs : Shares). is_some (found xs c.args.thread c.args.cluster u)) c.self.view_is

pub returns-else-cluster-lt-MOST_CLUSTERS : goal.returns-else-cluster-lt-MOST_CLUSTERS
returns-else-cluster-lt-MOST_CLUSTERS c = λ u. c.empty.ensures u ∙ ap (λ o. is_some o) (found_nowhere c.args.self.now c.args.thread c.args.cluster u (omega arith))

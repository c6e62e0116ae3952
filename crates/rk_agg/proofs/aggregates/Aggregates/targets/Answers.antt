use Rattle.std.proofs.Common.{◌∙◌, ap, arith, is_some}
use Rattle.rk_model.specs.IndexSets.{is_in}
use Rattle.rk_agg.specs.Shares.{found, Shares}
use Rattle.rk_agg.proofs.ShareLemmas.{found_nowhere, set_there}
use Rattle.rk_agg.proofs.aggregates.Aggregates.targets.Goals as goal

pub returns-then-cluster-lt-MOST_CLUSTERS : goal.returns-then-cluster-lt-MOST_CLUSTERS
returns-then-cluster-lt-MOST_CLUSTERS c = λ t.
    ap (λ set. is_in set t) (set_there c.self.inside.targets c.row_of.result c.args.source c.args.cluster c.at.result c.self.invariant.1.targets_each c.row_of.ensures.within c.row_of.ensures.value c.at.ensures)
    ∙ c.self.invariant.1.are_targets t c.args.cluster c.args.source c.row_of.ensures.row
    ∙ ap (λ (xs : Shares). is_some (found xs t c.args.cluster c.args.source)) c.self.view_is

pub returns-else-cluster-lt-MOST_CLUSTERS : goal.returns-else-cluster-lt-MOST_CLUSTERS
returns-else-cluster-lt-MOST_CLUSTERS c = λ t. c.empty.ensures t ∙ ap (λ o. is_some o) (found_nowhere c.args.self.now t c.args.cluster c.args.source (omega arith))

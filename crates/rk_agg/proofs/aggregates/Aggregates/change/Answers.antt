use Rattle.std.proofs.Common.{Some, ap, ◌∙◌}
use Rattle.rk_agg.specs.Shares.{found, with_found}
use Rattle.rk_agg.proofs.ShareLemmas.{none_left, put_back}
use Rattle.rk_agg.proofs.aggregates.Aggregates.change.Goals as goal

pub add-requires-clause-none : goal.add-requires-clause-none
add-requires-clause-none c = ap (λ f. f c.args.thread c.args.cluster c.args.source) c.remove.ensures ∙ none_left c.args.thread c.args.cluster c.args.source (found c.args.self.now)

pub returns : goal.returns
returns c =
    c.add.ensures
    ∙ ap (with_found c.args.thread c.args.cluster c.args.source (Some c.args.prio)) c.remove.ensures
    ∙ put_back c.args.thread c.args.cluster c.args.source (Some c.args.prio) (found c.args.self.now)

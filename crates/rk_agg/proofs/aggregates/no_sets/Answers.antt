use Rattle.std.proofs.Common.{◌∙◌, rules}
use Rattle.rk_agg.proofs.ShareLemmas.{none_replicated}
use Rattle.rk_agg.proofs.aggregates.no_sets.Goals as goal

pub returns-clause-none : goal.returns-clause-none
returns-clause-none c = none_replicated c.from_vec.result c.args.count c.empty.result (c.from_vec.ensures ∙ c.in_ok-sets.ensures.items_if_clones_equal (λ y same. search rules)) c.empty.ensures

use Rattle.std.proofs.Common.{◌∙◌, rules}
use Rattle.rk_agg.specs.Shares.{nones}
use Rattle.rk_agg.proofs.aggregates.nones.Goals as goal

pub returns : goal.returns
unfolding nones
returns c = c.from_vec.ensures ∙ c.in_ok-cells.ensures.items_if_clones_equal (λ y same. search rules)

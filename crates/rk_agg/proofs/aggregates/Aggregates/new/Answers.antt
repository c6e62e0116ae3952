use Rattle.rk_agg.proofs.ShareLemmas.{indexed_none, least_of_nones}
use Rattle.rk_agg.proofs.aggregates.Aggregates.new.Goals as goal

pub invariant_of-result : goal.invariant_of-result
invariant_of-result c = (
  least_of_nones c.in_ok-nones.field-0 c.in_ok-nones-2.field-0 c.in_ok-nones.ensures c.in_ok-nones-2.ensures,
  indexed_none c.in_ok-nones.field-0 c.in_ok-no_sets.field-0 c.in_ok-no_sets-2.field-0 c.in_ok-nones.ensures c.in_ok-no_sets.ensures.size c.in_ok-no_sets.ensures.none c.in_ok-no_sets-2.ensures.size c.in_ok-no_sets-2.ensures.none,
)

use Rattle.std.proofs.Common.{◌∙◌, rules}
use Rattle.rk_parts.proofs.HoldingLemmas.{none_held, held_opened}
use Rattle.rk_parts.proofs.holdings.Holdings.new.Goals as goal

pub invariant_of-result : goal.invariant_of-result
invariant_of-result c = none_held c.from_vec.result c.from_vec-2.result _ _ (c.from_vec.ensures ∙ c.in_ok-owners.ensures.items_if_clones_equal (λ y same. search rules)) (c.from_vec-2.ensures ∙ c.in_ok-noted.ensures.items_if_clones_equal (λ y same. search rules)) (search rules)

pub returns : goal.returns
returns c = held_opened c.from_vec.result c.from_vec-2.result (c.from_vec.ensures ∙ c.in_ok-owners.ensures.items_if_clones_equal (λ y same. search rules)) (c.from_vec-2.ensures ∙ c.in_ok-noted.ensures.items_if_clones_equal (λ y same. search rules))

use Rattle.rk_model.specs.declared.scenario.ScenarioWhy.TheVariants.{Range}
use Rattle.rk_scenario.proofs.ReasonLemmas.{comes_where}
use Rattle.rk_scenario.proofs.laws.range_comes_for_a_number_outside.Goals as goal

pub returns : goal.returns
returns c = comes_where Range

use Rattle.rk_model.specs.declared.scenario.ScenarioWhy.TheVariants.{Number}
use Rattle.rk_scenario.proofs.ReasonLemmas.{comes_where}
use Rattle.rk_scenario.proofs.laws.number_comes_for_no_number.Goals as goal

pub returns : goal.returns
returns c = comes_where Number

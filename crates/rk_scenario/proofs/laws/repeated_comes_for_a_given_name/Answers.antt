use Rattle.rk_model.specs.declared.scenario.ScenarioWhy.TheVariants.{Repeated}
use Rattle.rk_scenario.proofs.ReasonLemmas.{comes_where}
use Rattle.rk_scenario.proofs.laws.repeated_comes_for_a_given_name.Goals as goal

pub returns : goal.returns
returns c = comes_where Repeated

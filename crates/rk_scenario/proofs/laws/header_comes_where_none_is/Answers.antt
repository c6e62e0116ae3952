use Rattle.rk_model.specs.declared.scenario.ScenarioWhy.TheVariants.{Header}
use Rattle.rk_scenario.proofs.ReasonLemmas.{comes_where}
use Rattle.rk_scenario.proofs.laws.header_comes_where_none_is.Goals as goal

pub returns : goal.returns
returns c = comes_where Header

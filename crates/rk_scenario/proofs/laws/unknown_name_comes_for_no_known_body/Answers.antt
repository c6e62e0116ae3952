use Rattle.rk_model.specs.declared.scenario.ScenarioWhy.TheVariants.{UnknownName}
use Rattle.rk_scenario.proofs.ReasonLemmas.{comes_where}
use Rattle.rk_scenario.proofs.laws.unknown_name_comes_for_no_known_body.Goals as goal

pub returns : goal.returns
returns c = comes_where UnknownName

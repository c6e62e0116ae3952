use Rattle.rk_model.specs.declared.scenario.ScenarioWhy.TheVariants.{TooMany}
use Rattle.rk_scenario.proofs.ReasonLemmas.{comes_where}
use Rattle.rk_scenario.proofs.laws.too_many_comes_for_a_line_too_many.Goals as goal

pub returns : goal.returns
returns c = comes_where TooMany

use Rattle.rk_model.specs.declared.scenario.ScenarioWhy.TheVariants.{TooLarge}
use Rattle.rk_scenario.proofs.ReasonLemmas.{comes_where}
use Rattle.rk_scenario.proofs.laws.too_large_comes_for_a_large_text.Goals as goal

pub returns : goal.returns
returns c = comes_where TooLarge

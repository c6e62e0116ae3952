use Rattle.rk_model.specs.declared.scenario.ScenarioWhy.TheVariants.{Word}
use Rattle.rk_scenario.proofs.ReasonLemmas.{comes_where}
use Rattle.rk_scenario.proofs.laws.word_comes_for_a_wrong_word.Goals as goal

pub returns : goal.returns
returns c = comes_where Word

use Rattle.rk_model.specs.declared.scenario.ScenarioWhy.TheVariants.{NotAscii}
use Rattle.rk_scenario.proofs.ReasonLemmas.{comes_where}
use Rattle.rk_scenario.proofs.laws.not_ascii_comes_for_an_unallowed_byte.Goals as goal

pub returns : goal.returns
returns c = comes_where NotAscii

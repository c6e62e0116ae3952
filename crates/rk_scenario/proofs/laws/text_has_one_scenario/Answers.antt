use Rattle.rk_scenario.proofs.TextLemmas.{one_scenario}
use Rattle.rk_scenario.proofs.laws.text_has_one_scenario.Goals as goal

pub returns : goal.returns
returns c = one_scenario

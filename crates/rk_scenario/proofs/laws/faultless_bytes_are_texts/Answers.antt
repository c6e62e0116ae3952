use Rattle.rk_scenario.proofs.TextLemmas.{faultless_are_texts}
use Rattle.rk_scenario.proofs.laws.faultless_bytes_are_texts.Goals as goal

pub returns : goal.returns
returns c = faultless_are_texts

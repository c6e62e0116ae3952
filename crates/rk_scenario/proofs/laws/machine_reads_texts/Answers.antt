use Rattle.rk_scenario.proofs.TextLemmas.{reads_texts}
use Rattle.rk_scenario.proofs.laws.machine_reads_texts.Goals as goal

pub returns : goal.returns
returns c = reads_texts

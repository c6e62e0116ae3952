use Rattle.rk_scenario.proofs.TextLemmas.{reads_each_text}
use Rattle.rk_scenario.proofs.laws.machine_reads_each_text.Goals as goal

pub returns : goal.returns
returns c = reads_each_text

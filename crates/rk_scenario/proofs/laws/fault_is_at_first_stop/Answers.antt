use Rattle.rk_scenario.proofs.FirstStopLemmas.{faults_at_first_stop}
use Rattle.rk_scenario.proofs.laws.fault_is_at_first_stop.Goals as goal

pub returns : goal.returns
returns c = faults_at_first_stop

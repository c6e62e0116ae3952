use Rattle.rk_schedule.proofs.ReadingLemmas.{schedule_once}
use Rattle.rk_schedule.proofs.laws.a_schedule_has_one_history.Goals as goal

pub returns : goal.returns
returns c = schedule_once

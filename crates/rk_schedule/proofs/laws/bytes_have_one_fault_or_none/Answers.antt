use Rattle.rk_schedule.proofs.ReadingLemmas.{answered_once}
use Rattle.rk_schedule.proofs.laws.bytes_have_one_fault_or_none.Goals as goal

pub returns : goal.returns
returns c = answered_once

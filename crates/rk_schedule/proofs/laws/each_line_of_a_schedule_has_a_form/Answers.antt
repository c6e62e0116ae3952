use Rattle.rk_schedule.proofs.FormedScheduleLemmas.{schedule_formed}
use Rattle.rk_schedule.proofs.laws.each_line_of_a_schedule_has_a_form.Goals as goal

pub returns : goal.returns
returns c = schedule_formed

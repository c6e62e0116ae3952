use Rattle.std.proofs.Common.{true}
use Rattle.rk_model.specs.Text.Schedules.{period_lines_from, final_line}
use Rattle.rk_schedule.specs.Stored.{stored_in}
use Rattle.rk_schedule.proofs.EndingLemmas.{last_line_behind}
use Rattle.rk_schedule.proofs.ending.write_ending.Goals as goal

pub returns : goal.returns
returns c =
    let k = c.args.parts.now in
    rw (c.in_ok-push_text.ensures, c.in_ok-push_final.ensures, c.in_ok-push_periods.ensures, c.new-text.ensures.items)
    (last_line_behind (period_lines_from k (stored_in k) 1) (final_line c.args.scenario.now true))

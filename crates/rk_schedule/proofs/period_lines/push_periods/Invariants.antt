use Rattle.std.proofs.Common.{◌≡◌, ◌++◌}
use Rattle.rk_model.specs.Text.Schedules.{text_of_lines, period_lines_from}
use Rattle.rk_schedule.specs.Stored.{stored_in}
use Rattle.rk_schedule.proofs.period_lines.push_periods.Given as goal

abbrev pub invariant-loop-index : goal.invariant-loop-index
invariant-loop-index l = l.out.items ++ text_of_lines (period_lines_from l.parts (stored_in l.parts) l.index) ≡ l.fn.out.items ++ text_of_lines (period_lines_from l.parts (stored_in l.parts) 1)

use Rattle.std.proofs.Common.{◌≡◌, ◌++◌, ◌-◌}
use Rattle.rk_model.specs.Text.Schedules.{views_from}
use Rattle.rk_schedule.proofs.tick_lines.push_views.Given as goal

abbrev pub invariant-loop-cpu : goal.invariant-loop-cpu
invariant-loop-cpu l = l.out.items ++ views_from l.parts l.cpu (l.count - l.cpu) ≡ l.fn.out.items ++ views_from l.parts 0 l.count

use Rattle.std.proofs.Common.{arith, append_assoc}
use Rattle.rk_schedule.proofs.ViewLemmas.{views_more}
use Rattle.rk_schedule.proofs.tick_lines.push_views.Goals as goal

pub loop-cpu-preserved : goal.loop-cpu-preserved
loop-cpu-preserved c = rw (c.in_ok-push_view.ensures, append_assoc) (rw (views_more c.args.parts.now c.loop-cpu.cpu c.cpus-count.result (omega arith)) at c.loop-cpu.invariant)

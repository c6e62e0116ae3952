use Rattle.std.proofs.Common.{◌≤◌, ◌∙◌, arith}
use Rattle.rk_schedule.specs.Stored.{stored_in}
use Rattle.rk_schedule.proofs.PeriodLineLemmas.{periods_step, periods_done}
use Rattle.rk_schedule.proofs.period_lines.push_periods.Goals as goal

pub loop-index-preserved : goal.loop-index-preserved
loop-index-preserved c =
    let k = c.args.parts.now in
    let l = c.loop-index in
    let few : l.index ≤ 64 = omega arith in
    periods_step k (stored_in k) l.index l.out.items _ few c.in_ok-push_if_live.ensures ∙ l.invariant

pub returns : goal.returns
returns c =
    let k = c.args.parts.now in
    let l = c.loop-index in
    let all : 65 ≤ l.index = omega arith in
    periods_done k (stored_in k) l.index l.out.items all ∙ l.invariant

use Rattle.std.proofs.Common.{◌≡◌, arith, append_assoc}
use Rattle.rk_schedule.proofs.SuccessTextLemmas.{back_text, back_nothing}
use Rattle.rk_schedule.proofs.directive_lines.push_back.Goals as goal

pub returns-then-number-eq0 : goal.returns-then-number-eq0
returns-then-number-eq0 c =
    let zero : c.args.number ≡ 0 = omega arith in
    rw (zero, ← back_nothing) c.push_text.ensures

pub returns-in_ok-push_text : goal.returns-in_ok-push_text
returns-in_ok-push_text c = rw (← back_text c.args.number) (rw (c.from.ensures, c.in_ok-push_text.ensures, append_assoc) at c.push_hex.ensures)

use Rattle.std.proofs.Common.{◌≡◌, length, arith, ap, ◌∙◌}
use Rattle.rk_model.specs.Text.Words.{whole_lines}
use Rattle.rk_schedule.specs.Reading.{ending_lines}
use Rattle.rk_schedule.proofs.EndingLemmas.{ending_split, few_lines}
use Rattle.rk_schedule.proofs.ending.check_ending.Goals as goal

pub check_lines-requires : goal.check_lines-requires
check_lines-requires c =
    let s = c.args.scenario.now in
    let k = c.args.parts.now in
    let split : whole_lines c.as_slice.result.now ≡ ending_lines s k = ap whole_lines (c.as_slice.ensures.value ∙ c.in_ok-text.ensures) ∙ ending_split s k in
    omega (arith, ap length split, few_lines s k, c.requires)

pub returns : goal.returns
returns c =
    let s = c.args.scenario.now in
    let k = c.args.parts.now in
    let split : whole_lines c.as_slice.result.now ≡ ending_lines s k = ap whole_lines (c.as_slice.ensures.value ∙ c.in_ok-text.ensures) ∙ ending_split s k in
    rw split at c.check_lines.ensures

use Rattle.std.proofs.Common.{◌≡◌, ◌≢◌, ◌<◌, ◌≤◌, ◌-◌, ◌/◌, ◌^◌, ◌∙◌, take, drop, length, slice_set, false, arith}
use Rattle.std.proofs.lemmas.Bool.Decides.{nat_tests}
use Rattle.std.proofs.lemmas.Grind.{common_steps}
use Rattle.std.specs.Fmt.{digits}
use Rattle.rk_schedule.proofs.DigitLemmas.{before_last, before_more, fewer_left, room_left}
use Rattle.rk_schedule.proofs.pieces.push_digits.Goals as goal

pub loop-left-preserved : goal.loop-left-preserved
loop-left-preserved c =
    let l = c.loop-left in
    let at = l.start - 1 in
    let within : l.start ≤ 20 = l.invariant.within in
    let more : l.left / c.args.base ≢ 0 = grind (arith, nat_tests, c.if-left-eq0.false) in
    let few : l.left / c.args.base < 10 ^ at = fewer_left l.start c.args.base l.left c.requires.0 l.invariant.room l.invariant.few in
    let size : length l.text ≡ 20 = l.invariant.size in
    let fits : l.start ≤ length l.text = omega (arith, within, size) in
    let within_less : at ≤ 20 = omega (arith, within) in
    let size_still : length (slice_set l.text at c.digit.result) ≡ 20 = grind (arith, common_steps, size) in
    record {
      within = within_less;
      room = room_left at (l.left / c.args.base) more few;
      few = few;
      size = size_still;
      done = before_more l.start c.args.base l.left c.digit.result l.text l.invariant.room fits more c.digit.ensures ∙ l.invariant.done;
    }

pub returns : goal.returns
returns c =
    let l = c.loop-left in
    let at = l.start - 1 in
    let written : take (20 - at) (drop at (slice_set l.text at c.digit.result)) ≡ digits c.args.base false c.args.number = grind (arith, common_steps, before_last) in
    rw written at c.push_bytes.ensures

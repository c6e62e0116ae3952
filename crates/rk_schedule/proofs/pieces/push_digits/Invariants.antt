use Rattle.std.proofs.Common.{◌≡◌, ◌^◌, ◌<◌, ◌≤◌, length, drop, false}
use Rattle.std.specs.Fmt.{digits}
use Rattle.rk_schedule.proofs.DigitLemmas.{digits_before}
use Rattle.rk_schedule.proofs.pieces.push_digits.Given as goal

abbrev pub invariant-loop-left : goal.invariant-loop-left
invariant-loop-left l = record {
  within : l.start ≤ 20;
  room : 0 < l.start;
  few : l.left < 10 ^ l.start;
  size : length l.text ≡ 20;
  done : digits_before l.start l.base l.left (drop l.start l.text) ≡ digits l.base false l.number;
}

abbrev pub decreases-loop-left : goal.decreases-loop-left
decreases-loop-left l = l.start

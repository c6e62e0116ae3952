use Rattle.std.proofs.Common.{◌≡◌, ◌+◌, ◌∷◌, Some, get_or, drop, drop-cons, add-one, arith, ◌∙◌}
use Rattle.rk_model.specs.Text.Words.{digit_below, digit_value}
use Rattle.rk_scenario.proofs.NumberLemmas.{capped_more}
use Rattle.rk_scenario.proofs.operands.value.Goals as goal

pub loop-byte-preserved : goal.loop-byte-preserved
loop-byte-preserved c =
    let i = c.loop-byte.byte-index in
    let s = c.args.digits.now in
    let more : drop i s ≡ get_or s i 0 ∷ drop (i + 1) s = rw add-one (drop-cons s i 0 c.loop-byte-test.true) in
    let known : digit_below c.args.base (digit_value (get_or s i 0)) ≡ Some c.in-Some.digit = cc in
    record {
      small = omega arith;
      value_left = rw c.min-value.ensures (capped_more c.args.base c.loop-byte.value c.in-Some.digit (get_or s i 0) (drop i s) (drop (i + 1) s) c.requires.low more known ∙ c.loop-byte.invariant.value_left);
    }

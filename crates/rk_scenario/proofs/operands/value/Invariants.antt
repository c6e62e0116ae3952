use Rattle.std.proofs.Common.{◌≡◌, ◌≤◌, min, drop}
use Rattle.std.specs.Option.{option_map}
use Rattle.rk_model.specs.Text.Words.{value_from}
use Rattle.rk_scenario.proofs.operands.value.Given as goal

abbrev pub invariant-loop-byte : goal.invariant-loop-byte
invariant-loop-byte l = record {
  small : l.value ≤ 4294967296;
  value_left : option_map (min 4294967296) (value_from l.base l.value (drop l.byte-index l.digits)) ≡ option_map (min 4294967296) (value_from l.base 0 l.digits);
}

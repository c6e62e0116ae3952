use Rattle.std.proofs.Common.{◌≡◌, ◌++◌, ◌*◌, ◌-◌}
use Rattle.std.specs.String.{string_bytes}
use Rattle.rk_model.specs.Text.Schedules.{text_of_lines}
use Rattle.rk_scenario.specs.Loads.{after_draws, bodies_from}
use Rattle.rk_scenario.proofs.generator.add_bodies.Given as goal

abbrev pub invariant-loop-index : goal.invariant-loop-index
invariant-loop-index l = record {
  text : string_bytes l.text ++ text_of_lines (bodies_from l.index l.generator.number) ≡ string_bytes l.fn.text ++ text_of_lines (bodies_from 1 l.fn.generator.number);
  next : after_draws l.generator.number (5 * (32 - l.index)) ≡ after_draws l.fn.generator.number (5 * 31);
}

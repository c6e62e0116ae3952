use Rattle.std.proofs.Common.{◌≡◌, ◌++◌}
use Rattle.std.specs.String.{string_bytes}
use Rattle.rk_model.specs.Text.Schedules.{text_of_lines}
use Rattle.rk_scenario.specs.Loads.{inits_from}
use Rattle.rk_scenario.proofs.generator.add_inits.Given as goal

abbrev pub invariant-loop-index : goal.invariant-loop-index
invariant-loop-index l = string_bytes l.text ++ text_of_lines (inits_from l.index l.generator.number) ≡ string_bytes l.fn.text ++ text_of_lines (inits_from 1 l.fn.generator.number)

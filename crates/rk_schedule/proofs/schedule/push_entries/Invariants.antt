use Rattle.std.proofs.Common.{◌≡◌, ◌++◌, drop}
use Rattle.rk_model.specs.Histories.{after_from}
use Rattle.rk_model.specs.Text.Schedules.{text_of_lines, entry_lines}
use Rattle.rk_schedule.proofs.schedule.push_entries.Given as goal

abbrev pub invariant-loop-entry : goal.invariant-loop-entry
invariant-loop-entry l = record {
  text : l.out.items ++ text_of_lines (entry_lines l.parts (drop l.entry-index l.entries)) ≡ l.fn.out.items ++ text_of_lines (entry_lines l.fn.parts l.entries);
  state : after_from l.parts (drop l.entry-index l.entries) ≡ after_from l.fn.parts l.entries;
}

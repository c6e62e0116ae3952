use Rattle.std.proofs.Common.{◌≡◌, ◌≤◌, ◌+◌, [], length}
use Rattle.rk_model.specs.Text.Words.{whole_lines, loose_end}
use Rattle.rk_schedule.specs.Reading.{entries_from}
use Rattle.rk_schedule.proofs.reading.read_entries.Given as goal

abbrev pub invariant-loop-line : goal.invariant-loop-line
invariant-loop-line l = record {
  number : l.number ≡ length l.history.entries + 2;
  few : length l.history.entries ≤ l.scenario.limit;
  room : l.scenario.limit ≤ length l.history.entries + l.history.spare;
  same : entries_from l.scenario l.cpus l.parts l.history.entries l.number (whole_lines l.rest) (loose_end l.rest) ≡ entries_from l.scenario l.cpus l.fn.parts [] 2 (whole_lines l.bytes) (loose_end l.bytes);
}

abbrev pub decreases-loop-line : goal.decreases-loop-line
decreases-loop-line l = length (whole_lines l.rest)

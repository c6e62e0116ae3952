use Rattle.std.proofs.Common.{◌≡◌, ◌≤◌, ◌+◌, length}
use Rattle.rk_model.specs.Text.Words.{whole_lines, loose_end}
use Rattle.rk_schedule.specs.Reading.{ending_fault}
use Rattle.rk_schedule.proofs.ending.check_lines.Given as goal

abbrev pub invariant-loop-line : goal.invariant-loop-line
invariant-loop-line l = record {
  few : l.at + length (whole_lines l.wanted) ≤ 2000000;
  same : ending_fault l.cpus l.at (whole_lines l.wanted) (whole_lines l.rest) (loose_end l.rest) ≡ ending_fault l.cpus l.number (whole_lines l.fn.wanted) (whole_lines l.fn.rest) (loose_end l.fn.rest);
}

abbrev pub decreases-loop-line : goal.decreases-loop-line
decreases-loop-line l = length (whole_lines l.wanted)

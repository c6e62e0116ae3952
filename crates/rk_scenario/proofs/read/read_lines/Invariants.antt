use Rattle.std.proofs.Common.{◌≡◌, ◌≤◌, ◌+◌, length}
use Rattle.rk_model.specs.Text.Words.{lines_of}
use Rattle.rk_model.specs.Text.Reading.{verdict_from, start}
use Rattle.rk_scenario.specs.Drafts.{IsSmall, draft_of}
use Rattle.rk_scenario.proofs.read.read_lines.Given as goal

abbrev pub invariant-loop-line : goal.invariant-loop-line
invariant-loop-line l = record {
  small : IsSmall l.draft;
  few : l.number + length l.rest ≤ 1048577;
  verdict : verdict_from (draft_of l.draft) l.number (lines_of l.rest) ≡ verdict_from start 1 (lines_of l.fn.bytes);
}

abbrev pub decreases-loop-line : goal.decreases-loop-line
decreases-loop-line l = length l.rest

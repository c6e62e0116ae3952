use Rattle.std.proofs.Common.{◌≡◌, take, drop}
use Rattle.rk_model.specs.Text.Words.{whole_from, whole_lines, loose_from, loose_end}
use Rattle.rk_model.proofs.words.split_line.Given as goal

abbrev pub invariant-loop-at : goal.invariant-loop-at
invariant-loop-at l = record {
  whole : whole_from (take l.at l.text) (drop l.at l.text) ≡ whole_lines l.text;
  loose : loose_from (take l.at l.text) (drop l.at l.text) ≡ loose_end l.text;
}

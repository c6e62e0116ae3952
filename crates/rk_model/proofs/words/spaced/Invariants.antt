use Rattle.std.proofs.Common.{◌≡◌, ◌++◌, drop}
use Rattle.rk_model.specs.Text.Words.{spaced_from, spaced}
use Rattle.rk_model.proofs.words.spaced.Given as goal

abbrev pub invariant-loop-byte : goal.invariant-loop-byte
invariant-loop-byte l = l.words ++ spaced_from l.word.items (drop l.byte-index l.line) ≡ spaced l.line

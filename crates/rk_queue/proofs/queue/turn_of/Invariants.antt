use Rattle.std.proofs.Common.{◌≡◌, ◌+◌, ◌==◌, drop}
use Rattle.std.specs.List.{position_or_len}
use Rattle.rk_queue.proofs.queue.turn_of.Given as goal

abbrev pub invariant-loop-at : goal.invariant-loop-at
invariant-loop-at l = l.at + position_or_len (λ turn. turn == l.cluster) (drop l.at l.turns) ≡ position_or_len (λ turn. turn == l.cluster) l.turns

use Rattle.std.proofs.Common.{◌≡◌, ◌+◌, drop}
use Rattle.std.specs.List.{position_or_len}
use Rattle.rk_model.proofs.keyed.position_of.Given as goal

abbrev pub invariant-loop-at : goal.invariant-loop-at
invariant-loop-at g l = l.at + position_or_len (λ item. g.T.Keyed.is_of item l.key) (drop l.at l.items) ≡ position_or_len (λ item. g.T.Keyed.is_of item l.key) l.items

use Rattle.std.proofs.Common.{◌≡◌, ◌+◌, drop}
use Rattle.std.specs.List.{position_or_len}
use Rattle.rk_model.specs.Scheduling.Timers.{is_due}
use Rattle.rk_wheel.proofs.wheel.first_due.Given as goal

abbrev pub invariant-loop-at : goal.invariant-loop-at
invariant-loop-at l = l.at + position_or_len (is_due l.now) (drop l.at l.timers) ≡ position_or_len (is_due l.now) l.timers

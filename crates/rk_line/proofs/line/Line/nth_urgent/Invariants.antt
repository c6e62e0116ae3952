use Rattle.std.proofs.Common.{◌≡◌, take, drop}
use Rattle.rk_model.specs.Scheduling.ReadyQueues.{ranked_from, nth_urgent}
use Rattle.rk_line.specs.Places.{threads, prio_in}
use Rattle.rk_line.proofs.line.Line.nth_urgent.Given as goal

abbrev pub invariant-loop-at : goal.invariant-loop-at
invariant-loop-at l = ranked_from (prio_in l.self) l.n (take l.at (threads l.places)) (drop l.at (threads l.places)) ≡ nth_urgent (prio_in l.self) l.n (threads l.self)

use Rattle.std.proofs.Common.{◌≡◌, drop}
use Rattle.rk_mrsp.specs.Scenes.{cpu_in}
use Rattle.rk_mrsp.proofs.seats.thread_in.Given as goal

abbrev pub invariant-loop-seat : goal.invariant-loop-seat
invariant-loop-seat l = cpu_in (drop l.seat-index l.seats) l.cpu ≡ cpu_in l.seats l.cpu

use Rattle.std.proofs.Common.{◌≡◌, drop}
use Rattle.rk_parts.specs.Seats.{seat_in}
use Rattle.rk_parts.proofs.processors.cpu_of.Given as goal

abbrev pub invariant-loop-part : goal.invariant-loop-part
invariant-loop-part l = seat_in (drop l.part-index l.clusters) l.cpu ≡ seat_in l.clusters l.cpu

use Rattle.std.proofs.Common.{◌≤◌, ◌-◌, length, take}
use Rattle.rk_io.specs.Bytes.{Appends}
use Rattle.rk_io.proofs.sink.write_all.Given as goal

abbrev pub invariant-loop-at : goal.invariant-loop-at
invariant-loop-at g l = record {
  within : l.at ≤ length l.bytes;
  later : g.K.Sink.faults l.fn.sink ≤ g.K.Sink.faults l.sink;
  written : Appends (g.K.Sink.taken_so_far l.fn.sink) (g.K.Sink.taken_so_far l.sink) (take l.at l.bytes);
}

abbrev pub decreases-loop-at : goal.decreases-loop-at
decreases-loop-at g l = length l.bytes - l.at

use Rattle.std.proofs.Common.{◌≡◌, drop, length}
use Rattle.rk_parts.specs.Threads.{bearings_by, no_bearing, AsNoted}
use Rattle.rk_parts.proofs.threads.note_borne.Given as goal

abbrev pub invariant-loop-thread : goal.invariant-loop-thread
invariant-loop-thread l = record {
  size : length l.borne ≡ 64;
  so_far : AsNoted no_bearing (drop l.thread-index l.marked) l.borne (bearings_by l.places);
}

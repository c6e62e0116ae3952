use Rattle.std.proofs.Common.{◌≡◌, drop, length}
use Rattle.rk_model.specs.Scheduling.Priorities.{no_standing}
use Rattle.rk_parts.specs.Threads.{standings_by, AsNoted}
use Rattle.rk_parts.proofs.threads.note_stood.Given as goal

abbrev pub invariant-loop-thread : goal.invariant-loop-thread
invariant-loop-thread l = record {
  size : length l.stood ≡ 64;
  so_far : AsNoted no_standing (drop l.thread-index l.marked) l.stood (standings_by l.shares l.places);
}

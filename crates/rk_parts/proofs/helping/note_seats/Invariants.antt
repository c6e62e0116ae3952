use Rattle.std.proofs.Common.{◌≡◌, ◌<◌, ◌≤◌, ℕ, nat_lt, None, map, length}
use Rattle.std.specs.Bool.{if◌then◌else◌}
use Rattle.rk_mrsp.specs.Scenes.{cpu_in}
use Rattle.rk_parts.specs.Noted.{bare, part_at}
use Rattle.rk_parts.specs.Seats.{seat_in}
use Rattle.rk_parts.proofs.helping.note_seats.Given as goal

abbrev pub invariant-loop-cpu : goal.invariant-loop-cpu
invariant-loop-cpu l = record {
  kept : map bare l.clusters ≡ map bare l.fn.clusters;
  high : l.cpu ≤ 8;
  links : (at : ℕ) → (part_at l.clusters at).chains ≡ (part_at l.fn.clusters at).chains;
  seats : (at p : ℕ) → at < length l.clusters → cpu_in (part_at l.clusters at).seats p ≡ (if nat_lt p l.cpu then seat_in l.fn.clusters p else None);
}

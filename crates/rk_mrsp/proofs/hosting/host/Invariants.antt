use Rattle.std.proofs.Common.{◌≡◌, ◌≤◌, ◌++◌, drop, length}
use Rattle.rk_mrsp.specs.Scenes.{scene_in, hosts_of}
use Rattle.rk_mrsp.proofs.hosting.host.Given as goal

abbrev pub invariant-loop-seat : goal.invariant-loop-seat
invariant-loop-seat l = record {
  few : length l.out-inside.hosts ≤ l.seat-index;
  pairs : l.out-inside.hosts ++ hosts_of (scene_in l.chains l.cpus) (drop l.seat-index l.seats) ≡ hosts_of (scene_in l.chains l.cpus) l.seats;
}

use Rattle.std.proofs.Common.{◌≡◌, ℕ, ◌<◌, ◌≤◌, ◌-◌, length}
use Rattle.std.specs.Int.{bit_at}
use Rattle.rk_cluster.specs.Passes.{AreMarked}
use Rattle.rk_cluster.proofs.moves.Moves.clear.Given as goal

abbrev pub invariant-clearing : goal.invariant-clearing
invariant-clearing l = record {
  size : length l.self-inside.changes ≡ 64;
  marked : AreMarked l.self-inside.marks l.self-inside.changes;
  within : l.done ≤ 64;
  below : (i : ℕ) → i < l.done → bit_at l.self-inside.marks i ≡ 0;
}

abbrev pub decreases-clearing : goal.decreases-clearing
decreases-clearing l = 64 - l.done

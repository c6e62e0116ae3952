use Rattle.std.proofs.Common.{◌≡◌, length}
use Rattle.rk_parts.proofs.AloneLemmas.{AreContributing}
use Rattle.rk_parts.proofs.contribute.contribute_alone.Given as goal

abbrev pub invariant-loop-at : goal.invariant-loop-at
invariant-loop-at l = record {
  so_far : AreContributing l.fn.clusters l.clusters l.at;
  size : length l.clusters ≡ length l.fn.clusters;
}

use Rattle.std.proofs.Common.{◌≡◌, length}
use Rattle.rk_parts.proofs.ContributingLemmas.{IsRelendingParts}
use Rattle.rk_parts.proofs.contribute.relend.Given as goal

abbrev pub invariant-loop-at : goal.invariant-loop-at
invariant-loop-at l = record {
  so_far : IsRelendingParts l.fn.clusters l.clusters l.source l.home l.own l.flags l.at;
  size : length l.clusters ≡ length l.fn.clusters;
}

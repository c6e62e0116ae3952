use Rattle.std.proofs.Common.{◌≡◌, drop}
use Rattle.rk_parts.specs.Lending.{prio_lent}
use Rattle.rk_parts.proofs.standing.prio_of.Given as goal

abbrev pub invariant-loop-part : goal.invariant-loop-part
invariant-loop-part l = prio_lent (drop l.part-index l.clusters) l.thread l.cluster ≡ prio_lent l.clusters l.thread l.cluster

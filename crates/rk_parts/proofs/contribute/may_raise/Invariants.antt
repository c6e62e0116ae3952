use Rattle.std.proofs.Common.{drop}
use Rattle.rk_parts.proofs.AloneLemmas.{AreRaisingNone}
use Rattle.rk_parts.proofs.contribute.may_raise.Given as goal

abbrev pub invariant-loop-part : goal.invariant-loop-part
invariant-loop-part l = AreRaisingNone (drop l.part-index l.clusters) → AreRaisingNone l.clusters

use Rattle.std.proofs.Common.{None}
use Rattle.rk_model.specs.IndexSets.{weight}
use Rattle.rk_agg.specs.Shares.{found, with_found}
use Rattle.rk_agg.proofs.ShareLemmas.{IsComparing}
use Rattle.rk_agg.proofs.aggregates.Aggregates.least_but.Given as goal

abbrev pub invariant-comparing : goal.invariant-comparing
invariant-comparing l = IsComparing (with_found l.thread l.cluster l.source None (found l.self) l.thread l.cluster) l.rest l.best

abbrev pub decreases-comparing : goal.decreases-comparing
decreases-comparing l = weight l.rest

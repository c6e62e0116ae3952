use Rattle.std.proofs.Common.{arith, sym, ◌∙◌}
use Rattle.rk_agg.specs.Shares.{found}
use Rattle.rk_agg.proofs.ShareLemmas.{least_left}
use Rattle.rk_agg.proofs.aggregates.Aggregates.least_without.Goals as goal

pub returns-else-is_same_prio : goal.returns-else-is_same_prio
returns-else-is_same_prio c = least_left (found c.args.self.now) c.args.thread c.args.cluster c.args.source c.share-share.result c.least-least.result c.share-share.ensures c.requires c.least-least.ensures (sym c.is_same_prio.ensures ∙ c.if-is_same_prio.false) (omega arith) (omega arith)

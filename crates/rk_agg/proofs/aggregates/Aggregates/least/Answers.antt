use Rattle.std.proofs.Common.{arith}
use Rattle.rk_agg.proofs.ShareLemmas.{least_nowhere}
use Rattle.rk_agg.proofs.aggregates.Aggregates.least.Goals as goal

pub returns-else-cluster-lt-MOST_CLUSTERS : goal.returns-else-cluster-lt-MOST_CLUSTERS
returns-else-cluster-lt-MOST_CLUSTERS c = least_nowhere c.self.inside.cells c.args.self.now c.args.thread c.args.cluster c.self.view_is (omega arith)

use Rattle.std.proofs.Common.{arith}
use Rattle.rk_agg.proofs.ShareLemmas.{share_there, found_nowhere}
use Rattle.rk_agg.proofs.aggregates.Aggregates.share.Goals as goal

pub returns-then-cluster-lt-MOST_CLUSTERS : goal.returns-then-cluster-lt-MOST_CLUSTERS
returns-then-cluster-lt-MOST_CLUSTERS c = share_there c.self.inside.cells c.args.self.now c.args.thread c.args.cluster c.args.source c.cell_of.result c.at.result c.self.view_is c.self.invariant.0.cells_each c.cell_of.ensures.within c.cell_of.ensures.value c.cell_of.ensures.row c.cell_of.ensures.source c.at.ensures

pub returns-else-cluster-lt-MOST_CLUSTERS : goal.returns-else-cluster-lt-MOST_CLUSTERS
returns-else-cluster-lt-MOST_CLUSTERS c = found_nowhere c.args.self.now c.args.thread c.args.cluster c.args.source (omega arith)

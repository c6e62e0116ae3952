use Rattle.rk_agg.proofs.ShareLemmas.{found_within}
use Rattle.rk_agg.proofs.aggregates.Aggregates.remove.Goals as goal

pub put-requires-clause-cluster : goal.put-requires-clause-cluster
put-requires-clause-cluster c = found_within c.args.self.now c.args.thread c.args.cluster c.args.source c.requires

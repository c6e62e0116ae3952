use Rattle.std.proofs.Common.{arith}
use Rattle.rk_agg.proofs.ShareLemmas.{least_with_one}
use Rattle.rk_agg.proofs.aggregates.Aggregates.add.Goals as goal

pub put-requires-clause-least : goal.put-requires-clause-least
put-requires-clause-least c = least_with_one c.args.self.now c.args.thread c.args.cluster c.args.source c.args.prio c.least.result c.lesser_of-least.result c.requires.none (omega arith) (omega arith) c.least.ensures c.lesser_of-least.ensures

use Rattle.std.proofs.Common.{arith}
use Rattle.rk_queue.proofs.QueueLemmas.{there, taken, cluster_found}
use Rattle.rk_queue.proofs.queue.take_waiter.Goals as goal

pub take-waiter-requires : goal.take-waiter-requires
take-waiter-requires c = (omega arith, there c.args.thread _ c.args.arrivals.now _ c.as_slice.ensures c.position_of-at.ensures c.requires.waits)

pub returns-clause-cluster : goal.returns-clause-cluster
returns-clause-cluster c = cluster_found c.args.thread _ c.args.arrivals.now _ c.take-waiter.result c.as_slice.ensures c.position_of-at.ensures c.requires.waits c.take-waiter.ensures.item

pub returns-clause-rest : goal.returns-clause-rest
returns-clause-rest c = taken c.args.thread _ c.args.arrivals.now _ _ c.as_slice.ensures c.position_of-at.ensures c.requires.once c.take-waiter.ensures.rest

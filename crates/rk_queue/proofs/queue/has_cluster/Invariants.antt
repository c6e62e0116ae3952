use Rattle.std.proofs.Common.{◌≡◌, drop}
use Rattle.rk_model.specs.Lists.{has}
use Rattle.rk_model.specs.Queues.{clusters}
use Rattle.rk_queue.proofs.queue.has_cluster.Given as goal

abbrev pub invariant-loop-waiter : goal.invariant-loop-waiter
invariant-loop-waiter l = has (clusters (drop l.waiter-index l.waiters)) l.cluster ≡ has (clusters l.waiters) l.cluster

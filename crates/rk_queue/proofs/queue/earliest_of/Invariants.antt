use Rattle.std.proofs.Common.{◌≡◌, drop}
use Rattle.rk_model.specs.Queues.{of_cluster, of_prio, earliest}
use Rattle.rk_queue.proofs.queue.earliest_of.Given as goal

abbrev pub invariant-loop-waiter : goal.invariant-loop-waiter
invariant-loop-waiter l = earliest (of_prio l.prio (of_cluster l.cluster (drop l.waiter-index l.waiters))) ≡ earliest (of_prio l.prio (of_cluster l.cluster l.waiters))

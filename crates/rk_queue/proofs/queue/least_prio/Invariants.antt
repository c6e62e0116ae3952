use Rattle.std.proofs.Common.{◌≡◌, drop}
use Rattle.rk_model.specs.Queues.{of_cluster, least_prio}
use Rattle.rk_queue.proofs.ServiceLemmas.{least_of}
use Rattle.rk_queue.proofs.queue.least_prio.Given as goal

abbrev pub invariant-loop-waiter : goal.invariant-loop-waiter
invariant-loop-waiter l = least_of l.least (least_prio (of_cluster l.cluster (drop l.waiter-index l.waiters))) ≡ least_prio (of_cluster l.cluster l.waiters)

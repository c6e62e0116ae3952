use Rattle.std.proofs.Common.{◌≡◌, take}
use Rattle.rk_model.specs.Queues.{ended}
use Rattle.rk_queue.proofs.queue.ThreadQueue.wake_all.Given as goal

abbrev pub invariant-loop-waiter : goal.invariant-loop-waiter
invariant-loop-waiter l = l.wakes ≡ ended l.status (take l.waiter-index l.waiter-items)

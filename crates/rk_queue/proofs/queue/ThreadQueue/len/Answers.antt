use Rattle.rk_queue.proofs.QueueLemmas.{queue_few}
use Rattle.rk_queue.proofs.queue.ThreadQueue.len.Goals as goal

pub returns-clause-few : goal.returns-clause-few
returns-clause-few c = rw c.len.ensures (queue_few c.self.inside.arrivals c.self.inside.turns c.self.invariant)

use Rattle.rk_queue.proofs.QueueLemmas.{one_turn, queue_left}
use Rattle.rk_queue.proofs.queue.ThreadQueue.extract.Goals as goal

pub keep_turn-requires : goal.keep_turn-requires
keep_turn-requires c = rw c.take_waiter-cluster.ensures.cluster (one_turn c.self.inside.arrivals c.self.inside.turns c.args.thread c.self.invariant (rw (← c.self.view_is) at c.requires))

pub invariant_of-self : goal.invariant_of-self
invariant_of-self c =
    rw (c.keep_turn.ensures, c.as_slice.ensures, c.take_waiter-cluster.ensures.rest, c.take_waiter-cluster.ensures.cluster) (queue_left c.self.inside.arrivals c.self.inside.turns c.args.thread c.self.invariant (rw (← c.self.view_is) at c.requires))

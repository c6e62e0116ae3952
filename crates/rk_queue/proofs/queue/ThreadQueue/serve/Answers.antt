use Rattle.std.proofs.Common.{arith}
use Rattle.rk_queue.proofs.QueueLemmas.{one_turn, queue_few, turns_few, queue_served}
use Rattle.rk_queue.proofs.queue.ThreadQueue.serve.Goals as goal

pub pass_turn-requires-clause-one : goal.pass_turn-requires-clause-one
pass_turn-requires-clause-one c = rw c.take_waiter-cluster.ensures.cluster (one_turn c.self.inside.arrivals c.self.inside.turns c.args.thread c.self.invariant (rw (← c.self.view_is) at c.requires))

pub pass_turn-requires-clause-few : goal.pass_turn-requires-clause-few
pass_turn-requires-clause-few c = omega (arith, turns_few c.self.inside.arrivals c.self.inside.turns c.self.invariant, queue_few c.self.inside.arrivals c.self.inside.turns c.self.invariant)

pub invariant_of-self : goal.invariant_of-self
invariant_of-self c =
    rw (c.pass_turn.ensures, c.as_slice.ensures, c.take_waiter-cluster.ensures.rest, c.take_waiter-cluster.ensures.cluster) (queue_served c.self.inside.arrivals c.self.inside.turns c.args.thread c.self.invariant (rw (← c.self.view_is) at c.requires))

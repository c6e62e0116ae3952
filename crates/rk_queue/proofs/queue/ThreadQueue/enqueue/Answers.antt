use Rattle.std.proofs.Common.{arith}
use Rattle.rk_queue.proofs.QueueLemmas.{queue_room, turn_room, queue_entered}
use Rattle.rk_queue.proofs.queue.ThreadQueue.enqueue.Goals as goal

pub give_turn-requires : goal.give_turn-requires
give_turn-requires c = turn_room c.self.inside.arrivals c.self.inside.turns c.args.waiter c.self.invariant (rw (← c.self.view_is) at c.requires) (rw c.at-index.ensures.value at c.at-index.ensures.low) (rw c.at-index.ensures.value at c.at-index.ensures.high)

pub push-requires : goal.push-requires
push-requires c = (omega arith, queue_room c.self.inside.arrivals c.self.inside.turns c.args.waiter c.self.invariant (rw (← c.self.view_is) at c.requires) (rw c.at-index.ensures.value at c.at-index.ensures.low) (rw c.at-index.ensures.value at c.at-index.ensures.high))

pub invariant_of-self : goal.invariant_of-self
invariant_of-self c =
    rw (c.push.ensures, c.give_turn.ensures) (queue_entered c.self.inside.arrivals c.self.inside.turns c.args.waiter c.self.invariant (rw (← c.self.view_is) at c.requires) (rw c.at-index.ensures.value at c.at-index.ensures.low) (rw c.at-index.ensures.value at c.at-index.ensures.high))

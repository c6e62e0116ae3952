use Rattle.rk_queue.proofs.ServiceLemmas.{first_waits, first_none}
use Rattle.rk_queue.proofs.queue.ThreadQueue.first.Goals as goal

pub returns-clause-waits : goal.returns-clause-waits
returns-clause-waits c = rw c.to_serve.ensures.value (first_waits c.args.self.now.order c.args.self.now.arrivals c.args.self.now.turns)

pub returns-clause-none : goal.returns-clause-none
returns-clause-none c = rw c.to_serve.ensures.value (first_none c.args.self.now.order c.args.self.now.arrivals c.args.self.now.turns c.to_serve.ensures.queue)

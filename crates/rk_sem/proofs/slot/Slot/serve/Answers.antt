use Rattle.rk_sem.proofs.SemaphoreLemmas.{served_kept, served_gone}
use Rattle.rk_sem.proofs.slot.Slot.serve.Goals as goal

pub invariant_of-self-2 : goal.invariant_of-self-2
invariant_of-self-2 c =
    served_kept c.self.inside.semaphore c.self.inside.queue c.take_first.new.self c.in_ok-thread.thread c.self.invariant (rw (← c.self.view_is) at c.requires) c.in_ok-thread.ensures.value c.take_first.ensures.rest

pub give_to-requires-clause-absent : goal.give_to-requires-clause-absent
give_to-requires-clause-absent c =
    served_gone c.self.inside.semaphore c.self.inside.queue c.take_first.new.self c.in_ok-thread.thread c.in_ok-thread.ensures.value c.take_first.ensures.rest

use Rattle.rk_sem.proofs.SemaphoreLemmas.{entered_kept}
use Rattle.rk_sem.proofs.slot.Slot.enter.Goals as goal

pub invariant_of-self : goal.invariant_of-self
invariant_of-self c =
    entered_kept c.self.inside.semaphore c.self.inside.queue c.enqueue.new.self c.args.by c.self.invariant (rw (← c.self.view_is) at c.requires.live) (rw (← c.self.view_is) at c.requires.other) c.enqueue.ensures

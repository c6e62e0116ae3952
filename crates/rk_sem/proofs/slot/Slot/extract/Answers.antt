use Rattle.rk_sem.proofs.SemaphoreLemmas.{left_kept}
use Rattle.rk_sem.proofs.slot.Slot.extract.Goals as goal

pub invariant_of-self : goal.invariant_of-self
invariant_of-self c =
    left_kept c.self.inside.semaphore c.self.inside.queue c.extract.new.self c.args.thread c.self.invariant (rw (← c.self.view_is) at c.requires.live) c.extract.ensures

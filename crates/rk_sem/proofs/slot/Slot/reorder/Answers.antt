use Rattle.rk_sem.proofs.SemaphoreLemmas.{reordered_kept}
use Rattle.rk_sem.proofs.slot.Slot.reorder.Goals as goal

pub invariant_of-self : goal.invariant_of-self
invariant_of-self c =
    reordered_kept c.self.inside.semaphore c.self.inside.queue c.reorder.new.self c.args.thread c.args.prio c.self.invariant (rw (← c.self.view_is) at c.requires.live) c.reorder.ensures

use Rattle.rk_partition.proofs.BufferLemmas.{taken_by}
use Rattle.rk_partition.proofs.slot.Slot.get.Goals as goal

pub returns-clause-taken : goal.returns-clause-taken
returns-clause-taken c = λ done. rw (← c.self.view_is) (taken_by c.self.inside.partition c.self.inside.free c.take-address.result c.is_empty.result c.self.invariant c.is_empty.ensures.1 c.if-is_empty.false c.take-address.ensures.item)

use Rattle.rk_parts.proofs.HoldingLemmas.{kept_written}
use Rattle.rk_parts.proofs.holdings.Holdings.set.Goals as goal

pub invariant_of-self : goal.invariant_of-self
invariant_of-self c = kept_written c.self.inside.owners c.self.inside.noted c.set.new.self c.self.inside.changed c.note_change.new.changed c.self.inside.capped c.note_ceilings.new.capped c.self.inside.raised c.note_raise.new.raised c.args.index c.args.holding c.requires.low c.requires.high c.set.ensures c.note_change.ensures.apart c.note_change.ensures.marks c.note_ceilings.ensures.here c.note_ceilings.ensures.others c.note_raise.ensures.kept c.note_raise.ensures.none c.self.invariant

use Rattle.rk_parts.proofs.MarkLemmas.{kept_lent}
use Rattle.rk_parts.proofs.threads.Threads.lend.Goals as goal

pub invariant_of-self : goal.invariant_of-self
invariant_of-self c = kept_lent c.self.inside.places c.self.inside.stood c.self.inside.borne c.self.inside.shares c.set_share.new.shares c.self.inside.marked c.mark.new.marked c.self.inside.spun c.args.thread c.args.cluster c.args.source c.args.prio.now c.self.invariant c.mark.ensures.apart c.mark.ensures.marks c.set_share.ensures

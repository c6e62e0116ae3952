use Rattle.rk_parts.proofs.MarkLemmas.{kept_renewed}
use Rattle.rk_parts.proofs.threads.Threads.renew.Goals as goal

pub invariant_of-self : goal.invariant_of-self
invariant_of-self c = kept_renewed c.self.inside.places c.set.new.self c.self.inside.stood c.self.inside.borne c.self.inside.shares c.self.inside.marked c.self.inside.spun c.at.result c.args.index c.args.thread c.args.self.now c.self.view_is c.at.ensures.value c.at.ensures.low c.set.ensures c.self.invariant c.requires

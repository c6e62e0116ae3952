use Rattle.std.proofs.Common.{refl}
use Rattle.rk_directives.proofs.DirectiveLemmas.EventsLemmas.{seizes}
use Rattle.rk_directives.proofs.events.with_seized.Goals as goal

pub returns : goal.returns
returns c = λ s. seizes s c.args.clusters.now c.with_pending.new.clusters c.end_wait.new.clusters c.args.groups.now c.end_wait.new.groups c.args.task c.args.pending c.args.got _ refl c.with_pending.ensures (c.end_wait.ensures s)

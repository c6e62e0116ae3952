use Rattle.std.proofs.Common.{sym, ◌∙◌}
use Rattle.rk_directives.proofs.DirectiveLemmas.EventsLemmas.{sends, sends_none}
use Rattle.rk_directives.proofs.events.event_send.Goals as goal

pub returns-in-None : goal.returns-in-None
returns-in-None c = λ s. sends_none s c.args.clusters.now c.args.groups.now c.args.caller c.args.set c.args.id (sym c.task_named.ensures.found ∙ c.in-None.is)

pub returns-in-Some : goal.returns-in-Some
returns-in-Some c = λ s. sends s c.args.clusters.now c.sent.new.clusters c.args.groups.now c.sent.new.groups c.args.caller c.in-Some.task c.args.set c.args.id c.thread_of-found.result c.done.result (sym c.task_named.ensures.found ∙ c.in-Some.is) c.thread_of-found.ensures c.done.ensures c.sent.ensures

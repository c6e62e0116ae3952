use Rattle.std.proofs.Common.{sym, ◌∙◌}
use Rattle.rk_directives.proofs.DirectiveLemmas.EventsLemmas.{sent_seizes, sent_alone}
use Rattle.rk_directives.proofs.events.sent.Goals as goal

pub returns-in-Some : goal.returns-in-Some
returns-in-Some c = λ s. sent_seizes s c.args.clusters.now c.with_pending.new.clusters c.with_seized.new.clusters c.args.groups.now c.with_seized.new.groups c.args.task c.args.pending c.in-Some.got c.args.wait (sym c.in-Some.is ∙ c.seized_by.ensures) c.with_pending.ensures (c.with_seized.ensures s)

pub returns-in_default : goal.returns-in_default
returns-in_default c = λ s. sent_alone s c.args.clusters.now c.with_pending.new.clusters c.args.groups.now c.args.task c.args.pending c.args.wait (sym c.in_default.is ∙ c.seized_by.ensures) c.with_pending.ensures

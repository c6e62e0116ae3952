use Rattle.std.proofs.Common.{ap, sym, ◌∙◌}
use Rattle.rk_model.specs.declared.state.Thread.{Thread}
use Rattle.rk_directives.proofs.DirectiveLemmas.LentLemmas.{not_zero}
use Rattle.rk_directives.proofs.DirectiveLemmas.EventsLemmas.{receives_later}
use Rattle.rk_directives.proofs.events.event_receive.Goals as goal

pub returns-in-Limit : goal.returns-in-Limit
returns-in-Limit c = λ s.
    rw c.in-Limit.is
    (receives_later s c.args.clusters.now c.start_limited.new.clusters c.args.caller c.args.set _ c.in-Limit.ticks c.args.all (not_zero c.args.set c.if-set-eq0.false) (ap (λ (x : Thread). x.pending) c.thread_of-pending.ensures) (sym c.in-None.is ∙ c.receive.ensures.value) c.start_limited.ensures)

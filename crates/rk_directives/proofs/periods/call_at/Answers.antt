use Rattle.std.proofs.Common.{◌∙◌, ap, refl}
use Rattle.rk_model.specs.declared.state.Thread.{Thread}
use Rattle.rk_model.proofs.BooleanLemmas.{equal_test}
use Rattle.rk_directives.proofs.DirectiveLemmas.LentLemmas.{not_zero}
use Rattle.rk_directives.proofs.DirectiveLemmas.LentPeriodsLemmas.{asks, starts, refuses_other}
use Rattle.rk_directives.proofs.periods.call_at.Goals as goal

pub returns-then-length-eq0 : goal.returns-then-length-eq0
returns-then-length-eq0 c = λ s.
    asks s c.args.clusters.now c.args.groups.now c.call-reply.new.groups c.args.caller c.args.index c.args.length c.from-now.result c.from-used.result c.call-reply.result c.answered.result
    (equal_test c.args.length 0 c.if-length-eq0.true) c.call-reply.ensures.period c.call-reply.ensures.reply c.answered.ensures

pub returns-in-Successful : goal.returns-in-Successful
returns-in-Successful c = λ s.
    starts s c.args.clusters.now c.arm.new.clusters c.args.groups.now c.call-reply.new.groups c.args.caller c.args.index c.args.length _ c.call-reply.result c.done.result
    (record {
      now = c.from-now.result;
      used = c.from-used.result;
      present = c.from-now.ensures ∙ c.present.ensures;
      computed = c.from-used.ensures ∙ ap (λ (x : Thread). x.computed) c.thread_of.ensures;
      some = not_zero c.args.length c.if-length-eq0.false;
      puts = c.call-reply.ensures.period;
    })
    c.call-reply.ensures.reply c.in-Successful.is (rw (c.from.ensures, c.from-now.ensures, c.present.ensures) refl) c.arm.ensures c.done.ensures

pub returns-in_default : goal.returns-in_default
returns-in_default c = λ s.
    refuses_other s c.args.clusters.now c.args.groups.now c.call-reply.new.groups c.args.caller c.args.index c.args.length c.call-reply.result
    (record {
      now = c.from-now.result;
      used = c.from-used.result;
      present = c.from-now.ensures ∙ c.present.ensures;
      computed = c.from-used.ensures ∙ ap (λ (x : Thread). x.computed) c.thread_of.ensures;
      some = not_zero c.args.length c.if-length-eq0.false;
      puts = c.call-reply.ensures.period;
    })
    c.call-reply.ensures.reply c.in_default.not-Successful c.in_default.not-Timeout c.in_default.not-Waits

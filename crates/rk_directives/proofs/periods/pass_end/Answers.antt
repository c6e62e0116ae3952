use Rattle.std.proofs.Common.{◌∙◌, ap}
use Rattle.rk_model.specs.declared.state.Thread.{Thread}
use Rattle.rk_directives.proofs.DirectiveLemmas.LentPeriodsLemmas.{passes_woken, passes_postponed}
use Rattle.rk_directives.proofs.periods.pass_end.Goals as goal

pub returns-in-Woke : goal.returns-in-Woke
returns-in-Woke c =
    passes_woken c.args.clusters.now c.arm.new.clusters c.end_wait.new.clusters c.args.groups.now c.pass.new.groups c.end_wait.new.groups c.args.index _ c.creator-by.result c.bare.result c.pass.result
    (record {
      now = c.from-now.result;
      used = c.from-used.result;
      by = c.creator-by.result;
      present = c.from-now.ensures ∙ c.present.ensures;
      creator = c.creator-by.ensures;
      computed = c.from-used.ensures ∙ ap (λ (x : Thread). x.computed) c.thread_of.ensures;
      puts = c.pass.ensures.period;
      armed = c.arm.ensures;
    })
    c.creator-by.ensures (λ j. record { status = c.bare.ensures.status j; out = c.bare.ensures.out j }) c.pass.ensures.passing c.in-Woke.is c.end_wait.ensures

pub returns-in-Postponed : goal.returns-in-Postponed
returns-in-Postponed c =
    passes_postponed c.args.clusters.now c.arm-in-Postponed.new.clusters c.args.groups.now c.pass.new.groups c.args.index _ _ c.pass.result
    (record {
      now = c.from-now.result;
      used = c.from-used.result;
      by = c.creator-by.result;
      present = c.from-now.ensures ∙ c.present.ensures;
      creator = c.creator-by.ensures;
      computed = c.from-used.ensures ∙ ap (λ (x : Thread). x.computed) c.thread_of.ensures;
      puts = c.pass.ensures.period;
      armed = c.arm-in-Postponed.ensures;
    })
    c.requires.due c.pass.ensures.passing c.in-Postponed.is

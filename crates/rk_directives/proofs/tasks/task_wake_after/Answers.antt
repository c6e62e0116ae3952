use Rattle.std.proofs.Common.{refl}
use Rattle.rk_model.specs.declared.state.Wait.TheVariants.{ForTime}
use Rattle.rk_model.specs.State.{Plain}
use Rattle.rk_model.specs.Directives.Waits.{begin_limited}
use Rattle.rk_directives.proofs.DirectiveLemmas.LentLemmas.{not_zero, later, waits}
use Rattle.rk_directives.proofs.tasks.task_wake_after.Goals as goal

pub returns-else-ticks-eq0 : goal.returns-else-ticks-eq0
returns-else-ticks-eq0 c = λ s. waits s _ (λ (k : Plain). begin_limited k c.args.caller ForTime c.args.ticks) c.args.clusters.now c.start_limited.new.clusters (λ k. rw (not_zero c.args.ticks c.if-ticks-eq0.false) refl) (later c.args.clusters.now c.start_limited.new.clusters c.args.caller c.args.ticks s (c.start_limited.ensures s))

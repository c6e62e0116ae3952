use Rattle.std.proofs.Common.{ap}
use Rattle.rk_model.specs.declared.state.Thread.{Thread}
use Rattle.rk_directives.proofs.DirectiveLemmas.LentLemmas.{ended}
use Rattle.rk_directives.proofs.waits.end_wait.Goals as goal

pub returns : goal.returns
returns c = λ s. ended s c.args.clusters.now c.stop_wait.new.clusters c.args.groups.now c.leave.new.groups c.args.thread _ c.args.reply (ap (λ (x : Thread). x.wait) c.thread_of-wait.ensures) c.leave.ensures (c.stop_wait.ensures.state s)

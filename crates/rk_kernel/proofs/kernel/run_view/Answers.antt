use Rattle.std.proofs.Common.{ap, ◌∙◌}
use Rattle.rk_model.specs.State.{Plain}
use Rattle.rk_model.specs.Scheduling.Running.{running}
use Rattle.rk_kernel.proofs.PartsSettledLemmas.{shows}
use Rattle.rk_kernel.proofs.kernel.run_view.Goals as goal

pub returns : goal.returns
returns c =
    let all = c.parts.inside.all in
    c.view_on.ensures all.scenario all.table.names all.groups (shows all c.parts.invariant.0) ∙ ap (λ (k : Plain). running k c.args.cpu) c.parts.view_is

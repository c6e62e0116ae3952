use Rattle.std.proofs.Common.{sym, ap, ◌∙◌}
use Rattle.rk_model.specs.Scheduling.Running.{view_of}
use Rattle.rk_parts.specs.Hosted.{hosted_in}
use Rattle.rk_parts.specs.Joined.{joined}
use Rattle.rk_parts.proofs.HostedLemmas.{viewed}
use Rattle.rk_parts.proofs.NotedHostLemmas.{runs_own}
use Rattle.rk_parts.proofs.processors.view_on.Goals as goal

pub returns-in-None : goal.returns-in-None
returns-in-None c = λ s table groups show.
    let parts = c.args.clusters.now in
    let k = joined s table parts groups in
    ap (λ o. view_of k o (hosted_in parts c.args.cpu)) (sym c.in-None.is ∙ c.cpu_of.ensures) ∙ viewed s table groups parts c.args.cpu show

pub returns-then-spins : goal.returns-then-spins
returns-then-spins c = λ s table groups show.
    let parts = c.args.clusters.now in
    let k = joined s table parts groups in
    c.view_with.ensures s table groups
    ∙ ap (λ o. view_of k o (hosted_in parts c.args.cpu)) (sym c.in-Some.is ∙ c.cpu_of.ensures)
    ∙ viewed s table groups parts c.args.cpu show

pub returns-else-spins : goal.returns-else-spins
returns-else-spins c = λ s table groups show.
    runs_own s table groups c.args.clusters.now c.args.cpu c.in-Some.thread (sym c.cpu_of.ensures ∙ c.in-Some.is) (sym c.spins.ensures ∙ c.if-spins.false) show

use Rattle.std.proofs.Common.{Some, sym, ap, ◌∙◌}
use Rattle.std.specs.Bool.{if◌then◌else◌}
use Rattle.rk_model.specs.declared.entry.View.TheVariants.{Spins, Runs}
use Rattle.rk_model.specs.Scheduling.Running.{view_of}
use Rattle.rk_parts.specs.Joined.{joined}
use Rattle.rk_parts.proofs.processors.view_with.Goals as goal

pub returns-in-Some : goal.returns-in-Some
returns-in-Some c = λ s table groups. ap (view_of (joined s table c.args.clusters.now groups) (Some c.args.thread)) (sym c.in-Some.is ∙ c.helped_of.ensures)

pub returns-then-spins : goal.returns-then-spins
returns-then-spins c = λ s table groups.
    let t = c.args.thread in
    ap (λ b. if b then Spins t else Runs t) (sym c.if-spins.true ∙ c.spins.ensures)
    ∙ ap (view_of (joined s table c.args.clusters.now groups) (Some t)) (sym c.in-None.is ∙ c.helped_of.ensures)

pub returns-else-spins : goal.returns-else-spins
returns-else-spins c = λ s table groups.
    let t = c.args.thread in
    ap (λ b. if b then Spins t else Runs t) (sym c.if-spins.false ∙ c.spins.ensures)
    ∙ ap (view_of (joined s table c.args.clusters.now groups) (Some t)) (sym c.in-None.is ∙ c.helped_of.ensures)

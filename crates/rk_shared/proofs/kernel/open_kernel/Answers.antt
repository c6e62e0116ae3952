use Rattle.std.proofs.Common.{◌≡◌, ◌∙◌, ap}
use Rattle.atomic_table.specs.Seated.{TableId}
use Rattle.rk_model.specs.declared.scenario.Scenario.{Scenario}
use Rattle.rk_model.specs.Text.Scenarios.{cpus_in}
use Rattle.rk_shared.specs.SeatViews.{first_seats}
use Rattle.rk_shared.specs.Openings.{OpeningView}
use Rattle.rk_shared.proofs.kernel.open_kernel.Goals as goal

pub returns-clause-cpus : goal.returns-clause-cpus
returns-clause-cpus g c =
    let i = c.opening.inside in
    let o : i.journal.opening ≡ g.N.RunName.opening = ap (λ (x : OpeningView). x.opening) c.opening.view_is ∙ c.requires.opening in
    let s : i.parts.scenario ≡ g.N.RunName.scenario = ap (λ (x : OpeningView). x.scenario) c.opening.view_is ∙ c.requires.scenario in
    c.opening.invariant.cpus_are ∙ (ap (λ (x : TableId). first_seats x (cpus_in i.parts.scenario.clusters)) o ∙ ap (λ (x : Scenario). first_seats g.N.RunName.opening (cpus_in x.clusters)) s)

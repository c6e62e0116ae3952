use Rattle.std.proofs.Common.{ℕ, Option, length, sym, ap, ◌∙◌}
use Rattle.rk_model.specs.Directives.Semaphores.{reaches_from}
use Rattle.rk_model.specs.Scheduling.Chains.{reaches}
use Rattle.rk_model.specs.Names.{no_objects}
use Rattle.rk_parts.specs.Joined.{no_scenario, threads_of}
use Rattle.rk_directives.specs.Does.{lent_both}
use Rattle.rk_parts.proofs.HostedLemmas.{steps_held}
use Rattle.rk_directives.proofs.chains.reaches_from.Goals as goal

pub returns-in-Some : goal.returns-in-Some
returns-in-Some c = λ groups held.
    c.reaches.ensures
    ∙ ap (λ (step : ℕ → Option ℕ). reaches step (length (threads_of c.args.clusters.now)) c.in-Some.owner c.args.to) (steps_held no_scenario no_objects groups c.args.clusters.now held)
    ∙ ap (λ o. reaches_from (lent_both c.args.clusters.now groups) o c.args.to) (sym c.in-Some.is)

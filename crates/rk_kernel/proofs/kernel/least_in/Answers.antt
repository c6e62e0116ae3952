use Rattle.std.proofs.Common.{◌≡◌, ◌<◌, Some, ap, ◌∙◌, subst}
use Rattle.std.specs.Prelude.{IfSome}
use Rattle.rk_model.specs.State.{Plain}
use Rattle.rk_model.specs.Scheduling.Running.{caller, least}
use Rattle.rk_kernel.proofs.PartsSettledLemmas.{few_processors, least_within}
use Rattle.rk_kernel.proofs.kernel.least_in.Goals as goal

pub least_of-requires-clause-few : goal.least_of-requires-clause-few
least_of-requires-clause-few c = few_processors c.parts.inside.all c.parts.invariant.0

pub returns-clause-least : goal.returns-clause-least
returns-clause-least c = let all = c.parts.inside.all in c.least_of.ensures.least all.table.names all.groups c.parts.invariant.0.whole.held ∙ ap least c.parts.view_is

pub returns-clause-found : goal.returns-clause-found
returns-clause-found c =
    let all = c.parts.inside.all in
    subst (λ (k : Plain). IfSome c.least_of.result (λ calling. (caller k calling.cpu ≡ Some calling.thread) × (calling.cpu < 8))) c.parts.view_is
    (least_within all c.least_of.result c.parts.invariant.0 (c.least_of.ensures.found all.table.names all.groups c.parts.invariant.0.whole.held))

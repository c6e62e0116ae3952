use Rattle.std.proofs.Common.{◌≡◌, Some, sym, ◌∙◌, subst, arith}
use Rattle.rk_model.specs.Scheduling.Timers.{without_timer}
use Rattle.rk_parts.specs.Lent.{found_in, PutsTimers}
use Rattle.rk_parts.proofs.HeldLemmas.{found_within}
use Rattle.rk_parts.proofs.PutLemmas.{never_found}
use Rattle.rk_parts.proofs.LentTimerLemmas.{as_retimed, puts_timers}
use Rattle.rk_parts.proofs.timers.cancel.Goals as goal

pub returns-in-Some : goal.returns-in-Some
returns-in-Some c =
    let parts = c.args.clusters.now in
    let t = c.args.thread in
    let change = without_timer c.args.who in
    let found : found_in parts t ≡ Some c.in-Some.at = sym c.place_of.ensures.place ∙ c.in-Some.is in
    subst (PutsTimers parts t change) (sym (as_retimed parts c.in-Some.at c.index-clusters-at.result c.remove.new.timers change (found_within parts c.in-Some.at t found) c.remove.ensures))
    (puts_timers parts c.in-Some.at t change (omega arith) (omega arith) found)

pub returns-in_default : goal.returns-in_default
returns-in_default c = absurd (never_found c.args.clusters.now c.args.thread (omega arith) (omega arith) (sym c.place_of.ensures.place ∙ c.in_default.is) c.requires)

use Rattle.std.proofs.Common.{◌≡◌, Some, sym, ◌∙◌, subst, arith}
use Rattle.rk_model.specs.State.{no_thread}
use Rattle.rk_parts.specs.Lent.{found_in, Replaces}
use Rattle.rk_parts.proofs.HeldLemmas.{found_within}
use Rattle.rk_parts.proofs.PutLemmas.{as_put, never_found}
use Rattle.rk_parts.proofs.ReplaceLemmas.{removed}
use Rattle.rk_parts.proofs.lent.remove.Goals as goal

pub returns-in-Some : goal.returns-in-Some
returns-in-Some c =
    let parts = c.args.clusters.now in
    let t = c.args.index in
    let found : found_in parts t ≡ Some c.in-Some.at = sym c.place_of.ensures.place ∙ c.in-Some.is in
    subst (Replaces parts t no_thread) (sym (as_put parts c.in-Some.at t c.index-clusters-at.result c.put.new.self no_thread (found_within parts c.in-Some.at t found) (rw (← c.absent.ensures) c.put.ensures)))
    (removed parts c.in-Some.at t (omega arith) (omega arith) found)

pub returns-in_default : goal.returns-in_default
returns-in_default c = absurd (never_found c.args.clusters.now c.args.index (omega arith) (omega arith) (sym c.place_of.ensures.place ∙ c.in_default.is) c.requires)

use Rattle.std.proofs.Common.{◌≡◌, [], Some, sym, ap, ◌∙◌, subst}
use Rattle.rk_model.specs.Scheduling.Timers.{due_at, head_of, without_due}
use Rattle.std.specs.List.{slice_index_or}
use Rattle.rk_model.specs.State.{ClusterState}
use Rattle.rk_parts.specs.Joined.{present_of}
use Rattle.rk_parts.specs.Lent.{number_in, TakesDue}
use Rattle.rk_parts.specs.declared.parts.ClusterPart.{ClusterPart}
use Rattle.rk_parts.proofs.PutLemmas.{part_is, some_none}
use Rattle.rk_parts.proofs.ReplaceLemmas.{number_within}
use Rattle.rk_parts.proofs.LentTimerLemmas.{as_retimed, takes_due, numbered_found}
use Rattle.rk_parts.proofs.timers.take_due_of.Goals as goal

pub returns-in-Some-clause-first : goal.returns-in-Some-clause-first
returns-in-Some-clause-first c =
    let parts = c.args.clusters.now in
    let found : number_in parts c.args.cluster ≡ Some c.in-Some.at = sym c.number_of.ensures.place ∙ c.in-Some.is in
    let now = present_of parts in
    let at = c.in-Some.at in
    let same = part_is parts at c.index-clusters-at.result (number_within parts at c.args.cluster found) in
    c.take_due.ensures.first
    ∙ ap (λ n. head_of (due_at n (slice_index_or parts at c.index-clusters-at.result).timers)) (c.from-now.ensures ∙ c.present.ensures)
    ∙ ap (λ (p : ClusterPart). head_of (due_at now p.timers)) same
    ∙ ap (λ (x : ClusterState). head_of (due_at now x.timers)) (sym (numbered_found [] parts at c.args.cluster found))

pub returns-in-Some-clause-taken : goal.returns-in-Some-clause-taken
returns-in-Some-clause-taken c =
    let parts = c.args.clusters.now in
    let found : number_in parts c.args.cluster ≡ Some c.in-Some.at = sym c.number_of.ensures.place ∙ c.in-Some.is in
    let is = as_retimed parts c.in-Some.at c.index-clusters-at.result c.take_due.new.self (without_due (present_of parts)) (number_within parts c.in-Some.at c.args.cluster found) (rw (c.from-now.ensures ∙ c.present.ensures) at c.take_due.ensures.rest) in
    subst (TakesDue parts c.args.cluster) (sym is) (takes_due parts c.in-Some.at c.args.cluster found)

pub returns-in-None : goal.returns-in-None
returns-in-None c = absurd (some_none (number_in c.args.clusters.now c.args.cluster) c.requires (sym c.number_of.ensures.place ∙ c.in-None.is))

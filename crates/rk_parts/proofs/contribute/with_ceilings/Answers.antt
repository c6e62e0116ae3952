use Rattle.std.proofs.Common.{◌≡◌, ◌+◌, ◌∷◌, drop, arith, ap, sym, ◌∙◌, subst}
use Rattle.std.proofs.lemmas.List.{drop_all, drop_more}
use Rattle.rk_parts.specs.declared.parts.ClusterPart.{ClusterPart}
use Rattle.rk_parts.proofs.ContributingLemmas.{IsCapping, capping_part}
use Rattle.rk_parts.proofs.contribute.with_ceilings.Goals as goal

pub loop-part-init : goal.loop-part-init
loop-part-init c = λ i low none. none

pub loop-part-preserved : goal.loop-part-preserved
loop-part-preserved c =
    (let parts = c.args.clusters.now in
    let i = c.loop-part.part-index in
    let part = c.part-item.result in
    let split : drop i parts ≡ part ∷ drop (i + 1) parts = drop_more parts i part (omega arith) ∙ ap (λ (p : ClusterPart). p ∷ drop (i + 1) parts) (sym c.part-item.is) in
    capping_part parts (drop (i + 1) parts) part c.loop-part.capped c.with_ceilings.result c.insert_all.new.self c.insert_all.ensures c.with_ceilings.ensures (subst (λ left. IsCapping parts left c.loop-part.capped) split c.loop-part.invariant))

pub returns : goal.returns
returns c = λ i low. (let end = drop_all c.loop-part.part-index c.args.clusters.now (omega arith) in subst (λ left. IsCapping c.args.clusters.now left c.loop-part.capped) end c.loop-part.invariant i low tt)

use Rattle.std.proofs.Common.{◌≡◌, ◌+◌, ◌∷◌, drop, arith, ap, sym, ◌∙◌, subst}
use Rattle.std.proofs.lemmas.List.{drop_all, drop_more}
use Rattle.rk_parts.specs.declared.parts.ClusterPart.{ClusterPart}
use Rattle.rk_parts.proofs.AloneLemmas.{AreRaisingNone, plain_part}
use Rattle.rk_parts.proofs.contribute.may_raise.Goals as goal

pub loop-part-preserved : goal.loop-part-preserved
loop-part-preserved c = λ rest.
    (let parts = c.args.clusters.now in
    let i = c.loop-part.part-index in
    let part = c.part-item.result in
    let split : drop i parts ≡ part ∷ drop (i + 1) parts = drop_more parts i part (omega arith) ∙ ap (λ (p : ClusterPart). p ∷ drop (i + 1) parts) (sym c.part-item.is) in
    c.loop-part.invariant (subst AreRaisingNone (sym split) (plain_part part (drop (i + 1) parts) (c.may_raise.ensures c.if-may_raise.false) rest)))

pub returns : goal.returns
returns c = λ none. (let end = drop_all c.loop-part.part-index c.args.clusters.now (omega arith) in c.loop-part.invariant (subst AreRaisingNone (sym end) (λ i. (tt, tt))))

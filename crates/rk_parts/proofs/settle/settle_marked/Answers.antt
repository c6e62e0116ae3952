use Rattle.std.proofs.Common.{◌≡◌, ◌<◌, List, ℕ, [], length, arith, refl, ap, sym, ◌∙◌, subst, length-set}
use Rattle.rk_parts.specs.declared.parts.ClusterPart.{ClusterPart}
use Rattle.rk_parts.specs.Noted.{settled_part, bare}
use Rattle.rk_parts.proofs.SettledPartLemmas.{one_settled, one_still}
use Rattle.rk_parts.proofs.settle.settle_marked.Goals as goal
use Rattle.rk_parts.proofs.settle.settle_marked.Goals.{then-not-is_settled, else-not-is_settled}

pub loop-at-preserved : goal.loop-at-preserved
loop-at-preserved c =
    let last : List ℕ = [] in
    let parts = c.loop-at.clusters in
    let at = c.loop-at.at in
    let within : at < length parts = omega arith in
    elim c.if-not-is_settled.branch [
      | then-not-is_settled w ↦
          rw w.clusters-is
          (record {
            size = length-set parts at w.settle_part.new.part ∙ c.loop-at.invariant.size;
            so_far = one_settled last parts at w.index-clusters-at-then-not-is_settled.result w.settle_part.new.part _ within w.index-clusters-at-then-not-is_settled.is (w.settle_part.ensures ∙ ap (settled_part last) (sym w.index-clusters-at-then-not-is_settled.is)) c.loop-at.invariant.so_far;
          })
      | else-not-is_settled w ↦
          rw w.clusters-is
          (record {
            size = c.loop-at.invariant.size;
            so_far = one_still last parts at c.index-clusters-at.result _ within c.index-clusters-at.is (subst (λ (p : ClusterPart). bare p ≡ settled_part last p) (sym c.index-clusters-at.is) (w.if-not-is_settled.ensures refl)) c.loop-at.invariant.so_far;
          })
    ]

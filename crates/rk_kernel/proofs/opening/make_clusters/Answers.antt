use Rattle.std.proofs.Common.{◌+◌, [], ◌∷◌, refl}
use Rattle.rk_kernel.proofs.VacantPartLemmas.{made_part, next_first, second_first}
use Rattle.rk_kernel.proofs.opening.make_clusters.Goals as goal

pub returns : goal.returns
returns c =
    let counts = c.args.counts.now in
    let second = second_first counts c.count_at-second.result c.count_at-second.ensures in
    let third = next_first counts 1 c.count_at-second.result c.count_at.result second c.count_at.ensures in
    let fourth = next_first counts 2 (c.count_at-second.result + c.count_at.result) c.count_at-2.result third c.count_at-2.ensures in
    let a = made_part counts 0 0 c.count_at-second.result c.in_ok-make_cluster.field-0 refl c.count_at-second.ensures c.in_ok-make_cluster.ensures in
    let b = made_part counts 1 c.count_at-second.result c.count_at-3.result c.in_ok-make_cluster-2.field-0 second c.count_at-3.ensures c.in_ok-make_cluster-2.ensures in
    let d = made_part counts 2 (c.count_at-second.result + c.count_at.result) c.count_at-4.result c.in_ok-make_cluster-3.field-0 third c.count_at-4.ensures c.in_ok-make_cluster-3.ensures in
    let e = made_part counts 3 (c.count_at-second.result + c.count_at.result + c.count_at-2.result) c.count_at-5.result c.in_ok-make_cluster-4.field-0 fourth c.count_at-5.ensures c.in_ok-make_cluster-4.ensures in
    λ i. a i ∷ b i ∷ d i ∷ e i ∷ []

use Rattle.std.proofs.Common.{◌≡◌, ◌-◌, ◌+◌, suc, length, arith, refl, sym, ap, ◌∙◌}
use Rattle.rk_model.specs.State.{Plain}
use Rattle.rk_model.specs.Scheduling.Ticks.{fire_from}
use Rattle.rk_parts.specs.Joined.{plain_of}
use Rattle.rk_kernel.proofs.PartsSettledLemmas.{few_clusters, count_clusters}
use Rattle.rk_kernel.proofs.clock.fire_all.Goals as goal

pub loop-cluster-init : goal.loop-cluster-init
loop-cluster-init c =
    let all = c.args.all.now in
    let count : length all.scenario.clusters - 0 ≡ length (plain_of all).clusters = omega (arith, count_clusters all) in
    record { ready = c.requires; scenario = refl; so_far = ap (fire_from (plain_of all) 0) count }

pub overflow_cast-cluster : goal.overflow_cast-cluster
overflow_cast-cluster c = omega (arith, few_clusters c.args.all.now c.requires)

pub loop-cluster-preserved : goal.loop-cluster-preserved
loop-cluster-preserved c =
    let n = length c.args.all.now.scenario.clusters in
    let p = c.loop-cluster.cluster in
    let one_more : n - p ≡ suc (n - (p + 1)) = omega arith in
    record {
      ready = c.fire_cluster.ensures.ready;
      scenario = c.fire_cluster.ensures.scenario ∙ c.loop-cluster.invariant.scenario;
      so_far = ap (λ (k : Plain). fire_from k (p + 1) (n - (p + 1))) c.fire_cluster.ensures.fired ∙ ap (fire_from (plain_of c.loop-cluster.all) p) (sym one_more) ∙ c.loop-cluster.invariant.so_far;
    }

use Rattle.std.proofs.Common.{◌<◌, length, arith, ap, ◌∙◌}
use Rattle.rk_model.specs.declared.scenario.Scenario.{Scenario}
use Rattle.rk_parts.specs.Joined.{plain_of}
use Rattle.rk_kernel.proofs.PartsSettledLemmas.{count_clusters}
use Rattle.rk_kernel.proofs.FiringLemmas.{fewer_due, none_due}
use Rattle.rk_kernel.proofs.clock.fire_cluster.Goals as goal

pub firing-smaller : goal.firing-smaller
firing-smaller c =
    let count = ap (λ (s : Scenario). length s.clusters) c.firing.invariant.scenario in
    let within : c.args.cluster < length (plain_of c.firing.all).clusters = omega (arith, c.requires.cluster, count, count_clusters c.firing.all) in
    (fewer_due (plain_of c.firing.all) (plain_of c.fire_first.new.all) c.args.cluster c.firing.invariant.ready.sound within (rw c.firing-test.true at c.fire_first.ensures.fires)).1

pub firing-preserved : goal.firing-preserved
firing-preserved c =
    let count = ap (λ (s : Scenario). length s.clusters) c.firing.invariant.scenario in
    let within : c.args.cluster < length (plain_of c.firing.all).clusters = omega (arith, c.requires.cluster, count, count_clusters c.firing.all) in
    record {
      ready = c.fire_first.ensures.ready;
      scenario = c.fire_first.ensures.scenario ∙ c.firing.invariant.scenario;
      so_far = (fewer_due (plain_of c.firing.all) (plain_of c.fire_first.new.all) c.args.cluster c.firing.invariant.ready.sound within (rw c.firing-test.true at c.fire_first.ensures.fires)).2 ∙ c.firing.invariant.so_far;
    }

pub returns-clause-fired : goal.returns-clause-fired
returns-clause-fired c = none_due (plain_of c.firing.all) (plain_of c.fire_first.new.all) c.args.cluster (rw c.firing-test.false at c.fire_first.ensures.fires) ∙ c.firing.invariant.so_far

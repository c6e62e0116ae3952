use Rattle.std.proofs.Common.{◌<◌, length, arith, ap, sym, ◌∙◌, length-set}
use Rattle.rk_parts.specs.Whole.{at_tick}
use Rattle.rk_parts.proofs.TickPartLemmas.{one_mapped}
use Rattle.rk_parts.proofs.ticks.set_clusters.Goals as goal

pub loop-at-preserved : goal.loop-at-preserved
loop-at-preserved c =
    let parts = c.loop-at.clusters in
    let at = c.loop-at.at in
    let within : at < length parts = omega arith in
    record {
      size = length-set parts at _ ∙ c.loop-at.invariant.size;
      so_far = one_mapped (at_tick c.args.tick) parts at c.index-clusters-at.result _ _ within c.index-clusters-at.is (ap (at_tick c.args.tick) (sym c.index-clusters-at.is)) c.loop-at.invariant.so_far;
    }

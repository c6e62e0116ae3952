use Rattle.std.proofs.Common.{arith}
use Rattle.rk_parts.proofs.NotedHostLemmas.{kept_link, one_more_link}
use Rattle.rk_parts.proofs.helping.note_links.Goals as goal

pub loop-index-preserved : goal.loop-index-preserved
loop-index-preserved c =
    let old = c.args.clusters.now in
    let now = c.loop-index.clusters in
    let new = c.note_link.new.clusters in
    record {
      kept = kept_link old now new c.new-thread.result c.link_of-link.result c.note_link.ensures.links c.loop-index.invariant.kept;
      low = omega (arith, c.loop-index.invariant.low);
      high = omega arith;
      links = rw (← c.new-thread.ensures)
          (one_more_link old now new c.new-thread.result c.link_of-link.result (omega (arith, c.loop-index.invariant.low, c.new-thread.ensures)) (omega (arith, c.new-thread.ensures))
          c.note_link.ensures.links c.note_link.ensures.sizes c.link_of-link.ensures c.loop-index.invariant.kept (rw c.new-thread.ensures c.loop-index.invariant.links));
    }

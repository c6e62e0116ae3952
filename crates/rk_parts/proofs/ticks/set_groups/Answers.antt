use Rattle.std.proofs.Common.{◌<◌, length, arith, ap, sym, ◌∙◌, length-set}
use Rattle.rk_parts.specs.Whole.{group_at_tick}
use Rattle.rk_parts.proofs.TickPartLemmas.{one_mapped}
use Rattle.rk_parts.proofs.ticks.set_groups.Goals as goal

pub loop-at-preserved : goal.loop-at-preserved
loop-at-preserved c =
    let groups = c.loop-at.groups in
    let at = c.loop-at.at in
    let within : at < length groups = omega arith in
    record {
      size = length-set groups at _ ∙ c.loop-at.invariant.size;
      so_far = one_mapped (group_at_tick c.args.tick) groups at c.index-groups-at.result _ _ within c.index-groups-at.is (ap (group_at_tick c.args.tick) (sym c.index-groups-at.is)) c.loop-at.invariant.so_far;
    }

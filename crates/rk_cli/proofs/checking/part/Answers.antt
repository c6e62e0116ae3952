use Rattle.std.proofs.Common.{◌≤◌, ◌<◌, length, arith, sym, ◌∙◌}
use Rattle.rk_cli.proofs.PartLemmas.{part_byte, part_feed}
use Rattle.rk_cli.proofs.checking.part.Goals.{then-byte-eq10+else-is_mark, else-byte-eq10}
use Rattle.rk_cli.proofs.checking.part.Goals as goal

pub loop-at-preserved : goal.loop-at-preserved
loop-at-preserved c =
    let l = c.loop-at in
    let xs = c.args.bytes.now in
    let low : l.start ≤ l.at = l.invariant.low in
    let high : l.at < length xs = c.loop-at-test.true in
    elim c.if-byte-eq10.branch [
      | then-byte-eq10+else-is_mark w ↦ record {
        low = omega (arith, w.start-is);
        same = part_feed xs l.start l.at c.if-byte-eq10.start low high w.if-byte-eq10.true (sym w.is_mark.ensures ∙ w.if-is_mark.false) w.start-is l.invariant.same;
      }
      | else-byte-eq10 w ↦ record {
        low = omega (arith, w.start-is, low);
        same = rw w.start-is (part_byte xs l.start l.at low high w.if-byte-eq10.false l.invariant.same);
      }
    ]

use Rattle.std.proofs.Common.{◌<◌, ◌∙◌, length, arith}
use Rattle.rk_schedule.proofs.EntryLemmas.{entries_more, state_more}
use Rattle.rk_schedule.proofs.schedule.push_entries.Goals as goal

pub loop-entry-preserved : goal.loop-entry-preserved
loop-entry-preserved c =
    let l = c.loop-entry in
    let xs = c.args.entries.now in
    let few : l.entry-index < length xs = omega arith in
    record {
      text = entries_more l.parts c.replay.new.parts xs l.entry-index _ l.out.items _ few c.replay.ensures c.in_ok-push_entry.ensures ∙ l.invariant.text;
      state = state_more l.parts c.replay.new.parts xs l.entry-index _ few c.replay.ensures ∙ l.invariant.state;
    }

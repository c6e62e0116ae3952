use Rattle.std.proofs.Common.{rules}
use Rattle.rk_io.proofs.ToldLemmas.{appends_more, take_join}
use Rattle.rk_io.proofs.sink.write_all.Goals as goal

pub loop-at-preserved : goal.loop-at-preserved
loop-at-preserved g c = record {
  within = search rules;
  later = search rules;
  written = rw (← take_join c.loop-at.at c.in_ok-count.count c.args.bytes.now) (appends_more _ _ _ _ _ c.loop-at.invariant.written c.in_ok-count.ensures.bytes);
}

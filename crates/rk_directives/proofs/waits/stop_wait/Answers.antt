use Rattle.rk_directives.proofs.DirectiveLemmas.LentLemmas.{stopped, stopped_lives}
use Rattle.rk_directives.proofs.waits.stop_wait.Goals as goal

pub returns : goal.returns
returns c = record {
  state = λ s. stopped s c.args.clusters.now c.cancel.new.clusters c.put.new.clusters c.args.thread c.args.reply c.cancel.ensures (rw (← c.thread_of-waiting.ensures) c.put.ensures);
  lives = stopped_lives c.args.clusters.now c.cancel.new.clusters c.put.new.clusters c.args.thread c.args.reply c.cancel.ensures (rw (← c.thread_of-waiting.ensures) c.put.ensures);
}

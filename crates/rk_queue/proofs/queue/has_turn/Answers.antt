use Rattle.std.proofs.Common.{sym}
use Rattle.rk_queue.proofs.QueueLemmas.{has_turn_at}
use Rattle.rk_queue.proofs.queue.has_turn.Goals as goal

pub returns : goal.returns
returns c = rw c.turn_of.ensures (sym (has_turn_at c.args.cluster c.args.turns.now))

use Rattle.std.proofs.Common.{sym}
use Rattle.rk_model.proofs.KeyLemmas.{has_position}
use Rattle.rk_queue.proofs.QueueLemmas.{key}
use Rattle.rk_queue.proofs.queue.ThreadQueue.contains.Goals as goal

pub returns : goal.returns
returns c = rw (c.position_of.ensures, c.as_slice.ensures, c.len.ensures, ← c.self.view_is) (sym (has_position key c.args.thread c.self.inside.arrivals))

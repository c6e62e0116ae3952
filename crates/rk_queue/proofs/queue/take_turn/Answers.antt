use Rattle.std.proofs.Common.{arith}
use Rattle.rk_queue.proofs.QueueLemmas.{turn_found, turn_gone}
use Rattle.rk_queue.proofs.queue.take_turn.Goals as goal

pub take-requires : goal.take-requires
take-requires c = (omega arith, turn_found c.args.cluster _ c.args.turns.now _ c.as_slice.ensures c.turn_of-at.ensures c.requires)

pub returns : goal.returns
returns c = turn_gone c.args.cluster _ c.args.turns.now _ _ c.as_slice.ensures c.turn_of-at.ensures c.requires c.take.ensures.rest

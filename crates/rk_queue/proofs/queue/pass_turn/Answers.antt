use Rattle.std.proofs.Common.{◌<◌, length, arith}
use Rattle.rk_model.specs.Queues.{without_turn}
use Rattle.rk_queue.proofs.QueueLemmas.{turn_less}
use Rattle.rk_queue.proofs.queue.pass_turn.Goals as goal

pub push-requires : goal.push-requires
push-requires c =
    let less = turn_less c.args.cluster c.args.turns.now c.requires.one in
    let room : length (without_turn c.args.cluster c.args.turns.now) < 64 = omega (arith, less, c.requires.few) in
    (omega arith, rw c.take_turn.ensures room)

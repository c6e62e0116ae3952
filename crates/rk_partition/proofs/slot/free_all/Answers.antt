use Rattle.std.proofs.Common.{◌<◌, ◌/◌, length, arith, refl}
use Rattle.rk_model.specs.Directives.Partitions.{addresses}
use Rattle.rk_partition.proofs.BufferLemmas.{in_order, length-addresses, one_more}
use Rattle.rk_partition.proofs.slot.free_all.Goals as goal

pub push-requires : goal.push-requires
push-requires c =
    let few = (in_order c.args.partition.start c.args.partition.length c.args.partition.size c.requires.fits).few in
    let more : c.loop-before.before < c.args.partition.length / c.args.partition.size = rw (← c.count-before-end.ensures) c.loop-before-test.true in
    let made = length-addresses c.args.partition.start c.args.partition.size c.loop-before.before in
    let room : length (addresses c.args.partition.start c.args.partition.size c.loop-before.before) < 1024 = omega (arith, few, more, made) in
    (omega arith, rw c.loop-before.invariant room)

pub loop-before-preserved : goal.loop-before-preserved
loop-before-preserved c = rw (c.push.ensures, c.loop-before.invariant, one_more c.args.partition.start c.args.partition.size c.loop-before.before) refl

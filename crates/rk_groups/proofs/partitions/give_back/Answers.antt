use Rattle.std.proofs.Common.{sym, ap, ◌∙◌}
use Rattle.rk_model.specs.State.{PartitionState}
use Rattle.rk_partition.specs.Partitions.{returned, reply_to_return}
use Rattle.rk_groups.proofs.PartitionGroupLemmas.{of_partitions, partition_stands, partition_put, never_live}
use Rattle.rk_groups.proofs.partitions.give_back.Goals as goal

pub put_back-requires-clause-place : goal.put_back-requires-clause-place
put_back-requires-clause-place c = of_partitions c.args.groups.now c.in-Some.at c.args.index c.index-groups-at.result c.requires.low c.requires.high c.in-Some.ensures.place

pub put_back-requires-clause-live : goal.put_back-requires-clause-live
put_back-requires-clause-live c =
    ap (λ (p : PartitionState). p.live) (partition_stands c.args.groups.now c.in-Some.at c.args.index c.index-groups-at.result c.requires.low c.requires.high c.in-Some.ensures.place) ∙ c.requires.live

pub returns-in-Some-clause-partition : goal.returns-in-Some-clause-partition
returns-in-Some-clause-partition c =
    let stands = partition_stands c.args.groups.now c.in-Some.at c.args.index c.index-groups-at.result c.requires.low c.requires.high c.in-Some.ensures.place in
    partition_put c.args.groups.now c.in-Some.at c.args.index c.index-groups-at.result _ _ _ c.requires.low c.requires.high c.in-Some.ensures.place c.in-Some.ensures.store c.put_back.ensures.partition (ap (returned c.args.address) stands)

pub returns-in-Some-clause-reply : goal.returns-in-Some-clause-reply
returns-in-Some-clause-reply c =
    let stands = partition_stands c.args.groups.now c.in-Some.at c.args.index c.index-groups-at.result c.requires.low c.requires.high c.in-Some.ensures.place in
    c.put_back.ensures.reply ∙ ap (reply_to_return c.args.address) stands

pub returns-in-None : goal.returns-in-None
returns-in-None c = absurd (never_live c.args.groups.now c.args.index c.requires.low c.requires.high (sym c.in-None.ensures.place) c.requires.live)

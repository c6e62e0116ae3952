use Rattle.std.proofs.Common.{sym, ap, ◌∙◌}
use Rattle.rk_model.specs.State.{PartitionState}
use Rattle.rk_partition.specs.Partitions.{without_first, reply_to_get}
use Rattle.rk_groups.proofs.PartitionGroupLemmas.{of_partitions, partition_stands, partition_put, never_live}
use Rattle.rk_groups.proofs.partitions.take.Goals as goal

pub get-requires-clause-place : goal.get-requires-clause-place
get-requires-clause-place c = of_partitions c.args.groups.now c.in-Some.at c.args.index c.index-groups-at.result c.requires.low c.requires.high c.in-Some.ensures.place

pub get-requires-clause-live : goal.get-requires-clause-live
get-requires-clause-live c =
    ap (λ (p : PartitionState). p.live) (partition_stands c.args.groups.now c.in-Some.at c.args.index c.index-groups-at.result c.requires.low c.requires.high c.in-Some.ensures.place) ∙ c.requires.live

pub returns-in-Some-clause-partition : goal.returns-in-Some-clause-partition
returns-in-Some-clause-partition c =
    let stands = partition_stands c.args.groups.now c.in-Some.at c.args.index c.index-groups-at.result c.requires.low c.requires.high c.in-Some.ensures.place in
    partition_put c.args.groups.now c.in-Some.at c.args.index c.index-groups-at.result _ _ _ c.requires.low c.requires.high c.in-Some.ensures.place c.in-Some.ensures.store c.get.ensures.partition (ap without_first stands)

pub returns-in-Some-clause-reply : goal.returns-in-Some-clause-reply
returns-in-Some-clause-reply c =
    let stands = partition_stands c.args.groups.now c.in-Some.at c.args.index c.index-groups-at.result c.requires.low c.requires.high c.in-Some.ensures.place in
    c.get.ensures.reply ∙ ap (λ (p : PartitionState). reply_to_get p.free) stands

pub returns-in-None : goal.returns-in-None
returns-in-None c = absurd (never_live c.args.groups.now c.args.index c.requires.low c.requires.high (sym c.in-None.ensures.place) c.requires.live)

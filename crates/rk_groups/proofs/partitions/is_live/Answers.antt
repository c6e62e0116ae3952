use Rattle.std.proofs.Common.{◌≡◌, None, sym, ap, ◌∙◌}
use Rattle.rk_model.specs.State.{PartitionState}
use Rattle.rk_groups.specs.Groups.{partitions_in}
use Rattle.rk_groups.proofs.PartitionGroupLemmas.{of_partitions, partition_stands, partition_nowhere}
use Rattle.rk_groups.proofs.partitions.is_live.Goals as goal

pub is_live-requires : goal.is_live-requires
is_live-requires c = of_partitions c.args.groups.now c.in-Some.at c.args.index _ c.requires.low c.requires.high (sym c.in-Some.is ∙ c.place_of.ensures.place)

pub returns-in-Some : goal.returns-in-Some
returns-in-Some c =
    c.is_live.ensures.value ∙ ap (λ (p : PartitionState). p.live) (partition_stands c.args.groups.now c.in-Some.at c.args.index c.index-groups-at.result c.requires.low c.requires.high (sym c.in-Some.is ∙ c.place_of.ensures.place))

pub returns-in-None : goal.returns-in-None
returns-in-None c =
    let none : partitions_in c.args.groups.now c.args.index ≡ None = sym c.place_of.ensures.place ∙ c.in-None.is in
    ap (λ (p : PartitionState). p.live) (sym (partition_nowhere c.args.groups.now c.args.index c.requires.low c.requires.high none))

use Rattle.rk_model.specs.declared.ids.Class.TheVariants.{Partition}
use Rattle.rk_directives.proofs.DirectiveLemmas.LentLemmas.{all_every}
use Rattle.rk_directives.proofs.actions.perform_partition_delete.Goals as goal

pub partition_delete-requires : goal.partition_delete-requires
partition_delete-requires c = record { named = c.requires.acts.sound.named.class Partition }

pub returns : goal.returns
returns c = all_every c.args.all.now _ _ _ _ _ c.requires.whole (c.partition_delete.ensures c.args.all.now.scenario)

use Rattle.std.proofs.Common.{sym, ◌∙◌}
use Rattle.rk_model.specs.declared.ids.Class.TheVariants.{Partition}
use Rattle.rk_model.specs.State.{Plain, partition_at}
use Rattle.rk_model.specs.Directives.Objects.{object_named}
use Rattle.rk_model.specs.Directives.Partitions.{taken_first}
use Rattle.rk_directives.proofs.DirectiveLemmas.LentLemmas.{unknown_both, found_both}
use Rattle.rk_directives.proofs.partitions.partition_get.Goals as goal

pub returns-in-None : goal.returns-in-None
returns-in-None c = λ s. unknown_both s c.args.clusters.now c.args.groups.now (λ (k : Plain). object_named k c.args.caller Partition c.args.id) (λ (k : Plain) i. taken_first k i (partition_at k i).free) (λ table. sym c.partition_named.ensures.found ∙ c.in-None.is)

pub returns-in-Some : goal.returns-in-Some
returns-in-Some c = λ s.
    found_both s c.args.clusters.now c.args.clusters.now c.args.groups.now c.take_at.new.groups (λ (k : Plain). object_named k c.args.caller Partition c.args.id) (λ (k : Plain) i. taken_first k i (partition_at k i).free) c.in-Some.index c.take_at.result
    (λ table. sym c.partition_named.ensures.found ∙ c.in-Some.is) (c.take_at.ensures s c.args.clusters.now)

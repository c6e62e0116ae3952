use Rattle.std.proofs.Common.{sym, ◌∙◌}
use Rattle.rk_model.specs.declared.ids.Class.TheVariants.{Partition}
use Rattle.rk_model.specs.State.{Plain}
use Rattle.rk_model.specs.Directives.Objects.{object_named}
use Rattle.rk_model.specs.Directives.Partitions.{removed_at}
use Rattle.rk_directives.proofs.DirectiveLemmas.LentLemmas.{unknown_every, found_grouped}
use Rattle.rk_directives.proofs.partitions.partition_delete.Goals as goal

pub returns-in-None : goal.returns-in-None
returns-in-None c = λ s. unknown_every s c.args.clusters.now c.args.groups.now c.args.names.now (λ (k : Plain). object_named k c.args.caller Partition c.args.id) (λ (k : Plain) i. removed_at k i) (sym c.partition_named.ensures.found ∙ c.in-None.is)

pub returns-in-Some : goal.returns-in-Some
returns-in-Some c = λ s.
    found_grouped s c.args.clusters.now c.args.groups.now c.remove_at.new.groups c.args.names.now c.remove_at.new.names (λ (k : Plain). object_named k c.args.caller Partition c.args.id) (λ (k : Plain) i. removed_at k i) c.in-Some.index c.remove_at.result
    (sym c.partition_named.ensures.found ∙ c.in-Some.is) (c.remove_at.ensures s)

use Rattle.std.proofs.Common.{sym, ◌∙◌}
use Rattle.rk_model.specs.declared.ids.Class.TheVariants.{Partition}
use Rattle.rk_model.specs.State.{Plain}
use Rattle.rk_model.specs.Directives.Objects.{bits_of, object_named}
use Rattle.rk_model.specs.Directives.Partitions.{given_back_to}
use Rattle.rk_directives.proofs.DirectiveLemmas.LentLemmas.{unknown_both, found_both}
use Rattle.rk_directives.proofs.DirectiveLemmas.PartitionsLemmas.{gives_back_named}
use Rattle.rk_directives.proofs.partitions.partition_return.Goals as goal

pub returns-in-None : goal.returns-in-None
returns-in-None c = λ s. unknown_both s c.args.clusters.now c.args.groups.now (λ (k : Plain). object_named k c.args.caller Partition c.args.id) (λ (k : Plain) i. given_back_to k i (bits_of k c.args.caller c.args.address)) (λ table. sym c.partition_named.ensures.found ∙ c.in-None.is)

pub returns-in-Some : goal.returns-in-Some
returns-in-Some c = λ s.
    found_both s c.args.clusters.now c.args.clusters.now c.args.groups.now c.give_back_at.new.groups (λ (k : Plain). object_named k c.args.caller Partition c.args.id) (λ (k : Plain) i. given_back_to k i (bits_of k c.args.caller c.args.address)) c.in-Some.index c.give_back_at.result
    (λ table. sym c.partition_named.ensures.found ∙ c.in-Some.is)
    (gives_back_named s c.args.clusters.now c.args.groups.now c.give_back_at.new.groups c.args.caller c.in-Some.index c.bits_of.result c.args.address c.give_back_at.result c.bits_of.ensures (c.give_back_at.ensures s c.args.clusters.now))

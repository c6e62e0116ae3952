use Rattle.std.proofs.Common.{sym, ◌∙◌}
use Rattle.rk_directives.proofs.DirectiveLemmas.LentBarriersLemmas.{deletes_barrier, deletes_none}
use Rattle.rk_directives.proofs.barriers.barrier_delete.Goals as goal

pub without_barrier-requires-clause-queue : goal.without_barrier-requires-clause-queue
without_barrier-requires-clause-queue c = c.requires.queue c.in-Some.index (sym c.barrier_named.ensures.found ∙ c.in-Some.is)

pub returns-in-None : goal.returns-in-None
returns-in-None c = λ s. deletes_none s c.args.clusters.now c.args.groups.now c.args.names.now c.args.caller c.args.id (sym c.barrier_named.ensures.found ∙ c.in-None.is)

pub returns-in-Some : goal.returns-in-Some
returns-in-Some c = λ s. deletes_barrier s c.args.clusters.now c.without_barrier.new.clusters c.args.groups.now c.without_barrier.new.groups c.args.names.now c.without_barrier.new.names c.args.caller c.in-Some.index c.args.id _ (sym c.barrier_named.ensures.found ∙ c.in-Some.is) c.done.ensures (c.without_barrier.ensures s)

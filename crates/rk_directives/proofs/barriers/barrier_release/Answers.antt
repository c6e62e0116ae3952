use Rattle.std.proofs.Common.{sym, ◌∙◌}
use Rattle.rk_directives.proofs.DirectiveLemmas.LentBarriersLemmas.{releases, releases_none}
use Rattle.rk_directives.proofs.barriers.barrier_release.Goals as goal

pub release_all-requires-clause-queue : goal.release_all-requires-clause-queue
release_all-requires-clause-queue c = c.requires.queue c.in-Some.index (sym c.barrier_named.ensures.found ∙ c.in-Some.is)

pub returns-in-None : goal.returns-in-None
returns-in-None c = λ s. releases_none s c.args.clusters.now c.args.groups.now c.args.caller c.args.id (sym c.barrier_named.ensures.found ∙ c.in-None.is)

pub returns-in-Some : goal.returns-in-Some
returns-in-Some c = λ s. releases s c.args.clusters.now c.release_all.new.clusters c.args.groups.now c.release_all.new.groups c.args.caller c.in-Some.index _ c.args.id _ (sym c.barrier_named.ensures.found ∙ c.in-Some.is) c.done.ensures c.release_all.ensures.count c.release_all.ensures.state

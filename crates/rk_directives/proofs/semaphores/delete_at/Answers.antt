use Rattle.std.proofs.Common.{sym, ◌∙◌}
use Rattle.rk_directives.proofs.DirectiveLemmas.LentSemaphoresLemmas.{deletes_owned, deletes_unowned}
use Rattle.rk_directives.proofs.semaphores.delete_at.Goals as goal

pub without_semaphore-requires-clause-unowned : goal.without_semaphore-requires-clause-unowned
without_semaphore-requires-clause-unowned c = sym c.owner.ensures ∙ c.in-None.is

pub returns-in-Some : goal.returns-in-Some
returns-in-Some c = λ s. deletes_owned s c.args.clusters.now c.args.groups.now c.args.names.now c.args.index _ (sym c.owner.ensures ∙ c.in-Some.is)

pub returns-in-None : goal.returns-in-None
returns-in-None c = λ s. deletes_unowned s c.args.clusters.now c.without_semaphore.new.clusters c.args.groups.now c.without_semaphore.new.groups c.args.names.now c.without_semaphore.new.names c.args.index c.done.result (sym c.owner.ensures ∙ c.in-None.is) c.done.ensures (c.without_semaphore.ensures s)

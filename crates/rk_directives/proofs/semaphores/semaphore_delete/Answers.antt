use Rattle.std.proofs.Common.{sym, ◌∙◌}
use Rattle.rk_model.specs.declared.ids.Class.TheVariants.{Semaphore}
use Rattle.rk_model.specs.State.{Plain}
use Rattle.rk_model.specs.Directives.Objects.{object_named}
use Rattle.rk_directives.specs.Calls.{deleted_at}
use Rattle.rk_directives.proofs.DirectiveLemmas.LentLemmas.{unknown_every, found_every}
use Rattle.rk_directives.proofs.semaphores.semaphore_delete.Goals as goal

pub delete_at-requires-clause-queue : goal.delete_at-requires-clause-queue
delete_at-requires-clause-queue c = c.requires.queue c.in-Some.index (sym c.semaphore_named.ensures.found ∙ c.in-Some.is)

pub returns-in-None : goal.returns-in-None
returns-in-None c = λ s. unknown_every s c.args.clusters.now c.args.groups.now c.args.names.now (λ (k : Plain). object_named k c.args.caller Semaphore c.args.id) (λ (k : Plain) i. deleted_at k i) (sym c.semaphore_named.ensures.found ∙ c.in-None.is)

pub returns-in-Some : goal.returns-in-Some
returns-in-Some c = λ s.
    found_every s c.args.clusters.now c.delete_at.new.clusters c.args.groups.now c.delete_at.new.groups c.args.names.now c.delete_at.new.names (λ (k : Plain). object_named k c.args.caller Semaphore c.args.id) (λ (k : Plain) i. deleted_at k i) c.in-Some.index c.delete_at.result
    (sym c.semaphore_named.ensures.found ∙ c.in-Some.is) (c.delete_at.ensures s)

use Rattle.std.proofs.Common.{sym, subst, ◌∙◌}
use Rattle.rk_model.specs.declared.status.Status.TheVariants.{ObjectWasDeleted}
use Rattle.rk_groups.specs.GroupObjects.{semaphore_lent}
use Rattle.rk_directives.specs.Does.{AllLive}
use Rattle.rk_directives.proofs.NamesAgreeLemmas.{lives_named}
use Rattle.rk_directives.proofs.DirectiveLemmas.LentSemaphoresLemmas.{waiters_live, deleted_woken, removes}
use Rattle.rk_directives.proofs.semaphores.without_semaphore.Goals as goal

pub wake_all-requires : goal.wake_all-requires
wake_all-requires c = subst (AllLive c.args.clusters.now) (sym (c.wakes_of.ensures ∙ c.remove-reply.ensures.woken ∙ deleted_woken (semaphore_lent c.args.groups.now c.args.index) c.requires.unowned)) (waiters_live c.args.clusters.now c.args.groups.now c.args.index ObjectWasDeleted c.requires.queue)

pub remove-requires : goal.remove-requires
remove-requires c = lives_named c.args.names.now.semaphores (λ i. (semaphore_lent c.args.groups.now i).live) c.args.index c.requires.named ∙ c.requires.live

pub returns : goal.returns
returns c = λ s. removes s c.args.clusters.now c.wake_all.new.clusters c.args.groups.now c.remove-reply.new.groups c.args.names.now c.remove.new.table c.args.index _ c.requires.unowned c.remove-reply.ensures.semaphore (c.wakes_of.ensures ∙ c.remove-reply.ensures.woken) (c.wake_all.ensures s) c.remove.ensures

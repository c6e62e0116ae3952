use Rattle.std.proofs.Common.{sym, subst, ◌∙◌}
use Rattle.rk_model.specs.declared.status.Status.TheVariants.{Unsatisfied}
use Rattle.rk_directives.specs.Does.{AllLive}
use Rattle.rk_directives.proofs.DirectiveLemmas.LentSemaphoresLemmas.{waiters_live, flushes}
use Rattle.rk_directives.proofs.semaphores.flush_at.Goals as goal

pub wake_all-requires : goal.wake_all-requires
wake_all-requires c = subst (AllLive c.args.clusters.now) (sym (c.wakes_of.ensures ∙ c.flush-reply.ensures.woken)) (waiters_live c.args.clusters.now c.args.groups.now c.args.index Unsatisfied c.requires.queue)

pub returns : goal.returns
returns c = λ s. flushes s c.args.clusters.now c.wake_all.new.clusters c.args.groups.now c.flush-reply.new.groups c.args.index _ c.flush-reply.ensures.semaphore (c.wakes_of.ensures ∙ c.flush-reply.ensures.woken) (c.wake_all.ensures s)

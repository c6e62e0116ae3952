use Rattle.std.proofs.Common.{subst, sym, ◌∙◌}
use Rattle.rk_model.specs.declared.status.Status.TheVariants.{ObjectWasDeleted}
use Rattle.rk_groups.specs.GroupObjects.{barrier_lent}
use Rattle.rk_directives.specs.Does.{AllLive}
use Rattle.rk_directives.proofs.NamesAgreeLemmas.{lives_named}
use Rattle.rk_directives.proofs.DirectiveLemmas.LentBarriersLemmas.{queue_lives, removes}
use Rattle.rk_directives.proofs.barriers.without_barrier.Goals as goal

pub wake_all-requires : goal.wake_all-requires
wake_all-requires c = subst (AllLive c.args.clusters.now) (sym (c.wakes_of.ensures ∙ c.remove.ensures.woken)) (queue_lives c.args.clusters.now c.args.groups.now c.args.index ObjectWasDeleted c.requires.queue)

pub remove-requires-2 : goal.remove-requires-2
remove-requires-2 c = lives_named c.args.names.now.barriers (λ i. (barrier_lent c.args.groups.now i).live) c.args.index c.requires.named ∙ c.requires.live

pub returns : goal.returns
returns c = λ s. removes s c.args.clusters.now c.wake_all.new.clusters c.args.groups.now c.remove.new.groups c.args.names.now c.remove-2.new.table c.args.index _ c.requires.low c.requires.high c.requires.queue c.remove.ensures.barrier (c.wakes_of.ensures ∙ c.remove.ensures.woken) (c.wake_all.ensures s) c.remove-2.ensures

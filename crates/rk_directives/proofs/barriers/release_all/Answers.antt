use Rattle.std.proofs.Common.{ap, subst, sym, ◌∙◌}
use Rattle.rk_model.specs.declared.entry.Reply.{Reply}
use Rattle.rk_model.specs.declared.status.Status.TheVariants.{Successful}
use Rattle.rk_directives.specs.Does.{AllLive}
use Rattle.rk_directives.proofs.DirectiveLemmas.LentBarriersLemmas.{queue_lives, all_ended}
use Rattle.rk_directives.proofs.barriers.release_all.Goals as goal

pub wake_all-requires : goal.wake_all-requires
wake_all-requires c = subst (AllLive c.args.clusters.now) (sym (c.wakes_of.ensures ∙ c.release-reply.ensures.woken)) (queue_lives c.args.clusters.now c.args.groups.now c.args.index Successful c.requires.queue)

pub returns : goal.returns
returns c = record {
  state = λ s. all_ended s c.args.clusters.now c.wake_all.new.clusters c.args.groups.now c.release-reply.new.groups c.args.index Successful _ c.requires.low c.requires.high c.requires.queue c.release-reply.ensures.barrier (c.wakes_of.ensures ∙ c.release-reply.ensures.woken) (c.wake_all.ensures s);
  count = ap (λ (r : Reply). r.out) c.release-reply.ensures.reply;
}

use Rattle.std.proofs.Common.{ap, refl, sym, ◌∙◌}
use Rattle.rk_model.specs.State.{SemaphoreState}
use Rattle.rk_groups.specs.GroupObjects.{semaphore_lent}
use Rattle.rk_directives.proofs.KeptHoldingLemmas.{noted_held, put_others}
use Rattle.rk_directives.proofs.DirectiveLemmas.LentCeilingsLemmas.{set_owner, sets_ceiling}
use Rattle.rk_directives.proofs.DirectiveLemmas.LentSemaphoresLemmas.{put_there}
use Rattle.rk_directives.proofs.semaphores.set_priority_at.Goals as goal

-- the owner is that of before
pub note-requires-clause-lives : goal.note-requires-clause-lives
note-requires-clause-lives c = λ differs t is.
    let sem = semaphore_lent c.args.groups.now c.args.index in
    let there = put_there c.args.groups.now c.set_ceiling-reply.new.groups c.args.index _ c.requires.low c.requires.high c.set_ceiling-reply.ensures.semaphore in
    c.requires.owned c.args.index t (sym (set_owner c.args.cluster c.args.prio sem) ∙ ap (λ (x : SemaphoreState). x.owner) (sym there) ∙ is)

pub returns : goal.returns
returns c = λ s.
    sets_ceiling s c.args.clusters.now c.note.new.clusters c.args.groups.now c.set_ceiling-reply.new.groups c.args.index c.args.cluster c.args.prio c.set_ceiling-reply.result c.answered.result c.answered.ensures c.set_ceiling-reply.ensures.reply c.set_ceiling-reply.ensures.semaphore
    (c.note.ensures.comes s)
    (noted_held c.args.clusters.now c.note.new.clusters c.args.groups.now c.set_ceiling-reply.new.groups c.args.index c.holding-before.result _ c.note.ensures c.holding-before.ensures refl (put_others c.args.groups.now c.set_ceiling-reply.new.groups c.args.index _ c.set_ceiling-reply.ensures.semaphore))

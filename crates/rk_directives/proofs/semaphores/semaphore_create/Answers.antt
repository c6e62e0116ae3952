use Rattle.std.proofs.Common.{None, ap, refl, sym, ◌∙◌}
use Rattle.rk_model.specs.declared.entry.Answer.TheVariants.{Done}
use Rattle.rk_model.specs.declared.status.Status.TheVariants.{Successful}
use Rattle.rk_model.specs.State.{SemaphoreState}
use Rattle.rk_model.specs.Directives.Objects.{has_begun}
use Rattle.rk_groups.specs.GroupObjects.{semaphore_lent}
use Rattle.rk_parts.specs.Joined.{thread_lent}
use Rattle.rk_directives.proofs.KeptHoldingLemmas.{noted_held, put_others}
use Rattle.rk_directives.proofs.NamesAgreeLemmas.{first_absent}
use Rattle.rk_directives.proofs.DirectiveLemmas.LentSemaphoresLemmas.{accepted_judged, accepted_kept, created_owner, creates, creates_none, put_there}
use Rattle.rk_directives.proofs.semaphores.semaphore_create.Goals as goal

pub create-requires-in-Ok-clause-vacant : goal.create-requires-in-Ok-clause-vacant
create-requires-in-Ok-clause-vacant c = first_absent c.args.names.now.semaphores (λ i. (semaphore_lent c.args.groups.now i).live) c.in-Ok.index c.requires.named c.in-Ok.ensures.first

pub create-requires-in-Ok-clause-judged : goal.create-requires-in-Ok-clause-judged
create-requires-in-Ok-clause-judged c = accepted_judged c.args.spec c.caller_of.result.prio c.caller_of-in-Ok.result (c.caller_of-in-Ok.ensures.prio ∙ sym c.caller_of.ensures.prio) (sym c.create_refusal-refusal.ensures ∙ c.in-Ok.ensures.accepted)

pub create-requires-in-Ok-clause-kept : goal.create-requires-in-Ok-clause-kept
create-requires-in-Ok-clause-kept c = accepted_kept c.args.spec c.caller_of.result.prio (sym c.create_refusal-refusal.ensures ∙ c.in-Ok.ensures.accepted)

-- the owner, if there is one, is the caller
pub note-requires-clause-lives : goal.note-requires-clause-lives
note-requires-clause-lives c = λ other t is.
    let there = put_there c.args.groups.now c.create-in-Ok.new.groups c.in-Ok.index _ c.in-Ok.ensures.within.0 c.in-Ok.ensures.within.1 c.create-in-Ok.ensures in
    let own = created_owner c.args.spec c.caller_of-in-Ok.result t (ap (λ (x : SemaphoreState). x.owner) (sym there) ∙ is) in
    ap (λ n. has_begun (thread_lent c.args.clusters.now n).life) (sym own ∙ c.caller_of-in-Ok.ensures.thread) ∙ c.requires.lives

pub returns-in-Err : goal.returns-in-Err
returns-in-Err c = λ s. creates_none s c.args.clusters.now c.args.groups.now c.args.names.now c.create.new.table c.args.caller c.args.name.bits c.args.spec c.caller_of.result.prio c.create_refusal-refusal.result c.in-Err.status (c.caller_of.ensures.prio ∙ c.requires.prios c.args.caller c.caller_of.ensures.one) c.create_refusal-refusal.ensures c.in-Err.ensures.made

pub returns-in-Ok : goal.returns-in-Ok
returns-in-Ok c = λ s. creates s c.args.clusters.now c.note.new.clusters c.args.groups.now c.create-in-Ok.new.groups c.args.names.now c.create.new.table c.args.caller c.args.name.bits c.in-Ok.index c.args.spec c.caller_of.result.prio c.caller_of-in-Ok.result c.create_refusal-refusal.result c.done.result c.caller_of-in-Ok.ensures.thread c.caller_of-in-Ok.ensures.home (c.caller_of.ensures.prio ∙ c.requires.prios c.args.caller c.caller_of.ensures.one) c.create_refusal-refusal.ensures c.in-Ok.ensures.made (c.done.ensures ∙ ap (λ bits. Done Successful bits None) c.of.ensures) c.create-in-Ok.ensures
    (c.note.ensures.comes s)
    (noted_held c.args.clusters.now c.note.new.clusters c.args.groups.now c.create-in-Ok.new.groups c.in-Ok.index c.holding-before.result _ c.note.ensures c.holding-before.ensures refl (put_others c.args.groups.now c.create-in-Ok.new.groups c.in-Ok.index _ c.create-in-Ok.ensures))

use Rattle.std.proofs.Common.{ap, refl, sym, subst, ◌∙◌}
use Rattle.rk_model.specs.declared.entry.Answer.{Answer}
use Rattle.rk_model.specs.Lists.{has}
use Rattle.rk_model.specs.Queues.{threads}
use Rattle.rk_model.specs.State.{SemaphoreState}
use Rattle.rk_model.specs.Directives.Objects.{has_begun}
use Rattle.rk_model.specs.Directives.Waits.{OfSemaphore}
use Rattle.rk_groups.specs.GroupObjects.{semaphore_lent}
use Rattle.rk_parts.specs.Holdings.{holding_of}
use Rattle.rk_parts.specs.Joined.{thread_lent}
use Rattle.rk_directives.specs.Does.{DoesBoth}
use Rattle.rk_directives.proofs.KeptHoldingLemmas.{noted_held, put_others}
use Rattle.rk_directives.proofs.DirectiveLemmas.LentBarriersLemmas.{free_apart}
use Rattle.rk_directives.proofs.DirectiveLemmas.LentSemaphoresLemmas.{obtain_row, obtained_owner, obtains_at_once, obtains_by_waiting, put_there}
use Rattle.rk_directives.proofs.semaphores.obtain_at.Goals as goal

pub obtain-reply-requires-clause-absent : goal.obtain-reply-requires-clause-absent
obtain-reply-requires-clause-absent c = ap (has (threads (semaphore_lent c.args.groups.now c.args.index).queue.arrivals)) c.caller_of-by.ensures.thread ∙ free_apart c.args.clusters.now c.args.groups.now (OfSemaphore c.args.index) c.args.caller c.requires.queue c.requires.free

-- a new owner is the caller
pub note-requires-clause-lives : goal.note-requires-clause-lives
note-requires-clause-lives c = λ other t is.
    let sem = semaphore_lent c.args.groups.now c.args.index in
    let there = put_there c.args.groups.now c.obtain-reply.new.groups c.args.index _ c.requires.low c.requires.high c.obtain-reply.ensures.semaphore in
    let own = obtained_owner c.caller_of-by.result c.args.wish c.closes-closes.result sem t (ap (λ (x : SemaphoreState). x.owner) (sym there) ∙ is) (λ e. other (ap holding_of there ∙ e ∙ sym c.holding-before.ensures)) in
    ap (λ n. has_begun (thread_lent c.args.clusters.now n).life) (sym own ∙ c.caller_of-by.ensures.thread) ∙ c.requires.lives

-- the caller waits
pub returns-in-Waits : goal.returns-in-Waits
returns-in-Waits c = λ s.
    obtains_by_waiting s c.args.clusters.now c.start_limited.new.clusters c.args.groups.now c.obtain-reply.new.groups c.args.caller c.args.index c.spins-spins.result c.caller_of-by.result c.args.wish c.owner.result c.closes-closes.result c.limit_of.result c.obtain-reply.result c.spins-spins.ensures
    c.caller_of-by.ensures.thread c.caller_of-by.ensures.home (c.caller_of-by.ensures.prio ∙ c.requires.prios c.args.caller c.caller_of-by.ensures.one) c.owner.ensures (λ ticks e. c.closes-closes.ensures ticks e c.args.groups.now c.requires.held) c.limit_of.ensures c.obtain-reply.ensures.reply c.in-Waits.is c.obtain-reply.ensures.semaphore (c.start_limited.ensures s)

-- or doesn't
pub returns-in_default : goal.returns-in_default
returns-in_default c = λ s.
    subst (λ (a : Answer). DoesBoth s (obtain_row c.args.caller c.args.index c.args.wish) a c.args.clusters.now c.args.groups.now c.note.new.clusters c.obtain-reply.new.groups) (sym c.answered.ensures)
    (obtains_at_once s c.args.clusters.now c.note.new.clusters c.args.groups.now c.obtain-reply.new.groups c.args.caller c.args.index c.caller_of-by.result c.args.wish c.owner.result c.closes-closes.result c.obtain-reply.result
    c.caller_of-by.ensures.thread c.caller_of-by.ensures.home (c.caller_of-by.ensures.prio ∙ c.requires.prios c.args.caller c.caller_of-by.ensures.one) c.owner.ensures (λ ticks e. c.closes-closes.ensures ticks e c.args.groups.now c.requires.held) c.obtain-reply.ensures.reply c.in_default.not-Waits c.obtain-reply.ensures.semaphore
    (c.note.ensures.comes s)
    (noted_held c.args.clusters.now c.note.new.clusters c.args.groups.now c.obtain-reply.new.groups c.args.index c.holding-before.result _ c.note.ensures c.holding-before.ensures refl (put_others c.args.groups.now c.obtain-reply.new.groups c.args.index _ c.obtain-reply.ensures.semaphore)))

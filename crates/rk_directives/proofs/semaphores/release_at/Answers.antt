use Rattle.std.proofs.Common.{inl, inr, ap, refl, sym, subst, ◌∙◌}
use Rattle.rk_queue.proofs.QueueLemmas.{queue_few}
use Rattle.rk_model.specs.State.{Plain, SemaphoreState}
use Rattle.rk_model.specs.Directives.Semaphores.{up_to_date}
use Rattle.rk_groups.specs.Groups.{PutsSemaphore}
use Rattle.rk_groups.specs.GroupObjects.{semaphore_lent}
use Rattle.rk_parts.specs.Holdings.{holding_of}
use Rattle.rk_directives.specs.Does.{AllLive, lent_both, woken}
use Rattle.rk_directives.proofs.KeptHoldingLemmas.{noted_held, noted_live, noted_then, put_others, still_held}
use Rattle.rk_directives.proofs.DirectiveLemmas.LentSemaphoresLemmas.{IsPrepared, prepared_live, prepared_owners, put_there, released_owner, releases_prepared}
use Rattle.rk_directives.proofs.semaphores.release_at.Goals.{then-serves, else-serves}
use Rattle.rk_directives.proofs.semaphores.release_at.Goals as goal

pub bring_up_to_date-requires-clause-few : goal.bring_up_to_date-requires-clause-few
bring_up_to_date-requires-clause-few c = queue_few (semaphore_lent c.args.groups.now c.args.index).queue.arrivals (semaphore_lent c.args.groups.now c.args.index).queue.turns c.serves.ensures.queue

-- a new owner is the one that was served
pub note-requires-clause-lives : goal.note-requires-clause-lives
note-requires-clause-lives c = λ other t is.
    let old = c.args.clusters.now in
    let groups = c.args.groups.now in
    let mid = c.if-serves.groups in
    let i = c.args.index in
    let prepared : IsPrepared old groups c.args.caller i mid = elim c.if-serves.branch [ then-serves w ↦ inl (sym c.serves.ensures.value ∙ w.if-serves.true, subst (λ gs. PutsSemaphore c.args.groups.now c.args.index (up_to_date (lent_both c.args.clusters.now c.args.groups.now) (semaphore_lent c.args.groups.now c.args.index)) gs) (sym w.groups-is) w.bring_up_to_date.ensures) | else-serves w ↦ inr (sym c.serves.ensures.value ∙ w.if-serves.false, w.groups-is) ] in
    let live = prepared_live old groups mid c.args.caller i c.requires.low c.requires.high c.requires.queue prepared in
    let there = put_there mid c.release-reply.new.groups i _ c.requires.low c.requires.high c.release-reply.ensures.semaphore in
    released_owner old c.args.caller t (semaphore_lent mid i) live (ap (λ (x : SemaphoreState). x.owner) (sym there) ∙ is) (λ e. other (ap holding_of there ∙ e ∙ prepared_owners old groups mid c.args.caller i prepared i ∙ sym c.holding-before.ensures))

pub wake_all-requires : goal.wake_all-requires
wake_all-requires c =
    let prepared : IsPrepared c.args.clusters.now c.args.groups.now c.args.caller c.args.index c.if-serves.groups = elim c.if-serves.branch [ then-serves w ↦ inl (sym c.serves.ensures.value ∙ w.if-serves.true, subst (λ gs. PutsSemaphore c.args.groups.now c.args.index (up_to_date (lent_both c.args.clusters.now c.args.groups.now) (semaphore_lent c.args.groups.now c.args.index)) gs) (sym w.groups-is) w.bring_up_to_date.ensures) | else-serves w ↦ inr (sym c.serves.ensures.value ∙ w.if-serves.false, w.groups-is) ] in
    let live = prepared_live c.args.clusters.now c.args.groups.now c.if-serves.groups c.args.caller c.args.index c.requires.low c.requires.high c.requires.queue prepared in
    noted_live c.args.clusters.now c.note.new.clusters c.args.index c.holding-before.result _ _ c.note.ensures (subst (AllLive c.args.clusters.now) (sym (c.wakes_of.ensures ∙ c.release-reply.ensures.woken)) live)

pub returns : goal.returns
returns c = λ s.
    let old = c.args.clusters.now in
    let groups = c.args.groups.now in
    let mid = c.if-serves.groups in
    let now = c.release-reply.new.groups in
    let i = c.args.index in
    let prepared : IsPrepared old groups c.args.caller i mid = elim c.if-serves.branch [ then-serves w ↦ inl (sym c.serves.ensures.value ∙ w.if-serves.true, subst (λ gs. PutsSemaphore c.args.groups.now c.args.index (up_to_date (lent_both c.args.clusters.now c.args.groups.now) (semaphore_lent c.args.groups.now c.args.index)) gs) (sym w.groups-is) w.bring_up_to_date.ensures) | else-serves w ↦ inr (sym c.serves.ensures.value ∙ w.if-serves.false, w.groups-is) ] in
    releases_prepared s old c.wake_all.new.clusters groups mid now c.args.caller i _ c.release-reply.result c.answered.result c.requires.low c.requires.high c.serves.ensures.queue prepared c.answered.ensures c.release-reply.ensures.reply c.release-reply.ensures.semaphore (c.wakes_of.ensures ∙ c.release-reply.ensures.woken)
    (noted_then s (λ (k : Plain). woken k c.wakes_of.result.now) old c.note.new.clusters c.wake_all.new.clusters i c.holding-before.result _ c.note.ensures (c.wake_all.ensures s))
    (λ h. still_held c.note.new.clusters c.wake_all.new.clusters now now (c.wake_all.ensures s).held (λ j. refl)
    (noted_held old c.note.new.clusters groups now i c.holding-before.result _ c.note.ensures c.holding-before.ensures refl (λ j other. put_others mid now i _ c.release-reply.ensures.semaphore j other ∙ prepared_owners old groups mid c.args.caller i prepared j) h))

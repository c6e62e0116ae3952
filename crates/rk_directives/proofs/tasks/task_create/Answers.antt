use Rattle.std.proofs.Common.{◌≡◌, ℕ, refl, ap, ◌∙◌, None}
use Rattle.rk_model.specs.declared.ids.Class.TheVariants.{Task}
use Rattle.rk_model.specs.Directives.Objects.{has_begun}
use Rattle.rk_model.specs.declared.entry.Answer.TheVariants.{Done}
use Rattle.rk_model.specs.declared.status.Status.TheVariants.{Successful}
use Rattle.rk_model.specs.State.{Plain, thread_at, put_thread}
use Rattle.rk_model.specs.Directives.Tasks.{dormant_in}
use Rattle.rk_model.specs.declared.state.Thread.{Thread}
use Rattle.rk_parts.specs.Joined.{thread_lent}
use Rattle.rk_parts.specs.Lent.{Replaces}
use Rattle.rk_directives.proofs.NamesAgreeLemmas.{first_absent}
use Rattle.rk_directives.proofs.DirectiveLemmas.ObjectsLemmas.{created, refused}
use Rattle.rk_directives.proofs.DirectiveLemmas.LentLemmas.{home_known}
use Rattle.rk_directives.proofs.tasks.task_create.Goals as goal

pub make-requires-clause-absent : goal.make-requires-clause-absent
make-requires-clause-absent c = rw c.new-in-Ok.ensures (first_absent c.args.names.now.tasks (λ t. has_begun (thread_lent c.args.clusters.now t).life) c.in-Ok.index c.requires.named c.in-Ok.ensures.first)

pub returns-in-Err : goal.returns-in-Err
returns-in-Err c = λ s.
    rw (← c.prio_refusal.ensures)
    (refused s Task c.args.name.bits c.prio_refusal.result (λ (k : Plain) (index : ℕ) (next : Plain). put_thread next index (dormant_in (thread_at k c.args.caller).home c.args.prio)) c.in-Err.status c.args.clusters.now c.args.names.now c.create.new.table c.in-Err.ensures.made)

pub returns-in-Ok : goal.returns-in-Ok
returns-in-Ok c = λ s.
    let old = c.args.clusters.now in
    let new = c.make.new.clusters in
    let table = c.args.names.now in
    let home : c.thread_of-home.result.home ≡ (thread_lent old c.args.caller).home = ap (λ (x : Thread). x.home) c.thread_of-home.ensures in
    let task : c.dormant_in-task.result ≡ dormant_in (thread_lent old c.args.caller).home c.args.prio = c.dormant_in-task.ensures ∙ (rw (home, c.new.ensures) refl) in
    let replaces : Replaces old c.in-Ok.index (dormant_in (thread_lent old c.args.caller).home c.args.prio) new = rw (← task, ← c.new-in-Ok.ensures) c.make.ensures in
    rw (← c.prio_refusal.ensures)
    (created s Task c.args.name.bits c.in-Ok.index c.prio_refusal.result (λ (k : Plain) (index : ℕ) (next : Plain). put_thread next index (dormant_in (thread_at k c.args.caller).home c.args.prio)) c.done.result old new table c.create.new.table c.in-Ok.ensures.made
    (c.done.ensures ∙ ap (λ bits. Done Successful bits None) c.of.ensures)
    (λ groups lies. replaces.state s c.create.new.table groups lies)
    (λ lies. replaces.laid s.clusters lies (λ h. home_known s.clusters old c.args.caller lies c.requires.lives))
    replaces.kept
    replaces.accounts
    replaces.held)

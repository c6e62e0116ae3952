use Rattle.std.proofs.Common.{sym, ◌∙◌}
use Rattle.rk_model.specs.declared.ids.Class.TheVariants.{Semaphore}
use Rattle.rk_model.specs.declared.status.Status.TheVariants.{Unsatisfied}
use Rattle.rk_model.specs.State.{Plain, semaphore_at}
use Rattle.rk_model.specs.Directives.Objects.{object_named}
use Rattle.rk_model.specs.Directives.Outcomes.{done}
use Rattle.rk_model.specs.Directives.Semaphores.{flushed, emptied_at}
use Rattle.rk_directives.proofs.DirectiveLemmas.LentLemmas.{unknown_both, found_both}
use Rattle.rk_directives.proofs.DirectiveLemmas.LentSemaphoresLemmas.{done_both}
use Rattle.rk_directives.proofs.semaphores.semaphore_flush.Goals as goal

pub flush_at-requires-clause-queue : goal.flush_at-requires-clause-queue
flush_at-requires-clause-queue c = c.requires.queue c.in-Some.index (sym c.semaphore_named.ensures.found ∙ c.in-Some.is)

pub returns-in-None : goal.returns-in-None
returns-in-None c = λ s. unknown_both s c.args.clusters.now c.args.groups.now (λ (k : Plain). object_named k c.args.caller Semaphore c.args.id) (λ (k : Plain) i. done 0 (emptied_at k i (flushed (semaphore_at k i)) Unsatisfied)) (λ table. sym c.semaphore_named.ensures.found ∙ c.in-None.is)

pub returns-in-Some : goal.returns-in-Some
returns-in-Some c = λ s.
    found_both s c.args.clusters.now c.flush_at.new.clusters c.args.groups.now c.flush_at.new.groups (λ (k : Plain). object_named k c.args.caller Semaphore c.args.id) (λ (k : Plain) i. done 0 (emptied_at k i (flushed (semaphore_at k i)) Unsatisfied)) c.in-Some.index c.done.result
    (λ table. sym c.semaphore_named.ensures.found ∙ c.in-Some.is) (done_both s (λ (k : Plain). emptied_at k c.in-Some.index (flushed (semaphore_at k c.in-Some.index)) Unsatisfied) c.args.clusters.now c.flush_at.new.clusters c.args.groups.now c.flush_at.new.groups c.done.result c.done.ensures (c.flush_at.ensures s))

use Rattle.std.proofs.Common.{sym, ◌∙◌}
use Rattle.rk_model.specs.declared.ids.Class.TheVariants.{Semaphore}
use Rattle.rk_model.specs.State.{Plain, semaphore_at}
use Rattle.rk_model.specs.Directives.Objects.{object_named}
use Rattle.rk_model.specs.Directives.Semaphores.{obtaining, reaches_from, obtained_at}
use Rattle.rk_model.specs.Directives.Waits.{caller_at}
use Rattle.rk_directives.proofs.DirectiveLemmas.LentLemmas.{unknown_both, found_both}
use Rattle.rk_directives.proofs.semaphores.semaphore_obtain.Goals as goal

pub obtain_at-requires-clause-queue : goal.obtain_at-requires-clause-queue
obtain_at-requires-clause-queue c = c.requires.queue c.in-Some.index (sym c.semaphore_named.ensures.found ∙ c.in-Some.is)

pub returns-in-None : goal.returns-in-None
returns-in-None c = λ s. unknown_both s c.args.clusters.now c.args.groups.now (λ (k : Plain). object_named k c.args.caller Semaphore c.args.id) (λ (k : Plain) i. obtained_at k c.args.caller i (obtaining (caller_at k c.args.caller) c.args.wish (reaches_from k (semaphore_at k i).owner c.args.caller) (semaphore_at k i))) (λ table. sym c.semaphore_named.ensures.found ∙ c.in-None.is)

pub returns-in-Some : goal.returns-in-Some
returns-in-Some c = λ s.
    found_both s c.args.clusters.now c.obtain_at.new.clusters c.args.groups.now c.obtain_at.new.groups (λ (k : Plain). object_named k c.args.caller Semaphore c.args.id) (λ (k : Plain) i. obtained_at k c.args.caller i (obtaining (caller_at k c.args.caller) c.args.wish (reaches_from k (semaphore_at k i).owner c.args.caller) (semaphore_at k i))) c.in-Some.index c.obtain_at.result
    (λ table. sym c.semaphore_named.ensures.found ∙ c.in-Some.is) (c.obtain_at.ensures s)

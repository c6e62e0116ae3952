use Rattle.std.proofs.Common.{refl}
use Rattle.rk_model.specs.declared.ids.Class.TheVariants.{Semaphore}
use Rattle.rk_model.specs.Directives.Waits.{OfSemaphore}
use Rattle.rk_directives.proofs.DirectiveLemmas.LentLemmas.{all_every}
use Rattle.rk_directives.proofs.actions.perform_semaphore_delete.Goals as goal

pub semaphore_delete-requires-clause-named : goal.semaphore_delete-requires-clause-named
semaphore_delete-requires-clause-named c = c.requires.acts.sound.named.class Semaphore

pub semaphore_delete-requires-clause-queue : goal.semaphore_delete-requires-clause-queue
semaphore_delete-requires-clause-queue c = λ i _ t. c.requires.acts.sound.tied.queued t refl (OfSemaphore i)

pub returns : goal.returns
returns c = all_every c.args.all.now _ _ _ _ _ c.requires.whole (c.semaphore_delete.ensures c.args.all.now.scenario)

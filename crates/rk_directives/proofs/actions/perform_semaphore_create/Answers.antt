use Rattle.rk_model.specs.declared.ids.Class.TheVariants.{Semaphore}
use Rattle.rk_parts.proofs.WholeLemmas.{all_semaphores_lent}
use Rattle.rk_directives.proofs.DirectiveLemmas.LentLemmas.{all_every}
use Rattle.rk_directives.proofs.actions.perform_semaphore_create.Goals as goal

pub semaphore_create-requires-clause-named : goal.semaphore_create-requires-clause-named
semaphore_create-requires-clause-named c = c.requires.acts.sound.named.class Semaphore

pub semaphore_create-requires-clause-lent : goal.semaphore_create-requires-clause-lent
semaphore_create-requires-clause-lent c = λ i low high. all_semaphores_lent c.args.all.now i c.requires.whole low high

pub returns : goal.returns
returns c = all_every c.args.all.now _ _ _ _ _ c.requires.whole (c.semaphore_create.ensures c.args.all.now.scenario)

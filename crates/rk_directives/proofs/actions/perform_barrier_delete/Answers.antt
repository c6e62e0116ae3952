use Rattle.std.proofs.Common.{refl}
use Rattle.rk_model.specs.declared.ids.Class.TheVariants.{Barrier}
use Rattle.rk_model.specs.Directives.Waits.{OfBarrier}
use Rattle.rk_directives.proofs.DirectiveLemmas.LentLemmas.{all_every}
use Rattle.rk_directives.proofs.actions.perform_barrier_delete.Goals as goal

pub barrier_delete-requires-clause-named : goal.barrier_delete-requires-clause-named
barrier_delete-requires-clause-named c = c.requires.acts.sound.named.class Barrier

pub barrier_delete-requires-clause-queue : goal.barrier_delete-requires-clause-queue
barrier_delete-requires-clause-queue c = λ i _ t. c.requires.acts.sound.tied.queued t refl (OfBarrier i)

pub returns : goal.returns
returns c = all_every c.args.all.now _ _ _ _ _ c.requires.whole (c.barrier_delete.ensures c.args.all.now.scenario)

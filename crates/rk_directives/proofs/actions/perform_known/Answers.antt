use Rattle.std.proofs.Common.{refl}
use Rattle.rk_parts.specs.Joined.{plain_of}
use Rattle.rk_directives.proofs.DirectiveLemmas.LentLemmas.{all_both, all_tells, caller_unarmed}
use Rattle.rk_directives.proofs.DirectiveLemmas.PeriodsLemmas.{may_call}
use Rattle.rk_directives.proofs.actions.perform_known.Goals as goal

pub perform_narrow-requires-clause-period : goal.perform_narrow-requires-clause-period
perform_narrow-requires-clause-period c = λ i _. may_call c.args.all.now c.args.caller i c.requires.whole c.requires.acts

pub perform_narrow-requires-clause-unarmed : goal.perform_narrow-requires-clause-unarmed
perform_narrow-requires-clause-unarmed c = caller_unarmed c.args.all.now c.args.caller c.requires.whole c.requires.acts

pub perform_narrow-requires-clause-free : goal.perform_narrow-requires-clause-free
perform_narrow-requires-clause-free c = c.requires.acts.waits_not

pub perform_narrow-requires-clause-held : goal.perform_narrow-requires-clause-held
perform_narrow-requires-clause-held c = c.requires.whole.held

pub perform_narrow-requires-clause-queue : goal.perform_narrow-requires-clause-queue
perform_narrow-requires-clause-queue c = λ object _ t. c.requires.acts.sound.tied.queued t refl object

pub perform_narrow-requires-clause-owned : goal.perform_narrow-requires-clause-owned
perform_narrow-requires-clause-owned c = λ i t owner. c.requires.acts.sound.chained.owners i t owner

pub returns-in-TaskIdent : goal.returns-in-TaskIdent
returns-in-TaskIdent c = rw c.in-TaskIdent.is (all_tells c.args.all.now _ _ c.requires.whole (c.task_ident.ensures (plain_of c.args.all.now)))

pub returns-in-TaskDelete : goal.returns-in-TaskDelete
returns-in-TaskDelete c = rw c.in-TaskDelete.is c.perform_task_delete.ensures

pub returns-in-SemIdent : goal.returns-in-SemIdent
returns-in-SemIdent c = rw c.in-SemIdent.is (all_tells c.args.all.now _ _ c.requires.whole (c.semaphore_ident.ensures (plain_of c.args.all.now)))

pub returns-in-SemDelete : goal.returns-in-SemDelete
returns-in-SemDelete c = rw c.in-SemDelete.is c.perform_semaphore_delete.ensures

pub returns-in-BarrierIdent : goal.returns-in-BarrierIdent
returns-in-BarrierIdent c = rw c.in-BarrierIdent.is (all_tells c.args.all.now _ _ c.requires.whole (c.barrier_ident.ensures (plain_of c.args.all.now)))

pub returns-in-BarrierDelete : goal.returns-in-BarrierDelete
returns-in-BarrierDelete c = rw c.in-BarrierDelete.is c.perform_barrier_delete.ensures

pub returns-in-PartIdent : goal.returns-in-PartIdent
returns-in-PartIdent c = rw c.in-PartIdent.is (all_tells c.args.all.now _ _ c.requires.whole (c.partition_ident.ensures (plain_of c.args.all.now)))

pub returns-in-PartDelete : goal.returns-in-PartDelete
returns-in-PartDelete c = rw c.in-PartDelete.is c.perform_partition_delete.ensures

pub returns-in-PeriodIdent : goal.returns-in-PeriodIdent
returns-in-PeriodIdent c = rw c.in-PeriodIdent.is (all_tells c.args.all.now _ _ c.requires.whole (c.period_ident.ensures (plain_of c.args.all.now)))

pub returns-in-PeriodDelete : goal.returns-in-PeriodDelete
returns-in-PeriodDelete c = rw c.in-PeriodDelete.is c.perform_period_delete.ensures

pub returns-in_default : goal.returns-in_default
returns-in_default c = all_both c.args.all.now _ _ _ _ c.requires.whole c.perform_narrow.ensures

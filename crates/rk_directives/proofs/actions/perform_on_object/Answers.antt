use Rattle.std.proofs.Common.{subst}
use Rattle.rk_model.specs.Limits.{IsNear}
use Rattle.rk_directives.proofs.actions.perform_on_object.Goals as goal

pub returns-in-SemObtain : goal.returns-in-SemObtain
returns-in-SemObtain c = λ s. rw c.in-SemObtain.is (c.semaphore_obtain.ensures s)

pub returns-in-SemRelease : goal.returns-in-SemRelease
returns-in-SemRelease c = λ s. rw c.in-SemRelease.is (c.semaphore_release.ensures s)

pub returns-in-SemFlush : goal.returns-in-SemFlush
returns-in-SemFlush c = λ s. rw c.in-SemFlush.is (c.semaphore_flush.ensures s)

pub semaphore_set_priority-requires-clause-near : goal.semaphore_set_priority-requires-clause-near
semaphore_set_priority-requires-clause-near c = subst IsNear c.in-SemSetPriority.is c.requires.near

pub returns-in-SemSetPriority : goal.returns-in-SemSetPriority
returns-in-SemSetPriority c = λ s. rw c.in-SemSetPriority.is (c.semaphore_set_priority.ensures s)

pub returns-in-BarrierWait : goal.returns-in-BarrierWait
returns-in-BarrierWait c = λ s. rw c.in-BarrierWait.is (c.barrier_wait.ensures s)

pub returns-in-BarrierRelease : goal.returns-in-BarrierRelease
returns-in-BarrierRelease c = λ s. rw c.in-BarrierRelease.is (c.barrier_release.ensures s)

pub returns-in-PartGet : goal.returns-in-PartGet
returns-in-PartGet c = λ s. rw c.in-PartGet.is (c.partition_get.ensures s)

pub returns-in-PartReturn : goal.returns-in-PartReturn
returns-in-PartReturn c = λ s. rw c.in-PartReturn.is (c.partition_return.ensures s)

pub returns-in-PeriodPeriod : goal.returns-in-PeriodPeriod
returns-in-PeriodPeriod c = λ s. rw c.in-PeriodPeriod.is (c.period_period.ensures s)

pub returns-in-PeriodCancel : goal.returns-in-PeriodCancel
returns-in-PeriodCancel c = λ s. rw c.in-PeriodCancel.is (c.period_cancel.ensures s)

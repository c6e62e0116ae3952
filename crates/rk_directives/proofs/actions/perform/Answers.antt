use Rattle.rk_model.specs.declared.ids.Class.TheVariants.{Task, Barrier, Partition, Period}
use Rattle.rk_parts.proofs.WholeLemmas.{all_groups_lent, all_partitions_lent, all_periods_lent}
use Rattle.rk_directives.proofs.DirectiveLemmas.LentLemmas.{all_grouped, all_wide, caller_lent, home_priorities}
use Rattle.rk_directives.proofs.actions.perform.Goals as goal

pub task_create-requires-clause-lent : goal.task_create-requires-clause-lent
task_create-requires-clause-lent c = caller_lent c.args.all.now c.args.caller c.requires.whole c.requires.acts

pub task_create-requires-clause-named : goal.task_create-requires-clause-named
task_create-requires-clause-named c = c.requires.acts.sound.named.class Task

pub barrier_create-requires-clause-named : goal.barrier_create-requires-clause-named
barrier_create-requires-clause-named c = c.requires.acts.sound.named.class Barrier

pub barrier_create-requires-clause-lent : goal.barrier_create-requires-clause-lent
barrier_create-requires-clause-lent c = λ i low high. all_groups_lent c.args.all.now i c.requires.whole low high

pub partition_create-requires-clause-named : goal.partition_create-requires-clause-named
partition_create-requires-clause-named c = c.requires.acts.sound.named.class Partition

pub partition_create-requires-clause-lent : goal.partition_create-requires-clause-lent
partition_create-requires-clause-lent c = λ i low high. all_partitions_lent c.args.all.now i c.requires.whole low high

pub period_create-requires-clause-named : goal.period_create-requires-clause-named
period_create-requires-clause-named c = c.requires.acts.sound.named.class Period

pub period_create-requires-clause-lent : goal.period_create-requires-clause-lent
period_create-requires-clause-lent c = λ i low high. all_periods_lent c.args.all.now i c.requires.whole low high

pub perform_semaphore_create-requires-clause-prios : goal.perform_semaphore_create-requires-clause-prios
perform_semaphore_create-requires-clause-prios c = home_priorities c.args.all.now.clusters c.args.all.now.groups c.requires.each

pub returns-in-TaskCreate : goal.returns-in-TaskCreate
returns-in-TaskCreate c = rw c.in-TaskCreate.is (all_wide c.args.all.now _ _ _ _ c.requires.whole (c.task_create.ensures c.args.all.now.scenario))

pub returns-in-SemCreate : goal.returns-in-SemCreate
returns-in-SemCreate c = rw c.in-SemCreate.is c.perform_semaphore_create.ensures

pub returns-in-BarrierCreate : goal.returns-in-BarrierCreate
returns-in-BarrierCreate c = rw c.in-BarrierCreate.is (all_grouped c.args.all.now _ _ _ _ c.requires.whole (c.barrier_create.ensures c.args.all.now.scenario))

pub returns-in-PartCreate : goal.returns-in-PartCreate
returns-in-PartCreate c = rw c.in-PartCreate.is (all_grouped c.args.all.now _ _ _ _ c.requires.whole (c.partition_create.ensures c.args.all.now.scenario))

pub returns-in-PeriodCreate : goal.returns-in-PeriodCreate
returns-in-PeriodCreate c = rw c.in-PeriodCreate.is (all_grouped c.args.all.now _ _ _ _ c.requires.whole (c.period_create.ensures c.args.all.now.scenario))

use Rattle.rk_directives.proofs.DirectiveLemmas.LentLemmas.{does_both, home_priorities}
use Rattle.rk_directives.proofs.actions.perform_narrow.Goals as goal

pub returns-in-TaskStart : goal.returns-in-TaskStart
returns-in-TaskStart c = rw c.in-TaskStart.is (does_both _ _ _ _ _ _ c.task_start.ensures)

pub returns-in-TaskSuspend : goal.returns-in-TaskSuspend
returns-in-TaskSuspend c = rw c.in-TaskSuspend.is (does_both _ _ _ _ _ _ (c.task_suspend.ensures c.args.scenario.now))

pub returns-in-TaskResume : goal.returns-in-TaskResume
returns-in-TaskResume c = rw c.in-TaskResume.is (does_both _ _ _ _ _ _ (c.task_resume.ensures c.args.scenario.now))

pub task_set_priority-requires-clause-prios : goal.task_set_priority-requires-clause-prios
task_set_priority-requires-clause-prios c = home_priorities c.args.clusters.now c.args.groups.now c.requires.each

pub returns-in-TaskSetPriority : goal.returns-in-TaskSetPriority
returns-in-TaskSetPriority c = rw c.in-TaskSetPriority.is (c.task_set_priority.ensures c.args.scenario.now)

pub returns-in-TaskGetPriority : goal.returns-in-TaskGetPriority
returns-in-TaskGetPriority c = rw c.in-TaskGetPriority.is (c.task_get_priority.ensures c.args.scenario.now)

pub returns-in-TaskWakeAfter : goal.returns-in-TaskWakeAfter
returns-in-TaskWakeAfter c = rw c.in-TaskWakeAfter.is (does_both _ _ _ _ _ _ (c.task_wake_after.ensures c.args.scenario.now))

pub returns-in-EventReceive : goal.returns-in-EventReceive
returns-in-EventReceive c = rw c.in-EventReceive.is (does_both _ _ _ _ _ _ (c.event_receive.ensures c.args.scenario.now))

pub returns-in-Work : goal.returns-in-Work
returns-in-Work c = rw c.in-Work.is (does_both _ _ _ _ _ _ (c.task_exit.ensures c.args.scenario.now))

pub returns-in-Goto : goal.returns-in-Goto
returns-in-Goto c = rw c.in-Goto.is (does_both _ _ _ _ _ _ (c.task_exit-in-Goto.ensures c.args.scenario.now))

pub returns-in-EventSend : goal.returns-in-EventSend
returns-in-EventSend c = rw c.in-EventSend.is (c.event_send.ensures c.args.scenario.now)

pub perform_on_object-requires-clause-prios : goal.perform_on_object-requires-clause-prios
perform_on_object-requires-clause-prios c = home_priorities c.args.clusters.now c.args.groups.now c.requires.each

pub returns-in_default : goal.returns-in_default
returns-in_default c = c.perform_on_object.ensures c.args.scenario.now

-- The directives of the task manager.
use Rattle.std.specs.Prelude.{ℕ, Bool, true, false, ◌||◌, ◌&&◌, List, [], ◌∷◌, nat_lt, Option, Some, None, ◌==◌, if◌then◌else◌}
use Rattle.rk_model.specs.declared.limits.TheConstants.{LEAST_URGENT}
use Rattle.rk_model.specs.declared.status.Status.{Status}
use Rattle.rk_model.specs.declared.status.Status.TheVariants.{Successful, TaskExitted, IncorrectState, AlreadySuspended, InvalidPriority, NotDefined, ResourceInUse}
use Rattle.rk_model.specs.declared.ids.Class.TheVariants.{Task}
use Rattle.rk_model.specs.declared.scenario.Target.{Target}
use Rattle.rk_model.specs.declared.scenario.Target.TheVariants.{Var, Own, Given}
use Rattle.rk_model.specs.declared.state.Life.{Life}
use Rattle.rk_model.specs.declared.state.Thread.{Thread}
use Rattle.rk_model.specs.declared.state.Life.TheVariants.{Absent, Dormant, Started, Ended}
use Rattle.rk_model.specs.declared.state.Wait.TheVariants.{ForTime}
use Rattle.rk_model.specs.declared.state.Armer.TheVariants.{Thread as OfThread}
use Rattle.rk_model.specs.State.{Plain, PeriodState, no_thread, thread_at, put_thread}
use Rattle.rk_model.specs.Scheduling.Timers.{cancel}
use Rattle.rk_model.specs.Directives.Objects.{object_of, create, ident, without_object}
use Rattle.rk_model.specs.Scheduling.Priorities.{home_prio, prio}
use Rattle.rk_model.specs.Directives.Outcomes.{Outcome, Refused, Done, Waiting, Gone, done, on_found, arrived, var_at}
use Rattle.rk_model.specs.Directives.Semaphores.{has_obtained}
use Rattle.rk_model.specs.Directives.Waits.{begin_limited, leave}

-- the task that a caller asks for by these bits: itself by 0, and else the live task whose id they are
abbrev pub task_of : Plain → ℕ → ℕ → Option ℕ
task_of k t bits = if bits == 0 then Some t else object_of k Task bits

-- The task that a caller asks for: itself by `self`, and else by the value of its variable or by a number. There is none where the id is unknown.
abbrev pub task_named : Plain → ℕ → Target → Option ℕ
task_named k t (Var var) = task_of k t (var_at k t var)
task_named k t Own = Some t
task_named k t (Given bits) = task_of k t bits

-- a task that was created with this home and this base priority
abbrev pub dormant_in : ℕ → ℕ → Thread
dormant_in home prio = record no_thread { life = Dormant; home = home; base = prio }

-- why a task can't be created with a priority, if it can't
abbrev pub prio_refusal : ℕ → Option Status
prio_refusal prio = if (prio == 0) || nat_lt LEAST_URGENT prio then Some InvalidPriority else None

-- task.create (rtems_task_create): INVALID_NAME where the name is 0; INVALID_PRIORITY where the priority is 0 or above 255; TOO_MANY where 64 tasks live; else a dormant task with the caller's home, which isn't suspended and whose variables are all 0. Out: its id.
abbrev pub task_create : Plain → ℕ → ℕ → ℕ → Outcome
task_create k t name prio =
    create k Task name (prio_refusal prio) (λ index next. put_thread next index (dormant_in (thread_at k t).home prio))

-- task.ident (rtems_task_ident): INVALID_NAME where no live task has the name. Out: the id of the live task of least index that has it.
abbrev pub task_ident : Plain → ℕ → Outcome
task_ident k name = ident k Task name

-- created, and not started yet
abbrev pub is_dormant : Life → Bool
is_dormant Absent = false
is_dormant Dormant = true
is_dormant Started = false
is_dormant Ended = false

-- the state in which a task is started at the first line of a body
abbrev pub with_started : Plain → ℕ → ℕ → Plain
with_started k u body = put_thread k u (arrived k.scenario (record (thread_at k u) { life = Started; body = body }) 1)

-- task.start (rtems_task_start): INVALID_ID where the task is unknown; INCORRECT_STATE where it isn't dormant; else it is started at line 1 of the body.
abbrev pub task_start : Plain → ℕ → Target → ℕ → Outcome
task_start k t id body =
    on_found (task_named k t id) (λ u. if is_dormant (thread_at k u).life then done 0 (with_started k u body) else Refused IncorrectState)

-- the state in which a task is suspended, or isn't
abbrev pub with_suspended : Plain → ℕ → Bool → Plain
with_suspended k u suspended = put_thread k u (record (thread_at k u) { suspended = suspended })

-- task.suspend (rtems_task_suspend): INVALID_ID where the task is unknown; ALREADY_SUSPENDED where it is suspended; else it is suspended, and a wait of its own and the timer go on.
abbrev pub task_suspend : Plain → ℕ → Target → Outcome
task_suspend k t id =
    on_found (task_named k t id) (λ u. if (thread_at k u).suspended then Refused AlreadySuspended else done 0 (with_suspended k u true))

-- task.resume (rtems_task_resume): INVALID_ID where the task is unknown; INCORRECT_STATE where it isn't suspended; else it is no longer suspended.
abbrev pub task_resume : Plain → ℕ → Target → Outcome
task_resume k t id =
    on_found (task_named k t id) (λ u. if (thread_at k u).suspended then done 0 (with_suspended k u false) else Refused IncorrectState)

-- the state in which a task has this base priority
abbrev pub with_base : Plain → ℕ → ℕ → Plain
with_base k u prio = put_thread k u (record (thread_at k u) { base = prio })

-- task.set_priority (rtems_task_set_priority): INVALID_ID where the task is unknown; INVALID_PRIORITY where the priority is above 255; with 0 nothing changes; else the base priority is set, and the task goes to the end of its ready queue if it is eligible. Out: its priority in its home before the call.
abbrev pub task_set_priority : Plain → ℕ → Target → ℕ → Outcome
task_set_priority k t id prio =
    on_found (task_named k t id) (λ u.
    if nat_lt LEAST_URGENT prio then Refused InvalidPriority
    else (if prio == 0 then done (home_prio k u) k
    else Done Successful (home_prio k u) (with_base k u prio) (Some u)))

-- the priority of a task, if it has one
abbrev pub told_prio : Plain → Option ℕ → Outcome
told_prio k None = Refused NotDefined
told_prio k (Some p) = done p k

-- task.get_priority (rtems_task_get_priority): INVALID_ID where the task is unknown; NOT_DEFINED where it has no priority in the named cluster. Out: its priority there.
abbrev pub task_get_priority : Plain → ℕ → Target → ℕ → Outcome
task_get_priority k t id c = on_found (task_named k t id) (λ u. told_prio k (prio k u c))

-- the state in which a task lives no longer: it has left the queue of what it waited for, its timer is cancelled, its index is free, and nothing is left of it
abbrev pub without_task : Plain → ℕ → Plain
without_task k u = without_object (put_thread (cancel (leave k u) (thread_at k u).home (OfThread u)) u no_thread) Task u

-- whether a thread created one of these periods that lives
abbrev pub has_created : List PeriodState → ℕ → Bool
has_created [] u = false
has_created (period ∷ periods) u = (period.live && (period.creator == u)) || has_created periods u

-- a task is deleted, which a caller that deletes itself doesn't outlive
abbrev pub task_removed : Plain → ℕ → ℕ → Outcome
task_removed k t u = if u == t then Gone Successful (without_task k u) else done 0 (without_task k u)

-- task.delete (rtems_task_delete): INVALID_ID where the task is unknown; RESOURCE_IN_USE where it owns a semaphore or created a period that lives; else it leaves its queue, its timer is cancelled and it lives no longer. A caller that deletes itself has no next line.
abbrev pub task_delete : Plain → ℕ → Target → Outcome
task_delete k t id =
    on_found (task_named k t id) (λ u. if has_obtained k.semaphores u || has_created k.periods u then Refused ResourceInUse else task_removed k t u)

-- task.exit (rtems_task_exit): the task is ended, and stays at its place.
abbrev pub task_exit : Plain → ℕ → Outcome
task_exit k t = Gone TaskExitted (put_thread k t (record (thread_at k t) { life = Ended }))

-- task.wake_after (rtems_task_wake_after): with 0 ticks the caller goes to the end of its ready queue, and else it waits for so many ticks.
abbrev pub task_wake_after : Plain → ℕ → ℕ → Outcome
task_wake_after k t ticks = if ticks == 0 then Done Successful 0 k (Some t) else Waiting (begin_limited k t ForTime ticks)

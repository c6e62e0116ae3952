-- What the calls on the semaphores of a group change, what they answer, and whose waits they end.
use Rattle.std.specs.Prelude.{ℕ, Bool, true, false, List, [], ◌∷◌, if◌then◌else◌}
use Rattle.rk_model.specs.declared.entry.Reply.{Reply}
use Rattle.rk_model.specs.declared.scenario.Wish.{Wish}
use Rattle.rk_model.specs.declared.status.Status.TheVariants.{Successful, Unsatisfied, ObjectWasDeleted}
use Rattle.rk_model.specs.declared.waiting.Caller.{Caller}
use Rattle.rk_model.specs.declared.waiting.Wake.{Wake}
use Rattle.rk_model.specs.State.{SemaphoreState}
use Rattle.rk_model.specs.Queues.{ended}
use Rattle.rk_model.specs.Directives.Semaphores.{Releasing, NotReleased, Unnests, Serves, Frees, is_owned, obtaining, after_obtaining, status_of_obtaining, releasing, after_releasing, status_of_releasing, setting_ceiling, after_setting, reply_to_setting, status_of_deleting}
use Rattle.rk_model.specs.Directives.Waits.{bare}

-- ---- rtems_semaphore_obtain

-- the semaphore after an obtain
abbrev pub obtained : Caller → Wish → Bool → SemaphoreState → SemaphoreState
obtained by wish closes sem = after_obtaining (obtaining by wish closes sem) by sem

-- the answer to it
abbrev pub reply_to_obtain : Caller → Wish → Bool → SemaphoreState → Reply
reply_to_obtain by wish closes sem = bare (status_of_obtaining (obtaining by wish closes sem))

-- ---- rtems_semaphore_release

-- whether it serves a waiter
abbrev pub is_serving : Releasing → Bool
is_serving (NotReleased status) = false
is_serving Unnests = false
is_serving (Serves u) = true
is_serving Frees = false

-- whether a release by a thread would serve a waiter
abbrev pub serves : ℕ → SemaphoreState → Bool
serves by sem = is_serving (releasing by sem)

-- the semaphore after a release
abbrev pub released : ℕ → SemaphoreState → SemaphoreState
released by sem = after_releasing (releasing by sem) sem

-- the answer to it
abbrev pub reply_to_release : ℕ → SemaphoreState → Reply
reply_to_release by sem = bare (status_of_releasing (releasing by sem))

-- the waits that end where a release comes to this: that of the thread that is served, with Successful
abbrev pub woken_by_releasing : Releasing → List Wake
woken_by_releasing (NotReleased status) = []
woken_by_releasing Unnests = []
woken_by_releasing (Serves u) = record { thread = u; status = Successful; out = 0 } ∷ []
woken_by_releasing Frees = []

-- the waits that a release ends
abbrev pub woken_by_release : ℕ → SemaphoreState → List Wake
woken_by_release by sem = woken_by_releasing (releasing by sem)

-- ---- rtems_semaphore_set_priority

-- the semaphore after a setting of its ceiling in a cluster
abbrev pub with_set : ℕ → ℕ → SemaphoreState → SemaphoreState
with_set c prio sem = after_setting (setting_ceiling c prio sem) c prio sem

-- the answer to it
abbrev pub reply_to_set : ℕ → ℕ → SemaphoreState → Reply
reply_to_set c prio sem = reply_to_setting (setting_ceiling c prio sem) c sem

-- ---- rtems_semaphore_flush

-- all waits end, with Unsatisfied
abbrev pub woken_by_flush : SemaphoreState → List Wake
woken_by_flush sem = ended Unsatisfied sem.queue.arrivals

-- ---- rtems_semaphore_delete

-- the answer to a delete
abbrev pub reply_to_remove : SemaphoreState → Reply
reply_to_remove sem = bare (status_of_deleting sem)

-- where the semaphore has no owner, all waits end, with ObjectWasDeleted
abbrev pub woken_by_remove : SemaphoreState → List Wake
woken_by_remove sem = if is_owned sem then [] else ended ObjectWasDeleted sem.queue.arrivals

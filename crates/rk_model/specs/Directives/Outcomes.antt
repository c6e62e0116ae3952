-- What a directive comes to, and what the directives share.
use Rattle.std.specs.Prelude.{ℕ, ◌+◌, List, Option, Some, None}
use Rattle.std.specs.List.{slice_index_or, slice_set}
use Rattle.rk_model.specs.declared.scenario.Scenario.{Scenario}
use Rattle.rk_model.specs.declared.scenario.Op.{Op}
use Rattle.rk_model.specs.declared.entry.Answer.{Answer}
use Rattle.rk_model.specs.declared.entry.Answer.TheVariants as told
use Rattle.rk_model.specs.declared.status.Status.{Status}
use Rattle.rk_model.specs.declared.status.Status.TheVariants.{Successful, InvalidId, Waits}
use Rattle.rk_model.specs.declared.state.Thread.{Thread}
use Rattle.rk_model.specs.Directives.Lines.{kind_at, landed_by, work_of, result_var}
use Rattle.rk_model.specs.State.{Plain, thread_at, put_thread, op_at}

-- What a directive comes to, before the caller goes on and the state settles.
-- Refused: it has this status, and changes nothing; the caller goes on.
-- Done: it has this status, this out number and this next state; the caller goes on, and a thread that yielded or had its base priority set goes to the end of its ready queue.
-- Waiting: in this next state the caller waits.
-- Gone: it has this status, and in this next state the caller has no next line.
pub data Outcome : Type 0 where
  Refused : Status → Outcome
  Done : Status → ℕ → Plain → Option ℕ → Outcome
  Waiting : Plain → Outcome
  Gone : Status → Plain → Outcome

-- the outcome without its state
abbrev pub answer_of : Outcome → Answer
answer_of (Refused status) = told.Refused status
answer_of (Done status out next last) = told.Done status out last
answer_of (Waiting next) = told.Waiting
answer_of (Gone status next) = told.Gone status

-- the state that an outcome has changed, before the caller goes on
abbrev pub changed : Plain → Outcome → Plain
changed k (Refused status) = k
changed k (Done status out next last) = next
changed k (Waiting next) = next
changed k (Gone status next) = next

-- the caller is done with this out number
abbrev pub done : ℕ → Plain → Outcome
done out next = Done Successful out next None

-- what the caller does to the object that it has found; it has found none where the id is unknown
abbrev pub on_found : Option ℕ → (ℕ → Outcome) → Outcome
on_found None act = Refused InvalidId
on_found (Some u) act = act u

-- the status of an answer
abbrev pub status_of : Answer → Status
status_of (told.Refused status) = status
status_of (told.Done status out last) = status
status_of told.Waiting = Waits
status_of (told.Gone status) = status

-- the out number of an answer
abbrev pub out_of : Answer → ℕ
out_of (told.Refused status) = 0
out_of (told.Done status out last) = out
out_of told.Waiting = 0
out_of (told.Gone status) = 0

-- the thread that goes to the end of its ready queue, if one does
abbrev pub last_of : Answer → Option ℕ
last_of (told.Refused status) = None
last_of (told.Done status out last) = last
last_of told.Waiting = None
last_of (told.Gone status) = None

-- the line of a body at which a thread is that would arrive at a line
unfoldable pub landing : Scenario → ℕ → ℕ → ℕ
landing s body line = landed_by (kind_at (op_at s body line)) line

-- the work that a thread has on arriving at a line
abbrev pub work_at : Option Op → ℕ
work_at o = work_of (kind_at o)

-- a thread that is at a line of its body, with all of that line's work
abbrev pub placed : Scenario → Thread → ℕ → Thread
placed s thread line = record thread { line = line; left = work_at (op_at s thread.body line) }

-- A thread that has arrived at a line of its body. At a goto it has arrived at the target.
abbrev pub arrived : Scenario → Thread → ℕ → Thread
arrived s thread line = placed s thread (landing s thread.body line)

-- a thread that has gone on to its next line
abbrev pub gone_on : Scenario → Thread → Thread
gone_on s thread = arrived s thread (thread.line + 1)

-- variables of which one has another value
abbrev pub stored : Option ℕ → List ℕ → ℕ → List ℕ
stored None vars value = vars
stored (Some var) vars value = slice_set vars var value

-- the variables of a thread after its line stored an out number
abbrev pub stored_vars : Scenario → Thread → ℕ → List ℕ
stored_vars s thread out = stored (result_var (op_at s thread.body thread.line)) thread.vars out

-- a thread that has stored an out number in the result variable of its line, and gone on to its next line
abbrev pub finished : Scenario → Thread → ℕ → Thread
finished s thread out = gone_on s (record thread { vars = stored_vars s thread out })

-- the state in which a thread has stored an out number and gone on
abbrev pub go_on : Plain → ℕ → ℕ → Plain
go_on k t out = put_thread k t (finished k.scenario (thread_at k t) out)

-- The state after an answer: the caller has stored the out number, which is 0 where it refused, and gone on, unless it waits or has no next line.
abbrev pub concluded : Answer → Plain → ℕ → Plain
concluded (told.Refused status) k t = go_on k t 0
concluded (told.Done status out last) k t = go_on k t out
concluded told.Waiting k t = k
concluded (told.Gone status) k t = k

-- the state after an outcome, before it settles
abbrev pub after_outcome : Plain → ℕ → Outcome → Plain
after_outcome k t o = concluded (answer_of o) (changed k o) t

-- the value of a variable of a thread
abbrev pub var_at : Plain → ℕ → ℕ → ℕ
var_at k t var = slice_index_or (thread_at k t).vars var 0

-- What the directives of the rate-monotonic manager do to the periods of a group.
use Rattle.std.specs.Prelude.{ℕ, ◌+◌, ◌≤◌, Bool, ◌&&◌, ◌==◌, IfSome, nat_lt, if◌then◌else◌}
use Rattle.rk_model.specs.declared.entry.Reply.{Reply}
use Rattle.rk_model.specs.declared.limits.TheConstants.{MOST_TICKS}
use Rattle.rk_model.specs.declared.period.Job.{Job}
use Rattle.rk_model.specs.declared.period.Phase.{Phase}
use Rattle.rk_model.specs.declared.period.Phase.TheVariants.{Inactive, Active, Awaited, Expired}
use Rattle.rk_model.specs.declared.period.Stats.{Stats}
use Rattle.rk_model.specs.declared.status.Status.{Status}
use Rattle.rk_model.specs.declared.status.Status.TheVariants.{Successful, Timeout, NotDefined, ResourceInUse, NotOwnerOfResource, Waits}
use Rattle.rk_model.specs.State.{PeriodState, no_period}
use Rattle.rk_model.specs.Directives.Periods.{running_job, postponed_of, is_awaited, next_begun}
use Rattle.rk_model.specs.Directives.Waits.{bare}
use Rattle.rk_period.specs.declared.period.Passed.{Passed}
use Rattle.rk_period.specs.declared.period.Passed.TheVariants.{Woke, Postponed}

-- ---- what the code may count on

-- A job that runs began in the past, and the ended jobs lie before it: their elapsed ticks had passed when it began, and their computed ticks were computed by then.
pub record HasBegun (stats : Stats) (now used : ℕ) (job : Job) : Type 0 where
  pub elapsed : stats.wall_total ≤ job.start
  pub start : job.start ≤ now
  pub computed : stats.cpu_total ≤ job.used
  pub before : job.used ≤ used

-- No more jobs are counted or postponed than ticks have passed, and no more ticks than have passed and the creator has computed.
pub record Fits (now used : ℕ) (stored : PeriodState) : Type 0 where
  pub few : now ≤ MOST_TICKS
  pub few_used : used ≤ MOST_TICKS
  pub count : stored.stats.count ≤ now
  pub missed : stored.stats.missed ≤ now
  pub postponed : postponed_of stored.phase ≤ now
  pub elapsed : stored.stats.wall_total ≤ now
  pub computed : stored.stats.cpu_total ≤ used
  pub job : IfSome (running_job stored.phase) (HasBegun stored.stats now used)

-- whether a thread waits for the end: it is the creator, and that waits
abbrev pub waits_for : PeriodState → ℕ → Bool
waits_for stored thread = (stored.creator == thread) && is_awaited stored.phase

-- ---- rtems_rate_monotonic_period

-- With length 0 (RTEMS_PERIOD_STATUS) nothing changes, and the status is NotDefined where the period is inactive, Timeout where it is expired, and Successful where it is active.
abbrev pub status_of_query : Phase → Status
status_of_query Inactive = NotDefined
status_of_query (Active length next_end job) = Successful
status_of_query (Awaited length next_end) = Successful
status_of_query (Expired length next_end job postponed) = Timeout

-- The status is Successful where the period was inactive, and Timeout where it was expired. Where it was active, the creator waits.
abbrev pub status_of_begin : Phase → Status
status_of_begin Inactive = Successful
status_of_begin (Active length next_end job) = Waits
status_of_begin (Awaited length next_end) = Waits
status_of_begin (Expired length next_end job postponed) = Timeout

-- The creator's call with a length ends the running job and begins the next; no other changes the period.
abbrev pub called : ℕ → ℕ → ℕ → ℕ → PeriodState → PeriodState
called by length now used stored =
    if (stored.creator == by) && nat_lt 0 length then next_begun length now used stored else stored

-- A caller that isn't the creator gets NotOwnerOfResource.
abbrev pub reply_to_call : ℕ → ℕ → PeriodState → Reply
reply_to_call by length stored =
    if stored.creator == by
    then bare (if length == 0 then status_of_query stored.phase else status_of_begin stored.phase)
    else bare NotOwnerOfResource

-- ---- the timer

-- what the end of a period came to, with the next end; it is asked of no inactive one
abbrev pub passing_of : Phase → Passed
passing_of Inactive = Postponed 0
passing_of (Active length next_end job) = Postponed (next_end + length)
passing_of (Awaited length next_end) = Woke (next_end + length)
passing_of (Expired length next_end job postponed) = Postponed (next_end + length)

-- ---- rtems_rate_monotonic_cancel

-- Where the caller is its creator, the period becomes inactive, and no job is postponed. The running job isn't counted, and the statistics stay.
abbrev pub cancelled_by : ℕ → PeriodState → PeriodState
cancelled_by by stored = if stored.creator == by then record stored { phase = Inactive } else stored

-- A caller that isn't the creator gets NotOwnerOfResource.
abbrev pub reply_to_cancel : ℕ → PeriodState → Reply
reply_to_cancel by stored = bare (if stored.creator == by then Successful else NotOwnerOfResource)

-- ---- rtems_rate_monotonic_delete

-- The period lives no longer, unless its creator waits for it.
abbrev pub removed : PeriodState → PeriodState
removed stored = if is_awaited stored.phase then stored else no_period

-- Where it does, the status is ResourceInUse.
abbrev pub reply_to_remove : PeriodState → Reply
reply_to_remove stored = bare (if is_awaited stored.phase then ResourceInUse else Successful)

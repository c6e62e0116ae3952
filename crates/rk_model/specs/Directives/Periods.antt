-- The directives of the rate-monotonic manager, and what the end of a period does.
use Rattle.std.specs.Prelude.{ℕ, ◌+◌, ◌-◌, ◌==◌, min, max, Bool, true, false, Option, Some, None, if◌then◌else◌}
use Rattle.rk_model.specs.declared.ids.Class.TheVariants.{Period}
use Rattle.rk_model.specs.declared.period.EndedJob.{EndedJob}
use Rattle.rk_model.specs.declared.period.Job.{Job}
use Rattle.rk_model.specs.declared.period.Phase.{Phase}
use Rattle.rk_model.specs.declared.period.Phase.TheVariants.{Inactive, Active, Awaited, Expired}
use Rattle.rk_model.specs.declared.period.Stats.{Stats}
use Rattle.rk_model.specs.declared.scenario.Target.{Target}
use Rattle.rk_model.specs.declared.state.Armer.TheVariants.{Period as OfPeriod}
use Rattle.rk_model.specs.declared.state.Wait.TheVariants.{ForPeriod}
use Rattle.rk_model.specs.declared.status.Status.TheVariants.{Successful, Timeout, NotDefined, ResourceInUse, NotOwnerOfResource}
use Rattle.rk_model.specs.State.{Plain, PeriodState, no_stats, no_period, thread_at, period_at, put_period}
use Rattle.rk_model.specs.Scheduling.Timers.{arm, cancel}
use Rattle.rk_model.specs.Directives.Objects.{object_named, create, ident, without_object}
use Rattle.rk_model.specs.Directives.Outcomes.{Outcome, Refused, Done, Waiting, done, on_found}
use Rattle.rk_model.specs.Directives.Waits.{bare, begin_limited, end_wait}

-- ---- how a period stands

-- the job that runs, if one does
abbrev pub running_job : Phase → Option Job
running_job Inactive = None
running_job (Active length next_end job) = Some job
running_job (Awaited length next_end) = None
running_job (Expired length next_end job postponed) = Some job

-- how many jobs are postponed
abbrev pub postponed_of : Phase → ℕ
postponed_of Inactive = 0
postponed_of (Active length next_end job) = 0
postponed_of (Awaited length next_end) = 0
postponed_of (Expired length next_end job postponed) = postponed

-- the tick of the next end; an inactive period has none
abbrev pub end_of : Phase → Option ℕ
end_of Inactive = None
end_of (Active length next_end job) = Some next_end
end_of (Awaited length next_end) = Some next_end
end_of (Expired length next_end job postponed) = Some next_end

-- whether its creator waits for the end
abbrev pub is_awaited : Phase → Bool
is_awaited Inactive = false
is_awaited (Active length next_end job) = false
is_awaited (Awaited length next_end) = true
is_awaited (Expired length next_end job postponed) = false

-- ---- the end of a job

-- the least ticks of the jobs before and of one more: those of this one where it is the first
abbrev pub least_with : Bool → ℕ → ℕ → ℕ
least_with is_first before ticks = if is_first then ticks else min before ticks

-- The statistics with one more ended job: count rises by one, and missed where the job is late. Its ticks go into the least, the greatest and the total.
abbrev pub with_job : EndedJob → Stats → Stats
with_job job stats = record {
  count = stats.count + 1;
  missed = if job.late then stats.missed + 1 else stats.missed;
  cpu_least = least_with (stats.count == 0) stats.cpu_least job.computed;
  cpu_greatest = max stats.cpu_greatest job.computed;
  cpu_total = stats.cpu_total + job.computed;
  wall_least = least_with (stats.count == 0) stats.wall_least job.elapsed;
  wall_greatest = max stats.wall_greatest job.elapsed;
  wall_total = stats.wall_total + job.elapsed;
}

-- A job ends now, when its creator has computed so many ticks. It is late where the period is expired; its ticks are those since its start.
abbrev pub ended_job : ℕ → ℕ → Bool → Job → EndedJob
ended_job now used late job = record { late = late; computed = used - job.used; elapsed = now - job.start }

-- the statistics once the running job, if there is one, has ended
abbrev pub stats_ended : ℕ → ℕ → Phase → Stats → Stats
stats_ended now used Inactive stats = stats
stats_ended now used (Active length next_end job) stats = with_job (ended_job now used false job) stats
stats_ended now used (Awaited length next_end) stats = stats
stats_ended now used (Expired length next_end job postponed) stats = with_job (ended_job now used true job) stats

-- ---- the next job

-- a job that starts now, when its creator has computed so many ticks
abbrev pub started : ℕ → ℕ → Job
started now used = record { start = now; used = used }

-- a period with so many postponed jobs whose job starts now: expired, or active where there are none
abbrev pub with_postponed : ℕ → ℕ → Job → ℕ → Phase
with_postponed length next_end job postponed = if postponed == 0 then Active length next_end job else Expired length next_end job postponed

-- How a period stands after its creator's call with a length. Where it was inactive, a job starts, and its end is the length from now. Where it was expired, one of the postponed jobs starts now. Where it was active, the creator waits for the end. An end that stands isn't touched: the new length counts from it on.
abbrev pub begun : ℕ → ℕ → ℕ → Phase → Phase
begun length now used Inactive = Active length (now + length) (started now used)
begun length now used (Active old next_end job) = Awaited length next_end
begun length now used (Awaited old next_end) = Awaited length next_end
begun length now used (Expired old next_end job postponed) = with_postponed length next_end (started now used) (postponed - 1)

-- a period whose creator has called with a length: the running job has ended, and the next begins
abbrev pub next_begun : ℕ → ℕ → ℕ → PeriodState → PeriodState
next_begun length now used period = record period { phase = begun length now used period.phase; stats = stats_ended now used period.phase period.stats }

-- ---- period.create

-- a period that was created: an inactive one of its creator, of which no job has ended
abbrev pub new_period : ℕ → PeriodState
new_period by = record { live = true; creator = by; phase = Inactive; stats = no_stats }

-- period.create (rtems_rate_monotonic_create): INVALID_NAME where the name is 0; TOO_MANY where 64 periods live; else an inactive period of the caller. Out: its id.
abbrev pub period_create : Plain → ℕ → ℕ → Outcome
period_create k t name = create k Period name None (λ index next. put_period next index (new_period t))

-- period.ident (rtems_rate_monotonic_ident): INVALID_NAME where no live period has the name. Out: the id of the live period of least index that has it.
abbrev pub period_ident : Plain → ℕ → Outcome
period_ident k name = ident k Period name

-- ---- period.period

-- what a call with length 0 comes to, which changes nothing
abbrev pub asked : Plain → Phase → Outcome
asked k Inactive = Refused NotDefined
asked k (Active length next_end job) = done 0 k
asked k (Awaited length next_end) = done 0 k
asked k (Expired length next_end job postponed) = Refused Timeout

-- the state in which the next job of a period has begun
abbrev pub with_next : Plain → ℕ → ℕ → ℕ → Plain
with_next k t i length = put_period k i (next_begun length k.present (thread_at k t).computed (period_at k i))

-- what a call with a length comes to: where the period was inactive, its timer is armed; where it was active, the caller waits for the end
abbrev pub begins : Plain → ℕ → ℕ → ℕ → Phase → Outcome
begins k t i length Inactive = done 0 (arm (with_next k t i length) (thread_at k t).home (record { who = OfPeriod i; due = k.present + length }))
begins k t i length (Active old next_end job) = Waiting (begin_limited (with_next k t i length) t (ForPeriod i) 0)
begins k t i length (Awaited old next_end) = Waiting (begin_limited (with_next k t i length) t (ForPeriod i) 0)
begins k t i length (Expired old next_end job postponed) = Done Timeout 0 (with_next k t i length) None

-- what a call on a period that lives comes to
abbrev pub called : Plain → ℕ → ℕ → ℕ → Outcome
called k t i length =
    if (period_at k i).creator == t
    then (if length == 0 then asked k (period_at k i).phase else begins k t i length (period_at k i).phase)
    else Refused NotOwnerOfResource

-- period.period (rtems_rate_monotonic_period): INVALID_ID where the period is unknown; NOT_OWNER_OF_RESOURCE where the caller isn't its creator. With length 0 nothing changes: NOT_DEFINED where the period is inactive, TIMEOUT where it is expired, SUCCESSFUL where it is active. Else, where it is inactive, the length is stored, a job starts and the timer is armed for the present tick plus the length: SUCCESSFUL; where it is expired, the running job ends, the length is stored, one postponed job is taken away and a job starts now: TIMEOUT; where it is active, the running job ends, the length is stored and the caller waits for the end.
abbrev pub period_period : Plain → ℕ → Target → ℕ → Outcome
period_period k t id length = on_found (object_named k t Period id) (λ i. called k t i length)

-- ---- the timer

-- How a period stands once its end has passed: the next end is the length later. Where its creator waits for it, a job starts; else one more job is postponed.
abbrev pub fired : ℕ → ℕ → Phase → Phase
fired now used Inactive = Inactive
fired now used (Active length next_end job) = Expired length (next_end + length) job 1
fired now used (Awaited length next_end) = Active length (next_end + length) (started now used)
fired now used (Expired length next_end job postponed) = Expired length (next_end + length) job (postponed + 1)

-- a period once its end has passed
abbrev pub passed : ℕ → ℕ → PeriodState → PeriodState
passed now used period = record period { phase = fired now used period.phase }

-- the state in which the end of a period has passed and its timer is armed again for the next one, as the last in its creator's home
abbrev pub rearmed : Plain → ℕ → ℕ → Plain
rearmed k i next_end =
    arm (put_period k i (passed k.present (thread_at k (period_at k i).creator).computed (period_at k i))) (thread_at k (period_at k i).creator).home (record { who = OfPeriod i; due = next_end })

-- the same, where the period stands so: where its creator waits for it, the wait ends with SUCCESSFUL
abbrev pub passed_by : Plain → ℕ → Phase → Plain
passed_by k i Inactive = k
passed_by k i (Active length next_end job) = rearmed k i (next_end + length)
passed_by k i (Awaited length next_end) = end_wait (rearmed k i (next_end + length)) (period_at k i).creator (bare Successful)
passed_by k i (Expired length next_end job postponed) = rearmed k i (next_end + length)

-- the state in which the timer of a period, which was taken out, has fired
abbrev pub end_passed : Plain → ℕ → Plain
end_passed k i = passed_by k i (period_at k i).phase

-- ---- period.cancel

-- the state in which the timer of a period, if it has one, is cancelled
abbrev pub stop : Plain → ℕ → Plain
stop k i = cancel k (thread_at k (period_at k i).creator).home (OfPeriod i)

-- the state in which a period is inactive, without postponed jobs: its running job isn't counted, and its statistics stay
abbrev pub cancelled : Plain → ℕ → Plain
cancelled k i = put_period (stop k i) i (record (period_at k i) { phase = Inactive })

-- what it comes to for a period that lives
abbrev pub cancelled_by : Plain → ℕ → ℕ → Outcome
cancelled_by k t i = if (period_at k i).creator == t then done 0 (cancelled k i) else Refused NotOwnerOfResource

-- period.cancel (rtems_rate_monotonic_cancel): INVALID_ID where the period is unknown; NOT_OWNER_OF_RESOURCE where the caller isn't its creator; else it is inactive without postponed jobs, its timer is cancelled and the running job isn't counted. The statistics stay.
abbrev pub period_cancel : Plain → ℕ → Target → Outcome
period_cancel k t id = on_found (object_named k t Period id) (λ i. cancelled_by k t i)

-- ---- period.delete

-- the state in which a period lives no longer: its timer is cancelled, and its index is free
abbrev pub without_period : Plain → ℕ → Plain
without_period k i = without_object (put_period (stop k i) i no_period) Period i

-- what it comes to for a period that lives
abbrev pub ended_at : Plain → ℕ → Outcome
ended_at k i = if is_awaited (period_at k i).phase then Refused ResourceInUse else done 0 (without_period k i)

-- period.delete (rtems_rate_monotonic_delete): INVALID_ID where the period is unknown; RESOURCE_IN_USE where its creator waits for it; else its timer is cancelled and it lives no longer.
abbrev pub period_delete : Plain → ℕ → Target → Outcome
period_delete k t id = on_found (object_named k t Period id) (λ i. ended_at k i)

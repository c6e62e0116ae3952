-- The statistics of a period, as its history shows them: they know of no sums, and of nothing that a state has counted.
use Rattle.std.specs.Prelude.{ℕ, ◌+◌, ◌==◌, min, max, sum, Bool, true, false, not, ◌&&◌, List, [], ◌∷◌, ◌++◌, length, map, filter, Option, Some, None, if◌then◌else◌}
use Rattle.rk_model.specs.declared.entry.Entry.{Entry}
use Rattle.rk_model.specs.declared.entry.What.{What}
use Rattle.rk_model.specs.declared.entry.What.TheVariants.{Call, Return, Tick, End}
use Rattle.rk_model.specs.declared.ids.Class.TheVariants.{Period}
use Rattle.rk_model.specs.declared.period.EndedJob.{EndedJob}
use Rattle.rk_model.specs.declared.period.Phase.{Phase}
use Rattle.rk_model.specs.declared.period.Phase.TheVariants.{Inactive, Active, Awaited, Expired}
use Rattle.rk_model.specs.declared.period.Stats.{Stats}
use Rattle.rk_model.specs.declared.scenario.Op.{Op}
use Rattle.rk_model.specs.declared.scenario.Op.TheVariants.{PeriodPeriod}
use Rattle.rk_model.specs.declared.scenario.Scenario.{Scenario}
use Rattle.rk_model.specs.State.{Plain, thread_at, period_at, op_at}
use Rattle.rk_model.specs.Scheduling.Running.{runs_somewhere}
use Rattle.rk_model.specs.Directives.Objects.{object_named}
use Rattle.rk_model.specs.Histories.{opening, next_by}

-- ---- the ended jobs of a period

-- The ticks of a job so far: those in all since it started, and those among them that charged its creator.
pub record Ticks : Type 0 where
  pub computed : ℕ
  pub elapsed : ℕ

abbrev pub no_ticks : Ticks
no_ticks = record { computed = 0; elapsed = 0 }

-- What a history shows of a period: its jobs that ended since its last create, in their order, and the ticks of the job that runs, where one does.
pub record Shown : Type 0 where
  pub jobs : List EndedJob
  pub ticks : Ticks

abbrev pub nothing_shown : Shown
nothing_shown = record { jobs = []; ticks = no_ticks }

-- whether a job runs
abbrev pub has_job : Phase → Bool
has_job Inactive = false
has_job (Active length next_end job) = true
has_job (Awaited length next_end) = false
has_job (Expired length next_end job postponed) = true

-- whether a period is expired
abbrev pub is_expired : Phase → Bool
is_expired Inactive = false
is_expired (Active length next_end job) = false
is_expired (Awaited length next_end) = false
is_expired (Expired length next_end job postponed) = true

-- whether this index was found
abbrev pub is_found : Option ℕ → ℕ → Bool
is_found None i = false
is_found (Some found) i = found == i

-- whether a line is one by which a thread begins the next job of a period: it asks for that period with a length that isn't 0
abbrev pub asks_for_next : Plain → ℕ → ℕ → Option Op → Bool
asks_for_next k t i (Some (PeriodPeriod id length)) = not (length == 0) && is_found (object_named k t Period id) i
asks_for_next k t i op = false

-- whether an entry is the call of a directive
abbrev pub is_call : What → Bool
is_call Call = true
is_call Return = false
is_call Tick = false
is_call End = false

abbrev pub is_tick : What → Bool
is_tick Call = false
is_tick Return = false
is_tick Tick = true
is_tick End = false

-- Whether an entry that comes after the state k ends the job of a period: a job runs, and the period's creator begins the next one.
abbrev pub ends_job : Plain → Entry → ℕ → Bool
ends_job k x i =
    has_job (period_at k i).phase && ((period_at k i).creator == x.task) && is_call x.what && asks_for_next k x.task i (op_at k.scenario x.body x.line)

-- the job that ends after the state k, with the ticks that it has
abbrev pub job_of : Plain → ℕ → Ticks → EndedJob
job_of k i ticks = record { late = is_expired (period_at k i).phase; computed = ticks.computed; elapsed = ticks.elapsed }

-- the ended jobs after an entry that comes after the state k
abbrev pub jobs_after : Plain → Entry → ℕ → Shown → List EndedJob
jobs_after k x i shown = if ends_job k x i then shown.jobs ++ job_of k i shown.ticks ∷ [] else shown.jobs

-- whether a tick after the state k charges a thread: it runs there and computes
abbrev pub is_charged : Plain → ℕ → Bool
is_charged k t = runs_somewhere k t && not ((thread_at k t).left == 0)

-- the ticks of the running job after a tick that comes after the state k
abbrev pub one_more_tick : Plain → ℕ → Ticks → Ticks
one_more_tick k i ticks =
    record { computed = if is_charged k (period_at k i).creator then ticks.computed + 1 else ticks.computed; elapsed = ticks.elapsed + 1 }

-- whether a job that ran before an entry still runs after it
abbrev pub goes_on : Plain → Entry → ℕ → Bool
goes_on k x i = has_job (period_at k i).phase && not (ends_job k x i)

-- the ticks of the job that runs after an entry that comes after the state k: a job that has just started has none
abbrev pub ticks_after : Plain → Entry → ℕ → Ticks → Ticks
ticks_after k x i ticks = if goes_on k x i then (if is_tick x.what then one_more_tick k i ticks else ticks) else no_ticks

-- what is shown after an entry that comes after the state k; where no period lives before it, nothing yet
abbrev pub shown_after : Plain → Entry → ℕ → Shown → Shown
shown_after k x i shown =
    if (period_at k i).live then record { jobs = jobs_after k x i shown; ticks = ticks_after k x i shown.ticks } else nothing_shown

-- what entries that come after the state k show
abbrev pub shown_from : Plain → List Entry → ℕ → Shown → Shown
shown_from k [] i shown = shown
shown_from k (x ∷ xs) i shown = shown_from (next_by k x) xs i (shown_after k x i shown)

-- The jobs of a period that ended in a history since its last create, in their order: of each the ticks in all from its start to its end, those of them that charged its creator, and whether the period was expired when it ended.
abbrev pub ended_jobs : Scenario → List Entry → ℕ → List EndedJob
ended_jobs s xs i = (shown_from (opening s) xs i nothing_shown).jobs

-- ---- the eight numbers

-- the least of these numbers; 0 where there is none
abbrev pub least_of : List ℕ → ℕ
least_of [] = 0
least_of (x ∷ []) = x
least_of (x ∷ y ∷ ys) = min x (least_of (y ∷ ys))

-- the greatest of these numbers; 0 where there is none
abbrev pub greatest_of : List ℕ → ℕ
greatest_of [] = 0
greatest_of (x ∷ xs) = max x (greatest_of xs)

-- the ticks that these jobs computed, and those that elapsed in them
abbrev pub computed_in : List EndedJob → List ℕ
computed_in jobs = map (λ (job : EndedJob). job.computed) jobs

abbrev pub elapsed_in : List EndedJob → List ℕ
elapsed_in jobs = map (λ (job : EndedJob). job.elapsed) jobs

-- How many jobs there are, how many of them are late, and the least, the greatest and the sum of the ticks that they computed and that elapsed in them.
abbrev pub stats_of : List EndedJob → Stats
stats_of jobs = record {
  count = length jobs;
  missed = length (filter (λ (job : EndedJob). job.late) jobs);
  cpu_least = least_of (computed_in jobs);
  cpu_greatest = greatest_of (computed_in jobs);
  cpu_total = sum (computed_in jobs);
  wall_least = least_of (elapsed_in jobs);
  wall_greatest = greatest_of (elapsed_in jobs);
  wall_total = sum (elapsed_in jobs);
}

-- The statistics of a period after a history: the numbers of its jobs that ended since its last create.
abbrev pub statistics : Scenario → List Entry → ℕ → Stats
statistics s xs i = stats_of (ended_jobs s xs i)

-- What holds of the periods of each state that a run of a scenario reaches, and changes of a state that leave them alone.
use Rattle.std.specs.Prelude.{ℕ, ◌+◌, ◌<◌, ◌≤◌, ◌≡◌, List, [], ◌∷◌, Bool, true, ◌==◌, Option, Some, None, IfSome, nat_lt, length, if◌then◌else◌}
use Rattle.std.specs.Option.{option_to_list}
use Rattle.rk_model.specs.declared.limits.TheConstants.{MOST_OBJECTS}
use Rattle.rk_model.specs.declared.period.Phase.{Phase}
use Rattle.rk_model.specs.declared.period.Phase.TheVariants.{Inactive, Active, Awaited, Expired}
use Rattle.rk_model.specs.declared.period.Stats.{Stats}
use Rattle.rk_model.specs.declared.state.Armed.{Armed}
use Rattle.rk_model.specs.declared.state.Armer.{Armer}
use Rattle.rk_model.specs.declared.state.Armer.TheVariants.{Period as OfPeriod}
use Rattle.rk_model.specs.declared.state.Thread.{Thread}
use Rattle.rk_model.specs.declared.state.Wait.{Wait}
use Rattle.rk_model.specs.declared.state.Wait.TheVariants.{ForTime, ForEvents, AtBarrier, ForPeriod, ForSemaphore}
use Rattle.rk_model.specs.Directives.Objects.{has_begun}
use Rattle.rk_model.specs.Directives.Periods.{running_job, postponed_of, end_of, is_awaited}
use Rattle.rk_model.specs.Scheduling.Timers.{is_same}
use Rattle.rk_model.specs.Statistics.{is_expired}
use Rattle.rk_model.specs.State.{Plain, PeriodState, thread_at, period_at, cluster_at}
use Rattle.rk_period.specs.Periods.{HasBegun}

-- the period for which a thread waits that waits for this, if it waits for one
abbrev pub awaits : Option Wait → Option ℕ
awaits None = None
awaits (Some ForTime) = None
awaits (Some (ForEvents set all)) = None
awaits (Some (AtBarrier i)) = None
awaits (Some (ForPeriod i)) = Some i
awaits (Some (ForSemaphore i spins)) = None

-- the ticks at which the timers of this one are due, in the order of arming
abbrev pub dues_of : Armer → List Armed → List ℕ
dues_of who [] = []
dues_of who (timer ∷ timers) = if is_same timer.who who then timer.due ∷ dues_of who timers else dues_of who timers

-- whether the next end of a period has come, as a number
abbrev pub overdue : ℕ → Option ℕ → ℕ
overdue present None = 0
overdue present (Some next_end) = if nat_lt present next_end then 0 else 1

-- the ticks from the next end of a period to the one after it; an inactive one has none
abbrev pub length_of : Phase → Option ℕ
length_of Inactive = None
length_of (Active length next_end job) = Some length
length_of (Awaited length next_end) = Some length
length_of (Expired length next_end job postponed) = Some length

-- What is counted of a period fits the present tick and what its creator has computed: each job that ended or is postponed came with an end that has passed, but for the one whose end is awaited, and one whose end has come isn't counted yet.
pub record IsCounted (present used : ℕ) (period : PeriodState) : Type 0 where
  pub count : period.stats.count + postponed_of period.phase + overdue present (end_of period.phase) ≤ present + (if is_awaited period.phase then 1 else 0)
  pub missed : period.stats.missed + postponed_of period.phase + overdue present (end_of period.phase) ≤ present
  -- the ticks of its ended jobs are ticks that have passed, and that its creator has computed
  pub elapsed : period.stats.wall_total ≤ present
  pub computed : period.stats.cpu_total ≤ used
  -- the running job began after them
  pub job : IfSome (running_job period.phase) (HasBegun period.stats present used)
  -- an expired period has postponed jobs
  pub late : is_expired period.phase ≡ true → 0 < postponed_of period.phase
  -- an end comes after at least one tick
  pub steps : IfSome (length_of period.phase) (λ length. 0 < length)

-- A period agrees with the thread that created it, and with the timers of each cluster.
pub record IsPeriodSound (present : ℕ) (by : Thread) (timers : ℕ → List Armed) (i : ℕ) (period : PeriodState) : Type 0 where
  -- where it lives, so does its creator
  pub created : period.live ≡ true → has_begun by.life ≡ true
  -- where it is awaited, its creator waits for it
  pub awaited : is_awaited period.phase ≡ true → awaits by.wait ≡ Some i
  -- in its creator's home it has a timer, which is due at its end; an inactive one has none
  pub timed : (c : ℕ) → dues_of (OfPeriod i) (timers c) ≡ (if by.home == c then option_to_list (end_of period.phase) else [])
  pub counted : IsCounted present by.computed period

-- A period is one that a thread created and for which it waits.
pub record IsAwaitedBy (period : PeriodState) (t : ℕ) : Type 0 where
  pub creator : period.creator ≡ t
  pub awaited : is_awaited period.phase ≡ true

-- There are places for 64 periods; each period agrees with its creator and with the timers; and a thread waits for a period only where that is its own and is awaited.
pub record ArePeriodsSound (k : Plain) : Type 0 where
  pub places : length k.periods ≡ MOST_OBJECTS
  pub each : (i : ℕ) → IsPeriodSound k.present (thread_at k (period_at k i).creator) (λ c. (cluster_at k c).timers) i (period_at k i)
  pub waits : (t i : ℕ) → awaits (thread_at k t).wait ≡ Some i → IsAwaitedBy (period_at k i) t

-- the statistics of the period of an index, if one lives
abbrev pub live_stats : Plain → ℕ → Option Stats
live_stats k i = if (period_at k i).live then Some (period_at k i).stats else None

-- What a period knows of the thread that created it: whether it lives, its home, the period for which it waits, if it waits for one, and what it has computed.
pub record Owner : Type 0 where
  pub lives : Bool
  pub home : ℕ
  pub awaits : Option ℕ
  pub computed : ℕ

abbrev pub owner_of : Thread → Owner
owner_of thread = record { lives = has_begun thread.life; home = thread.home; awaits = awaits thread.wait; computed = thread.computed }

-- A change of a state that leaves its periods alone.
pub record KeepsPeriods (k next : Plain) : Type 0 where
  pub present : next.present ≡ k.present
  pub periods : next.periods ≡ k.periods
  -- the creators of those that live are as they were, as far as periods know them
  pub owners : (i : ℕ) → (period_at k i).live ≡ true → owner_of (thread_at next (period_at k i).creator) ≡ owner_of (thread_at k (period_at k i).creator)
  -- their timers are
  pub dues : (c i : ℕ) → dues_of (OfPeriod i) (cluster_at next c).timers ≡ dues_of (OfPeriod i) (cluster_at k c).timers
  -- and who waits for which of them is
  pub waits : (t : ℕ) → awaits (thread_at next t).wait ≡ awaits (thread_at k t).wait

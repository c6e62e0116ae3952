-- What threads contribute to each other's priorities, as parts of clusters tell it: by what the threads bear, and by who holds which semaphore.
use Rattle.std.specs.Prelude.{ℕ, ◌≡◌, ◌≤◌, List, [], ◌∷◌, Bool, false, ◌&&◌, ◌==◌, Option, Some, None, if◌then◌else◌}
use Rattle.std.specs.List.{slice_index_or}
use Rattle.rk_model.specs.declared.limits.TheConstants.{MOST_OBJECTS}
use Rattle.rk_model.specs.declared.state.Wait.{Wait}
use Rattle.rk_model.specs.declared.state.Wait.TheVariants.{ForTime, ForEvents, AtBarrier, ForPeriod, ForSemaphore}
use Rattle.rk_model.specs.IndexSets.{is_in}
use Rattle.rk_model.specs.declared.index_set.IndexSet.{IndexSet}
use Rattle.rk_model.specs.Lists.{nth}
use Rattle.rk_model.specs.Queues.{lesser}
use Rattle.rk_model.specs.Directives.Objects.{has_begun}
use Rattle.rk_model.specs.Scheduling.Chains.{lends, reaches}
use Rattle.rk_model.specs.Scheduling.Priorities.{if_some, least_of}
use Rattle.rk_groups.specs.GroupObjects.{listed}
use Rattle.rk_parts.specs.declared.bearing.Bearing.{Bearing}
use Rattle.rk_parts.specs.declared.holdings.Holding.{Holding}
use Rattle.rk_parts.specs.declared.parts.ClusterPart.{ClusterPart}
use Rattle.rk_parts.specs.Joined.{thread_lent}
use Rattle.rk_parts.specs.Threads.{bearing, no_bearing}

-- ---- by what threads bear, and how semaphores are held

-- the thread to which those lend their priorities that wait for a semaphore which is held so
abbrev pub borrower_of : Option Holding → Option ℕ
borrower_of None = None
borrower_of (Some h) = if lends h.protocol then Some h.owner else None

-- the thread to which one lends its priority that waits for this, if there is one
abbrev pub borrower_by : (ℕ → Option Holding) → Option Wait → Option ℕ
borrower_by holds None = None
borrower_by holds (Some ForTime) = None
borrower_by holds (Some (ForEvents set all)) = None
borrower_by holds (Some (AtBarrier i)) = None
borrower_by holds (Some (ForPeriod i)) = None
borrower_by holds (Some (ForSemaphore i spins)) = borrower_of (holds i)

-- the thread to which a thread lends its priority
abbrev pub step_by : (ℕ → Bearing) → (ℕ → Option Holding) → ℕ → Option ℕ
step_by bears holds u = borrower_by holds (bears u).wait

-- the ceiling in a cluster to which a semaphore that is held so raises a thread: its own there, where the thread owns it
abbrev pub ceiling_by : ℕ → ℕ → Option Holding → Option ℕ
ceiling_by t c None = None
ceiling_by t c (Some h) = if h.owner == t then if_some (slice_index_or h.ceilings c 0) else None

-- the least of the ceilings in a cluster of the semaphores that a thread owns
unfoldable pub least_ceiling : (ℕ → Option Holding) → ℕ → ℕ → Option ℕ
least_ceiling holds t c = least_of (λ i. ceiling_by t c (holds i)) 1 MOST_OBJECTS

-- a thread's own priority
abbrev pub own_by : (ℕ → Bearing) → (ℕ → Option Holding) → ℕ → ℕ
own_by bears holds u = lesser (bears u).base (least_ceiling holds u (bears u).home)

-- whether the chain of a thread reaches another, by this step
unfoldable pub reached_by : (ℕ → Option ℕ) → ℕ → ℕ → Bool
reached_by step u t = reaches step MOST_OBJECTS u t

-- what a thread contributes to the priority of another in a cluster
unfoldable pub contributed : (ℕ → Bearing) → (ℕ → Option Holding) → ℕ → ℕ → ℕ → Option ℕ
contributed bears holds t c u =
    if has_begun (bears u).life && (((bears u).home == c) && reached_by (step_by bears holds) u t) then Some (own_by bears holds u) else None

-- ---- of parts

-- what a thread bears
abbrev pub bears : List ClusterPart → ℕ → Bearing
bears parts t = bearing (thread_lent parts t)

-- what one bore when the part settled last in which it lived then
abbrev pub bore_in : List ClusterPart → ℕ → Bearing
bore_in [] t = no_bearing
bore_in (part ∷ parts) t = if has_begun (nth no_bearing part.threads.borne t).life then nth no_bearing part.threads.borne t else bore_in parts t

-- what each of the 64 threads bore
unfoldable pub borne_of : List ClusterPart → List Bearing
borne_of parts = listed (bore_in parts) 1 MOST_OBJECTS

abbrev pub bore : List ClusterPart → ℕ → Bearing
bore parts t = nth no_bearing (borne_of parts) t

-- whether this is one of the 64 threads
abbrev pub IsOne : ℕ → Type 0
IsOne t = (1 ≤ t) × (t ≤ MOST_OBJECTS)

-- ---- flags

-- whether the flag of a thread is raised
abbrev pub flagged : IndexSet → ℕ → Bool
flagged flags t = is_in flags t

-- A thread neither owned nor owns a semaphore whose holding changed, and doesn't wait for it where it lends or lent then.
pub record IsApart (was now : Option Holding) (i t : ℕ) (wait : Option Wait) : Type 0 where
  pub ceiling : (c : ℕ) → ceiling_by t c now ≡ ceiling_by t c was
  pub step : (spins : Bool) → wait ≡ Some (ForSemaphore i spins) → borrower_of now ≡ borrower_of was

-- the home of a thread that bears this, if it lives
abbrev pub home_of : Bearing → Option ℕ
home_of b = if has_begun b.life then Some b.home else None

-- whether this is the home, if there is one
abbrev pub is_home : ℕ → Option ℕ → Bool
is_home c None = false
is_home c (Some home) = home == c

-- what a thread with this home and own priority contributes to another in a cluster, where the flags of those are raised that its chain reaches
abbrev pub reach_to : Option ℕ → ℕ → IndexSet → ℕ → ℕ → Option ℕ
reach_to home own flags c t = if is_home c home && flagged flags t then Some own else None

-- The threads of a running kernel, how each stood and what each bore when its state settled last, and what threads contribute to each other's priorities.
use Rattle.std.specs.Prelude.{ℕ, ◌≡◌, ◌≤◌, List, [], Bool, true, false, ◌&&◌, ◌||◌, ◌==◌, not, Option, Some, None, length, replicate, if◌then◌else◌}
use Rattle.rk_model.specs.declared.limits.TheConstants.{LEAST_URGENT, MOST_OBJECTS}
use Rattle.rk_model.specs.declared.settling.Standing.{Standing}
use Rattle.rk_model.specs.declared.state.Life.TheVariants.{Absent}
use Rattle.rk_model.specs.declared.state.Thread.{Thread}
use Rattle.rk_model.specs.Lists.{has, nth, times}
use Rattle.rk_model.specs.State.{no_thread}
use Rattle.rk_model.specs.Directives.Objects.{has_begun}
use Rattle.rk_model.specs.Scheduling.Priorities.{is_started, is_no_wait, is_spinning, no_standing, or_least_urgent}
use Rattle.rk_agg.specs.Shares.{found, least_source, no_shares, Shares}
use Rattle.rk_groups.specs.GroupObjects.{listed}
use Rattle.rk_parts.specs.declared.bearing.Bearing.{Bearing}

-- what is at the places of the threads, how each stood and what each bore when the state settled last, and what is contributed to their priorities
pub record Threads : Type 0 where
  pub places : List Thread
  pub stood : List Standing
  pub borne : List Bearing
  pub shares : Shares

-- What of a thread bears on how threads stand.
abbrev pub bearing : Thread → Bearing
bearing thread = record { life = thread.life; home = thread.home; base = thread.base; wait = thread.wait; suspended = thread.suspended }

-- what no thread bears
abbrev pub no_bearing : Bearing
no_bearing = record { life = Absent; home = 0; base = LEAST_URGENT; wait = None; suspended = false }

-- places for 64 threads
abbrev pub no_threads : Threads
no_threads = record { places = replicate MOST_OBJECTS no_thread; stood = replicate MOST_OBJECTS no_standing; borne = replicate MOST_OBJECTS no_bearing; shares = no_shares }

-- whether a thread that bears this is eligible
abbrev pub is_ready : Bearing → Bool
is_ready b = is_started b.life && not b.suspended && (is_no_wait b.wait || is_spinning b.wait)

-- How a thread of an index stands that bears this, by these contributions.
abbrev pub stands_by : Shares → ℕ → Bearing → Standing
stands_by shares t b =
    record {
      cluster = if is_ready b then Some b.home else None;
      prio = if has_begun b.life then or_least_urgent (least_source (found shares t b.home)) else LEAST_URGENT;
    }

-- what the thread of an index bears
abbrev pub bearing_at : List Thread → ℕ → Bearing
bearing_at places t = bearing (nth no_thread places t)

-- and how it stands
abbrev pub standing_at : Shares → List Thread → ℕ → Standing
standing_at shares places t = stands_by shares t (bearing_at places t)

-- what each of the threads at these places bears
unfoldable pub bearings_by : List Thread → List Bearing
bearings_by places = listed (bearing_at places) 1 (length places)

-- and how each stands
unfoldable pub standings_by : Shares → List Thread → List Standing
standings_by shares places = listed (standing_at shares places) 1 (length places)

-- each of these is one of the 64 threads and stands there once
pub record AreApart (marked : List ℕ) : Type 0 where
  pub once : (t : ℕ) → times t marked ≤ 1
  pub within : (t : ℕ) → has marked t ≡ true → (1 ≤ t) × (t ≤ MOST_OBJECTS)

-- No thread at these places spins, unless one may.
abbrev pub NoneSpins : Bool → List Thread → Type 0
NoneSpins may places = may ≡ false → (t : ℕ) → is_spinning (nth no_thread places t).wait ≡ false

-- for all threads but these what was noted is so now
abbrev pub AsNoted : {X : Type 0} → X → List ℕ → List X → List X → Type 0
AsNoted none marked noted now = (t : ℕ) → has marked t ≡ false → nth none now t ≡ nth none noted t

-- all threads but these stand, and bear, as is noted
pub record StandAsNoted (marked : List ℕ) (threads : Threads) : Type 0 where
  pub stood : AsNoted no_standing marked threads.stood (standings_by threads.shares threads.places)
  pub borne : AsNoted no_bearing marked threads.borne (bearings_by threads.places)

-- There are 64 of each, marked threads stand there once, all others as is noted, and none spins unless one may.
abbrev pub AreKept : List ℕ → Bool → Threads → Type 0
AreKept marked may threads =
    (length threads.places ≡ MOST_OBJECTS) × (length threads.stood ≡ MOST_OBJECTS) × (length threads.borne ≡ MOST_OBJECTS)
    × AreApart marked × StandAsNoted marked threads × NoneSpins may threads.places

-- the same threads and notes, but for what is contributed
abbrev pub unlent : Threads → Threads
unlent threads = record threads { shares = [] }

-- ---- where nobody lends a priority

-- what a thread that bears this contributes to itself in a cluster: its base priority, in its home
abbrev pub alone : Bearing → ℕ → Option ℕ
alone b c = if has_begun b.life && (b.home == c) then Some b.base else None

-- and to another: nothing
abbrev pub alone_to : (ℕ → Bearing) → ℕ → ℕ → ℕ → Option ℕ
alone_to bear t c u = if t == u then alone (bear t) c else None

-- Each thread that bears this contributes in a cluster to itself alone.
abbrev pub LendAlone : (ℕ → Bearing) → ℕ → (ℕ → ℕ → ℕ → Option ℕ) → Type 0
LendAlone bear c shares = (t u : ℕ) → (1 ≤ t) × (t ≤ MOST_OBJECTS) → (1 ≤ u) × (u ≤ MOST_OBJECTS) → shares t c u ≡ alone_to bear t c u

-- contributions after each of these threads was let contribute to itself so in a cluster
abbrev pub with_alone : List ℕ → (ℕ → Bearing) → ℕ → (ℕ → ℕ → ℕ → Option ℕ) → ℕ → ℕ → ℕ → Option ℕ
with_alone marked bear c before t d u = if has marked t && ((c == d) && (t == u)) then alone (bear t) c else before t d u

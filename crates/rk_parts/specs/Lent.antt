-- Where things stand among lent parts, how the parts lie, and what a change of them does.
use Rattle.std.specs.Prelude.{ℕ, ◌≡◌, ◌<◌, List, [], ◌∷◌, Bool, true, false, Option, Some, None, ◌==◌, map, length, take, if◌then◌else◌}
use Rattle.std.specs.List.{slice_index_or, AllByRecursion}
use Rattle.rk_model.specs.declared.limits.TheConstants.{MOST_OBJECTS}
use Rattle.rk_model.specs.declared.scenario.Scenario.{Scenario}
use Rattle.rk_model.specs.declared.settling.Standing.{Standing}
use Rattle.rk_model.specs.declared.state.Armed.{Armed}
use Rattle.rk_model.specs.declared.state.Life.TheVariants.{Dormant}
use Rattle.rk_model.specs.declared.state.Thread.{Thread}
use Rattle.rk_model.specs.Lists.{nth, with_nth}
use Rattle.rk_model.specs.Names.{Table}
use Rattle.rk_model.specs.State.{Plain, no_thread, put_thread, cluster_at, put_cluster}
use Rattle.rk_model.specs.Directives.Objects.{has_begun}
use Rattle.rk_model.specs.Scheduling.Timers.{take_due}
use Rattle.rk_model.specs.Text.Scenarios.{cpus_in}
use Rattle.rk_cluster.specs.Clusters.{Cluster}
use Rattle.rk_mrsp.specs.declared.seats.Seat.{Seat}
use Rattle.rk_parts.specs.declared.bearing.Bearing.{Bearing}
use Rattle.rk_parts.specs.declared.holdings.Holding.{Holding}
use Rattle.rk_parts.specs.declared.parts.ClusterPart.{ClusterPart}
use Rattle.rk_groups.specs.declared.group.GroupPart.{GroupPart}
use Rattle.rk_groups.specs.Groups.{one_more}
use Rattle.rk_parts.specs.Holdings.{holder, holdings, IsNotedIn}
use Rattle.rk_parts.specs.Joined.{joined, lives_in, present_of, threads_of, clusters_by, thread_lent}
use Rattle.rk_agg.specs.Shares.{Shares}

-- the first of these parts in which a thread lives
abbrev pub found_in : List ClusterPart → ℕ → Option ℕ
found_in [] t = None
found_in (part ∷ parts) t = if lives_in part t then Some 0 else one_more (found_in parts t)

-- the first of these parts that is of a cluster
abbrev pub number_in : List ClusterPart → ℕ → Option ℕ
number_in [] c = None
number_in (part ∷ parts) c = if part.lined.number == c then Some 0 else one_more (number_in parts c)

-- what is left of a thread where only its home is seen; all of it where none lives
abbrev pub outline : Thread → Thread
outline thread = if has_begun thread.life then record no_thread { life = Dormant; home = thread.home } else thread

-- How a part lies: its cluster and its processors, and who lives in it with which home.
pub record Layout : Type 0 where
  pub number : ℕ
  pub first : ℕ
  pub count : ℕ
  pub places : List Thread

abbrev pub layout : ClusterPart → Layout
layout part = record { number = part.lined.number; first = part.lined.first; count = length part.lined.cpus; places = map outline part.threads.places }

-- how these parts lie
abbrev pub layouts : List ClusterPart → List Layout
layouts parts = map layout parts

-- What a part stores beside the threads and the timers: its cluster, how its threads stood when it settled last, the present tick, and whom its processors help.
pub record Stored : Type 0 where
  pub lined : Cluster
  pub stood : List Standing
  pub present : ℕ
  pub hosting : List Seat

abbrev pub stored_in : ClusterPart → Stored
stored_in part = record { lined = part.lined; stood = part.threads.stood; present = part.present; hosting = part.hosting }

-- what these parts store
abbrev pub stored : List ClusterPart → List Stored
stored parts = map stored_in parts

-- By what a part keeps account of contributions: what its threads bore and how they held semaphores when it settled last, and what they contribute.
pub record Account : Type 0 where
  pub borne : List Bearing
  pub held : List (Option Holding)
  pub shares : Shares

abbrev pub account_in : ClusterPart → Account
account_in part = record { borne = part.threads.borne; held = part.holdings.noted; shares = part.threads.shares }

-- the accounts of these parts
abbrev pub accounts : List ClusterPart → List Account
accounts parts = map account_in parts

-- The frame of parts is what a narrow directive keeps of them: how they lie, what they store, and their accounts.
pub record Frame : Type 0 where
  pub layouts : List Layout
  pub stored : List Stored
  pub accounts : List Account

abbrev pub frame : List ClusterPart → Frame
frame parts = record { layouts = layouts parts; stored = stored parts; accounts = accounts parts }

abbrev pub no_layout : Layout
no_layout = record { number = 0; first = 0; count = 0; places = [] }

-- how the part lies that stands at a place among these
abbrev pub layout_at : List Layout → ℕ → Layout
layout_at parts at = slice_index_or parts at no_layout

-- whether a thread lives in the part that lies so
abbrev pub lives_at : Layout → ℕ → Bool
lives_at part t = has_begun (nth no_thread part.places t).life

-- Parts that lie as parts of a state with clusters of so many processors each:
pub record AreLaid (counts : List ℕ) (parts : List Layout) : Type 0 where
  -- each is of a cluster of its own,
  pub apart : (i j : ℕ) → i < length parts → j < length parts → (layout_at parts i).number ≡ (layout_at parts j).number → i ≡ j
  -- a thread lives in one of them at most,
  pub once : (i j t : ℕ) → lives_at (layout_at parts i) t ≡ true → lives_at (layout_at parts j) t ≡ true → i ≡ j
  -- and there has that cluster for its home, which is one of the clusters of the state,
  pub home : (i t : ℕ) → lives_at (layout_at parts i) t ≡ true → (nth no_thread (layout_at parts i).places t).home ≡ (layout_at parts i).number
  pub known : (i t : ℕ) → lives_at (layout_at parts i) t ≡ true → (layout_at parts i).number < length counts
  -- and where none lives there is no thread.
  pub blank : (i t : ℕ) → lives_at (layout_at parts i) t ≡ false → nth no_thread (layout_at parts i).places t ≡ no_thread
  -- A part has 64 places, and the processors of its cluster.
  pub size : (i : ℕ) → i < length parts → length (layout_at parts i).places ≡ MOST_OBJECTS
  pub count : (i : ℕ) → i < length parts → (layout_at parts i).count ≡ slice_index_or counts (layout_at parts i).number 0
  pub first : (i : ℕ) → i < length parts → (layout_at parts i).number < length counts → (layout_at parts i).first ≡ cpus_in (take (layout_at parts i).number counts)

-- The parts stand for the state with another thread at an index, and keep their frame and their holdings.
pub record Puts (old : List ClusterPart) (t : ℕ) (thread : Thread) (new : List ClusterPart) : Type 0 where
  pub threads : threads_of new ≡ with_nth (threads_of old) t thread
  pub clusters : clusters_by new ≡ clusters_by old
  pub present : present_of new ≡ present_of old
  pub kept : frame new ≡ frame old
  pub held : holdings new ≡ holdings old

-- Where these are parts of a state, they stand for that state with another thread at an index; they store and hold the same, keep their accounts, and are laid as before where its home is a cluster of the state.
pub record Replaces (old : List ClusterPart) (t : ℕ) (thread : Thread) (new : List ClusterPart) : Type 0 where
  pub state : (s : Scenario) (table : Table) (groups : List GroupPart) → AreLaid s.clusters (layouts old) → joined s table new groups ≡ put_thread (joined s table old groups) t thread
  pub laid : (counts : List ℕ) → AreLaid counts (layouts old) → (has_begun thread.life ≡ true → thread.home < length counts) → AreLaid counts (layouts new)
  pub kept : stored new ≡ stored old
  pub accounts : accounts new ≡ accounts old
  pub held : holdings new ≡ holdings old

-- the state with other timers in a cluster
abbrev pub with_timers : Plain → ℕ → (List Armed → List Armed) → Plain
with_timers k c change = put_cluster k c (record (cluster_at k c) { timers = change (cluster_at k c).timers })

-- Where these are parts of a state, they stand for that state with changed timers in the home of a thread; and they keep their frame and their holdings.
pub record PutsTimers (old : List ClusterPart) (t : ℕ) (change : List Armed → List Armed) (new : List ClusterPart) : Type 0 where
  pub state : (s : Scenario) (table : Table) (groups : List GroupPart) → AreLaid s.clusters (layouts old) → joined s table new groups ≡ with_timers (joined s table old groups) (thread_lent old t).home change
  pub threads : threads_of new ≡ threads_of old
  pub kept : frame new ≡ frame old
  pub held : holdings new ≡ holdings old

-- The parts stand for the state in which the first timer of a cluster that is due now is taken out; and they keep their frame and their holdings.
pub record TakesDue (old : List ClusterPart) (c : ℕ) (new : List ClusterPart) : Type 0 where
  pub state : (s : Scenario) (table : Table) (groups : List GroupPart) → c < length s.clusters → joined s table new groups ≡ take_due (joined s table old groups) c
  pub kept : frame new ≡ frame old
  pub held : holdings new ≡ holdings old

-- The parts stand for the same state and keep their frame, and a semaphore is held by its owner, if it has one, in the part in which the owner lives and in no other; who holds another does so still.
pub record NotesOwner (old : List ClusterPart) (i : ℕ) (holding : Option Holding) (new : List ClusterPart) : Type 0 where
  pub threads : threads_of new ≡ threads_of old
  pub clusters : clusters_by new ≡ clusters_by old
  pub present : present_of new ≡ present_of old
  pub kept : frame new ≡ frame old
  pub held : (j : ℕ) → holder (holdings new) j ≡ (if j == i then holding else holder (holdings old) j)
  pub there : AllByRecursion (IsNotedIn i holding) new

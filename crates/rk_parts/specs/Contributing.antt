-- Contributions as they are made anew.
use Rattle.std.specs.Prelude.{ℕ, ◌≡◌, ◌≢◌, ◌<◌, List, Bool, true, false, ◌==◌, Option, None, Some, length}
use Rattle.rk_model.specs.declared.state.Wait.{Wait}
use Rattle.rk_model.specs.declared.state.Wait.TheVariants.{ForTime, ForEvents, AtBarrier, ForPeriod, ForSemaphore}
use Rattle.rk_model.specs.declared.index_set.IndexSet.{IndexSet}
use Rattle.rk_model.specs.Lists.{nth}
use Rattle.rk_model.specs.Directives.Objects.{has_begun}
use Rattle.rk_agg.specs.Shares.{found}
use Rattle.rk_parts.specs.declared.bearing.Bearing.{Bearing}
use Rattle.rk_parts.specs.declared.parts.ClusterPart.{ClusterPart}
use Rattle.rk_parts.specs.Contributions.{bore, flagged}
use Rattle.rk_parts.specs.Noted.{part_at, share_at}
use Rattle.rk_parts.specs.Threads.{bearing_at, no_bearing, unlent, LendAlone}

-- whether one that waits for this waits for a semaphore
abbrev pub waits_for : Option Wait → ℕ → Bool
waits_for None i = false
waits_for (Some ForTime) i = false
waits_for (Some (ForEvents set all)) i = false
waits_for (Some (AtBarrier j)) i = false
waits_for (Some (ForPeriod j)) i = false
waits_for (Some (ForSemaphore j spins)) i = j == i

-- a thread of a part bears what it bore
abbrev pub BearsAsBorne : ClusterPart → ℕ → Type 0
BearsAsBorne part t = bearing_at part.threads.places t ≡ nth no_bearing part.threads.borne t

-- in a part a semaphore is held as is noted
abbrev pub IsHeldAsNoted : ClusterPart → ℕ → Type 0
IsHeldAsNoted part i = nth None part.holdings.owners i ≡ nth None part.holdings.noted i

-- a part but for its contributions
abbrev pub flat : ClusterPart → ClusterPart
flat part = record part { threads = unlent part.threads }

-- where a thread lived, there is the part of its home
abbrev pub Lives : List ClusterPart → Type 0
Lives parts = (u : ℕ) → has_begun (bore parts u).life ≡ true → (at : ℕ) × ((at < length parts) × ((part_at parts at).lined.number ≡ (bore parts u).home))

-- A thread has no flag in the first, and contributed to none that has.
pub record IsFresh (touched : IndexSet) (parts : List ClusterPart) (u : ℕ) : Type 0 where
  pub self : flagged touched u ≡ false
  pub others : (at w : ℕ) → at < length parts → flagged touched w ≡ true → share_at parts at w u ≡ None

-- what the thread of an index bears in a part, and what it bore there when the part settled last
abbrev pub bears_at : ClusterPart → ℕ → Bearing
bears_at part t = bearing_at part.threads.places t

abbrev pub bore_at : ClusterPart → ℕ → Bearing
bore_at part t = nth no_bearing part.threads.borne t

-- By what they bear in parts, threads live each in one of these at most, whose cluster is their home.
pub record AreHomed (bear : ClusterPart → ℕ → Bearing) (parts : List ClusterPart) : Type 0 where
  pub once : (i j t : ℕ) → has_begun (bear (part_at parts i) t).life ≡ true → has_begun (bear (part_at parts j) t).life ≡ true → i ≡ j
  pub home : (i t : ℕ) → has_begun (bear (part_at parts i) t).life ≡ true → (bear (part_at parts i) t).home ≡ (part_at parts i).lined.number

-- No two parts are of one cluster, and threads live in the part of their home, as they did when the parts settled last.
pub record AreHomes (parts : List ClusterPart) : Type 0 where
  pub apart : (i j : ℕ) → i < length parts → j < length parts → (part_at parts i).lined.number ≡ (part_at parts j).lined.number → i ≡ j
  pub now : AreHomed bears_at parts
  pub before : AreHomed bore_at parts

-- Each thread that bears this contributes in a part to itself alone.
abbrev pub AreAlone : (ℕ → Bearing) → ClusterPart → Type 0
AreAlone bear part = LendAlone bear part.lined.number (found part.threads.shares)

-- In other clusters than its own a part has the contributions that it had.
abbrev pub AsElsewhere : ClusterPart → ClusterPart → Type 0
AsElsewhere old new = (t d u : ℕ) → d ≢ old.lined.number → found new.threads.shares t d u ≡ found old.threads.shares t d u

-- and so has each of these parts
abbrev pub AreAsElsewhere : List ClusterPart → List ClusterPart → Type 0
AreAsElsewhere old new = (at : ℕ) → at < length old → AsElsewhere (part_at old at) (part_at new at)

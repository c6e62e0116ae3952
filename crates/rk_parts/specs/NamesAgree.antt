-- The names and indices of the objects of a state.
use Rattle.std.specs.Prelude.{ℕ, ◌≡◌, List, [], ◌∷◌, Bool, false, Option, Some, None, if◌then◌else◌}
use Rattle.rk_model.specs.declared.ids.Class.{Class}
use Rattle.rk_model.specs.Lists.{nth, times}
use Rattle.rk_model.specs.Names.{Names, Table, names_of, with_names, indices, taken}
use Rattle.rk_model.specs.State.{Objects, no_thread, no_semaphore, no_barrier, no_partition, no_period}
use Rattle.rk_model.specs.Directives.Objects.{has_begun, begun_in}
use Rattle.rk_ids.specs.LiveObjects.{IsSplit}

-- The first of these free indices was taken, after which this stands; or there is none, and nothing changed.
abbrev pub TakesFirst : {X : Type 0} → List ℕ → (ℕ → List ℕ → X) → Option ℕ → X → X → Type 0
TakesFirst [] taken result old new = (result ≡ None) × (new ≡ old)
TakesFirst (index ∷ free) taken result old new = (result ≡ Some index) × (new ≡ taken index free)

-- the names of a class after an index was taken for an object of this name
abbrev pub taken_by : ℕ → Names → ℕ → List ℕ → Names
taken_by name names index free = taken names index free name

-- and all names, where no other class changed
abbrev pub taken_in : Class → ℕ → Table → ℕ → List ℕ → Table
taken_in class name table index free = with_names class (taken (names_of class table) index free name) table

-- The names and the indices of a class agree with which of its objects have begun.
pub record IsNamed (names : Names) (begun : ℕ → Bool) : Type 0 where
  -- each index from 1 to 64 is that of one live object or is free once, and no other index is
  pub split : IsSplit names
  -- an index is that of a live object, once, exactly where the object has begun
  pub live : (index : ℕ) → times index (indices names.live) ≡ (if begun index then 1 else 0)

-- Names and objects agree.
pub record AreNamed (table : Table) (objects : Objects) : Type 0 where
  pub class : (class : Class) → IsNamed (names_of class table) (begun_in objects class)
  -- where no task has begun, there is no thread; where no barrier has, no barrier; and so it is with the others
  pub blank : (index : ℕ) → has_begun (nth no_thread objects.threads index).life ≡ false → nth no_thread objects.threads index ≡ no_thread
  pub free : (index : ℕ) → (nth no_semaphore objects.semaphores index).live ≡ false → nth no_semaphore objects.semaphores index ≡ no_semaphore
  pub bare : (index : ℕ) → (nth no_barrier objects.barriers index).live ≡ false → nth no_barrier objects.barriers index ≡ no_barrier
  pub unused : (index : ℕ) → (nth no_partition objects.partitions index).live ≡ false → nth no_partition objects.partitions index ≡ no_partition
  pub idle : (index : ℕ) → (nth no_period objects.periods index).live ≡ false → nth no_period objects.periods index ≡ no_period

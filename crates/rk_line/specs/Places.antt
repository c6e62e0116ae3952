-- Lines as lists of places, each of which has a thread and its priority.
use Rattle.std.specs.Prelude.{ℕ, ◌≡◌, ◌≤◌, true, List, [], ◌∷◌, ◌==◌, not, map, filter, count_by, nat_le, nat_lt, ◌+◌, if◌then◌else◌}
use Rattle.std.specs.List.{slice_index_or}
use Rattle.rk_model.specs.declared.limits.TheConstants.{MOST_OBJECTS}
use Rattle.rk_model.specs.Lists.{has, times}
use Rattle.rk_line.specs.declared.line.Place.{Place}

-- the threads of a ready queue, in their order
abbrev pub threads : List Place → List ℕ
threads line = map (λ (place : Place). place.thread) line

-- the priority of a thread in a ready queue; 0 where it isn't in it
abbrev pub prio_in : List Place → ℕ → ℕ
prio_in [] t = 0
prio_in (place ∷ line) t = if place.thread == t then place.prio else prio_in line t

-- the ready queue without a thread
abbrev pub without : ℕ → List Place → List Place
without t line = filter (λ (place : Place). not (place.thread == t)) line

-- a place, with another priority where it is the thread's
abbrev pub with_prio_at : ℕ → ℕ → Place → Place
with_prio_at t prio place = if place.thread == t then record place { prio = prio } else place

-- the ready queue in which a thread has another priority, at its place
abbrev pub with_prio : ℕ → ℕ → List Place → List Place
with_prio t prio line = map (with_prio_at t prio) line

-- Each thread stands in the ready queue once, and is one of 1 to 64.
pub record IsLine (line : List Place) : Type 0 where
  pub once : (t : ℕ) → times t (threads line) ≤ 1
  pub within : (t : ℕ) → has (threads line) t ≡ true → (1 ≤ t) × (t ≤ MOST_OBJECTS)

-- the priority of a place of a ready queue, from 0; 0 where it has no such place
abbrev pub prio_at : List Place → ℕ → ℕ
prio_at line at = slice_index_or (map (λ (place : Place). place.prio) line) at 0

-- How many places are more urgent than one of a priority that stands between two parts of a ready queue: those in front of it whose priority is its own or less, and those behind it whose priority is less.
abbrev pub more_urgent : List Place → ℕ → List Place → ℕ
more_urgent front prio back = count_by (λ (place : Place). nat_le place.prio prio) front + count_by (λ (place : Place). nat_lt place.prio prio) back

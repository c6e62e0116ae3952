-- Registers of changes, and what they do to a ready queue.
use Rattle.std.specs.Prelude.{ℕ, zero, suc, ◌+◌, List, [], ◌∷◌, ◌++◌, Option, Some, None, ◌==◌, if◌then◌else◌}
use Rattle.rk_model.specs.declared.limits.TheConstants.{MOST_OBJECTS}
use Rattle.rk_model.specs.Lists.{nth}
use Rattle.rk_line.specs.declared.line.Place.{Place}
use Rattle.rk_cluster.specs.declared.moves.Change.{Change}
use Rattle.rk_cluster.specs.declared.moves.Change.TheVariants.{Leave, ToEnd, ToFront, Stay}

-- the change of a thread among those of the threads from 1 on
abbrev pub change_at : List (Option Change) → ℕ → Option Change
change_at changes t = nth None changes t

-- the register without changes
abbrev pub no_changes : ℕ → Option Change
no_changes t = None

-- the register in which a thread has another change
abbrev pub with_change : (ℕ → Option Change) → ℕ → Change → ℕ → Option Change
with_change changes u change t = if u == t then Some change else changes t

-- the place that a thread takes at the front, where it goes there
abbrev pub front_place : ℕ → Option Change → List Place
front_place t None = []
front_place t (Some Leave) = []
front_place t (Some (ToEnd p)) = []
front_place t (Some (ToFront p)) = (record { thread = t; prio = p }) ∷ []
front_place t (Some (Stay p)) = []

-- the place that a thread takes at the end, where it goes there
abbrev pub end_place : ℕ → Option Change → List Place
end_place t None = []
end_place t (Some Leave) = []
end_place t (Some (ToEnd p)) = (record { thread = t; prio = p }) ∷ []
end_place t (Some (ToFront p)) = []
end_place t (Some (Stay p)) = []

-- what stays of a place of the ready queue: the place itself where its thread has no change, and its thread with the new priority where it stays
abbrev pub kept_place : Place → Option Change → List Place
kept_place place None = place ∷ []
kept_place place (Some Leave) = []
kept_place place (Some (ToEnd p)) = []
kept_place place (Some (ToFront p)) = []
kept_place place (Some (Stay p)) = (record place { prio = p }) ∷ []

-- the places at the front of n threads, from t on, in rising index
abbrev pub fronts_from : (ℕ → Option Change) → ℕ → ℕ → List Place
fronts_from changes t zero = []
fronts_from changes t (suc n) = front_place t (changes t) ++ fronts_from changes (t + 1) n

-- the places at the end of n threads, from t on, in rising index
abbrev pub ends_from : (ℕ → Option Change) → ℕ → ℕ → List Place
ends_from changes t zero = []
ends_from changes t (suc n) = end_place t (changes t) ++ ends_from changes (t + 1) n

-- the places at the front of all threads
unfoldable pub fronts : (ℕ → Option Change) → List Place
fronts changes = fronts_from changes 1 MOST_OBJECTS

-- the places at the end of all threads
unfoldable pub ends : (ℕ → Option Change) → List Place
ends changes = ends_from changes 1 MOST_OBJECTS

-- what stays of a ready queue, in its order
abbrev pub kept_places : (ℕ → Option Change) → List Place → List Place
kept_places changes [] = []
kept_places changes (place ∷ line) = kept_place place (changes place.thread) ++ kept_places changes line

-- The ready queue after the changes: those that go to the front, the least index first; those that stay, in their order; and those that go to the end, in rising index.
abbrev pub moved : (ℕ → Option Change) → List Place → List Place
moved changes line = fronts changes ++ kept_places changes line ++ ends changes

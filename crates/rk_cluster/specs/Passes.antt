-- The ready queue, one thread's change after another.
use Rattle.std.specs.Prelude.{ℕ, zero, suc, ◌+◌, ◌<◌, ◌≡◌, List, ◌++◌, false, Option, Some, None, ◌==◌, if◌then◌else◌}
use Rattle.std.specs.Int.{bit_at}
use Rattle.rk_model.specs.Lists.{has}
use Rattle.rk_line.specs.declared.line.Place.{Place}
use Rattle.rk_line.specs.Places.{threads}
use Rattle.rk_cluster.specs.declared.moves.Change.{Change}
use Rattle.rk_cluster.specs.declared.moves.Change.TheVariants.{ToEnd}
use Rattle.rk_cluster.specs.Registers.{change_at, front_place, kept_places}

-- the register in which one thread has a change
abbrev pub alone : ℕ → Option Change → ℕ → Option Change
alone t change u = if u == t then change else None

-- the ready queue after one thread's change, where a thread that goes to the end is taken out
abbrev pub changed_but_end : ℕ → Option Change → List Place → List Place
changed_but_end t change line = front_place t change ++ kept_places (alone t change) line

-- the ready queue after the changes of n threads, from t on, the greatest index first, where those that go to the end are taken out
abbrev pub changed_but_ends_from : (ℕ → Option Change) → ℕ → ℕ → List Place → List Place
changed_but_ends_from changes t zero line = line
changed_but_ends_from changes t (suc n) line = changed_but_end t (changes t) (changed_but_ends_from changes (t + 1) n line)

-- a thread that goes to the end isn't in the ready queue
abbrev pub IsOut : ℕ → Option Change → List Place → Type 0
IsOut t change line = (p : ℕ) → change ≡ Some (ToEnd p) → has (threads line) t ≡ false

-- no thread that goes to the end is in the ready queue
abbrev pub EndsAreOut : (ℕ → Option Change) → List Place → Type 0
EndsAreOut changes line = (t : ℕ) → IsOut t (changes t) line

-- a place that isn't marked has no change
abbrev pub AreMarked : ℕ → List (Option Change) → Type 0
AreMarked marks changes = (i : ℕ) → i < 64 → bit_at marks i ≡ 0 → change_at changes (suc i) ≡ None

-- What a part has of each semaphore that one of its threads owns.
use Rattle.std.specs.Prelude.{ℕ, ◌≡◌, List, length, Bool, false, Option, None, Some}
use Rattle.std.specs.List.{slice_index_or}
use Rattle.rk_model.specs.declared.limits.TheConstants.{MOST_OBJECTS}
use Rattle.rk_model.specs.IndexSets.{is_in}
use Rattle.rk_model.specs.Lists.{nth}
use Rattle.rk_model.specs.Scheduling.Chains.{lends}
use Rattle.rk_model.specs.declared.index_set.IndexSet.{IndexSet}
use Rattle.rk_parts.specs.declared.holdings.Holding.{Holding}
use Rattle.rk_parts.specs.Threads.{AreApart, AsNoted}

-- for each index of a semaphore how a thread of the part holds it, if one does, and how one did when the part settled last
pub record Held : Type 0 where
  pub owners : List (Option Holding)
  pub noted : List (Option Holding)

-- A semaphore that is held so raises no priority: those that wait for it lend none, and it has no ceiling.
pub record IsPlain (h : Holding) : Type 0 where
  pub protocol : lends h.protocol ≡ false
  pub ceilings : (c : ℕ) → slice_index_or h.ceilings c 0 ≡ 0

abbrev pub RaisesNone : Option Holding → Type 0
RaisesNone None = Unit {0}
RaisesNone (Some h) = IsPlain h

-- A semaphore that is held so, if it is held, has no ceiling.
abbrev pub HasNoCeiling : Option Holding → Type 0
HasNoCeiling None = Unit {0}
HasNoCeiling (Some h) = (c : ℕ) → slice_index_or h.ceilings c 0 ≡ 0

-- None of the holdings of a part raises a priority, nor did one when the part settled last.
pub record RaiseNone (held : Held) : Type 0 where
  pub now : (i : ℕ) → RaisesNone (nth None held.owners i)
  pub before : (i : ℕ) → RaisesNone (nth None held.noted i)

-- There are 64 of each; those stand among the changed ones, each once, that aren't held as is noted; those with ceilings stand among these; and none raises a priority unless one may.
pub record AreHeldKept (changed : List ℕ) (capped : IndexSet) (may : Bool) (held : Held) : Type 0 where
  pub owners_each : length held.owners ≡ MOST_OBJECTS
  pub noted_each : length held.noted ≡ MOST_OBJECTS
  pub apart : AreApart changed
  pub as_noted : AsNoted None changed held.noted held.owners
  pub uncapped : (i : ℕ) → is_in capped i ≡ false → HasNoCeiling (nth None held.owners i)
  pub plain : may ≡ false → RaiseNone held

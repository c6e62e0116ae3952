-- What reading to the end gives.
use Rattle.std.specs.Prelude.{ℕ, ◌+◌, ◌≡◌, ◌≤◌, List, length, Option, Bool, true, false}
use Rattle.rk_io.specs.declared.source.Input.{Input}
use Rattle.rk_io.specs.Bytes.{Consumes, IsUsedUp}

-- the bytes reach to the end and are at most so many, or are one more
abbrev pub IsWhole : Bool → Option (List ℕ) → Option (List ℕ) → ℕ → List ℕ → Type 0
IsWhole true before now most bytes = (length bytes ≤ most) × IsUsedUp before now
IsWhole false before now most bytes = length bytes ≡ most + 1

-- the input is what the call took from the source, whole or one byte over the most
pub record HasRead (before now : Option (List ℕ)) (most : ℕ) (input : Input) : Type 0 where
  pub bytes : Consumes before now input.bytes.items
  pub whole : IsWhole input.whole before now most input.bytes.items

-- Which bytes a call takes from a source or gives to a sink. None: it doesn't tell.
use Rattle.std.specs.Prelude.{ℕ, ◌≡◌, ◌≤◌, List, [], ◌++◌, take, length, Option, Some, None, Result, Ok, Err}

-- what was left is these bytes and what is left now; a source that told still tells
abbrev pub Consumes : Option (List ℕ) → Option (List ℕ) → List ℕ → Type 0
Consumes None now bytes = Unit {0}
Consumes (Some before) None bytes = ⊥
Consumes (Some before) (Some now) bytes = before ≡ bytes ++ now

-- what was left is some bytes, which the call took, and what is left now
abbrev pub ConsumesPrefix : Option (List ℕ) → Option (List ℕ) → Type 0
ConsumesPrefix before now = (bytes : List ℕ) × Consumes before now bytes

-- nothing is left
abbrev pub IsAtEnd : Option (List ℕ) → Type 0
IsAtEnd None = Unit {0}
IsAtEnd (Some left) = left ≡ []

-- nothing is left of what was told before
abbrev pub IsUsedUp : Option (List ℕ) → Option (List ℕ) → Type 0
IsUsedUp None now = Unit {0}
IsUsedUp (Some before) None = ⊥
IsUsedUp (Some before) (Some now) = now ≡ []

-- what a call moved: as many of the first bytes as it said, and nothing where it failed
abbrev pub moved : {E : Type 0} → Result ℕ E → List ℕ → List ℕ
moved (Ok n) bytes = take n bytes
moved (Err e) bytes = []

-- a sink has these bytes behind what it had; one that told still tells
abbrev pub Appends : Option (List ℕ) → Option (List ℕ) → List ℕ → Type 0
Appends None now bytes = Unit {0}
Appends (Some before) None bytes = ⊥
Appends (Some before) (Some now) bytes = now ≡ before ++ bytes

-- a sink has a prefix of these bytes behind what it had
abbrev pub AppendsPrefix : Option (List ℕ) → Option (List ℕ) → List ℕ → Type 0
AppendsPrefix before now bytes = (n : ℕ) × (n ≤ length bytes) × Appends before now (take n bytes)

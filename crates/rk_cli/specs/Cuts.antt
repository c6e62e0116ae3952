-- An input of `check`: the scenario's bytes and the schedule's.
use Rattle.std.specs.Prelude.{ℕ, List, [], ◌∷◌, ◌++◌, Bool, codes, ◌==◌, if◌then◌else◌}
use Rattle.std.specs.Str.{bytes_eq}

-- the bytes of a scenario, and those of a schedule
pub record Parted : Type 0 where
  pub scenario : List ℕ
  pub schedule : List ℕ

-- the line between the two
unfoldable pub is_mark : List ℕ → Bool
is_mark line = bytes_eq line (codes "---")

-- the parts of bytes behind whole lines, of which none is the mark, and behind what has come of the next line
abbrev pub parted_from : List ℕ → List ℕ → List ℕ → Parted
parted_from lines line [] = if is_mark line then record { scenario = lines; schedule = [] } else record { scenario = lines ++ line; schedule = [] }
parted_from lines line (b ∷ bytes) =
    if b == 10 then (if is_mark line then record { scenario = lines; schedule = bytes } else parted_from (lines ++ line ++ 10 ∷ []) [] bytes)
    else parted_from lines (line ++ b ∷ []) bytes

-- The parts of an input: the bytes in front of the first line that is exactly `---`, and those behind it. Without such a line all bytes are the scenario's, and the schedule has none.
abbrev pub parted : List ℕ → Parted
parted bytes = parted_from [] [] bytes

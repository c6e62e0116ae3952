-- The processors of lent parts.
use Rattle.std.specs.Prelude.{ℕ, ◌+◌, ◌-◌, List, [], ◌∷◌, Bool, ◌&&◌, Option, Some, None, nat_lt, nat_le, length, if◌then◌else◌}
use Rattle.std.specs.List.{slice_index_or}
use Rattle.rk_parts.specs.declared.parts.ClusterPart.{ClusterPart}
use Rattle.rk_parts.specs.declared.processors.Calling.{Calling}

-- whether a processor is one of so many, from a first on
abbrev pub is_seat : ℕ → ℕ → ℕ → Bool
is_seat first count p = nat_le first p && nat_lt p (first + count)

-- the thread of a processor in the first of these parts that has it
abbrev pub seat_in : List ClusterPart → ℕ → Option ℕ
seat_in [] p = None
seat_in (part ∷ parts) p = if is_seat part.lined.first (length part.lined.cpus) p then slice_index_or part.lined.cpus (p - part.lined.first) None else seat_in parts p

-- the processor of one that has a directive, if there is one
abbrev pub seat_of : Option Calling → Option ℕ
seat_of None = None
seat_of (Some calling) = Some calling.cpu

-- Keys: one for each part of the kernel, and one for each seat.
use Rattle.std.specs.Prelude.{ℕ, zero, suc, ◌+◌, List, [], ◌∷◌}
use Rattle.rk_model.specs.declared.keys.TheConstants.{KEYS, FIRST_SEAT}
use Rattle.rk_model.specs.declared.entry.Entry.{Entry}

-- n keys from a on
abbrev pub keys_from : ℕ → ℕ → List ℕ
keys_from a zero = []
keys_from a (suc n) = a ∷ keys_from (suc a) n

-- all keys
abbrev pub all_keys : List ℕ
all_keys = keys_from 0 KEYS

-- the keys of the parts
abbrev pub part_keys : List ℕ
part_keys = keys_from 0 FIRST_SEAT

-- the key of a seat
abbrev pub seat_key : ℕ → ℕ
seat_key q = FIRST_SEAT + q

-- The keys of the parts that an entry touches: of all nine.
abbrev pub touches : Entry → List ℕ
touches x = part_keys

-- The keys of an entry: its seat's, and those of the parts that it touches.
abbrev pub keys : Entry → List ℕ
keys x = seat_key x.seat ∷ touches x

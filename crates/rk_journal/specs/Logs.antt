-- Logs: histories, each entry with the keys under which it was appended.
use Rattle.std.specs.Prelude.{ℕ, ◌≡◌, ◌+◌, List, [], ◌∷◌, ◌++◌}
use Rattle.rk_model.specs.declared.entry.Entry.{Entry}
use Rattle.rk_model.specs.Lists.{times}
use Rattle.rk_journal.specs.declared.views.Noted.{Noted}

-- an entry, and the keys under which it was appended
abbrev pub noted : Entry → List ℕ → Noted
noted e ks = record { entry = e; keys = ks }

-- the entries without their keys
abbrev pub entries_of : List Noted → List Entry
entries_of [] = []
entries_of (x ∷ xs) = x.entry ∷ entries_of xs

-- how often the entries of a log have a key
abbrev pub uses : ℕ → List Noted → ℕ
uses k [] = 0
uses k (x ∷ xs) = times k x.keys + uses k xs

-- The log begins with a front, and no entry after the front has the key.
abbrev pub Quiet : ℕ → List Noted → List Noted → Type 0
Quiet k front log = (rest : List Noted) × (front ++ rest ≡ log) × (uses k rest ≡ 0)

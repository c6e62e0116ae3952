-- Logs whose entries were appended under their keys.
use Rattle.std.specs.Prelude.{ℕ, ◌≡◌, List}
use Rattle.std.specs.List.{AllByRecursion}
use Rattle.rk_model.specs.Lists.{times}
use Rattle.rk_model.specs.Keys.{keys}
use Rattle.rk_journal.specs.declared.views.Noted.{Noted}

-- The entry was appended under its keys, each once, and no others.
abbrev pub IsKeyed : Noted → Type 0
IsKeyed x = (k : ℕ) → times k x.keys ≡ times k (keys x.entry)

-- Each entry of the log was.
abbrev pub AreKeyed : List Noted → Type 0
AreKeyed log = AllByRecursion IsKeyed log

-- Registers of marks: the mark of a key, if it is in, has the key's index.
use Rattle.std.specs.Prelude.{ℕ, ◌≡◌, ◌<◌, ◌≤◌, List, [], ◌∷◌, ◌++◌, Option, Some, None, is_none, slice_index_or, IfSome, if◌then◌else◌}
use Rattle.rk_model.specs.Lists.{times}
use Rattle.atomic_table.specs.Seated.{TableId}
use Rattle.rk_model.specs.declared.entry.Entry.{Entry}
use Rattle.rk_journal.specs.declared.views.Noted.{Noted}
use Rattle.rk_journal.specs.Logs.{noted, Quiet}
use Rattle.rk_journal.specs.JournalViews.{MarkView}

-- the mark of a key
abbrev pub mark_at : List (Option MarkView) → ℕ → Option MarkView
mark_at held k = slice_index_or held k None

-- Each mark has its key's index.
abbrev pub AreInPlace : List (Option MarkView) → Type 0
AreInPlace held = (k : ℕ) → IfSome (mark_at held k) (λ m. m.key ≡ k)

-- the keys of the marks that are in, from the last to the first, and these keys after them
abbrev pub held_keys : List (Option MarkView) → List ℕ → List ℕ
held_keys [] ks = ks
held_keys (Some m ∷ ms) ks = held_keys ms (m.key ∷ ks)
held_keys (None ∷ ms) ks = held_keys ms ks

-- The keys are those of the marks that are in, each once.
abbrev pub AreKeysOf : List (Option MarkView) → List ℕ → Type 0
AreKeysOf held ks = (k : ℕ) → times k ks ≡ (if is_none (mark_at held k) then 0 else 1)

-- Each mark that is in is of this opening.
abbrev pub AreOf : TableId → List (Option MarkView) → Type 0
AreOf opening [] = Unit {0}
AreOf opening (Some m ∷ ms) = (m.opening ≡ opening) × AreOf opening ms
AreOf opening (None ∷ ms) = AreOf opening ms

-- The marks of the first n keys are in, each with the empty front, and no others.
pub record AreFirst (opening : TableId) (n : ℕ) (held : List (Option MarkView)) : Type 0 where
  pub each : (k : ℕ) → k < n → mark_at held k ≡ Some record { opening = opening; front = []; key = k }
  pub no_others : (k : ℕ) → n ≤ k → mark_at held k ≡ None

-- The same mark has now seen the history `log`, and in the history `before`, no entry after its old front has its key. No mark stays none.
abbrev pub IsRenewed : List Noted → List Noted → Option MarkView → Option MarkView → Type 0
IsRenewed before log (Some m) (Some n) = (n.opening ≡ m.opening) × (n.key ≡ m.key) × (n.front ≡ log) × Quiet m.key m.front before
IsRenewed before log None None = Unit {0}
IsRenewed before log _ _ = ⊥

-- The marks of a register are renewed, each at its index.
abbrev pub AreRenewed : List Noted → List Noted → List (Option MarkView) → List (Option MarkView) → Type 0
AreRenewed before log [] [] = Unit {0}
AreRenewed before log (m ∷ ms) (n ∷ ns) = IsRenewed before log m n × AreRenewed before log ms ns
AreRenewed before log _ _ = ⊥

-- the history, which goes on with an entry under these keys, if there is an entry
abbrev pub longer : Option Entry → List ℕ → List Noted → List Noted
longer (Some e) ks log = log ++ noted e ks ∷ []
longer None ks log = log

-- Tokens of the board: the journal's, and those of marks.
use Rattle.std.specs.Prelude.{ℕ, ◌≡◌, List, [], ◌∷◌, Option, Some, None}
use Rattle.atomic_table.specs.Seated.{TableId}
use Rattle.atomic_table.specs.declared.shared.Seat.{Seat}
use Rattle.rk_journal.specs.declared.views.Noted.{Noted}
use Rattle.rk_journal.specs.declared.views.Known.{Known}
use Rattle.rk_journal.specs.JournalRule.{writer, holder}

-- a token of the board
abbrev pub Token : Type 0
Token = Seat (Unit {0}) Known

-- The token is the journal's, knows this history, and has these keys.
abbrev pub IsWriter : Token → List Noted → List ℕ → Type 0
IsWriter t log ks = t.me ≡ (writer log ks, [])

-- The token is the journal's, of a board with this identity and one word.
abbrev pub WritesTo : TableId → Token → Type 0
WritesTo board t = (t.table_id ≡ board) × (board.words ≡ 1) × IsWriter t t.me.0.list t.me.0.keys

-- The token is there, is a mark's, and has this key alone.
abbrev pub HasKey : ℕ → Option Token → Type 0
HasKey k (Some t) = t.me ≡ (holder t.me.0.list (k ∷ []), [])
HasKey k None = ⊥

-- The journal, a mark and a front as contracts see them. An opening is known by the identity of its board.
use Rattle.std.specs.Prelude.{ℕ, List, [], Option, Some, None}
use Rattle.atomic_table.specs.Seated.{TableId}
use Rattle.rk_journal.specs.declared.views.Noted.{Noted}
use Rattle.rk_journal.specs.Tokens.{Token}

-- The journal: its opening, the limit of its entries, and the history.
pub record JournalView : Type 0 where
  pub opening : TableId
  pub limit : ℕ
  pub log : List Noted

-- A mark: its opening, the beginning of the history that it has seen, and its key.
pub record MarkView : Type 0 where
  pub opening : TableId
  pub front : List Noted
  pub key : ℕ

-- A front: its opening, and the beginning of the history that it has seen.
pub record FrontView : Type 0 where
  pub opening : TableId
  pub front : List Noted

-- the identity of no board
abbrev pub no_table : TableId
no_table = record { words = 0; slots = 0; views_name = 0; atom = 0; block = 0; offset = 0; slot_names = [] }

-- a mark of a key by its token, which is there but inside of calls
abbrev pub mark_view : ℕ → Option Token → MarkView
mark_view k (Some t) = record { opening = t.table_id; front = t.me.0.list; key = k }
mark_view k None = record { opening = no_table; front = []; key = k }

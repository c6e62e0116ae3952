-- The rule of the board, and what its steps do. The board has one word, the length of the history. Its views are what its tokens know: each a beginning of the history, with the keys that the token has.
use Rattle.std.specs.Prelude.{ℕ, ◌≡◌, ◌+◌, ◌<◌, ◌≤◌, true, false, List, [], ◌∷◌, ◌++◌, length, slice_index, Option, Some, None, IfSome}
use mathlib.Core.Option.{some}
use mathlib.Core.List.{IsPrefix}
use lib.ListN.{get_elem?}
use Rattle.atomic_table.specs.Table.{State, Me, Step}
use Rattle.rk_model.specs.declared.entry.Entry.{Entry}
use Rattle.rk_journal.specs.declared.views.Noted.{Noted}
use Rattle.rk_journal.specs.declared.views.Old.{Old}
use Rattle.rk_journal.specs.declared.views.Known.{Known}
use Rattle.rk_model.specs.Lists.{times}
use Rattle.rk_journal.specs.Logs.{noted, Quiet}

-- the view of the journal's token between two steps: the whole history, and the keys that it has
abbrev pub writer : List Noted → List ℕ → Known
writer log ks = record { owns = true; list = log; keys = ks; old = None }

-- the view of a mark's or a front's token
abbrev pub holder : List Noted → List ℕ → Known
holder front ks = record { owns = false; list = front; keys = ks; old = None }

-- the view of a token that was taken in: it knows and has nothing
abbrev pub spent : Known
spent = holder [] []

-- the first of the keys alone
abbrev pub first_key : List ℕ → List ℕ
first_key [] = []
first_key (k ∷ ks) = k ∷ []

-- the keys but the first
abbrev pub later_keys : List ℕ → List ℕ
later_keys [] = []
later_keys (k ∷ ks) = ks

-- what is left of a view whose first key goes to a new token
abbrev pub without_first : Known → Known
without_first v = record { owns = v.owns; list = v.list; keys = later_keys v.keys; old = v.old }

-- the view of that new token
abbrev pub with_first : Known → Known
with_first v = holder v.list (first_key v.keys)

-- the view of a new token that gets no key
abbrev pub with_none : Known → Known
with_none v = holder v.list []

-- the view v of the journal's token, which has taken in a token of view w
abbrev pub joined : Known → Known → Known
joined v w = record { owns = v.owns; list = v.list; keys = w.keys ++ v.keys; old = Some record { list = w.list; keys = w.keys } }

-- What was taken in is a beginning of the list, and no entry after it has one of its keys.
abbrev pub OldFits : Option Old → List Noted → Type 0
OldFits o list = IfSome o (λ old. IsPrefix old.list list × ((k : ℕ) → 0 < times k old.keys → Quiet k old.list list))

-- how often the views have a key
abbrev pub carried : ℕ → List Known → ℕ
carried k [] = 0
carried k (v ∷ vs) = times k v.keys + carried k vs

-- What holds of the view v of token `by`, where `owner` is the journal's token and `log` the whole history: only the owner's knows that it is the owner's, and it knows the whole history; each knows a beginning, after which no entry has one of its keys.
pub record Fits (owner : ℕ) (log : List Noted) (by : ℕ) (v : Known) : Type 0 where
  pub owns : v.owns ≡ true → (by ≡ owner) × (v.list ≡ log)
  pub begins : IsPrefix v.list log
  pub quiet : (k : ℕ) → 0 < times k v.keys → Quiet k v.list log
  pub old : OldFits v.old v.list

-- The rule: the word is the length of the history, one token is the journal's, each view fits, and no key is had twice.
pub record Kept (s : State (Unit {0}) Known) : Type 0 where
  pub owner : ℕ
  pub log : List Noted
  pub wide : length s.words ≡ 1
  pub word : slice_index s.words 0 ≡ length log
  pub owned : (v : Known) × (get_elem? s.views owner ≡ some v) × (v.owns ≡ true)
  pub each : (by : ℕ) (v : Known) → get_elem? s.views by ≡ some v → Fits owner log by v
  pub once : (k : ℕ) → carried k s.views ≤ 1

-- An append: the history goes on with the entry, under the keys that the journal's token has.
abbrev pub Appends : Entry → Step (Unit {0}) → Me (Unit {0}) Known → ℕ → Me (Unit {0}) Known → Type 0
Appends e step before found after = after ≡ (writer (before.0.list ++ noted e before.0.keys ∷ []) before.0.keys, before.1)

-- A load: what was taken in fits the history, and is forgotten.
abbrev pub Looks : Step (Unit {0}) → Me (Unit {0}) Known → ℕ → Me (Unit {0}) Known → Type 0
Looks step before found after = (after ≡ (writer before.0.list before.0.keys, before.1)) × OldFits before.0.old before.0.list

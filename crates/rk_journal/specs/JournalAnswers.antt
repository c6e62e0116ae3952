-- What the journal answers, and what an append leaves.
use Rattle.std.specs.Prelude.{ℕ, ◌==◌, List, [], ◌∷◌, ◌++◌, length, if◌then◌else◌, Option}
use Rattle.rk_model.specs.declared.entry.Entry.{Entry}
use Rattle.rk_model.specs.Histories.{ends}
use Rattle.rk_journal.specs.declared.views.Noted.{Noted}
use Rattle.rk_journal.specs.declared.journal.JournalState.{JournalState}
use Rattle.rk_journal.specs.declared.journal.JournalState.TheVariants as state
use Rattle.rk_journal.specs.declared.appending.Appended.{Appended}
use Rattle.rk_journal.specs.declared.appending.Appended.TheVariants as did
use Rattle.rk_journal.specs.Logs.{entries_of, noted}
use Rattle.rk_journal.specs.JournalViews.{JournalView, MarkView}
use Rattle.rk_journal.specs.MarkRegisters.{held_keys}

-- Over where the history ends with End, else Full where it has as many entries as the limit, else Open.
abbrev pub state_of : JournalView → JournalState
state_of j = if ends (entries_of j.log) then state.Over else (if length j.log == j.limit then state.Full else state.Open)

-- what an append of the entry with index n answers in a state
abbrev pub appended_in : JournalState → ℕ → Appended
appended_in state.Over n = did.Over
appended_in state.Full n = did.Full
appended_in state.Open n = did.Placed n

-- what an append answers
abbrev pub appended_of : JournalView → Appended
appended_of j = appended_in (state_of j) (length j.log)

-- the history after an append in a state: only an open one goes on
abbrev pub log_in : JournalState → List Noted → Noted → List Noted
log_in state.Over log x = log
log_in state.Full log x = log
log_in state.Open log x = log ++ x ∷ []

-- The journal after an append: an open history goes on with the entry, under the keys of the held marks.
abbrev pub journal_after : JournalView → Entry → List (Option MarkView) → JournalView
journal_after j e held = record { opening = j.opening; limit = j.limit; log = log_in (state_of j) j.log (noted e (held_keys held [])) }

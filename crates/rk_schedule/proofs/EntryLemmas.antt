-- The lines of entries, one after another.
use Rattle.std.proofs.Common.{◌≡◌, ℕ, ◌+◌, ◌<◌, List, [], ◌∷◌, ◌++◌, length, drop, ap, ◌∙◌, sym, append_assoc}
use Rattle.std.proofs.lemmas.List.{drop_more}
use Rattle.std.specs.List.{slice_index_or}
use Rattle.rk_model.specs.declared.entry.Entry.{Entry}
use Rattle.rk_model.specs.State.{Plain}
use Rattle.rk_model.specs.Histories.{next_by, after_from}
use Rattle.rk_model.specs.Text.Schedules.{text_of_lines, lines_of_entry, entry_lines}
use Rattle.rk_model.proofs.ScheduleLemmas.{lines_together}

-- the text of the lines of entries from one on, behind had, is that of the entries behind it, behind its own
pub entries_more : (k next : Plain) (xs : List Entry) (i : ℕ) (d : Entry) (had has : List ℕ) → i < length xs → next ≡ next_by k (slice_index_or xs i d)
    → has ≡ had ++ text_of_lines (lines_of_entry k (slice_index_or xs i d) (slice_index_or xs i d).what)
    → has ++ text_of_lines (entry_lines next (drop (i + 1) xs)) ≡ had ++ text_of_lines (entry_lines k (drop i xs))
entries_more k next xs i d had has few n e =
    let x = slice_index_or xs i d in
    let its = lines_of_entry k x x.what in
    let later = entry_lines (next_by k x) (drop (i + 1) xs) in
    rw (n, e) (append_assoc had (text_of_lines its) (text_of_lines later)
    ∙ ap (λ (text : List ℕ). had ++ text) (sym (lines_together its later))
    ∙ ap (λ (ys : List Entry). had ++ text_of_lines (entry_lines k ys)) (sym (drop_more xs i d few)))

-- the state after entries from one on is that after the entries behind it, from the state after it
pub state_more : (k next : Plain) (xs : List Entry) (i : ℕ) (d : Entry) → i < length xs → next ≡ next_by k (slice_index_or xs i d) → after_from next (drop (i + 1) xs) ≡ after_from k (drop i xs)
state_more k next xs i d few n = rw n (ap (after_from k) (sym (drop_more xs i d few)))

-- the text of a first line, others and a last line
pub first_to_last : (first last : List ℕ) (lines : List (List ℕ)) → text_of_lines (first ∷ lines ++ last ∷ []) ≡ first ++ 10 ∷ [] ++ text_of_lines lines ++ last ++ 10 ∷ []
first_to_last first last lines =
    ap (λ (text : List ℕ). first ++ 10 ∷ text) (lines_together lines (last ∷ []))
    ∙ sym (append_assoc (first ++ 10 ∷ [] ++ text_of_lines lines) last (10 ∷ [])
    ∙ append_assoc (first ++ 10 ∷ []) (text_of_lines lines) (last ++ 10 ∷ [])
    ∙ append_assoc first (10 ∷ []) (text_of_lines lines ++ (last ++ 10 ∷ [])))

-- A schedule is that of one history.
use Rattle.std.proofs.Common.{◌≡◌, ℕ, ◌⊎◌, inl, inr, List, [], ◌∷◌, ◌++◌, Bool, true, false, None, arith, refl, sym, ap, ◌∙◌, subst, append_assoc, append-nil}
use Rattle.std.proofs.lemmas.Bool.{false≢true}
use Rattle.rk_model.specs.declared.scenario.Scenario.{Scenario}
use Rattle.rk_model.specs.declared.entry.Entry.{Entry}
use Rattle.rk_model.specs.declared.entry.What.TheVariants.{End}
use Rattle.rk_model.specs.State.{Plain}
use Rattle.rk_model.specs.Steps.{act, clock_entry}
use Rattle.rk_model.specs.Histories.{opening, next_by, after_from, after, is_end, ends, LegalFrom, Legal}
use Rattle.rk_model.specs.Text.Schedules.{entry_lines, header_line, history_lines, schedule_lines, schedule_text, period_lines, final_line}
use Rattle.rk_model.specs.Text.Words.{whole_lines}
use Rattle.rk_schedule.specs.Reading.{named_seat}
use Rattle.rk_schedule.proofs.NamedLemmas.{NameNone, ending, none_named}
use Rattle.rk_schedule.proofs.CleanLemmas.{split_text}
use Rattle.rk_schedule.proofs.TogetherLemmas.{Keeps, GoOn, did, holds_next, end_lines}
use Rattle.rk_schedule.proofs.BehindLemmas.{open_end, lines_behind, Behind, behind, ends_at_clock}
use Rattle.rk_schedule.proofs.StepLemmas.{none_some}
use Rattle.rk_schedule.proofs.VerdictLemmas.{ends_last, stays}
use Rattle.rk_schedule.proofs.OneFaultLemmas.{AllClean}

-- ---- a history without its end

legal_front : (k : Plain) (xs ys : List Entry) → LegalFrom k (xs ++ ys) → LegalFrom k xs
legal_front k [] ys legal = tt
legal_front k (x ∷ xs) ys legal = (legal.0, (λ e. front xs (legal.1 e)), legal_front (next_by k x) xs ys legal.2) where
  front : (zs : List Entry) → zs ++ ys ≡ [] → zs ≡ []
  front [] e = refl
  front (z ∷ zs) e = absurd cc

legal_back : (k : Plain) (xs ys : List Entry) → LegalFrom k (xs ++ ys) → LegalFrom (after_from k xs) ys
legal_back k [] ys legal = legal
legal_back k (x ∷ xs) ys legal = legal_back (next_by k x) xs ys legal.2

holds_after : (s : Scenario) (P : Plain → Type 0) → Keeps s P → (k : Plain) (xs : List Entry) → P k → LegalFrom k xs → P (after_from k xs)
holds_after s P keeps k [] holds legal = holds
holds_after s P keeps k (x ∷ xs) holds legal = holds_after s P keeps (next_by k x) xs (holds_next s P keeps k x holds legal.0) legal.2

-- a history doesn't end, or it is one that doesn't, and End
record HasEnd (xs : List Entry) : Type 0 where
  front : List Entry
  last : Entry
  is : xs ≡ front ++ last ∷ []
  goes : GoOn front
  end : is_end last.what ≡ true

open_or_ended : (k : Plain) (xs : List Entry) → LegalFrom k xs → GoOn xs ⊎ HasEnd xs
open_or_ended k [] legal = inl tt
open_or_ended k (x ∷ xs) legal = by (is_end x.what) refl (open_or_ended (next_by k x) xs legal.2) where
  by : (end : Bool) → is_end x.what ≡ end → GoOn xs ⊎ HasEnd xs → GoOn (x ∷ xs) ⊎ HasEnd (x ∷ xs)
  by true e more = inr (record { front = []; last = x; is = ap (λ (ys : List Entry). x ∷ ys) (legal.1 e); goes = tt; end = e })
  by false e (inl goes) = inl (e, goes)
  by false e (inr h) = inr (record { front = x ∷ h.front; last = h.last; is = ap (λ (ys : List Entry). x ∷ ys) h.is; goes = (e, h.goes); end = h.end })

-- two that don't end, with the same lines in front of lines that name no seat, are one
open_same : (s : Scenario) (P : Plain → Type 0) → Keeps s P → (xs ys : List Entry) (r t : List (List ℕ)) → P (opening s) → Legal s xs → Legal s ys → GoOn xs → GoOn ys → NameNone r → NameNone t
    → entry_lines (opening s) xs ++ r ≡ entry_lines (opening s) ys ++ t → xs ≡ ys
open_same s P keeps xs ys r t begun legal its goes going none also e = by (behind s P keeps xs ys t r begun legal its goes also (sym e)) where
  by : Behind (after s xs) xs ys t r → xs ≡ ys
  by (inl same) = sym same.0
  by (inr (inl end)) = absurd (false≢true (sym (open_end ys going) ∙ ap ends end.0.is ∙ ends_last xs end.0.what.entry end.0.end))
  by (inr (inr m)) =
      let first : named_seat m.0 ≡ None = (subst NameNone m.2 none).0 in
      absurd (none_some (named_seat m.0) m.3.seat first m.3.named)

end_entry : (s : Scenario) (P : Plain → Type 0) → Keeps s P → (xs : List Entry) (x : Entry) → P (opening s) → Legal s (xs ++ x ∷ []) → is_end x.what ≡ true → x ≡ clock_entry End
end_entry s P keeps xs x begun legal end =
    let k = after s xs in
    let own = legal_back (opening s) xs (x ∷ []) legal in
    let d = did k x own.0 in
    let ended : is_end d.what.entry.what ≡ true = ap (λ (y : Entry). is_end y.what) d.entry ∙ end in
    let holds = holds_after s P keeps (opening s) xs begun (legal_front (opening s) xs (x ∷ []) legal) in
    let clock : x.seat ≡ 8 = ends_at_clock s P keeps k x.seat d.what holds d.acts ended in
    sym d.entry ∙ (stays k d.what (ap (act k) (sym clock) ∙ d.acts) ended).0

end_line : (s : Scenario) (xs : List Entry) (x : Entry) → is_end x.what ≡ true → entry_lines (opening s) (xs ++ x ∷ []) ≡ entry_lines (opening s) xs
end_line s xs x end =
    let own : entry_lines (after s xs) (x ∷ []) ≡ [] = rw (end_lines (after s xs) x x.what end) refl in
    lines_behind (opening s) xs (x ∷ []) ∙ ap (λ (more : List (List ℕ)). entry_lines (opening s) xs ++ more) own ∙ append-nil (entry_lines (opening s) xs)

same_entries : (s : Scenario) (P : Plain → Type 0) → Keeps s P → (xs ys : List Entry) (r t : List (List ℕ)) → P (opening s) → Legal s xs → Legal s ys → NameNone r → NameNone t → ends xs ≡ ends ys
    → entry_lines (opening s) xs ++ r ≡ entry_lines (opening s) ys ++ t → GoOn xs ⊎ HasEnd xs → GoOn ys ⊎ HasEnd ys → xs ≡ ys
same_entries s P keeps xs ys r t begun legal its none also end e (inl goes) (inl going) = open_same s P keeps xs ys r t begun legal its goes going none also e
same_entries s P keeps xs ys r t begun legal its none also end e (inl goes) (inr h) = absurd (false≢true (sym (open_end xs goes) ∙ end ∙ ap ends h.is ∙ ends_last h.front h.last h.end))
same_entries s P keeps xs ys r t begun legal its none also end e (inr h) (inl going) = absurd (false≢true (sym (open_end ys going) ∙ sym end ∙ ap ends h.is ∙ ends_last h.front h.last h.end))
same_entries s P keeps xs ys r t begun legal its none also end e (inr h) (inr j) =
    let one : Legal s (h.front ++ h.last ∷ []) = subst (Legal s) h.is legal in
    let other : Legal s (j.front ++ j.last ∷ []) = subst (Legal s) j.is its in
    let lines : entry_lines (opening s) h.front ++ r ≡ entry_lines (opening s) j.front ++ t =
    ap (λ (l : List (List ℕ)). l ++ r) (sym (ap (entry_lines (opening s)) h.is ∙ end_line s h.front h.last h.end)) ∙ e ∙ ap (λ (l : List (List ℕ)). l ++ t) (ap (entry_lines (opening s)) j.is ∙ end_line s j.front j.last j.end) in
    let front : h.front ≡ j.front = open_same s P keeps h.front j.front r t begun (legal_front (opening s) h.front (h.last ∷ []) one) (legal_front (opening s) j.front (j.last ∷ []) other) h.goes j.goes none also lines in
    let last : h.last ≡ j.last = end_entry s P keeps h.front h.last begun one h.end ∙ sym (end_entry s P keeps j.front j.last begun other j.end) in
    h.is ∙ ap (λ (zs : List Entry). zs ++ h.last ∷ []) front ∙ ap (λ (x : Entry). j.front ++ x ∷ []) last ∙ sym j.is

-- ---- a schedule

last_same : (one other : List (List ℕ)) (a b : List ℕ) → one ++ a ∷ [] ≡ other ++ b ∷ [] → a ≡ b
last_same [] [] a b e = cc (e)
last_same [] (line ∷ []) a b e = absurd cc
last_same [] (line ∷ l ∷ other) a b e = absurd cc
last_same (line ∷ []) [] a b e = absurd cc
last_same (line ∷ l ∷ one) [] a b e = absurd cc
last_same (line ∷ one) (l ∷ other) a b e = let later : one ++ a ∷ [] ≡ other ++ b ∷ [] = cc (e) in last_same one other a b later

abbrev first_byte : List ℕ → ℕ
first_byte [] = 0
first_byte (b ∷ bytes) = b

final_differs : (s : Scenario) → final_line s true ≡ final_line s false → ⊥
unfolding final_line
final_differs s e = let differ : 101 ≡ 108 = ap first_byte e in omega (arith, differ)

final_same : (s : Scenario) (one other : Bool) → final_line s one ≡ final_line s other → one ≡ other
final_same s true true e = refl
final_same s true false e = absurd (final_differs s e)
final_same s false true e = absurd (final_differs s (sym e))
final_same s false false e = refl

-- A schedule is that of one history.
pub one_history : (s : Scenario) (P : Plain → Type 0) → Keeps s P → P (opening s) → AllClean s → (xs ys : List Entry) → Legal s xs → Legal s ys → schedule_text s xs ≡ schedule_text s ys → xs ≡ ys
one_history s P keeps begun clean xs ys legal its e =
    let lines : schedule_lines s xs ≡ schedule_lines s ys = sym (split_text (schedule_lines s xs) (clean xs legal)).0 ∙ ap whole_lines e ∙ (split_text (schedule_lines s ys) (clean ys its)).0 in
    let end : ends xs ≡ ends ys = final_same s (ends xs) (ends ys) (last_same (history_lines s xs ++ period_lines s xs) (history_lines s ys ++ period_lines s ys) (final_line s (ends xs)) (final_line s (ends ys)) lines) in
    let whole : header_line ∷ (entry_lines (opening s) xs ++ ending s xs) ≡ header_line ∷ (entry_lines (opening s) ys ++ ending s ys) =
    sym (append_assoc (history_lines s xs) (period_lines s xs) (final_line s (ends xs) ∷ [])) ∙ lines ∙ append_assoc (history_lines s ys) (period_lines s ys) (final_line s (ends ys) ∷ []) in
    let behind_first : entry_lines (opening s) xs ++ ending s xs ≡ entry_lines (opening s) ys ++ ending s ys = cc (whole) in
    same_entries s P keeps xs ys (ending s xs) (ending s ys) begun legal its (none_named s xs) (none_named s ys) end behind_first (open_or_ended (opening s) xs legal) (open_or_ended (opening s) ys its)

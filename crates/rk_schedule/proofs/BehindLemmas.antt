-- What stands behind the lines of a history that doesn't end, where good lines go on.
use Rattle.std.proofs.Common.{◌≡◌, ◌≢◌, ℕ, ◌<◌, ◌⊎◌, inl, inr, List, [], ◌∷◌, ◌++◌, Bool, true, false, eqb, Option, Some, None, length, arith, refl, sym, ap, ◌∙◌, subst, append_assoc, append-nil, length-append}
use Rattle.std.proofs.lemmas.Bool.{false≢true}
use Rattle.std.proofs.lemmas.Bool.Decides.{nat_tests}
use Rattle.rk_model.specs.declared.scenario.Scenario.{Scenario}
use Rattle.rk_model.specs.declared.entry.Entry.{Entry}
use Rattle.rk_model.specs.State.{Plain}
use Rattle.rk_model.specs.Steps.{Act, act}
use Rattle.rk_model.specs.Histories.{opening, next_by, after_from, after, is_end, ends, LegalFrom, Legal}
use Rattle.rk_model.specs.Text.Schedules.{lines_of_entry, entry_lines, header_line, history_lines, schedule_lines, period_lines, final_line, call_text}
use Rattle.rk_model.proofs.LegalityLemmas.{quiet_after}
use Rattle.rk_schedule.specs.Reading.{named_seat}
use Rattle.rk_model.specs.Text.ScheduleFaults.{IsAllowed, IsFinished, DiffersInAnswer}
use Rattle.rk_schedule.proofs.NamedLemmas.{NameNone, ending, none_named, processor_calls, named_call}
use Rattle.rk_schedule.proofs.TogetherLemmas.{Keeps, GoOn, did, line_of_act, end_lines, together}

-- ---- histories that don't end, and others behind them

pub open_end : (xs : List Entry) → GoOn xs → ends xs ≡ false
open_end [] goes = refl
open_end (x ∷ []) goes = goes.0
open_end (x ∷ y ∷ xs) goes = open_end (y ∷ xs) goes.1

pub legal_behind : (k : Plain) (xs ys : List Entry) → LegalFrom k xs → GoOn xs → LegalFrom (after_from k xs) ys → LegalFrom k (xs ++ ys)
legal_behind k [] ys legal goes more = more
legal_behind k (x ∷ xs) ys legal goes more = (legal.0, λ e. absurd (false≢true (sym goes.0 ∙ e)), legal_behind (next_by k x) xs ys legal.2 goes.1 more)

pub after_behind : (k : Plain) (xs ys : List Entry) → after_from k (xs ++ ys) ≡ after_from (after_from k xs) ys
after_behind k [] ys = refl
after_behind k (x ∷ xs) ys = after_behind (next_by k x) xs ys

pub lines_behind : (k : Plain) (xs ys : List Entry) → entry_lines k (xs ++ ys) ≡ entry_lines k xs ++ entry_lines (after_from k xs) ys
lines_behind k [] ys = refl
lines_behind k (x ∷ xs) ys =
    ap (λ (lines : List (List ℕ)). lines_of_entry k x x.what ++ lines) (lines_behind (next_by k x) xs ys)
    ∙ sym (append_assoc (lines_of_entry k x x.what) (entry_lines (next_by k x) xs) (entry_lines (after_from (next_by k x) xs) ys))

pub go_on_behind : (xs ys : List Entry) → GoOn xs → GoOn ys → GoOn (xs ++ ys)
go_on_behind [] ys goes more = more
go_on_behind (x ∷ xs) ys goes more = (goes.0, go_on_behind xs ys goes.1 more)

-- ---- what comes next

-- what a seat does has this line, and isn't the end of the run
pub record Next (k : Plain) (line : List ℕ) : Type 0 where
  pub seat : ℕ
  pub what : Act
  pub acts : act k seat ≡ Some what
  pub goes : is_end what.entry.what ≡ false
  pub lines : lines_of_entry k what.entry what.entry.what ≡ line ∷ []
  pub named : named_seat line ≡ Some seat

-- the run ends in a state, behind these entries
pub record Ends (k : Plain) (xs zs : List Entry) : Type 0 where
  pub what : Act
  pub acts : act k 8 ≡ Some what
  pub end : is_end what.entry.what ≡ true
  pub is : zs ≡ xs ++ what.entry ∷ []

-- the lines behind are those that name no seat, or begin with that of an entry
abbrev pub Behind : Plain → List Entry → List Entry → List (List ℕ) → List (List ℕ) → Type 0
Behind k xs zs r t =
    ((zs ≡ xs) × (r ≡ t))
    ⊎ (Ends k xs zs × (r ≡ t))
    ⊎ ((line : List ℕ) × (more : List (List ℕ)) × (t ≡ line ∷ more) × Next k line × (length xs < length zs))

pub ends_at_clock : (s : Scenario) (P : Plain → Type 0) → Keeps s P → (k : Plain) (q : ℕ) (a : Act) → P k → act k q ≡ Some a → is_end a.entry.what ≡ true → q ≡ 8
ends_at_clock s P keeps k q a holds acts end = by (eqb q 8) refl where
  by : (test : Bool) → eqb q 8 ≡ test → q ≡ 8
  by true e = grind (arith, nat_tests, e)
  by false e =
      let other : q ≢ 8 = grind (arith, nat_tests, e) in
      absurd (false≢true (sym (processor_calls k q a (keeps.few k holds) other acts).goes_on ∙ end))

behind_one : (s : Scenario) (P : Plain → Type 0) → Keeps s P → (k : Plain) (xs zs : List Entry) (y : Entry) (ys : List Entry) (r t : List (List ℕ)) → P k → zs ≡ xs ++ y ∷ ys → LegalFrom k (y ∷ ys) → entry_lines k (y ∷ ys) ++ r ≡ t
    → (end : Bool) → is_end y.what ≡ end → Behind k xs zs r t
behind_one s P keeps k xs zs y ys r t holds is legal lines true ended =
    let d = did k y legal.0 in
    let alone : ys ≡ [] = legal.1 ended in
    let end : is_end d.what.entry.what ≡ true = ap (λ (x : Entry). is_end x.what) d.entry ∙ ended in
    let clock : y.seat ≡ 8 = ends_at_clock s P keeps k y.seat d.what holds d.acts end in
    let none_there : entry_lines k (y ∷ ys) ++ r ≡ r = rw (alone, end_lines k y y.what ended) refl in
    inr (inl (record { what = d.what; acts = ap (act k) (sym clock) ∙ d.acts; end = end; is = is ∙ ap (λ (more : List Entry). xs ++ y ∷ more) alone ∙ ap (λ (x : Entry). xs ++ x ∷ []) (sym d.entry) }, sym none_there ∙ lines))
behind_one s P keeps k xs zs y ys r t holds is legal lines false going =
    let d = did k y legal.0 in
    let goes : is_end d.what.entry.what ≡ false = ap (λ (x : Entry). is_end x.what) d.entry ∙ going in
    let l = line_of_act s P keeps k y.seat d.what holds d.acts goes in
    let own : lines_of_entry k y y.what ≡ l.line ∷ [] = ap (λ (x : Entry). lines_of_entry k x x.what) (sym d.entry) ∙ l.lines in
    let long : length xs < length zs = omega (arith, ap length is, length-append xs (y ∷ ys)) in
    inr (inr (l.line, entry_lines (next_by k y) ys ++ r, sym lines ∙ (rw own refl), record { seat = y.seat; what = d.what; acts = d.acts; goes = goes; lines = l.lines; named = l.named }, long))

behind_rest : (s : Scenario) (P : Plain → Type 0) → Keeps s P → (k : Plain) (xs zs rest : List Entry) (r t : List (List ℕ)) → P k → zs ≡ xs ++ rest → LegalFrom k rest → entry_lines k rest ++ r ≡ t → Behind k xs zs r t
behind_rest s P keeps k xs zs [] r t holds is legal lines = inl (is ∙ append-nil xs, lines)
behind_rest s P keeps k xs zs (y ∷ ys) r t holds is legal lines = behind_one s P keeps k xs zs y ys r t holds is legal lines (is_end y.what) refl

-- what is behind a history that doesn't end, in another whose lines begin with its lines
pub behind : (s : Scenario) (P : Plain → Type 0) → Keeps s P → (xs zs : List Entry) (r t : List (List ℕ)) → P (opening s) → Legal s xs → Legal s zs → GoOn xs → NameNone r
    → entry_lines (opening s) zs ++ r ≡ entry_lines (opening s) xs ++ t → Behind (after s xs) xs zs r t
behind s P keeps xs zs r t holds legal its goes none e =
    let g = together s P keeps (opening s) xs zs r t holds legal its goes none e in
    behind_rest s P keeps (after s xs) xs zs g.rest r t g.holds g.is g.legal g.lines

-- the lines of a whole schedule behind the first
schedule_behind : (s : Scenario) (xs zs : List Entry) (t : List (List ℕ)) → schedule_lines s zs ≡ history_lines s xs ++ t → entry_lines (opening s) zs ++ ending s zs ≡ entry_lines (opening s) xs ++ t
schedule_behind s xs zs t e =
    let grouped : header_line ∷ (entry_lines (opening s) zs ++ period_lines s zs ++ final_line s (ends zs) ∷ []) ≡ header_line ∷ (entry_lines (opening s) xs ++ t) = e in
    let same : entry_lines (opening s) zs ++ period_lines s zs ++ final_line s (ends zs) ∷ [] ≡ entry_lines (opening s) xs ++ t = cc (grouped) in
    sym (append_assoc (entry_lines (opening s) zs) (period_lines s zs) (final_line s (ends zs) ∷ [])) ∙ same

-- the schedule of a finished history goes on behind the lines of one that doesn't end: with its ending, or with the line of an entry
abbrev pub FinishedBehind : Scenario → List Entry → List Entry → List (List ℕ) → Type 0
FinishedBehind s xs zs t =
    (Ends (after s xs) xs zs × (ending s zs ≡ t))
    ⊎ ((line : List ℕ) × (more : List (List ℕ)) × (t ≡ line ∷ more) × Next (after s xs) line)

pub finished_behind : (s : Scenario) (P : Plain → Type 0) → Keeps s P → (xs zs : List Entry) (t : List (List ℕ)) → P (opening s) → Legal s xs → GoOn xs → IsFinished s zs → schedule_lines s zs ≡ history_lines s xs ++ t
    → (length xs < s.limit) × FinishedBehind s xs zs t
finished_behind s P keeps xs zs t holds legal goes fin e = by (behind s P keeps xs zs (ending s zs) t holds legal fin.allowed.legal goes (none_named s zs) (schedule_behind s xs zs t e)) where
  by : Behind (after s xs) xs zs (ending s zs) t → (length xs < s.limit) × FinishedBehind s xs zs t
  by (inl same) = absurd (false≢true (sym (open_end xs goes) ∙ ap ends (sym same.0) ∙ fin.end))
  by (inr (inl end)) = (omega (arith, ap length end.0.is, length-append xs (end.0.what.entry ∷ []), fin.allowed.few), inl end)
  by (inr (inr m)) = (omega (arith, m.4, fin.allowed.few), inr (m.0, m.1, m.2, m.3))

pub history_behind : (s : Scenario) (xs zs : List Entry) (t : List (List ℕ)) → history_lines s zs ≡ history_lines s xs ++ t → entry_lines (opening s) zs ++ [] ≡ entry_lines (opening s) xs ++ t
history_behind s xs zs t e =
    let whole : header_line ∷ entry_lines (opening s) zs ≡ header_line ∷ (entry_lines (opening s) xs ++ t) = e in
    let same : entry_lines (opening s) zs ≡ entry_lines (opening s) xs ++ t = cc (whole) in
    append-nil (entry_lines (opening s) zs) ∙ same

-- the lines of an allowed history go on behind those of one that doesn't end with the line of an entry
pub allowed_behind : (s : Scenario) (P : Plain → Type 0) → Keeps s P → (xs zs : List Entry) (line : List ℕ) (more : List (List ℕ)) → P (opening s) → Legal s xs → GoOn xs → IsAllowed s zs → history_lines s zs ≡ history_lines s xs ++ line ∷ more
    → (length xs < s.limit) × Next (after s xs) line
allowed_behind s P keeps xs zs line more holds legal goes allowed e = by (behind s P keeps xs zs [] (line ∷ more) holds legal allowed.legal goes tt (history_behind s xs zs (line ∷ more) e)) where
  by : Behind (after s xs) xs zs [] (line ∷ more) → (length xs < s.limit) × Next (after s xs) line
  by (inl same) = let differ : [] ≡ line ∷ more = same.1 in absurd cc
  by (inr (inl end)) = let differ : [] ≡ line ∷ more = end.1 in absurd cc
  by (inr (inr m)) =
      let first : m.0 ≡ line = cc (m.2) in
      (omega (arith, m.4, allowed.few), subst (Next (after s xs)) first m.3)

-- ---- a line that differs only in its answer

-- a processor makes this entry next, and the line is its line up to the word
pub record Differs (s : Scenario) (xs : List Entry) (line : List ℕ) : Type 0 where
  pub cpu : ℕ
  pub what : Act
  pub answer : List ℕ
  pub few : length xs < s.limit
  pub processor : cpu < 8
  pub acts : act (after s xs) cpu ≡ Some what
  pub line_is : line ≡ call_text s what.entry ++ 32 ∷ answer
  pub named : named_seat line ≡ Some cpu

named_line : (s : Scenario) (P : Plain → Type 0) → Keeps s P → (k : Plain) (cpu : ℕ) (a : Act) (line answer : List ℕ) → P k → cpu < 8 → act k cpu ≡ Some a → line ≡ call_text s a.entry ++ 32 ∷ answer → named_seat line ≡ Some cpu
named_line s P keeps k cpu a line answer holds few acts is =
    let other : cpu ≢ 8 = omega (arith, few) in
    let call = processor_calls k cpu a (keeps.few k holds) other acts in
    let below : a.entry.seat < 8 = omega (arith, few, call.seat) in
    ap named_seat is ∙ named_call s a.entry (32 ∷ answer) below ∙ ap (λ (n : ℕ). Some n) call.seat

ended_quiet : (s : Scenario) (xs zs : List Entry) (cpu : ℕ) (what a : Act) → Legal s zs → zs ≡ xs ++ what.entry ∷ [] → is_end what.entry.what ≡ true → cpu < 8 → act (after s zs) cpu ≡ Some a → ⊥
ended_quiet s xs zs cpu what a legal is end few acts =
    let finishes : ends zs ≡ true = rw is (ends_behind xs) in
    let other : cpu ≢ 8 = omega (arith, few) in
    let none = quiet_after s zs legal finishes cpu other in
    let differ : ◌≡◌ {A = Option Act} None (Some a) = sym none ∙ acts in cc (differ)
  where
    ends_behind : (ys : List Entry) → ends (ys ++ what.entry ∷ []) ≡ true
    ends_behind [] = end
    ends_behind (y ∷ []) = end
    ends_behind (y ∷ z ∷ ys) = ends_behind (z ∷ ys)

-- in front of such a line stand the lines of the history that is there
pub differs_here : (s : Scenario) (P : Plain → Type 0) → Keeps s P → (xs : List Entry) (line : List ℕ) (P_here : P (after s xs)) → P (opening s) → Legal s xs → GoOn xs → DiffersInAnswer s (history_lines s xs) line → Differs s xs line
differs_here s P keeps xs line here holds legal goes d =
    by (behind s P keeps xs d.history [] [] holds legal d.legal goes tt (history_behind s xs d.history [] (sym d.before_is ∙ sym (append-nil (history_lines s xs))))) where
      by : Behind (after s xs) xs d.history [] [] → Differs s xs line
      by (inl same) =
          let acts : act (after s xs) d.cpu ≡ Some d.next = ap (λ (ys : List Entry). act (after s ys) d.cpu) (sym same.0) ∙ d.acts in
          let few : length xs < s.limit = omega (arith, ap length same.0, d.few) in
          record { cpu = d.cpu; what = d.next; answer = d.answer; few = few; processor = d.processor; acts = acts; line_is = d.line_is; named = named_line s P keeps (after s xs) d.cpu d.next line d.answer here d.processor acts d.line_is }
      by (inr (inl end)) = absurd (ended_quiet s xs d.history d.cpu end.0.what d.next d.legal end.0.is end.0.end d.processor d.acts)
      by (inr (inr m)) = let differ : [] ≡ m.0 ∷ m.1 = m.2 in absurd cc

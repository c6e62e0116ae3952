-- Histories whose lines begin alike begin alike.
use Rattle.std.proofs.Common.{◌≡◌, ◌≢◌, ℕ, ◌<◌, ◌≤◌, inl, inr, List, [], ◌∷◌, ◌++◌, Bool, true, false, eqb, Option, Some, None, arith, refl, sym, ap, ◌∙◌, subst}
use Rattle.std.specs.List.{AllByRecursion}
use Rattle.std.proofs.lemmas.Bool.{false≢true}
use Rattle.std.proofs.lemmas.Bool.Decides.{nat_tests}
use Rattle.rk_model.specs.declared.scenario.Scenario.{Scenario}
use Rattle.rk_model.specs.declared.entry.Entry.{Entry}
use Rattle.rk_model.specs.declared.entry.What.{What}
use Rattle.rk_model.specs.declared.entry.What.TheVariants.{Call, Return, Tick, End}
use Rattle.rk_model.specs.State.{Plain}
use Rattle.rk_model.specs.Scheduling.Seats.{cpu_count}
use Rattle.rk_model.specs.Steps.{Act, act}
use Rattle.rk_model.specs.Histories.{next_of, next_by, after_from, is_end, ends, IsOf, LegalFrom}
use Rattle.rk_model.specs.Text.Schedules.{tick_line, lines_of_entry, entry_lines, directive_line, answer_text}
use Rattle.rk_schedule.specs.Reading.{named_seat}
use Rattle.rk_schedule.proofs.NamedLemmas.{NameNone, IsCall, processor_calls, TicksOrEnds, clock_acts, named_call, named_tick}

-- What is needed of each state of a scenario's histories: P has it, and what a seat does keeps P.
pub record Keeps (s : Scenario) (P : Plain → Type 0) : Type 0 where
  pub next : (k : Plain) (q : ℕ) (a : Act) → P k → act k q ≡ Some a → P a.next
  pub few : (k : Plain) → P k → cpu_count k ≤ 8
  pub scenario : (k : Plain) → P k → k.scenario ≡ s

-- no entry is End
abbrev pub GoOn : List Entry → Type 0
GoOn xs = AllByRecursion (λ (x : Entry). is_end x.what ≡ false) xs

-- ---- one entry

-- what a seat did, where this is its entry
pub record Did (k : Plain) (x : Entry) : Type 0 where
  pub what : Act
  pub acts : act k x.seat ≡ Some what
  pub entry : what.entry ≡ x
  pub next : next_by k x ≡ what.next

did_by : (k : Plain) (x : Entry) (o : Option Act) → act k x.seat ≡ o → IsOf o x → Did k x
did_by k x None e is = absurd is
did_by k x (Some a) e is = record { what = a; acts = e; entry = is; next = ap (λ (o : Option Act). next_of k o) e }

pub did : (k : Plain) (x : Entry) → IsOf (act k x.seat) x → Did k x
did k x is = did_by k x (act k x.seat) refl is

-- the end of the run has no line
pub end_lines : (k : Plain) (x : Entry) (what : What) → is_end what ≡ true → lines_of_entry k x what ≡ []
end_lines k x Call e = absurd (false≢true e)
end_lines k x Return e = absurd (false≢true e)
end_lines k x Tick e = absurd (false≢true e)
end_lines k x End e = refl

-- what a seat did, but for the end of the run, has one line, which names the seat
pub record HasLine (k : Plain) (q : ℕ) (x : Entry) : Type 0 where
  pub line : List ℕ
  pub lines : lines_of_entry k x x.what ≡ line ∷ []
  pub named : named_seat line ≡ Some q

of_call : (s : Scenario) (k : Plain) (q : ℕ) (a : Act) → k.scenario ≡ s → IsCall k q a → HasLine k q a.entry
of_call s k q a same is =
    let few : a.entry.seat < 8 = omega (arith, is.processor, is.seat) in record {
      line = directive_line k.scenario a.entry;
      lines = is.lines;
      named = named_call k.scenario a.entry (answer_text a.entry.what a.entry.status a.entry.out) few ∙ ap (λ (n : ℕ). Some n) is.seat;
    }

of_clock : (k : Plain) (a : Act) → TicksOrEnds k a → is_end a.entry.what ≡ false → HasLine k 8 a.entry
of_clock k a (inl ticks) goes = record { line = tick_line k; lines = rw ticks refl; named = named_tick k }
of_clock k a (inr ends) goes = absurd (false≢true (sym goes ∙ ap (λ (x : Entry). is_end x.what) ends.0))

pub line_of_act : (s : Scenario) (P : Plain → Type 0) → Keeps s P → (k : Plain) (q : ℕ) (a : Act) → P k → act k q ≡ Some a → is_end a.entry.what ≡ false → HasLine k q a.entry
line_of_act s P keeps k q a holds acts goes = by (eqb q 8) refl where
  by : (test : Bool) → eqb q 8 ≡ test → HasLine k q a.entry
  by true e =
      let same : 8 ≡ q = grind (arith, nat_tests, e) in
      let clock : act k 8 ≡ Some a = ap (act k) same ∙ acts in
      subst (λ p. HasLine k p a.entry) same (of_clock k a (clock_acts k a clock) goes)
  by false e =
      let other : q ≢ 8 = grind (arith, nat_tests, e) in
      of_call s k q a (keeps.scenario k holds) (processor_calls k q a (keeps.few k holds) other acts)

pub line_of : (s : Scenario) (P : Plain → Type 0) → Keeps s P → (k : Plain) (x : Entry) → P k → IsOf (act k x.seat) x → is_end x.what ≡ false → HasLine k x.seat x
line_of s P keeps k x holds is goes =
    let d = did k x is in
    subst (λ (y : Entry). HasLine k x.seat y) d.entry (line_of_act s P keeps k x.seat d.what holds d.acts (ap (λ (y : Entry). is_end y.what) d.entry ∙ goes))

pub holds_next : (s : Scenario) (P : Plain → Type 0) → Keeps s P → (k : Plain) (x : Entry) → P k → IsOf (act k x.seat) x → P (next_by k x)
holds_next s P keeps k x holds is = let d = did k x is in subst P (sym d.next) (keeps.next k x.seat d.what holds d.acts)

-- two entries that seats make in one state are one where their seats are
same_entry : (k : Plain) (x y : Entry) → IsOf (act k x.seat) x → IsOf (act k y.seat) y → x.seat ≡ y.seat → x ≡ y
same_entry k x y is its e =
    let d = did k x is in
    let f = did k y its in
    let one : Some d.what ≡ Some f.what = sym d.acts ∙ ap (act k) e ∙ f.acts in
    let same : d.what ≡ f.what = cc (one) in
    sym d.entry ∙ ap (λ (a : Act). a.entry) same ∙ f.entry

-- ---- histories

-- a history goes on with these entries behind others, and their lines and those behind them are these
pub record GoesOn (P : Plain → Type 0) (k : Plain) (xs zs : List Entry) (r t : List (List ℕ)) : Type 0 where
  pub rest : List Entry
  pub is : zs ≡ xs ++ rest
  pub legal : LegalFrom (after_from k xs) rest
  pub holds : P (after_from k xs)
  pub lines : entry_lines (after_from k xs) rest ++ r ≡ t

-- lines that name no seat don't begin with the line of an entry
no_line : (r more : List (List ℕ)) (line : List ℕ) (q : ℕ) → NameNone r → named_seat line ≡ Some q → r ≡ line ∷ more → ⊥
no_line [] more line q none named e = cc
no_line (first ∷ r) more line q none named e =
    let same : first ≡ line = cc (e) in
    let differ : ◌≡◌ {A = Option ℕ} None (Some q) = sym none.0 ∙ ap named_seat same ∙ named in
    cc (differ)

headed : (line : List ℕ) (its : List (List ℕ)) (rest t : List (List ℕ)) → its ≡ line ∷ [] → its ++ rest ++ t ≡ line ∷ (rest ++ t)
headed line its rest t e = rw e refl

by_second : (s : Scenario) (P : Plain → Type 0) → Keeps s P → (k : Plain) (x z : Entry) (xs zs : List Entry) (r t : List (List ℕ)) → P k → LegalFrom k (x ∷ xs) → LegalFrom k (z ∷ zs) → GoOn (x ∷ xs) → NameNone r
    → entry_lines k (z ∷ zs) ++ r ≡ entry_lines k (x ∷ xs) ++ t → (end : Bool) → is_end z.what ≡ end
    → (P (next_by k x) → LegalFrom (next_by k x) xs → LegalFrom (next_by k x) zs → GoOn xs → NameNone r → entry_lines (next_by k x) zs ++ r ≡ entry_lines (next_by k x) xs ++ t → GoesOn P (next_by k x) xs zs r t)
    → GoesOn P k (x ∷ xs) (z ∷ zs) r t
by_second s P keeps k x z xs zs r t holds legal its goes none e true ended later =
    let l = line_of s P keeps k x holds legal.0 goes.0 in
    let whole = headed l.line (lines_of_entry k x x.what) (entry_lines (next_by k x) xs) t l.lines in
    let alone : zs ≡ [] = its.1 ended in
    let none_there : entry_lines k (z ∷ zs) ++ r ≡ r = rw (alone, end_lines k z z.what ended) refl in
    absurd (no_line r (entry_lines (next_by k x) xs ++ t) l.line x.seat none l.named (sym none_there ∙ e ∙ whole))
by_second s P keeps k x z xs zs r t holds legal its goes none e false going later =
    let l = line_of s P keeps k x holds legal.0 goes.0 in
    let m = line_of s P keeps k z holds its.0 going in
    let lines : m.line ∷ (entry_lines (next_by k z) zs ++ r) ≡ l.line ∷ (entry_lines (next_by k x) xs ++ t) =
    sym (headed m.line (lines_of_entry k z z.what) (entry_lines (next_by k z) zs) r m.lines) ∙ e ∙ headed l.line (lines_of_entry k x x.what) (entry_lines (next_by k x) xs) t l.lines in
    let first : m.line ≡ l.line = cc (lines) in
    let behind : entry_lines (next_by k z) zs ++ r ≡ entry_lines (next_by k x) xs ++ t = cc (lines) in
    let seats : Some z.seat ≡ Some x.seat = sym m.named ∙ ap named_seat first ∙ l.named in
    let seat : x.seat ≡ z.seat = cc (seats) in
    let one : x ≡ z = same_entry k x z legal.0 its.0 seat in
    let more = later (holds_next s P keeps k x holds legal.0) legal.2 (subst (λ (y : Entry). LegalFrom (next_by k y) zs) (sym one) its.2) goes.1 none
    (ap (λ (y : Entry). entry_lines (next_by k y) zs ++ r) one ∙ behind) in record {
      rest = more.rest;
      is = ap (λ (y : Entry). y ∷ zs) (sym one) ∙ ap (λ (ys : List Entry). x ∷ ys) more.is;
      legal = more.legal;
      holds = more.holds;
      lines = more.lines;
    }

-- Where a history's lines, and behind them some that name no seat, begin with the lines of another history, which doesn't end, the history begins with that one.
pub together : (s : Scenario) (P : Plain → Type 0) → Keeps s P → (k : Plain) (xs zs : List Entry) (r t : List (List ℕ)) → P k → LegalFrom k xs → LegalFrom k zs → GoOn xs → NameNone r
    → entry_lines k zs ++ r ≡ entry_lines k xs ++ t → GoesOn P k xs zs r t
together s P keeps k [] zs r t holds legal its goes none e = record { rest = zs; is = refl; legal = its; holds = holds; lines = e }
together s P keeps k (x ∷ xs) [] r t holds legal its goes none e =
    let l = line_of s P keeps k x holds legal.0 goes.0 in
    absurd (no_line r (entry_lines (next_by k x) xs ++ t) l.line x.seat none l.named (e ∙ headed l.line (lines_of_entry k x x.what) (entry_lines (next_by k x) xs) t l.lines))
together s P keeps k (x ∷ xs) (z ∷ zs) r t holds legal its goes none e =
    by_second s P keeps k x z xs zs r t holds legal its goes none e (is_end z.what) refl (together s P keeps (next_by k x) xs zs r t)

-- No line of a schedule has a line feed, so the lines of its text are its lines.
use Rattle.std.proofs.Common.{◌≡◌, ℕ, zero, suc, ◌+◌, ◌-◌, ◌/◌, ◌%◌, List, [], ◌∷◌, ◌++◌, Bool, true, false, cond, eqb, ltb, not, ◌&&◌, Option, Some, None, slice_get, length, codes, arith, refl, sym, ap, ◌∙◌, subst, append_assoc, append-nil}
use Rattle.std.specs.Prelude.{◌==◌, nat_le}
use Rattle.std.specs.List.{AllByRecursion, list_all}
use Rattle.std.specs.Fmt.{decimal, digits, digits_onto, digit_glyph}
use Rattle.std.proofs.lemmas.Bool.Decides.{nat_tests}
use Rattle.std.proofs.lemmas.List.Folds.{list_all-append}
use Rattle.rk_model.specs.declared.scenario.Scenario.{Scenario}
use Rattle.rk_model.specs.declared.scenario.Body.{Body}
use Rattle.rk_model.specs.declared.scenario.Op.{Op}
use Rattle.rk_model.specs.declared.scenario.Op.TheVariants.{Work}
use Rattle.rk_model.specs.declared.period.Stats.{Stats}
use Rattle.rk_model.specs.declared.entry.Entry.{Entry}
use Rattle.rk_model.specs.declared.entry.View.{View}
use Rattle.rk_model.specs.declared.entry.View.TheVariants.{Idle, Spins, Runs}
use Rattle.rk_model.specs.declared.entry.What.{What}
use Rattle.rk_model.specs.declared.entry.What.TheVariants.{Call, Return, Tick, End}
use Rattle.rk_model.specs.State.{Plain, op_at, period_at}
use Rattle.rk_model.specs.Scheduling.Running.{running}
use Rattle.rk_model.specs.Scheduling.Seats.{cpu_count}
use Rattle.rk_model.specs.Histories.{Legal, LegalFrom, opening, next_by, after, ends}
use Rattle.rk_model.specs.Statistics.{statistics}
use Rattle.rk_model.specs.Text.Words.{is_lower, is_body_byte, is_body_name, whole_from, whole_lines, loose_from, loose_end}
use Rattle.rk_model.specs.Text.Scenarios.{AreBodies, IsScenario}
use Rattle.rk_model.specs.Text.Forms.{word_of}
use Rattle.rk_model.specs.Text.Schedules.{text_of_lines, exit_word, first_word, name_in, seat_text, place_text, call_text, reply_text, answer_text, directive_line, view_text, views_from, tick_line, period_text, number_text, stats_text, period_line, period_lines_among, period_lines_from, period_lines, lines_of_entry, entry_lines, header_line, history_lines, final_line, schedule_lines}
use Rattle.rk_model.proofs.BooleanLemmas.{and_front, and_back}
use Rattle.rk_schedule.proofs.TogetherLemmas.{Keeps, holds_next}

-- whether bytes have no line feed
abbrev pub is_clean : List ℕ → Bool
is_clean bytes = list_all (λ b. not (b == 10)) bytes

pub clean_both : (a b : List ℕ) → is_clean a ≡ true → is_clean b ≡ true → is_clean (a ++ b) ≡ true
clean_both a b one other = list_all-append (λ c. not (c == 10)) a b ∙ (rw (one, other) refl)

-- ---- numbers

clean_glyph : (d : ℕ) → not (digit_glyph false d == 10) ≡ true
clean_glyph d = by (ltb d 10) where
  by : (few : Bool) → not (eqb (cond few (48 + d) (87 + d)) 10) ≡ true
  by true = grind (arith, nat_tests)
  by false = grind (arith, nat_tests)

clean_onto : (k base n : ℕ) (more : List ℕ) → is_clean more ≡ true → is_clean (digits_onto k base false n more) ≡ true
clean_onto zero base n more clean = clean
clean_onto (suc k) base n more clean = by (eqb (n / base) 0) (rw (clean_glyph (n % base)) clean) (clean_onto k base (n / base) (digit_glyph false (n % base) ∷ more) (rw (clean_glyph (n % base)) clean)) where
  by : (last : Bool) → is_clean (digit_glyph false (n % base) ∷ more) ≡ true → is_clean (digits_onto k base false (n / base) (digit_glyph false (n % base) ∷ more)) ≡ true
      → is_clean (cond last (digit_glyph false (n % base) ∷ more) (digits_onto k base false (n / base) (digit_glyph false (n % base) ∷ more))) ≡ true
  by true here later = here
  by false here later = later

pub clean_digits : (base n : ℕ) → is_clean (digits base false n) ≡ true
unfolding digits
clean_digits base n = clean_onto 64 base n [] refl

clean_number : (n : ℕ) → is_clean (number_text n) ≡ true
clean_number n = clean_digits 10 n

-- ---- names and words

clean_byte : (b : ℕ) → is_body_byte b ≡ true → not (b == 10) ≡ true
clean_byte b is = grind (arith, nat_tests, is)

clean_bytes : (bytes : List ℕ) → list_all is_body_byte bytes ≡ true → is_clean bytes ≡ true
clean_bytes [] are = refl
clean_bytes (b ∷ bytes) are = rw (clean_byte b (and_front (is_body_byte b) (list_all is_body_byte bytes) are)) (clean_bytes bytes (and_back (is_body_byte b) (list_all is_body_byte bytes) are))

clean_first : (b : ℕ) → is_lower b ≡ true → not (b == 10) ≡ true
clean_first b is = grind (arith, nat_tests, is)

clean_name : (name : List ℕ) → is_body_name name ≡ true → is_clean name ≡ true
unfolding is_body_name
clean_name [] is = refl
clean_name (b ∷ bytes) is =
    let front = and_front (is_lower b && list_all is_body_byte bytes) (nat_le (length bytes) 15) is in
    rw (clean_first b (and_front (is_lower b) (list_all is_body_byte bytes) front)) (clean_bytes bytes (and_back (is_lower b) (list_all is_body_byte bytes) front))

-- each body has a name
abbrev pub AreNamedBodies : List Body → Type 0
AreNamedBodies bodies = AllByRecursion (λ (body : Body). is_body_name body.name ≡ true) bodies

names_of : (clusters : ℕ) (front : List Body) (statements : List (List (List ℕ))) (bodies : List Body) → AreBodies clusters front statements bodies → AreNamedBodies bodies
names_of clusters front statements [] are = tt
names_of clusters front statements (body ∷ bodies) are = (are.3.name, names_of clusters (front ++ body ∷ []) are.1 bodies are.4)

pub named_bodies : (s : Scenario) → IsScenario s → AreNamedBodies s.bodies
named_bodies s is = names_of (length s.clusters) [] is.text.lines.bodies s.bodies is.text.lines.bodies_are

clean_name_in : (bodies : List Body) (b : ℕ) → AreNamedBodies bodies → is_clean (name_in (slice_get bodies b)) ≡ true
clean_name_in [] b named = refl
clean_name_in (body ∷ bodies) zero named = clean_name body.name named.0
clean_name_in (body ∷ bodies) (suc b) named = clean_name_in bodies b named.1

clean_op : (op : Op) → is_clean (word_of op) ≡ true
clean_op (Work n) = refl
clean_op _ = refl

clean_word : (o : Option Op) → is_clean (first_word o) ≡ true
unfolding exit_word
clean_word None = refl
clean_word (Some op) = clean_op op

-- ---- lines

clean_seat : (x : Entry) → is_clean (seat_text x) ≡ true
unfolding seat_text
clean_seat x =
    clean_both (codes "p" ++ decimal x.seat ++ codes " t" ++ decimal x.task) (codes " ")
    (clean_both (codes "p" ++ decimal x.seat ++ codes " t") (decimal x.task)
    (clean_both (codes "p" ++ decimal x.seat) (codes " t") (clean_both (codes "p") (decimal x.seat) refl (clean_digits 10 x.seat)) refl) (clean_digits 10 x.task)) refl

clean_place : (s : Scenario) (x : Entry) → AreNamedBodies s.bodies → is_clean (place_text s x) ≡ true
unfolding place_text
clean_place s x named =
    clean_both (name_in (slice_get s.bodies x.body) ++ codes ":" ++ decimal x.line) (codes " ")
    (clean_both (name_in (slice_get s.bodies x.body) ++ codes ":") (decimal x.line)
    (clean_both (name_in (slice_get s.bodies x.body)) (codes ":") (clean_name_in s.bodies x.body named) refl) (clean_digits 10 x.line)) refl

clean_call : (s : Scenario) (x : Entry) → AreNamedBodies s.bodies → is_clean (call_text s x) ≡ true
unfolding call_text
clean_call s x named = clean_both (seat_text x ++ place_text s x) (first_word (op_at s x.body x.line)) (clean_both (seat_text x) (place_text s x) (clean_seat x) (clean_place s x named)) (clean_word (op_at s x.body x.line))

clean_reply : (status out : ℕ) → is_clean (reply_text status out) ≡ true
unfolding reply_text
clean_reply status out = clean_both (decimal status) (32 ∷ digits 16 false out) (clean_digits 10 status) (clean_digits 16 out)

clean_answer : (what : What) (status out : ℕ) → is_clean (answer_text what status out) ≡ true
unfolding answer_text
clean_answer Call status out = by (eqb status 255) where
  by : (waits : Bool) → is_clean (cond waits (codes " waits") (codes " done " ++ reply_text status out)) ≡ true
  by true = refl
  by false = clean_both (codes " done ") (reply_text status out) refl (clean_reply status out)
clean_answer Return status out = clean_both (codes " back ") (reply_text status out) refl (clean_reply status out)
clean_answer Tick status out = refl
clean_answer End status out = refl

clean_directive : (s : Scenario) (x : Entry) → AreNamedBodies s.bodies → is_clean (directive_line s x) ≡ true
clean_directive s x named = clean_both (call_text s x) (answer_text x.what x.status x.out) (clean_call s x named) (clean_answer x.what x.status x.out)

clean_view : (view : View) → is_clean (view_text view) ≡ true
unfolding view_text
clean_view Idle = refl
clean_view (Spins t) = clean_both (codes " s") (decimal t) refl (clean_digits 10 t)
clean_view (Runs t) = clean_both (codes " t") (decimal t) refl (clean_digits 10 t)

clean_views : (k : Plain) (p n : ℕ) → is_clean (views_from k p n) ≡ true
clean_views k p zero = refl
clean_views k p (suc n) = clean_both (view_text (running k p)) (views_from k (p + 1) n) (clean_view (running k p)) (clean_views k (p + 1) n)

clean_tick : (k : Plain) → is_clean (tick_line k) ≡ true
unfolding tick_line
clean_tick k = clean_both (codes "tick " ++ decimal (k.present + 1)) (views_from k 0 (cpu_count k)) (clean_both (codes "tick ") (decimal (k.present + 1)) refl (clean_digits 10 (k.present + 1))) (clean_views k 0 (cpu_count k))

clean_id : (index : ℕ) → is_clean (period_text index) ≡ true
unfolding period_text
clean_id index = clean_both (codes "period ") (digits 16 false _) refl (clean_digits 16 _)

clean_stats : (stats : Stats) → is_clean (stats_text stats) ≡ true
unfolding stats_text
clean_stats stats =
    let to_count : is_clean (number_text stats.count) ≡ true = clean_number stats.count in
    let to_missed : is_clean (number_text stats.count ++ number_text stats.missed) ≡ true = clean_both (number_text stats.count) (number_text stats.missed) to_count (clean_number stats.missed) in
    let to_cpu_least : is_clean (number_text stats.count ++ number_text stats.missed ++ number_text stats.cpu_least) ≡ true = clean_both (number_text stats.count ++ number_text stats.missed) (number_text stats.cpu_least) to_missed (clean_number stats.cpu_least) in
    let to_cpu_greatest : is_clean (number_text stats.count ++ number_text stats.missed ++ number_text stats.cpu_least ++ number_text stats.cpu_greatest) ≡ true = clean_both (number_text stats.count ++ number_text stats.missed ++ number_text stats.cpu_least) (number_text stats.cpu_greatest) to_cpu_least (clean_number stats.cpu_greatest) in
    let to_cpu_total : is_clean (number_text stats.count ++ number_text stats.missed ++ number_text stats.cpu_least ++ number_text stats.cpu_greatest ++ number_text stats.cpu_total) ≡ true = clean_both (number_text stats.count ++ number_text stats.missed ++ number_text stats.cpu_least ++ number_text stats.cpu_greatest) (number_text stats.cpu_total) to_cpu_greatest (clean_number stats.cpu_total) in
    let to_wall_least : is_clean (number_text stats.count ++ number_text stats.missed ++ number_text stats.cpu_least ++ number_text stats.cpu_greatest ++ number_text stats.cpu_total ++ number_text stats.wall_least) ≡ true = clean_both (number_text stats.count ++ number_text stats.missed ++ number_text stats.cpu_least ++ number_text stats.cpu_greatest ++ number_text stats.cpu_total) (number_text stats.wall_least) to_cpu_total (clean_number stats.wall_least) in
    let to_wall_greatest : is_clean (number_text stats.count ++ number_text stats.missed ++ number_text stats.cpu_least ++ number_text stats.cpu_greatest ++ number_text stats.cpu_total ++ number_text stats.wall_least ++ number_text stats.wall_greatest) ≡ true = clean_both (number_text stats.count ++ number_text stats.missed ++ number_text stats.cpu_least ++ number_text stats.cpu_greatest ++ number_text stats.cpu_total ++ number_text stats.wall_least) (number_text stats.wall_greatest) to_wall_least (clean_number stats.wall_greatest) in
    clean_both (number_text stats.count ++ number_text stats.missed ++ number_text stats.cpu_least ++ number_text stats.cpu_greatest ++ number_text stats.cpu_total ++ number_text stats.wall_least ++ number_text stats.wall_greatest) (number_text stats.wall_total) to_wall_greatest (clean_number stats.wall_total)

clean_period : (index : ℕ) (stats : Stats) → is_clean (period_line index stats) ≡ true
clean_period index stats = clean_both (period_text index) (stats_text stats) (clean_id index) (clean_stats stats)

clean_final : (s : Scenario) (ended : Bool) → is_clean (final_line s ended) ≡ true
unfolding final_line
clean_final s true = clean_both (codes "end ") (decimal s.horizon) refl (clean_digits 10 s.horizon)
clean_final s false = refl

clean_header : is_clean header_line ≡ true
unfolding header_line
clean_header = refl

-- none of the lines has a line feed
abbrev pub AreClean : List (List ℕ) → Type 0
AreClean lines = AllByRecursion (λ line. is_clean line ≡ true) lines

clean_lines : (one other : List (List ℕ)) → AreClean one → AreClean other → AreClean (one ++ other)
clean_lines [] other clean more = more
clean_lines (line ∷ one) other clean more = (clean.0, clean_lines one other clean.1 more)

clean_among : (k : Plain) (stats : ℕ → Stats) (index n : ℕ) → AreClean (period_lines_among k stats index n)
clean_among k stats index zero = tt
clean_among k stats index (suc n) = by (period_at k index).live (clean_among k stats (index + 1) n) where
  by : (live : Bool) → AreClean (period_lines_among k stats (index + 1) n) → AreClean (cond live (period_line index (stats index) ∷ []) [] ++ period_lines_among k stats (index + 1) n)
  by true later = (clean_period index (stats index), later)
  by false later = later

pub clean_periods : (k : Plain) (stats : ℕ → Stats) (index : ℕ) → AreClean (period_lines_from k stats index)
unfolding period_lines_from
clean_periods k stats index = clean_among k stats index (65 - index)

-- the lines of an ending have no line feed
pub clean_ending : (s : Scenario) (k : Plain) (stats : ℕ → Stats) (ended : Bool) → AreClean (period_lines_from k stats 1 ++ final_line s ended ∷ [])
clean_ending s k stats ended = clean_lines (period_lines_from k stats 1) (final_line s ended ∷ []) (clean_periods k stats 1) (clean_final s ended, tt)

clean_entry : (k : Plain) (x : Entry) (what : What) → AreNamedBodies k.scenario.bodies → AreClean (lines_of_entry k x what)
clean_entry k x Call named = (clean_directive k.scenario x named, tt)
clean_entry k x Return named = (clean_directive k.scenario x named, tt)
clean_entry k x Tick named = (clean_tick k, tt)
clean_entry k x End named = tt

clean_entries : (s : Scenario) (P : Plain → Type 0) → Keeps s P → AreNamedBodies s.bodies → (k : Plain) (xs : List Entry) → P k → LegalFrom k xs → AreClean (entry_lines k xs)
clean_entries s P keeps named k [] holds legal = tt
clean_entries s P keeps named k (x ∷ xs) holds legal =
    clean_lines (lines_of_entry k x x.what) (entry_lines (next_by k x) xs) (clean_entry k x x.what (subst (λ (t : Scenario). AreNamedBodies t.bodies) (sym (keeps.scenario k holds)) named))
    (clean_entries s P keeps named (next_by k x) xs (holds_next s P keeps k x holds legal.0) legal.2)

-- no line of the schedule of a legal history has a line feed
pub clean_schedule : (s : Scenario) (P : Plain → Type 0) → Keeps s P → P (opening s) → AreNamedBodies s.bodies → (xs : List Entry) → Legal s xs → AreClean (schedule_lines s xs)
clean_schedule s P keeps begun named xs legal =
    clean_lines (history_lines s xs ++ period_lines s xs) (final_line s (ends xs) ∷ [])
    (clean_lines (history_lines s xs) (period_lines s xs) (clean_header, clean_entries s P keeps named (opening s) xs begun legal) (clean_periods (after s xs) (statistics s xs) 1))
    (clean_final s (ends xs), tt)

-- ---- splitting

whole_line : (had line more : List ℕ) → is_clean line ≡ true → whole_from had (line ++ 10 ∷ more) ≡ (had ++ line) ∷ whole_from [] more
whole_line had [] more clean = ap (λ (l : List ℕ). l ∷ whole_from [] more) (sym (append-nil had))
whole_line had (b ∷ line) more clean =
    let other : (b == 10) ≡ false = grind (arith, nat_tests, and_front (not (b == 10)) (is_clean line) clean) in
    rw other (whole_line (had ++ b ∷ []) line more (and_back (not (b == 10)) (is_clean line) clean) ∙ ap (λ (l : List ℕ). l ∷ whole_from [] more) (append_assoc had (b ∷ []) line))

loose_line : (had line more : List ℕ) → is_clean line ≡ true → loose_from had (line ++ 10 ∷ more) ≡ loose_from [] more
loose_line had [] more clean = refl
loose_line had (b ∷ line) more clean =
    let other : (b == 10) ≡ false = grind (arith, nat_tests, and_front (not (b == 10)) (is_clean line) clean) in
    rw other (loose_line (had ++ b ∷ []) line more (and_back (not (b == 10)) (is_clean line) clean))

-- the lines of the text of lines are these
pub split_text : (lines : List (List ℕ)) → AreClean lines → (whole_lines (text_of_lines lines) ≡ lines) × (loose_end (text_of_lines lines) ≡ [])
split_text [] clean = (refl, refl)
split_text (line ∷ lines) clean =
    let more = split_text lines clean.1 in
    (whole_line [] line (text_of_lines lines) clean.0 ∙ ap (λ (l : List (List ℕ)). line ∷ l) more.0, loose_line [] line (text_of_lines lines) clean.0 ∙ more.1)

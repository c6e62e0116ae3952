-- The lines of directives, ticks, periods and ends are of forms of lines, where their numbers have at most 64 digits.
use Rattle.std.proofs.Common.{◌≡◌, ℕ, zero, suc, ◌+◌, ◌^◌, ◌<◌, List, [], ◌∷◌, ◌++◌, Bool, true, false, ◌||◌, slice_get, length, codes, arith, refl, sym, ap, ◌∙◌, subst, append_assoc}
use Rattle.std.specs.Prelude.{◌==◌}
use Rattle.std.specs.List.{list_all}
use Rattle.std.specs.Str.{bytes_eq}
use Rattle.std.specs.Fmt.{decimal, digits}
use Rattle.std.proofs.lemmas.Bool.{false≢true}
use Rattle.std.proofs.lemmas.Bool.Decides.{nat_tests}
use Rattle.rk_model.specs.declared.scenario.Scenario.{Scenario}
use Rattle.rk_model.specs.declared.status.Status.{Status}
use Rattle.rk_model.specs.declared.status.Status.TheVariants.{Waits}
use Rattle.rk_model.specs.declared.ids.Class.TheVariants.{Period}
use Rattle.rk_model.specs.declared.period.Stats.{Stats}
use Rattle.rk_model.specs.declared.entry.Entry.{Entry}
use Rattle.rk_model.specs.declared.entry.View.{View}
use Rattle.rk_model.specs.declared.entry.View.TheVariants.{Idle, Spins, Runs}
use Rattle.rk_model.specs.declared.entry.What.{What}
use Rattle.rk_model.specs.declared.entry.What.TheVariants.{Call, Return, Tick, End}
use Rattle.rk_model.specs.Ids.{id_of}
use Rattle.rk_model.specs.State.{Plain, op_at}
use Rattle.rk_model.specs.Scheduling.Running.{running}
use Rattle.rk_model.specs.Scheduling.Seats.{cpu_count}
use Rattle.rk_model.specs.Status.{status_code}
use Rattle.rk_model.specs.Text.Words.{spaced_from, spaced, is_digit, is_body_name}
use Rattle.rk_model.specs.Text.Schedules.{first_word, name_in, seat_text, place_text, call_text, reply_text, answer_text, directive_line, view_text, views_from, tick_line, period_text, number_text, stats_text, period_line, header_line, final_line}
use Rattle.rk_model.specs.Text.ScheduleForms.{is_decimal, is_hexadecimal, is_lettered, is_place, is_directive_word, is_answer, is_call, is_view, is_tick, is_period, is_number, is_word, is_line, are_line, has_form}
use Rattle.rk_model.proofs.BooleanLemmas.{and_front, or_front, or_back}
use Rattle.rk_schedule.proofs.NumeralLemmas.{decimal_is, hexadecimal_is, decimal_digits}
use Rattle.rk_schedule.proofs.SpacedLemmas.{is_solid, spaced_word, spaced_last, spaced_more}
use Rattle.rk_schedule.proofs.WordFormLemmas.{decimal_solid, hexadecimal_solid, name_solid, word_solid, lettered, place, is_directive_at, directive_word, is_waits, status_number}

-- ---- numbers

solid_number : (n : ℕ) → n < 10 ^ 64 → is_solid (decimal n) ≡ true
solid_number n few = decimal_solid (decimal n) (decimal_is n few)

solid_digits : (n : ℕ) → n < 16 ^ 64 → is_solid (digits 16 false n) ≡ true
solid_digits n few = hexadecimal_solid (digits 16 false n) (hexadecimal_is n few)

-- ---- directives

-- This may stand in the line of such an entry: the number of a status, which isn't that of waiting where a directive comes back.
abbrev pub CanStand : What → ℕ → Type 0
CanStand Call code = (status : Status) × (code ≡ status_code status)
CanStand Return code = (status : Status) × (code ≡ status_code status) × (is_waits status ≡ false)
CanStand Tick code = ⊥
CanStand End code = ⊥

-- What the line of a directive needs of its entry.
pub record IsTellable (s : Scenario) (x : Entry) : Type 0 where
  pub seat : x.seat < 10 ^ 64
  pub task : x.task < 10 ^ 64
  pub name : is_body_name (name_in (slice_get s.bodies x.body)) ≡ true
  pub line : x.line < 10 ^ 64
  pub word : is_directive_at (op_at s x.body x.line) ≡ true
  pub status : CanStand x.what x.status
  pub out : x.out < 16 ^ 64

-- the processor and the task
abbrev cpu_word : Entry → List ℕ
cpu_word x = 112 ∷ decimal x.seat

abbrev task_word : Entry → List ℕ
task_word x = 116 ∷ decimal x.task

-- the line of the body
abbrev place_word : Scenario → Entry → List ℕ
place_word s x = name_in (slice_get s.bodies x.body) ++ codes ":" ++ decimal x.line

seat_words : (x : Entry) → is_solid (decimal x.seat) ≡ true → is_solid (decimal x.task) ≡ true → spaced (seat_text x) ≡ cpu_word x ∷ task_word x ∷ [] ∷ []
unfolding seat_text
seat_words x seat task =
    let cpu : spaced (codes "p" ++ decimal x.seat) ≡ cpu_word x ∷ [] = spaced_last [] (cpu_word x) seat in
    let letter : spaced (codes "p" ++ decimal x.seat ++ codes " t") ≡ cpu_word x ∷ (116 ∷ []) ∷ [] = spaced_more [] (codes "p" ++ decimal x.seat) (codes " t") [] (cpu_word x) cpu in
    let both : spaced (codes "p" ++ decimal x.seat ++ codes " t" ++ decimal x.task) ≡ cpu_word x ∷ task_word x ∷ [] =
    spaced_more [] (codes "p" ++ decimal x.seat ++ codes " t") (decimal x.task) (cpu_word x ∷ []) (116 ∷ []) letter ∙ ap (λ (l : List (List ℕ)). cpu_word x ∷ l) (spaced_last (116 ∷ []) (decimal x.task) task) in
    spaced_more [] (codes "p" ++ decimal x.seat ++ codes " t" ++ decimal x.task) (codes " ") (cpu_word x ∷ []) (task_word x) both

place_words : (s : Scenario) (x : Entry) → is_solid (name_in (slice_get s.bodies x.body)) ≡ true → is_solid (decimal x.line) ≡ true → spaced (place_text s x) ≡ place_word s x ∷ [] ∷ []
unfolding place_text
place_words s x name line =
    let body = name_in (slice_get s.bodies x.body) in
    let alone : spaced body ≡ body ∷ [] = spaced_last [] body name in
    let colon : spaced (body ++ codes ":") ≡ (body ++ codes ":") ∷ [] = spaced_more [] body (codes ":") [] body alone in
    let both : spaced (body ++ codes ":" ++ decimal x.line) ≡ place_word s x ∷ [] = spaced_more [] (body ++ codes ":") (decimal x.line) [] (body ++ codes ":") colon ∙ spaced_last (body ++ codes ":") (decimal x.line) line in
    spaced_more [] (body ++ codes ":" ++ decimal x.line) (codes " ") [] (place_word s x) both

call_words : (s : Scenario) (x : Entry) (more : List ℕ) → IsTellable s x → spaced (call_text s x ++ more) ≡ cpu_word x ∷ task_word x ∷ place_word s x ∷ spaced_from (first_word (op_at s x.body x.line)) more
unfolding call_text
call_words s x more is =
    let word = first_word (op_at s x.body x.line) in
    let front : List (List ℕ) = cpu_word x ∷ task_word x ∷ [] in
    let whole : List (List ℕ) = cpu_word x ∷ task_word x ∷ place_word s x ∷ [] in
    let seat : spaced (seat_text x) ≡ cpu_word x ∷ task_word x ∷ [] ∷ [] = seat_words x (solid_number x.seat is.seat) (solid_number x.task is.task) in
    let place : spaced (place_text s x) ≡ place_word s x ∷ [] ∷ [] = place_words s x (name_solid (name_in (slice_get s.bodies x.body)) is.name) (solid_number x.line is.line) in
    let both : spaced (seat_text x ++ place_text s x) ≡ cpu_word x ∷ task_word x ∷ place_word s x ∷ [] ∷ [] = spaced_more [] (seat_text x) (place_text s x) front [] seat ∙ ap (λ (l : List (List ℕ)). front ++ l) place in
    let all : spaced (seat_text x ++ place_text s x ++ word) ≡ cpu_word x ∷ task_word x ∷ place_word s x ∷ word ∷ [] = spaced_more [] (seat_text x ++ place_text s x) word whole [] both ∙ ap (λ (l : List (List ℕ)). whole ++ l) (spaced_last [] word (word_solid (op_at s x.body x.line))) in
    spaced_more [] (seat_text x ++ place_text s x ++ word) more whole word all

-- the words of an answer
reply_words : (status out : ℕ) → is_solid (decimal status) ≡ true → is_solid (digits 16 false out) ≡ true → spaced (reply_text status out) ≡ decimal status ∷ digits 16 false out ∷ []
unfolding reply_text
reply_words status out solid hex = spaced_word [] (decimal status) (32 ∷ digits 16 false out) solid ∙ ap (λ (l : List (List ℕ)). decimal status ∷ l) (spaced_last [] (digits 16 false out) hex)

few_code : (status : Status) → status_code status < 10 ^ 64
few_code Waits = omega arith
few_code _ = omega arith

-- an answer is of its form
abbrev AnswersBehind : List ℕ → List ℕ → Type 0
AnswersBehind word text = (answer : List (List ℕ)) × (spaced_from word text ≡ word ∷ answer) × (is_answer answer ≡ true)

done_behind : (word : List ℕ) (status : Status) (out : ℕ) → is_waits status ≡ false → out < 16 ^ 64 → AnswersBehind word (codes " done " ++ reply_text (status_code status) out)
unfolding is_answer
done_behind word status out ended few =
    let code = status_code status in (
      codes "done" ∷ decimal code ∷ digits 16 false out ∷ [],
      ap (λ (l : List (List ℕ)). word ∷ codes "done" ∷ l) (reply_words code out (solid_number code (few_code status)) (solid_digits out few)),
      rw (status_number status ended, hexadecimal_is out few) refl,
    )

back_behind : (word : List ℕ) (status : Status) (out : ℕ) → is_waits status ≡ false → out < 16 ^ 64 → AnswersBehind word (codes " back " ++ reply_text (status_code status) out)
unfolding is_answer
back_behind word status out ended few =
    let code = status_code status in (
      codes "back" ∷ decimal code ∷ digits 16 false out ∷ [],
      ap (λ (l : List (List ℕ)). word ∷ codes "back" ∷ l) (reply_words code out (solid_number code (few_code status)) (solid_digits out few)),
      rw (status_number status ended, hexadecimal_is out few) refl,
    )

waits_behind : (word : List ℕ) → AnswersBehind word (codes " waits")
unfolding is_answer
waits_behind word = (codes "waits" ∷ [], refl, refl)

not_waiting : (status : Status) → is_waits status ≡ false → (status_code status == 255) ≡ false
not_waiting Waits ended = absurd (false≢true (sym ended))
not_waiting _ ended = refl

is_waiting : (status : Status) → is_waits status ≡ true → (status_code status == 255) ≡ true
is_waiting Waits waits = refl
is_waiting _ waits = absurd (false≢true waits)

call_behind : (word : List ℕ) (status : Status) (out : ℕ) (waits : Bool) → is_waits status ≡ waits → out < 16 ^ 64 → AnswersBehind word (answer_text Call (status_code status) out)
unfolding answer_text
call_behind word status out true e few = rw (is_waiting status e) (waits_behind word)
call_behind word status out false e few = rw (not_waiting status e) (done_behind word status out e few)

return_behind : (word : List ℕ) (status : Status) (out : ℕ) → is_waits status ≡ false → out < 16 ^ 64 → AnswersBehind word (answer_text Return (status_code status) out)
unfolding answer_text
return_behind word status out ended few = back_behind word status out ended few

answer_behind : (word : List ℕ) (what : What) (code out : ℕ) → CanStand what code → out < 16 ^ 64 → AnswersBehind word (answer_text what code out)
answer_behind word Call code out can few = subst (λ (c : ℕ). AnswersBehind word (answer_text Call c out)) (sym can.1) (call_behind word can.0 out (is_waits can.0) refl few)
answer_behind word Return code out can few = subst (λ (c : ℕ). AnswersBehind word (answer_text Return c out)) (sym can.1) (return_behind word can.0 out can.2 few)
answer_behind word Tick code out can few = absurd can
answer_behind word End code out can few = absurd can

-- a processor's word is no `period`
not_period : (number : List ℕ) → list_all is_digit number ≡ true → bytes_eq (112 ∷ number) (codes "period") ≡ false
not_period [] are = refl
not_period (b ∷ number) are = let other : (b == 101) ≡ false = grind (arith, nat_tests, and_front (is_digit b) (list_all is_digit number) are) in rw other refl

of_calls : (cpus : ℕ) (number : List ℕ) (words : List (List ℕ)) → is_decimal number ≡ true → is_call words ≡ true → is_line cpus (112 ∷ number) words ≡ true
unfolding is_line
of_calls cpus number words is call = rw (not_period number (decimal_digits number is), lettered 112 number is, call) refl

of_call : (task place word : List ℕ) (answer : List (List ℕ)) → is_lettered 116 task ≡ true → is_place place ≡ true → is_directive_word word ≡ true → is_answer answer ≡ true → is_call (task ∷ place ∷ word ∷ answer) ≡ true
unfolding is_call
of_call task place word answer one two three four = rw (one, two, three, four) refl

-- The line of a directive is of its form.
pub directive_formed : (cpus : ℕ) (s : Scenario) (x : Entry) → IsTellable s x → has_form cpus (directive_line s x) ≡ true
unfolding has_form
directive_formed cpus s x is =
    let word = first_word (op_at s x.body x.line) in
    let body = name_in (slice_get s.bodies x.body) in
    let behind = answer_behind word x.what x.status x.out is.status is.out in
    let words : spaced (directive_line s x) ≡ cpu_word x ∷ task_word x ∷ place_word s x ∷ word ∷ behind.0 =
    call_words s x (answer_text x.what x.status x.out) is ∙ ap (λ (l : List (List ℕ)). cpu_word x ∷ task_word x ∷ place_word s x ∷ l) behind.1 in
    let placed : is_place (place_word s x) ≡ true = ap is_place (append_assoc body (codes ":") (decimal x.line)) ∙ place body (decimal x.line) is.name (decimal_is x.line is.line) in
    ap (are_line cpus) words
    ∙ of_calls cpus (decimal x.seat) (task_word x ∷ place_word s x ∷ word ∷ behind.0) (decimal_is x.seat is.seat)
    (of_call (task_word x) (place_word s x) word behind.0 (lettered 116 (decimal x.task) (decimal_is x.task is.task)) placed (directive_word (op_at s x.body x.line) is.word) behind.2)

-- ---- ticks

-- a view's thread has a number of few digits
abbrev pub IsNear : View → Type 0
IsNear Idle = Unit {0}
IsNear (Spins t) = t < 10 ^ 64
IsNear (Runs t) = t < 10 ^ 64

abbrev view_word : View → List ℕ
view_word Idle = codes "-"
view_word (Spins t) = 115 ∷ decimal t
view_word (Runs t) = 116 ∷ decimal t

abbrev view_words : Plain → ℕ → ℕ → List (List ℕ)
view_words k p zero = []
view_words k p (suc n) = view_word (running k p) ∷ view_words k (p + 1) n

view_front : (view : View) (word rest : List ℕ) → IsNear view → spaced_from word (view_text view ++ rest) ≡ word ∷ spaced_from (view_word view) rest
unfolding view_text
view_front Idle word rest near = refl
view_front (Spins t) word rest near = ap (λ (l : List (List ℕ)). word ∷ l) (spaced_word (115 ∷ []) (decimal t) rest (solid_number t near))
view_front (Runs t) word rest near = ap (λ (l : List (List ℕ)). word ∷ l) (spaced_word (116 ∷ []) (decimal t) rest (solid_number t near))

views_behind : (k : Plain) (p n : ℕ) (word : List ℕ) → ((q : ℕ) → IsNear (running k q)) → spaced_from word (views_from k p n) ≡ word ∷ view_words k p n
views_behind k p zero word near = refl
views_behind k p (suc n) word near = view_front (running k p) word (views_from k (p + 1) n) (near p) ∙ ap (λ (l : List (List ℕ)). word ∷ l) (views_behind k (p + 1) n (view_word (running k p)) near)

is_view_word : (view : View) → IsNear view → is_view (view_word view) ≡ true
is_view_word Idle near = refl
is_view_word (Spins t) near = or_back (bytes_eq (115 ∷ decimal t) (codes "-") || is_lettered 116 (115 ∷ decimal t)) (lettered 115 (decimal t) (decimal_is t near))
is_view_word (Runs t) near = or_front (is_lettered 115 (116 ∷ decimal t)) (or_back (bytes_eq (116 ∷ decimal t) (codes "-")) (lettered 116 (decimal t) (decimal_is t near)))

are_views : (k : Plain) (p n : ℕ) → ((q : ℕ) → IsNear (running k q)) → list_all is_view (view_words k p n) ≡ true
are_views k p zero near = refl
are_views k p (suc n) near = rw (is_view_word (running k p) (near p)) (are_views k (p + 1) n near)

length_views : (k : Plain) (p n : ℕ) → length (view_words k p n) ≡ n
length_views k p zero = refl
length_views k p (suc n) = omega (arith, length_views k (p + 1) n)

of_tick : (cpus : ℕ) (number : List ℕ) (views : List (List ℕ)) → is_decimal number ≡ true → length views ≡ cpus → list_all is_view views ≡ true → is_line cpus (codes "tick") (number ∷ views) ≡ true
unfolding is_line is_tick
of_tick cpus number views is many are = let same : (length views == cpus) ≡ true = grind (arith, nat_tests, many) in rw (is, same, are) refl

-- The line of a tick is of its form.
pub tick_formed : (cpus : ℕ) (k : Plain) → cpu_count k ≡ cpus → k.present + 1 < 10 ^ 64 → ((q : ℕ) → IsNear (running k q)) → has_form cpus (tick_line k) ≡ true
unfolding tick_line has_form
tick_formed cpus k many few near =
    let number = decimal (k.present + 1) in
    let front : spaced (codes "tick " ++ number) ≡ codes "tick" ∷ number ∷ [] = ap (λ (l : List (List ℕ)). codes "tick" ∷ l) (spaced_last [] number (solid_number (k.present + 1) few)) in
    let words : spaced (codes "tick " ++ number ++ views_from k 0 (cpu_count k)) ≡ codes "tick" ∷ number ∷ view_words k 0 (cpu_count k) =
    spaced_more [] (codes "tick " ++ number) (views_from k 0 (cpu_count k)) (codes "tick" ∷ []) number front ∙ ap (λ (l : List (List ℕ)). codes "tick" ∷ l) (views_behind k 0 (cpu_count k) number near) in
    ap (are_line cpus) words ∙ of_tick cpus number (view_words k 0 (cpu_count k)) (decimal_is (k.present + 1) few) (length_views k 0 (cpu_count k) ∙ many) (are_views k 0 (cpu_count k) near)

-- ---- periods

-- The eight numbers have few digits.
pub record AreFew (stats : Stats) : Type 0 where
  pub count : stats.count < 10 ^ 64
  pub missed : stats.missed < 10 ^ 64
  pub cpu_least : stats.cpu_least < 10 ^ 64
  pub cpu_greatest : stats.cpu_greatest < 10 ^ 64
  pub cpu_total : stats.cpu_total < 10 ^ 64
  pub wall_least : stats.wall_least < 10 ^ 64
  pub wall_greatest : stats.wall_greatest < 10 ^ 64
  pub wall_total : stats.wall_total < 10 ^ 64

number_behind : (had line : List ℕ) (n : ℕ) (words : List (List ℕ)) (word : List ℕ) → n < 10 ^ 64 → spaced_from had line ≡ words ++ word ∷ [] → spaced_from had (line ++ number_text n) ≡ (words ++ word ∷ []) ++ decimal n ∷ []
number_behind had line n words word few e =
    spaced_more had line (number_text n) words word e
    ∙ ap (λ (l : List (List ℕ)). words ++ word ∷ l) (spaced_last [] (decimal n) (solid_number n few))
    ∙ sym (append_assoc words (word ∷ []) (decimal n ∷ []))

abbrev numbers_of : Stats → List (List ℕ)
numbers_of stats = decimal stats.count ∷ decimal stats.missed ∷ decimal stats.cpu_least ∷ decimal stats.cpu_greatest ∷ decimal stats.cpu_total ∷ decimal stats.wall_least ∷ decimal stats.wall_greatest ∷ decimal stats.wall_total ∷ []

numbers_behind : (id : List ℕ) (stats : Stats) → AreFew stats → spaced_from id (stats_text stats) ≡ id ∷ numbers_of stats
unfolding stats_text
numbers_behind id stats few =
    let c1 : List ℕ = decimal stats.count in
    let c2 : List ℕ = decimal stats.missed in
    let c3 : List ℕ = decimal stats.cpu_least in
    let c4 : List ℕ = decimal stats.cpu_greatest in
    let c5 : List ℕ = decimal stats.cpu_total in
    let c6 : List ℕ = decimal stats.wall_least in
    let c7 : List ℕ = decimal stats.wall_greatest in
    let t1 : List ℕ = number_text stats.count in
    let t2 : List ℕ = t1 ++ number_text stats.missed in
    let t3 : List ℕ = t2 ++ number_text stats.cpu_least in
    let t4 : List ℕ = t3 ++ number_text stats.cpu_greatest in
    let t5 : List ℕ = t4 ++ number_text stats.cpu_total in
    let t6 : List ℕ = t5 ++ number_text stats.wall_least in
    let t7 : List ℕ = t6 ++ number_text stats.wall_greatest in
    let e1 : spaced_from id t1 ≡ id ∷ c1 ∷ [] = ap (λ (l : List (List ℕ)). id ∷ l) (spaced_last [] c1 (solid_number stats.count few.count)) in
    let e2 : spaced_from id t2 ≡ id ∷ c1 ∷ c2 ∷ [] = number_behind id t1 stats.missed (id ∷ []) c1 few.missed e1 in
    let e3 : spaced_from id t3 ≡ id ∷ c1 ∷ c2 ∷ c3 ∷ [] = number_behind id t2 stats.cpu_least (id ∷ c1 ∷ []) c2 few.cpu_least e2 in
    let e4 : spaced_from id t4 ≡ id ∷ c1 ∷ c2 ∷ c3 ∷ c4 ∷ [] = number_behind id t3 stats.cpu_greatest (id ∷ c1 ∷ c2 ∷ []) c3 few.cpu_greatest e3 in
    let e5 : spaced_from id t5 ≡ id ∷ c1 ∷ c2 ∷ c3 ∷ c4 ∷ c5 ∷ [] = number_behind id t4 stats.cpu_total (id ∷ c1 ∷ c2 ∷ c3 ∷ []) c4 few.cpu_total e4 in
    let e6 : spaced_from id t6 ≡ id ∷ c1 ∷ c2 ∷ c3 ∷ c4 ∷ c5 ∷ c6 ∷ [] = number_behind id t5 stats.wall_least (id ∷ c1 ∷ c2 ∷ c3 ∷ c4 ∷ []) c5 few.wall_least e5 in
    let e7 : spaced_from id t7 ≡ id ∷ c1 ∷ c2 ∷ c3 ∷ c4 ∷ c5 ∷ c6 ∷ c7 ∷ [] = number_behind id t6 stats.wall_greatest (id ∷ c1 ∷ c2 ∷ c3 ∷ c4 ∷ c5 ∷ []) c6 few.wall_greatest e6 in
    number_behind id t7 stats.wall_total (id ∷ c1 ∷ c2 ∷ c3 ∷ c4 ∷ c5 ∷ c6 ∷ []) c7 few.wall_total e7

are_numbers : (stats : Stats) → AreFew stats → list_all is_decimal (numbers_of stats) ≡ true
are_numbers stats few = rw (decimal_is stats.count few.count, decimal_is stats.missed few.missed, decimal_is stats.cpu_least few.cpu_least, decimal_is stats.cpu_greatest few.cpu_greatest, decimal_is stats.cpu_total few.cpu_total, decimal_is stats.wall_least few.wall_least, decimal_is stats.wall_greatest few.wall_greatest, decimal_is stats.wall_total few.wall_total) refl

of_period : (cpus : ℕ) (id : List ℕ) (numbers : List (List ℕ)) → is_hexadecimal id ≡ true → length numbers ≡ 8 → list_all is_decimal numbers ≡ true → is_line cpus (codes "period") (id ∷ numbers) ≡ true
unfolding is_line is_period
of_period cpus id numbers is many are = rw (is, many, are) refl

-- The line of a period is of its form.
pub period_formed : (cpus index : ℕ) (stats : Stats) → id_of Period index < 16 ^ 64 → AreFew stats → has_form cpus (period_line index stats) ≡ true
unfolding period_text has_form
period_formed cpus index stats small few =
    let id = digits 16 false (id_of Period index) in
    let front : spaced (codes "period " ++ id) ≡ codes "period" ∷ id ∷ [] = ap (λ (l : List (List ℕ)). codes "period" ∷ l) (spaced_last [] id (solid_digits (id_of Period index) small)) in
    let words : spaced (codes "period " ++ id ++ stats_text stats) ≡ codes "period" ∷ id ∷ numbers_of stats =
    spaced_more [] (codes "period " ++ id) (stats_text stats) (codes "period" ∷ []) id front ∙ ap (λ (l : List (List ℕ)). codes "period" ∷ l) (numbers_behind id stats few) in
    ap (are_line cpus) words ∙ of_period cpus id (numbers_of stats) (hexadecimal_is (id_of Period index) small) refl (are_numbers stats few)

-- ---- the first and the last line

pub header_formed : (cpus : ℕ) → has_form cpus header_line ≡ true
unfolding header_line has_form is_line is_word
header_formed cpus = refl

of_end : (cpus : ℕ) (number : List ℕ) → is_decimal number ≡ true → is_line cpus (codes "end") (number ∷ []) ≡ true
unfolding is_line is_number
of_end cpus number is = is

pub final_formed : (cpus : ℕ) (s : Scenario) (ended : Bool) → s.horizon < 10 ^ 64 → has_form cpus (final_line s ended) ≡ true
unfolding final_line has_form is_line
final_formed cpus s true few =
    let number = decimal s.horizon in
    let words : spaced (codes "end " ++ number) ≡ codes "end" ∷ number ∷ [] = ap (λ (l : List (List ℕ)). codes "end" ∷ l) (spaced_last [] number (solid_number s.horizon few)) in
    ap (are_line cpus) words ∙ of_end cpus number (decimal_is s.horizon few)
final_formed cpus s false few = refl

-- The lines of a load, as they are written.
use Rattle.std.proofs.Common.{◌≡◌, ℕ, suc, ◌+◌, ◌-◌, ◌*◌, ◌/◌, ◌%◌, ◌^◌, ◌<◌, ◌≤◌, List, [], ◌∷◌, ◌++◌, Bool, true, false, nat_lt, Option, Some, arith, ap, sym, ◌∙◌, refl, append_assoc, append-nil}
use Rattle.std.proofs.lemmas.Bool.Decides.{nat_tests}
use Rattle.std.proofs.lemmas.Fmt.{decimal_digit, decimal_step, hex_byte}
use Rattle.std.specs.Fmt.{decimal, digits, styled_decimal, padded_integral, char_count, format_spec, radix_prefix, shown_prefix, AppendsText, ◌++?◌}
use Rattle.std.specs.Option.{option_map}
use Rattle.rk_model.specs.Text.Schedules.{text_of_lines}
use Rattle.rk_model.proofs.ScheduleLemmas.{lines_together}
use Rattle.rk_scenario.specs.Loads.{next_number, after_draws, drawn, activity_drawn, three_digits, two_hex_digits, body_lines, init_line, bodies_from, inits_from}

-- ---- the generator's number

-- in front of the draws for the tasks from an index on, the next five are those of that task
pub draws_more : (index x : ℕ) → index ≤ 31 → after_draws x (5 * (32 - index)) ≡ after_draws (after_draws x 5) (5 * (32 - (index + 1)))
unfolding after_draws
draws_more index x few =
    let e : 5 * (32 - index) ≡ suc (suc (suc (suc (suc (5 * (32 - (index + 1))))))) = omega arith in
    rw e refl

-- behind the last task none are left
pub draws_end : (index x : ℕ) → 32 ≤ index → after_draws x (5 * (32 - index)) ≡ x
unfolding after_draws
draws_end index x all = let e : 5 * (32 - index) ≡ 0 = omega arith in rw e refl

-- ---- lists of lines

pub bodies_more : (index x : ℕ) → index ≤ 31 → bodies_from index x ≡ body_lines index (activity_drawn x) ++ bodies_from (index + 1) (after_draws x 5)
unfolding bodies_from
bodies_more index x few = let e : 32 - index ≡ suc (32 - (index + 1)) = omega arith in rw e refl

pub bodies_end : (index x : ℕ) → 32 ≤ index → bodies_from index x ≡ []
unfolding bodies_from
bodies_end index x all = let e : 32 - index ≡ 0 = omega arith in rw e refl

pub inits_more : (index x : ℕ) → index ≤ 31 → inits_from index x ≡ init_line index (index % 4) (10 + drawn (next_number x) 100) ∷ inits_from (index + 1) (next_number x)
unfolding after_draws inits_from
inits_more index x few = let e : 32 - index ≡ suc (32 - (index + 1)) = omega arith in rw e refl

pub inits_end : (index x : ℕ) → 32 ≤ index → inits_from index x ≡ []
unfolding inits_from
inits_end index x all = let e : 32 - index ≡ 0 = omega arith in rw e refl

-- lines that are written behind others, in front of those that are left
pub lines_step : (had has : List ℕ) (these later all : List (List ℕ)) → all ≡ these ++ later → has ≡ had ++ text_of_lines these → has ++ text_of_lines later ≡ had ++ text_of_lines all
lines_step had has these later all e is =
    rw (is, e) (append_assoc had (text_of_lines these) (text_of_lines later) ∙ ap (λ (text : List ℕ). had ++ text) (sym (lines_together these later)))

-- where none are left
pub lines_done : (had : List ℕ) (all : List (List ℕ)) → all ≡ [] → had ≡ had ++ text_of_lines all
lines_done had all e = rw e (sym (append-nil had))

-- ---- numbers

decimal_two : (n : ℕ) → 10 ≤ n → n < 100 → decimal n ≡ (48 + n / 10) ∷ (48 + n % 10) ∷ []
decimal_two n large small = decimal_step n large (omega arith) ∙ ap (λ (ds : List ℕ). ds ++ (48 + n % 10) ∷ []) (decimal_digit (n / 10) (omega arith))

decimal_three : (n : ℕ) → 100 ≤ n → n < 1000 → decimal n ≡ (48 + n / 100) ∷ (48 + n / 10 % 10) ∷ (48 + n % 10) ∷ []
decimal_three n large small =
    let e : n / 10 / 10 ≡ n / 100 = omega arith in
    decimal_step n (omega arith) (omega arith) ∙ ap (λ (ds : List ℕ). ds ++ (48 + n % 10) ∷ []) (decimal_two (n / 10) (omega arith) (omega arith) ∙ ap (λ (d : ℕ). (48 + d) ∷ (48 + n / 10 % 10) ∷ []) e)

by_length : (n : ℕ) → n < 1000 → (a b : Bool) → nat_lt n 10 ≡ a → nat_lt n 100 ≡ b → styled_decimal (format_spec 32 0 4 3 (2 ^ 64 - 1)) n ≡ three_digits n
unfolding padded_integral char_count
by_length n few true b short shorter =
    let one : n < 10 = grind (arith, nat_tests, short) in
    let high : n / 100 ≡ 0 = omega arith in
    let middle : n / 10 % 10 ≡ 0 = omega arith in
    let low : n % 10 ≡ n = omega arith in
    rw (decimal_digit n one, high, middle, low)
by_length n few false true long short =
    let large : 10 ≤ n = grind (arith, nat_tests, long) in
    let small : n < 100 = grind (arith, nat_tests, short) in
    let high : n / 100 ≡ 0 = omega arith in
    let middle : n / 10 % 10 ≡ n / 10 = omega arith in
    rw (decimal_two n large small, high, middle)
by_length n few false false long longer =
    let large : 100 ≤ n = grind (arith, nat_tests, longer) in
    rw (decimal_three n large few)

-- a number below 1000, padded with zeros to three digits
pub padded_three : (n : ℕ) → n < 1000 → styled_decimal (format_spec 32 0 4 3 (2 ^ 64 - 1)) n ≡ three_digits n
padded_three n few = by_length n few (nat_lt n 10) (nat_lt n 100) refl refl

-- a byte, padded with a zero to two hexadecimal digits
pub padded_hex : (n base : ℕ) (found : Option (List ℕ)) → n < 256 → found ≡ Some (digits 16 false n)
    → option_map (padded_integral (format_spec 32 0 4 2 (2 ^ 64 - 1)) false (shown_prefix (format_spec 32 0 4 2 (2 ^ 64 - 1)) (radix_prefix base))) found ≡ Some (two_hex_digits n)
padded_hex n base found few is = rw is (ap (λ (text : List ℕ). Some text) (hex_byte false n few))

-- what is appended with one hole, where the hole writes this text
pub appended : (had has front back text : List ℕ) (hole : Option (List ℕ)) → hole ≡ Some text → AppendsText had has (Some front ++? hole ++? Some back) → has ≡ had ++ (front ++ (text ++ back))
appended had has front back text hole e writes = rw e at writes

-- ---- the whole text

-- the text of lines, part by part
pub parts_together : (front bodies inits : List (List ℕ)) (line : List ℕ)
    → text_of_lines front ++ text_of_lines bodies ++ text_of_lines (line ∷ []) ++ text_of_lines inits ≡ text_of_lines (front ++ bodies ++ line ∷ inits)
parts_together front bodies inits line =
    ap (λ (text : List ℕ). text ++ text_of_lines (line ∷ []) ++ text_of_lines inits) (sym (lines_together front bodies))
    ∙ append_assoc (text_of_lines (front ++ bodies)) (text_of_lines (line ∷ [])) (text_of_lines inits)
    ∙ ap (λ (text : List ℕ). text_of_lines (front ++ bodies) ++ text) (sym (lines_together (line ∷ []) inits))
    ∙ sym (lines_together (front ++ bodies) (line ∷ inits))

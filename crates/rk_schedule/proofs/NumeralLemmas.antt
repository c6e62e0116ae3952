-- The digits of a number are a numeral: they are digits, and the first of them is no zero that others follow.
use Rattle.std.proofs.Common.{◌≡◌, ◌≢◌, ℕ, zero, suc, ◌+◌, ◌*◌, ◌/◌, ◌%◌, ◌^◌, ◌<◌, ◌≤◌, List, [], ◌∷◌, Bool, true, false, cond, eqb, ltb, not, ◌&&◌, length, arith, refl}
use Rattle.std.specs.Prelude.{◌==◌, nat_lt}
use Rattle.std.specs.List.{list_all}
use Rattle.std.specs.Fmt.{decimal, digits, digits_onto, digit_glyph}
use Rattle.std.proofs.Math.Nat.{pow-zero, pow-suc, div-lt_iff_lt-mul, mod-lt, div-add-mod'}
use Rattle.std.proofs.lemmas.Bool.{false≢true}
use Rattle.std.proofs.lemmas.Bool.Decides.{nat_tests}
use Rattle.rk_model.specs.Text.Words.{is_digit, has_leading_zero}
use Rattle.rk_model.specs.Text.ScheduleForms.{is_decimal, is_hex_digit, is_hexadecimal}
use Rattle.rk_model.proofs.BooleanLemmas.{and_front, and_back}

-- all bytes that pass one test pass another
pub all_pass : (one other : ℕ → Bool) → ((b : ℕ) → one b ≡ true → other b ≡ true) → (bytes : List ℕ) → list_all one bytes ≡ true → list_all other bytes ≡ true
all_pass one other follows [] are = refl
all_pass one other follows (b ∷ bytes) are = rw (follows b (and_front (one b) (list_all one bytes) are)) (all_pass one other follows bytes (and_back (one b) (list_all one bytes) are))

-- ---- each digit

decimal_glyph : (d : ℕ) → d < 10 → is_digit (digit_glyph false d) ≡ true
decimal_glyph d few = by (ltb d 10) refl where
  by : (b : Bool) → ltb d 10 ≡ b → is_digit (cond b (48 + d) (87 + d)) ≡ true
  by true e = grind (arith, nat_tests, few)
  by false e = absurd (let low : 10 ≤ d = grind (arith, nat_tests, e) in omega (arith, low, few))

hex_glyph : (d : ℕ) → d < 16 → is_hex_digit (digit_glyph false d) ≡ true
hex_glyph d few = by (ltb d 10) refl where
  by : (b : Bool) → ltb d 10 ≡ b → is_hex_digit (cond b (48 + d) (87 + d)) ≡ true
  by true e = grind (arith, nat_tests, few, e)
  by false e = grind (arith, nat_tests, few, e)

some_glyph : (d : ℕ) → 0 < d → not (digit_glyph false d == 48) ≡ true
some_glyph d some = by (ltb d 10) where
  by : (b : Bool) → not (eqb (cond b (48 + d) (87 + d)) 48) ≡ true
  by true = grind (arith, nat_tests, some)
  by false = grind (arith, nat_tests)

-- ---- all digits

pass_onto : (test : ℕ → Bool) (k base n : ℕ) (more : List ℕ) → 0 < base → ((d : ℕ) → d < base → test (digit_glyph false d) ≡ true) → list_all test more ≡ true → list_all test (digits_onto k base false n more) ≡ true
pass_onto test zero base n more some each pass = pass
pass_onto test (suc k) base n more some each pass =
    let glyph : test (digit_glyph false (n % base)) ≡ true = each (n % base) (mod-lt n some) in
    by (eqb (n / base) 0) (rw glyph pass) (pass_onto test k base (n / base) (digit_glyph false (n % base) ∷ more) some each (rw glyph pass))
  where
    by : (last : Bool) → list_all test (digit_glyph false (n % base) ∷ more) ≡ true → list_all test (digits_onto k base false (n / base) (digit_glyph false (n % base) ∷ more)) ≡ true
        → list_all test (cond last (digit_glyph false (n % base) ∷ more) (digits_onto k base false (n / base) (digit_glyph false (n % base) ∷ more))) ≡ true
    by true here later = here
    by false here later = later

-- whether bytes begin with one that isn't the digit zero
abbrev begins : List ℕ → Bool
begins [] = false
begins (b ∷ bytes) = not (b == 48)

begins_onto : (k base n : ℕ) (more : List ℕ) → 2 ≤ base → 0 < n → n < base ^ k → begins (digits_onto k base false n more) ≡ true
begins_onto zero base n more low some few = let one : base ^ 0 ≡ 1 = pow-zero base in absurd (omega (arith, some, few, one))
begins_onto (suc k) base n more low some few = by (eqb (n / base) 0) refl (λ left below. begins_onto k base (n / base) (digit_glyph false (n % base) ∷ more) low left below) where
  whole : n / base * base + n % base ≡ n
  whole = div-add-mod' n base

  by : (last : Bool) → eqb (n / base) 0 ≡ last → (0 < n / base → n / base < base ^ k → begins (digits_onto k base false (n / base) (digit_glyph false (n % base) ∷ more)) ≡ true) → begins (cond last (digit_glyph false (n % base) ∷ more) (digits_onto k base false (n / base) (digit_glyph false (n % base) ∷ more))) ≡ true
  by true e later =
      let none : n / base ≡ 0 = grind (arith, nat_tests, e) in
      let same : 0 * base + n % base ≡ n = rw none at whole in
      some_glyph (n % base) (omega (arith, same, some))
  by false e later =
      let left : n / base ≢ 0 = grind (arith, nat_tests, e) in
      let power : base ^ suc k ≡ base ^ k * base = pow-suc base k in
      let positive : 0 < base = omega arith in
      let below : n < base ^ k * base = omega (arith, few, power) in
      later (omega (arith, left)) ((div-lt_iff_lt-mul positive).1 below)

-- ---- numerals

-- bytes, of which all pass a test and which have no leading zero
abbrev is_numeral : (ℕ → Bool) → List ℕ → Bool
is_numeral test word = nat_lt 0 (length word) && not (has_leading_zero word) && list_all test word

begun : (test : ℕ → Bool) (word : List ℕ) → begins word ≡ true → list_all test word ≡ true → is_numeral test word ≡ true
begun test [] begin are = absurd (false≢true begin)
begun test (b ∷ []) begin are = are
begun test (b ∷ c ∷ bytes) begin are =
    let other : (b == 48) ≡ false = grind (arith, nat_tests, begin) in
    let some : nat_lt 0 (length (b ∷ c ∷ bytes)) ≡ true = grind (arith, nat_tests) in
    rw (some, other) are

numeral_of : (test : ℕ → Bool) (base n : ℕ) → 2 ≤ base → ((d : ℕ) → d < base → test (digit_glyph false d) ≡ true) → n < base ^ 64 → 0 < n → is_numeral test (digits base false n) ≡ true
unfolding digits
numeral_of test base n low each few some = begun test (digits_onto 64 base false n []) (begins_onto 64 base n [] low some few) (pass_onto test 64 base n [] (omega (arith, low)) each refl)

decimal_some : (n : ℕ) → n < 10 ^ 64 → 0 < n → is_decimal (decimal n) ≡ true
unfolding is_decimal
decimal_some n few some = numeral_of is_digit 10 n (omega arith) decimal_glyph few some

decimal_zero : is_decimal (decimal 0) ≡ true
unfolding digits is_decimal
decimal_zero = refl

hexadecimal_some : (n : ℕ) → n < 16 ^ 64 → 0 < n → is_hexadecimal (digits 16 false n) ≡ true
unfolding is_hexadecimal
hexadecimal_some n few some = numeral_of is_hex_digit 16 n (omega arith) hex_glyph few some

hexadecimal_zero : is_hexadecimal (digits 16 false 0) ≡ true
unfolding digits is_hexadecimal
hexadecimal_zero = refl

-- A number of at most 64 digits is written as one.
pub decimal_is : (n : ℕ) → n < 10 ^ 64 → is_decimal (decimal n) ≡ true
decimal_is zero few = decimal_zero
decimal_is (suc n) few = decimal_some (suc n) few (omega arith)

pub hexadecimal_is : (n : ℕ) → n < 16 ^ 64 → is_hexadecimal (digits 16 false n) ≡ true
hexadecimal_is zero few = hexadecimal_zero
hexadecimal_is (suc n) few = hexadecimal_some (suc n) few (omega arith)

-- digits alone
pub decimal_digits : (word : List ℕ) → is_decimal word ≡ true → list_all is_digit word ≡ true
unfolding is_decimal
decimal_digits word is = and_back (nat_lt 0 (length word) && not (has_leading_zero word)) (list_all is_digit word) is

pub hexadecimal_digits : (word : List ℕ) → is_hexadecimal word ≡ true → list_all is_hex_digit word ≡ true
unfolding is_hexadecimal
hexadecimal_digits word is = and_back (nat_lt 0 (length word) && not (has_leading_zero word)) (list_all is_hex_digit word) is

-- The digits of a number, written from the last to the first.
use Rattle.std.proofs.Common.{◌≡◌, ◌≢◌, ℕ, zero, suc, ◌+◌, ◌-◌, ◌*◌, ◌/◌, ◌%◌, ◌^◌, ◌<◌, ◌≤◌, List, [], ◌∷◌, false, ◌==◌, length, drop, slice_set, sym, ap, ◌∙◌, arith, refl}
use Rattle.std.proofs.Math.Nat.{pow-suc, mod-eq_of_lt, div-eq_of_lt, mul-le-mul_left, div-lt_iff_lt-mul}
use Rattle.std.proofs.lemmas.Bool.Decides.{nat_tests}
use Rattle.std.proofs.lemmas.List.{drop-set}
use Rattle.std.specs.Fmt.{digits, digits_onto, digit_glyph}

last_digit : (k n base left : ℕ) (written : List ℕ) → n ≡ suc k → left / base ≡ 0 → digits_onto n base false left written ≡ digit_glyph false (left % base) ∷ written
last_digit k n base left written e last = rw (e, last) refl

next_digit : (k n base left : ℕ) (written : List ℕ) → n ≡ suc k → (left / base == 0) ≡ false → digits_onto n base false left written ≡ digits_onto k base false (left / base) (digit_glyph false (left % base) ∷ written)
next_digit k n base left written e more = rw (e, more) refl

-- the digits of what is left of a number, and behind them those that are written; with room for 20 more they are at most 64, as in `digits`
unfoldable pub digits_before : ℕ → ℕ → ℕ → List ℕ → List ℕ
digits_before room base left written = digits_onto (44 + room) base false left written

pub before_none : (base number : ℕ) → digits_before 20 base number [] ≡ digits base false number
unfolding digits_before digits
before_none base number = refl

-- a number with one digit
pub one_digit : (base number : ℕ) → number < base → digits base false number ≡ digit_glyph false number ∷ []
unfolding digits
one_digit base number few = last_digit 63 64 base number [] refl (div-eq_of_lt few) ∙ ap (λ n. digit_glyph false n ∷ []) (mod-eq_of_lt few)

-- writing a digit that isn't the first
pub before_more : (room base left digit : ℕ) (text : List ℕ) → 0 < room → room ≤ length text → left / base ≢ 0 → digit ≡ digit_glyph false (left % base) →
    digits_before (room - 1) base (left / base) (drop (room - 1) (slice_set text (room - 1) digit)) ≡ digits_before room base left (drop room text)
unfolding digits_before
before_more room base left digit text some fits more e =
    let written : drop (room - 1) (slice_set text (room - 1) digit) ≡ digit ∷ drop (room - 1 + 1) text = drop-set text (room - 1) digit (omega arith) in
    let same : room - 1 + 1 ≡ room = omega arith in
    rw (written, same, e) (sym (next_digit (44 + (room - 1)) (44 + room) base left (drop room text) (omega arith) (grind (arith, nat_tests, more))))

-- writing the first digit
pub before_last : (room base left digit : ℕ) (text : List ℕ) → 0 < room → room ≤ length text → left / base ≡ 0 → digit ≡ digit_glyph false (left % base) →
    drop (room - 1) (slice_set text (room - 1) digit) ≡ digits_before room base left (drop room text)
unfolding digits_before
before_last room base left digit text some fits last e =
    let written : drop (room - 1) (slice_set text (room - 1) digit) ≡ digit ∷ drop (room - 1 + 1) text = drop-set text (room - 1) digit (omega arith) in
    let same : room - 1 + 1 ≡ room = omega arith in
    rw (written, same, e) (sym (last_digit (43 + room) (44 + room) base left (drop room text) (omega arith) last))

-- what is left in a base from 10 on, without its last digit, has one digit fewer in base 10
pub fewer_left : (room base left : ℕ) → 10 ≤ base → 0 < room → left < 10 ^ room → left / base < 10 ^ (room - 1)
fewer_left zero base left low some few = absurd (omega arith)
fewer_left (suc n) base left low some few =
    let e : 10 ^ suc n ≡ 10 ^ n * 10 = pow-suc 10 n in
    let wide : 10 ^ n * 10 ≤ 10 ^ n * base = mul-le-mul_left (10 ^ n) low in
    let same : suc n - 1 ≡ n = omega arith in
    let positive : 0 < base = omega arith in
    rw same ((div-lt_iff_lt-mul positive).1 (omega (arith, e, wide)))

-- there is room where something is left
pub room_left : (room left : ℕ) → left ≢ 0 → left < 10 ^ room → 0 < room
room_left zero left some few = absurd (some (omega arith))
room_left (suc n) left some few = omega arith

-- what the loop that writes them needs
pub ruleset digit_steps = (before_none, before_more, before_last, fewer_left, room_left)

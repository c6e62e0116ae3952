-- The value of digits may be capped at each step, and processors are counted.
use Rattle.std.proofs.Common.{zero, suc, ◌-◌, slice_get, ◌≡◌, ℕ, ◌+◌, ◌*◌, ◌≤◌, min, Bool, true, ◌&&◌, List, [], ◌∷◌, ◌++◌, length, length-append, ap, refl, ◌∙◌, inl, inr, Option, Some, None, arith}
use Rattle.std.proofs.Math.Nat.{mul-le-mul_right}
use Rattle.std.specs.Prelude.{nat_lt, nat_le}
use Rattle.std.proofs.lemmas.Bool.{cases_lt, and_parts, leb-true, le-leb, ltb-true, lt-ltb}
use Rattle.std.specs.Option.{option_map}
use Rattle.rk_model.specs.Text.Words.{value_from, value_on, digit_below, digit_value}
use Rattle.rk_model.specs.declared.scenario.Op.{Op}
use Rattle.rk_model.specs.Text.Scenarios.{cpus_in, may_be_target, is_target}

-- a value up to a cap
abbrev pub capped : Option ℕ → Option ℕ
capped o = option_map (min 4294967296) o

capped_sum : (base v w d : ℕ) → 1 ≤ base → min 4294967296 v ≡ min 4294967296 w → min 4294967296 (base * v + d) ≡ min 4294967296 (base * w + d)
capped_sum base v w d low e =
    let more-v : 1 * v ≤ base * v = mul-le-mul_right v low in
    let more-w : 1 * w ≤ base * w = mul-le-mul_right w low in
    elim (cases_lt v 4294967296) [
      | inl lt ↦ let same : v ≡ w = omega arith in ap (λ (x : ℕ). min 4294967296 (base * x + d)) same
      | inr le ↦ omega arith
    ]

capped_on : (base v w : ℕ) (bytes : List ℕ) (o : Option ℕ) → ((d : ℕ) → capped (value_from base (base * v + d) bytes) ≡ capped (value_from base (base * w + d) bytes))
    → capped (value_on (λ d. value_from base (base * v + d) bytes) o) ≡ capped (value_on (λ d. value_from base (base * w + d) bytes) o)
capped_on base v w bytes None rest = refl
capped_on base v w bytes (Some d) rest = rest d

-- values that are one up to the cap stay so
pub capped_from : (base v w : ℕ) (bytes : List ℕ) → 1 ≤ base → min 4294967296 v ≡ min 4294967296 w → capped (value_from base v bytes) ≡ capped (value_from base w bytes)
capped_from base v w [] low e = ap (λ (n : ℕ). Some n) e
capped_from base v w (b ∷ bytes) low e =
    capped_on base v w bytes (digit_below base (digit_value b)) (λ d. capped_from base (base * v + d) (base * w + d) bytes low (capped_sum base v w d low e))

-- the cap may be taken of the value so far
pub capped_step : (base v : ℕ) (bytes : List ℕ) → 1 ≤ base → capped (value_from base (min v 4294967296) bytes) ≡ capped (value_from base v bytes)
capped_step base v bytes low = capped_from base (min v 4294967296) v bytes low (omega arith)

-- one digit more
pub capped_more : (base v d b : ℕ) (bytes rest : List ℕ) → 1 ≤ base → bytes ≡ b ∷ rest → digit_below base (digit_value b) ≡ Some d
    → capped (value_from base (min (base * v + d) 4294967296) rest) ≡ capped (value_from base v bytes)
capped_more base v d b bytes rest low e known = rw (e, known) (capped_step base (base * v + d) rest low)

-- the processors of two lists of clusters
cpus_appended : (ms ns : List ℕ) → cpus_in (ms ++ ns) ≡ cpus_in ms + cpus_in ns
cpus_appended [] ns = omega arith
cpus_appended (m ∷ ms) ns = omega (arith, cpus_appended ms ns)

-- whether there may be one cluster more, of so many processors
abbrev pub has_room : List ℕ → ℕ → Bool
has_room ms m = nat_lt (length ms) 4 && nat_le (cpus_in ms + m) 8

-- where there may be one cluster more, there are at most four with it
pub few_with : (ms : List ℕ) (m : ℕ) → has_room ms m ≡ true → length (ms ++ m ∷ []) ≤ 4
few_with ms m room =
    let both = and_parts (nat_lt (length ms) 4) (nat_le (cpus_in ms + m) 8) room in
    omega (arith, ltb-true (length ms) 4 both.0, length-append ms (m ∷ []))

-- where there may be one cluster more, there are at most 8 processors with it
pub few_cpus_with : (ms : List ℕ) (m : ℕ) → has_room ms m ≡ true → cpus_in (ms ++ m ∷ []) ≤ 8
few_cpus_with ms m room =
    let both = and_parts (nat_lt (length ms) 4) (nat_le (cpus_in ms + m) 8) room in
    omega (arith, leb-true (cpus_in ms + m) 8 both.1, cpus_appended ms (m ∷ []))

-- there may be one cluster more where there are few with it
pub room_for : (ms : List ℕ) (m : ℕ) (more : List ℕ) → length ((ms ++ m ∷ []) ++ more) ≤ 4 → cpus_in ((ms ++ m ∷ []) ++ more) ≤ 8 → has_room ms m ≡ true
room_for ms m more few few_cpus =
    let below = lt-ltb (length ms) 4 (omega (arith, length-append ms (m ∷ []), length-append (ms ++ m ∷ []) more, few)) in
    let within = le-leb (cpus_in ms + m) 8 (omega (arith, cpus_appended ms (m ∷ []), cpus_appended (ms ++ m ∷ []) more, few_cpus)) in
    rw (below, within) refl

-- whether a number is that of a target says what stands at its line
pub target_from : (earlier : List Op) (n : ℕ) (o : Option Op) → (n ≡ 0 → ⊥) → o ≡ slice_get earlier (n - 1) → may_be_target o ≡ is_target earlier n
target_from earlier zero o some e = absurd (some refl)
target_from earlier (suc i) o some e =
    let back : suc i - 1 ≡ i = omega arith in
    ap may_be_target (e ∙ ap (λ (k : ℕ). slice_get earlier k) back)

-- Sets of indices: which indices are in a set after one came or went.
use Rattle.std.proofs.Common.{◌≡◌, ◌≢◌, ℕ, zero, suc, ◌+◌, ◌-◌, ◌<◌, ◌≤◌, Bool, true, false, ◌&&◌, ◌||◌, ◌⊎◌, inl, inr, subst, ◌==◌, not, ltb, max, bit_or, arith, refl, sym, ap, ◌∙◌, ⊎_elim}
use Rattle.std.specs.Int.{bit_at}
use Rattle.std.proofs.lemmas.Bool.{false≢true, cases_lt}
use Rattle.std.proofs.lemmas.Bool.Decides.{nat_tests}
use Rattle.std.proofs.lemmas.Nat.Bits.{bit_at_or, bit_at-lt, bit_at-zero}
use Rattle.rk_model.specs.IndexSets.{is_in, weight, IsTaken}
use Rattle.rk_model.specs.declared.index_set.IndexSet.{IndexSet}
use Rattle.rk_model.proofs.BooleanLemmas.{and_front, and_back, same_number}

-- the bit that says whether an index is in a set
bit_of : (n k : ℕ) → k < 64 → is_in (record { marks = n }) (suc k) ≡ (bit_at n k == 1)
unfolding is_in
bit_of n k less =
    let b : ltb k 64 ≡ true = grind (arith, nat_tests, less) in
    ap (λ c. c && (bit_at n k == 1)) b

outside : (n k : ℕ) → 64 ≤ k → is_in (record { marks = n }) (suc k) ≡ false
unfolding is_in
outside n k more =
    let b : ltb k 64 ≡ false = grind (arith, nat_tests, more) in
    ap (λ c. c && (bit_at n k == 1)) b

at_zero : (n : ℕ) → is_in (record { marks = n }) 0 ≡ false
unfolding is_in
at_zero n = refl

-- what holds of the bits below the 64th holds of what is in the set
by_bits : (n : ℕ) (f : ℕ → Bool) → f 0 ≡ false → ((k : ℕ) → k < 64 → (bit_at n k == 1) ≡ f (suc k)) → ((k : ℕ) → 64 ≤ k → f (suc k) ≡ false) → (i : ℕ) → is_in (record { marks = n }) i ≡ f i
by_bits n f first bits past zero = at_zero n ∙ sym first
by_bits n f first bits past (suc k) = ⊎_elim (λ less. bit_of n k less ∙ bits k less) (λ more. outside n k more ∙ sym (past k more)) (cases_lt k 64)

-- an index that is in a set is one of 1 to 64
pub in_within : (set : IndexSet) (i : ℕ) → is_in set i ≡ true → (1 ≤ i) × (i ≤ 64)
in_within set zero h = absurd (false≢true (sym (at_zero set.marks) ∙ h))
in_within set (suc k) h = ⊎_elim (λ less. (omega arith, omega (arith, less))) (λ more. absurd (false≢true (sym (outside set.marks k more) ∙ h))) (cases_lt k 64)

-- nothing is in the set whose number is 0
pub none_in : (n : ℕ) → n ≡ 0 → (i : ℕ) → is_in (record { marks = n }) i ≡ false
none_in n none = by_bits n (λ i. false) refl (λ k less. ap (λ m. bit_at m k == 1) none ∙ ap (λ b. b == 1) (bit_at-zero k)) (λ k more. refl)

-- whether it is in a set is what its bit says
pub in_by_bit : (n index k bit : ℕ) → index ≡ suc k → index ≤ 64 → bit ≡ bit_at n k → (bit == 1) ≡ is_in (record { marks = n }) index
in_by_bit n index k bit at high e = ap (λ b. b == 1) e ∙ sym (bit_of n k (omega (arith, high, at))) ∙ ap (λ i. is_in (record { marks = n }) i) (sym at)

-- one comes in
inserted_at : (n m at : ℕ) → at < 64 → bit_at m at ≡ 1 → ((i : ℕ) → i ≢ at → bit_at m i ≡ bit_at n i) → (i : ℕ) → is_in (record { marks = m }) i ≡ ((suc at == i) || is_in (record { marks = n }) i)
inserted_at n m at high there others = by_bits m (λ i. (suc at == i) || is_in (record { marks = n }) i) (let e : (suc at == 0) ≡ false = grind (arith, nat_tests) in ap (λ b. b || is_in (record { marks = n }) 0) e ∙ at_zero n) (λ k less. by k less (suc at == suc k) refl) (λ k more. past k more) where
  by : (k : ℕ) → k < 64 → (b : Bool) → (suc at == suc k) ≡ b → (bit_at m k == 1) ≡ ((suc at == suc k) || is_in (record { marks = n }) (suc k))
  by k less true e =
      let same : at ≡ k = omega (arith, same_number (suc at) (suc k) e) in
      ap (λ j. bit_at m j == 1) (sym same) ∙ ap (λ b. b == 1) there ∙ sym (ap (λ b. b || is_in (record { marks = n }) (suc k)) e)
  by k less false e =
      let other : k ≢ at = λ q. false≢true (sym e ∙ (grind (arith, nat_tests, q))) in
      ap (λ b. b == 1) (others k other) ∙ sym (bit_of n k less) ∙ sym (ap (λ b. b || is_in (record { marks = n }) (suc k)) e)

  past : (k : ℕ) → 64 ≤ k → ((suc at == suc k) || is_in (record { marks = n }) (suc k)) ≡ false
  past k more =
      let e : (suc at == suc k) ≡ false = grind (arith, nat_tests, more, high) in
      ap (λ b. b || is_in (record { marks = n }) (suc k)) e ∙ outside n k more

pub inserted : (n m index at : ℕ) → index ≡ suc at → index ≤ 64 → bit_at m at ≡ 1 → ((i : ℕ) → i ≢ at → bit_at m i ≡ bit_at n i) → (i : ℕ) → is_in (record { marks = m }) i ≡ ((index == i) || is_in (record { marks = n }) i)
inserted n m index at e high there others i = inserted_at n m at (omega (arith, e, high)) there others i ∙ ap (λ j. (j == i) || is_in (record { marks = n }) i) (sym e)

and_none : (a : Bool) {b : Bool} → b ≡ false → (a && b) ≡ false
and_none true e = e
and_none false e = refl

-- one is taken out
removed_at : (n m at : ℕ) → at < 64 → bit_at m at ≡ 0 → ((i : ℕ) → i < 64 → i ≢ at → bit_at m i ≡ bit_at n i) → (i : ℕ) → is_in (record { marks = m }) i ≡ (not (suc at == i) && is_in (record { marks = n }) i)
removed_at n m at high gone others = by_bits m (λ i. not (suc at == i) && is_in (record { marks = n }) i) (and_none (not (suc at == 0)) (at_zero n)) (λ k less. by k less (suc at == suc k) refl) (λ k more. past k more (suc at == suc k)) where
  by : (k : ℕ) → k < 64 → (b : Bool) → (suc at == suc k) ≡ b → (bit_at m k == 1) ≡ (not (suc at == suc k) && is_in (record { marks = n }) (suc k))
  by k less true e =
      let same : at ≡ k = omega (arith, same_number (suc at) (suc k) e) in
      ap (λ j. bit_at m j == 1) (sym same) ∙ ap (λ b. b == 1) gone ∙ sym (ap (λ b. not b && is_in (record { marks = n }) (suc k)) e)
  by k less false e =
      let other : k ≢ at = λ q. false≢true (sym e ∙ (grind (arith, nat_tests, q))) in
      ap (λ b. b == 1) (others k less other) ∙ sym (bit_of n k less) ∙ sym (ap (λ b. not b && is_in (record { marks = n }) (suc k)) e)

  past : (k : ℕ) → 64 ≤ k → (b : Bool) → (not b && is_in (record { marks = n }) (suc k)) ≡ false
  past k more true = refl
  past k more false = outside n k more

pub removed : (n m index at : ℕ) → index ≡ suc at → index ≤ 64 → bit_at m at ≡ 0 → ((i : ℕ) → i < 64 → i ≢ at → bit_at m i ≡ bit_at n i) → (i : ℕ) → is_in (record { marks = m }) i ≡ (not (index == i) && is_in (record { marks = n }) i)
removed n m index at e high gone others i = removed_at n m at (omega (arith, e, high)) gone others i ∙ ap (λ j. not (j == i) && is_in (record { marks = n }) i) (sym e)

-- all of another set come in
pub inserted_all : (n m : ℕ) (i : ℕ) → is_in (record { marks = bit_or m n }) i ≡ (is_in (record { marks = m }) i || is_in (record { marks = n }) i)
inserted_all n m = by_bits (bit_or m n) (λ i. is_in (record { marks = m }) i || is_in (record { marks = n }) i) (ap (λ b. b || is_in (record { marks = n }) 0) (at_zero m) ∙ at_zero n) (λ k less. here k less) (λ k more. ap (λ b. b || is_in (record { marks = n }) (suc k)) (outside m k more) ∙ outside n k more) where
  either_bit : (a b : ℕ) → a < 2 → b < 2 → (max a b == 1) ≡ ((a == 1) || (b == 1))
  either_bit zero zero a b = refl
  either_bit zero (suc zero) a b = refl
  either_bit (suc zero) zero a b = refl
  either_bit (suc zero) (suc zero) a b = refl
  either_bit (suc (suc x)) y a b = absurd (omega (arith, a))
  either_bit zero (suc (suc y)) a b = absurd (omega (arith, b))
  either_bit (suc zero) (suc (suc y)) a b = absurd (omega (arith, b))

  here : (k : ℕ) → k < 64 → (bit_at (bit_or m n) k == 1) ≡ (is_in (record { marks = m }) (suc k) || is_in (record { marks = n }) (suc k))
  here k less =
      ap (λ b. b == 1) (bit_at_or m n k)
      ∙ either_bit (bit_at m k) (bit_at n k) (bit_at-lt m k) (bit_at-lt n k)
      ∙ ap (λ b. b || (bit_at n k == 1)) (sym (bit_of m k less))
      ∙ ap (λ b. is_in (record { marks = m }) (suc k) || b) (sym (bit_of n k less))

-- the least is taken out
pub taken : (n m at : ℕ) → at < 64 → bit_at n at ≡ 1 → m ≤ n → bit_at m at ≡ 0 → ((i : ℕ) → i < 64 → i ≢ at → bit_at m i ≡ bit_at n i) → IsTaken (record { marks = n }) (at + 1) (record { marks = m })
taken n m at within there less gone others = record {
  low = omega arith;
  high = omega (arith, within);
  there = ap (λ i. is_in (record { marks = n }) i) next ∙ bit_of n at within ∙ ap (λ b. b == 1) there;
  rest = removed n m (at + 1) at next (omega (arith, within)) gone others;
  fewer = smaller (cases_lt m n);
} where
  next : at + 1 ≡ suc at
  next = omega arith

  smaller : (m < n) ⊎ (n ≤ m) → m < n
  smaller (inl h) = h
  smaller (inr h) =
      let same : m ≡ n = omega (arith, h, less) in
      let no : 0 ≡ 1 = sym gone ∙ ap (λ x. bit_at x at) same ∙ there in
      absurd (omega (arith, no))

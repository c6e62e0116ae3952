-- The highest bit of a number.
use Rattle.std.proofs.Common.{◌≡◌, ℕ, suc, ◌+◌, ◌-◌, ◌*◌, ◌^◌, ◌<◌, ◌≤◌, arith, ap, ◌∙◌}
use Rattle.std.specs.Int.{bit_at}
use Rattle.std.specs.Int.Count.{count_leading_zeros}
use Rattle.std.proofs.lemmas.Nat.{leading_top}
use Rattle.std.proofs.Math.Nat.{pow-succ'}
use Rattle.std.proofs.lemmas.Nat.Bits.{bit_at_above, bit_at_cat_high}

top_set : (n j : ℕ) → 2 ^ j ≤ n → n < 2 ^ suc j → bit_at n j ≡ 1
top_set n j low high =
    let double : 2 ^ suc j ≡ 2 * 2 ^ j = pow-succ' 2 j in
    let rest : n - 2 ^ j < 2 ^ j = omega (arith, low, high, double) in
    let whole : n ≡ 1 * 2 ^ j + (n - 2 ^ j) = omega (arith, low) in
    let none : j - j ≡ 0 = omega arith in
    ap (λ m. bit_at m j) whole ∙ bit_at_cat_high 1 j (n - 2 ^ j) j rest (omega arith) ∙ ap (λ i. bit_at 1 i) none

-- the place of the highest bit has it, and no place above has one
pub record IsTop (n at : ℕ) : Type 0 where
  pub there : bit_at n at ≡ 1
  pub none : (i : ℕ) → at < i → bit_at n i ≡ 0
  pub within : at < 64

pub top_of : (n : ℕ) → 0 < n → n < 2 ^ 64 → IsTop n (63 - count_leading_zeros 64 n)
top_of n some few =
    let top = leading_top 64 n some few in
    let j = top.0 in
    let e : 63 - count_leading_zeros 64 n ≡ j = omega (arith, top.1) in
    let within : j < 64 = omega (arith, top.1) in
    rw e (record {
      there = top_set n j top.2 top.3;
      none = λ i h. bit_at_above n (suc j) i top.3 (omega (arith, h));
      within = within;
    })

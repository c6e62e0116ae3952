-- Where the first of a list is found that is looked for.
use Rattle.std.proofs.Common.{◌≡◌, ℕ, suc, ◌+◌, Bool, true, false, cond, Option, Some, None, arith, refl}
use Rattle.rk_groups.specs.Groups.{one_more}

-- a place found behind n others
abbrev pub behind : ℕ → Option ℕ → Option ℕ
behind n None = None
behind n (Some m) = Some (n + m)

-- where the first of a list is found, and where one behind it
pub found_here : (b : Bool) (rest : Option ℕ) → cond b (Some 0) (one_more rest) ≡ Some 0 → b ≡ true
found_here true rest h = refl
found_here false None h = absurd (cc)
found_here false (Some n) h = absurd (grind (arith, h))

pub record FoundLater (b : Bool) (rest : Option ℕ) (at : ℕ) : Type 0 where
  pub here_not : b ≡ false
  pub there : rest ≡ Some at

pub found_later : (b : Bool) (rest : Option ℕ) (at : ℕ) → cond b (Some 0) (one_more rest) ≡ Some (suc at) → FoundLater b rest at
found_later true rest at h = absurd (grind (arith, h))
found_later false None at h = absurd (cc)
found_later false (Some n) at h = record { here_not = refl; there = grind (arith, h) }

pub record FoundNowhere (b : Bool) (rest : Option ℕ) : Type 0 where
  pub here_not : b ≡ false
  pub there_not : rest ≡ None

pub found_nowhere : (b : Bool) (rest : Option ℕ) → cond b (Some 0) (one_more rest) ≡ None → FoundNowhere b rest
found_nowhere true rest h = absurd (cc)
found_nowhere false None h = record { here_not = refl; there_not = refl }
found_nowhere false (Some n) h = absurd (cc)

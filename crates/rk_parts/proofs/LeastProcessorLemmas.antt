-- The least processor that has a directive, looked for processor by processor.
use Rattle.std.proofs.Common.{◌≡◌, ℕ, suc, ◌+◌, ◌-◌, ◌<◌, ◌≤◌, true, false, Option, Some, None, is_some, arith, refl, sym, ap, ◌∙◌}
use Rattle.std.proofs.lemmas.Bool.{false≢true}
use Rattle.rk_model.specs.State.{Plain}
use Rattle.rk_model.specs.Scheduling.Running.{caller, first_of, least_from}

least_suc : (k : Plain) (p m n : ℕ) → n ≡ suc m → least_from k p n ≡ first_of (caller k p) p (least_from k (p + 1) m)
least_suc k p m n e = rw e refl

least_more : (k : Plain) (p n : ℕ) → p < n → least_from k p (n - p) ≡ first_of (caller k p) p (least_from k (p + 1) (n - (p + 1)))
least_more k p n h = least_suc k p (n - (p + 1)) (n - p) (omega arith)

first_here : (o : Option ℕ) (p : ℕ) (other : Option ℕ) → is_some o ≡ true → first_of o p other ≡ Some p
first_here None p other h = absurd (false≢true h)
first_here (Some t) p other h = refl

first_later : (o : Option ℕ) (p : ℕ) (other : Option ℕ) → is_some o ≡ false → first_of o p other ≡ other
first_later None p other h = refl
first_later (Some t) p other h = absurd (false≢true (sym h))

-- the first of those that are left has a directive
pub least_here : (k : Plain) (p n : ℕ) → p < n → is_some (caller k p) ≡ true → least_from k p (n - p) ≡ Some p
least_here k p n h has = least_more k p n h ∙ first_here (caller k p) p (least_from k (p + 1) (n - (p + 1))) has

-- the first of those that are left has none
pub least_later : (k : Plain) (p n : ℕ) → p < n → is_some (caller k p) ≡ false → least_from k p (n - p) ≡ least_from k (p + 1) (n - (p + 1))
least_later k p n h none = least_more k p n h ∙ first_later (caller k p) p (least_from k (p + 1) (n - (p + 1))) none

-- none is left
pub least_nowhere : (k : Plain) (p n : ℕ) → n ≤ p → least_from k p (n - p) ≡ None
least_nowhere k p n h = let e : n - p ≡ 0 = omega (arith, h) in ap (least_from k p) e

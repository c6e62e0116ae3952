-- Lists of so many things, numbered from a number on.
use Rattle.std.proofs.Common.{◌≡◌, ℕ, zero, suc, ◌+◌, ◌<◌, List, [], ◌∷◌, Bool, true, false, cond, ◌==◌, length, arith, refl, sym, ap, ◌∙◌, get_or, set}
use Rattle.std.proofs.lemmas.Bool.Decides.{nat_tests}
use Rattle.std.proofs.lemmas.List.{get_or-set_same, get_or-set_other, ext_get_or, length-set}
use Rattle.rk_groups.specs.GroupObjects.{listed}

pub length-listed : {X : Type 0} (f : ℕ → X) (a n : ℕ) → length (listed f a n) ≡ n
length-listed f a zero = refl
length-listed f a (suc n) = omega (arith, length-listed f (a + 1) n)

-- what stands at a place
pub get_or-listed : {X : Type 0} (f : ℕ → X) (a n i : ℕ) (d : X) → i < n → get_or (listed f a n) i d ≡ f (a + i)
get_or-listed f a zero i d h = absurd (omega (arith, h))
get_or-listed f a (suc n) zero d h = let e : a ≡ a + 0 = omega arith in ap f e
get_or-listed f a (suc n) (suc i) d h =
    let less : i < n = omega (arith, h) in
    let e : a + 1 + i ≡ a + suc i = omega arith in
    get_or-listed f (a + 1) n i d less ∙ ap f e

-- lists of the same things
pub same_listed : {X : Type 0} (f g : ℕ → X) (a n : ℕ) → ((t : ℕ) → f t ≡ g t) → listed f a n ≡ listed g a n
same_listed f g a n e = ap (λ h. listed h a n) (λ i t. e t i)

-- lists of things that are the same as far as the lists go
pub same_within : {X : Type 0} (f g : ℕ → X) (a n : ℕ) → ((i : ℕ) → i < n → f (a + i) ≡ g (a + i)) → listed f a n ≡ listed g a n
same_within f g a zero e = refl
same_within f g a (suc n) e =
    let first : f a ≡ g a = (let z : a + 0 ≡ a = omega arith in rw z at (e 0 (omega arith))) in
    let rest = same_within f g (a + 1) n (λ i h. let z : a + suc i ≡ a + 1 + i = omega arith in rw z at (e (suc i) (omega (arith, h)))) in
    ap (λ x. x ∷ listed f (a + 1) n) first ∙ ap (λ xs. g a ∷ xs) rest

-- a list in which one thing is another
pub set-listed : {X : Type 0} (f g : ℕ → X) (a n i : ℕ) (x : X) → ((u : ℕ) → g u ≡ cond (u == a + i) x (f u)) → listed g a n ≡ set (listed f a n) i x
set-listed f g a n i x e = ext_get_or x (listed g a n) (set (listed f a n) i x) (length-listed g a n ∙ sym (length-set (listed f a n) i x ∙ length-listed f a n))
    (λ k h. (
    let less : k < n = omega (arith, h, length-listed g a n) in
    get_or-listed g a n k x less ∙ e (a + k) ∙ by k less (k == i) refl))
  where
    by : (k : ℕ) → k < n → (b : Bool) → (k == i) ≡ b → cond (a + k == a + i) x (f (a + k)) ≡ get_or (set (listed f a n) i x) k x
    by k less true t =
        let same : k ≡ i = grind (arith, nat_tests, t) in
        let test : (a + k == a + i) ≡ true = grind (arith, nat_tests, same) in
        rw test (sym (ap (λ j. get_or (set (listed f a n) i x) j x) same ∙ get_or-set_same (listed f a n) i x x (omega (arith, less, same, length-listed f a n))))
    by k less false t =
        let test : (a + k == a + i) ≡ false = grind (arith, nat_tests, t) in
        rw test (sym (get_or-set_other (listed f a n) i k x x (λ q. grind (arith, nat_tests, t, q)) ∙ get_or-listed f a n k x less))

-- what stands at a place, whatever stands for none
pub get_or-any : {X : Type 0} (xs : List X) (i : ℕ) (d e : X) → i < length xs → get_or xs i d ≡ get_or xs i e
get_or-any [] i d e within = absurd (never i within) where
  never : (i : ℕ) → i < 0 → ⊥
  never i h = omega (arith, h)
get_or-any (x ∷ xs) zero d e within = refl
get_or-any (x ∷ xs) (suc i) d e within = get_or-any xs i d e (omega (arith, within))

-- Tests: booleans that come of comparisons, joined by and, or by or.
use Rattle.std.specs.List.{list_any}
use Rattle.rk_model.specs.Lists.{has}
use Rattle.std.proofs.Common.{◌≡◌, ℕ, List, [], ◌∷◌, Bool, true, false, ◌&&◌, ◌||◌, ◌==◌, ◌⊎◌, inl, inr, arith, refl, sym}
use Rattle.std.proofs.lemmas.Bool.{false≢true}
use Rattle.std.proofs.lemmas.Bool.Decides.{nat_tests}

pub equal_test : (u t : ℕ) → u ≡ t → (u == t) ≡ true
equal_test u t h = grind (arith, nat_tests, h)

pub and_false : (b : Bool) → (b && false) ≡ false
and_false true = refl
and_false false = refl

pub and_front : (a b : Bool) → (a && b) ≡ true → a ≡ true
and_front true b h = refl
and_front false b h = absurd (false≢true h)

pub and_back : (a b : Bool) → (a && b) ≡ true → b ≡ true
and_back true b h = h
and_back false b h = absurd (false≢true h)

pub same_number : (u t : ℕ) → (u == t) ≡ true → u ≡ t
same_number u t h = grind (arith, nat_tests, h)

pub either : (a b : Bool) → (a || b) ≡ true → (a ≡ true) ⊎ (b ≡ true)
either true b h = inl refl
either false b h = inr h

pub or_front : {a : Bool} (b : Bool) → a ≡ true → (a || b) ≡ true
or_front b h = rw h refl

pub or_back : (a : Bool) {b : Bool} → b ≡ true → (a || b) ≡ true
or_back true h = refl
or_back false h = h

pub neither_front : (a b : Bool) → (a || b) ≡ false → a ≡ false
neither_front true b h = h
neither_front false b h = refl

pub neither_back : (a b : Bool) → (a || b) ≡ false → b ≡ false
neither_back true b h = absurd (false≢true (sym h))
neither_back false b h = h

-- whether one of these numbers is this one
pub any_has : (us : List ℕ) (t : ℕ) → list_any (λ u. u == t) us ≡ has us t
any_has [] t = refl
any_has (u ∷ us) t = rw (any_has us t) refl

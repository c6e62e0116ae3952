-- Which keys the views have: each at most once.
use Rattle.std.proofs.Common.{◌≡◌, ◌≢◌, ℕ, zero, suc, ◌+◌, ◌<◌, ◌≤◌, List, [], ◌∷◌, ◌++◌, set, refl, sym, ap, ◌∙◌, arith}
use mathlib.Core.Option.{some, some-ne-none, some-injective}
use lib.ListN.{get_elem?}
use Rattle.std.proofs.lemmas.Bool.Decides.{nat_tests}
use Rattle.atomic_table.proofs.Lists.{set_else}
use Rattle.rk_journal.specs.declared.views.Known.{Known}
use Rattle.rk_model.specs.Lists.{times}
use Rattle.rk_model.specs.Keys.{keys_from}
use Rattle.rk_journal.specs.JournalRule.{carried, spent}

pub carried_set : (k : ℕ) (vs : List Known) (i : ℕ) (v w : Known) → get_elem? vs i ≡ some v → carried k (set vs i w) + times k v.keys ≡ carried k vs + times k w.keys
carried_set k [] i v w at = absurd (some-ne-none v (sym at))
carried_set k (x ∷ xs) zero v w at = let e : times k x.keys ≡ times k v.keys = ap (λ (u : Known). times k u.keys) (some-injective x v at) in omega arith
carried_set k (x ∷ xs) (suc i) v w at = let e = carried_set k xs i v w at in omega (arith, e)

pub carried_snoc : (k : ℕ) (vs : List Known) (w : Known) → carried k (vs ++ w ∷ []) ≡ carried k vs + times k w.keys
carried_snoc k [] w = omega arith
carried_snoc k (x ∷ xs) w = let e = carried_snoc k xs w in omega (arith, e)

carried_one : (k : ℕ) (vs : List Known) (i : ℕ) (v : Known) → get_elem? vs i ≡ some v → times k v.keys ≤ carried k vs
carried_one k [] i v at = absurd (some-ne-none v (sym at))
carried_one k (x ∷ xs) zero v at = let e : times k x.keys ≡ times k v.keys = ap (λ (u : Known). times k u.keys) (some-injective x v at) in omega arith
carried_one k (x ∷ xs) (suc i) v at = let e = carried_one k xs i v at in omega (arith, e)

pub carried_two : (k : ℕ) (vs : List Known) (i j : ℕ) (v w : Known) → j ≢ i → get_elem? vs i ≡ some v → get_elem? vs j ≡ some w → times k v.keys + times k w.keys ≤ carried k vs
carried_two k vs i j v w apart at there =
    let e = carried_set k vs i v spent at in
    let l = carried_one k (set vs i spent) j w (set_else vs i j spent apart ∙ there) in
    omega (arith, e, l)

-- each of the first keys stands once
pub keys_below : (k a n : ℕ) → k < a → times k (keys_from a n) ≡ 0
keys_below k a zero h = refl
keys_below k a (suc n) h = let e = keys_below k (suc a) n (omega arith) in grind (arith, nat_tests, e)

pub keys_once : (k a n : ℕ) → times k (keys_from a n) ≤ 1
keys_once k a zero = omega arith
keys_once k a (suc n) = let e = keys_once k (suc a) n in let b : k ≡ a → times k (keys_from (suc a) n) ≡ 0 = λ h. keys_below k (suc a) n (omega arith) in grind (arith, nat_tests, e, b)

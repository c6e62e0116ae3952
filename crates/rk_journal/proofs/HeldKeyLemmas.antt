-- The keys that are kept beside an entry are those of the held marks.
use Rattle.std.proofs.Common.{◌≡◌, ◌≢◌, ◌∙◌, ◌<◌, ◌+◌, refl, subst, arith, ℕ, zero, suc, List, [], ◌∷◌, cond, Option, Some, None, is_none}
use Rattle.std.proofs.lemmas.Bool.Decides.{nat_tests}
use Rattle.std.specs.Prelude.{IfSome}
use Rattle.rk_model.specs.Lists.{times}
use Rattle.rk_journal.specs.JournalViews.{MarkView}
use Rattle.rk_journal.specs.MarkRegisters.{mark_at, held_keys, AreKeysOf, AreInPlace}

-- each mark stands at its key, where the first has key a
abbrev AreInPlaceFrom : ℕ → List (Option MarkView) → Type 0
AreInPlaceFrom a ms = (j : ℕ) → IfSome (mark_at ms j) (λ m. m.key ≡ a + j)

same_key : (o : Option MarkView) (k l : ℕ) → k ≡ l → IfSome o (λ m. m.key ≡ k) → IfSome o (λ m. m.key ≡ l)
same_key o k l e h = subst (λ (n : ℕ). IfSome o (λ m. m.key ≡ n)) e h

behind : (o : Option MarkView) (ms : List (Option MarkView)) (a : ℕ) → AreInPlaceFrom a (o ∷ ms) → AreInPlaceFrom (suc a) ms
behind o ms a p j = same_key (mark_at ms j) (a + suc j) (suc a + j) (omega arith) (p (suc j))

more_times : (k x : ℕ) (ks : List ℕ) → x ≢ k → times k (x ∷ ks) ≡ times k ks
more_times k x ks ne = grind (arith, nat_tests)

one_more : (k x : ℕ) (ks : List ℕ) → x ≡ k → times k (x ∷ ks) ≡ suc (times k ks)
one_more k x ks e = grind (arith, nat_tests)

-- a lesser key than all of the marks
lesser : (ms : List (Option MarkView)) (a k : ℕ) (ks : List ℕ) → AreInPlaceFrom a ms → k < a → times k (held_keys ms ks) ≡ times k ks
lesser [] a k ks p h = refl
lesser (None ∷ ms) a k ks p h = lesser ms (suc a) k ks (behind None ms a p) (omega (arith, h))
lesser (Some m ∷ ms) a k ks p h =
    let key : m.key ≡ a + 0 = p 0 in
    let ne : m.key ≢ k = omega (arith, key, h) in
    lesser ms (suc a) k (m.key ∷ ks) (behind (Some m) ms a p) (omega (arith, h)) ∙ more_times k m.key ks ne

abbrev count_in : List (Option MarkView) → ℕ → ℕ
count_in ms j = cond (is_none (mark_at ms j)) 0 1

at_key : (ms : List (Option MarkView)) (a j k : ℕ) (ks : List ℕ) → k ≡ a + j → AreInPlaceFrom a ms → times k (held_keys ms ks) ≡ count_in ms j + times k ks
at_key [] a j k ks e p = omega arith
at_key (None ∷ ms) a zero k ks e p = lesser ms (suc a) k ks (behind None ms a p) (omega (arith, e)) ∙ omega arith
at_key (Some m ∷ ms) a zero k ks e p =
    let key : m.key ≡ a + 0 = p 0 in
    let l = lesser ms (suc a) k (m.key ∷ ks) (behind (Some m) ms a p) (omega (arith, e)) in
    let o = one_more k m.key ks (omega (arith, key, e)) in
    omega (arith, l, o)
at_key (None ∷ ms) a (suc j) k ks e p = at_key ms (suc a) j k ks (omega (arith, e)) (behind None ms a p)
at_key (Some m ∷ ms) a (suc j) k ks e p =
    let key : m.key ≡ a + 0 = p 0 in
    let i = at_key ms (suc a) j k (m.key ∷ ks) (omega (arith, e)) (behind (Some m) ms a p) in
    let o = more_times k m.key ks (omega (arith, key, e)) in
    omega (arith, i, o)

pub keys_of_held : (ms : List (Option MarkView)) → AreInPlace ms → AreKeysOf ms (held_keys ms [])
keys_of_held ms p k =
    let e = at_key ms 0 k k [] (omega arith) (λ j. same_key (mark_at ms j) j (0 + j) (omega arith) (p j)) in
    omega (arith, e)

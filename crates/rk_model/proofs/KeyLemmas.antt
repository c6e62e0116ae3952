-- Lists of items that are known by a key: where the item of a key stands, and the list without it.
use Rattle.std.proofs.Common.{◌≡◌, ℕ, suc, ◌+◌, ◌<◌, ◌≤◌, List, [], ◌∷◌, Bool, true, false, cond, not, ◌||◌, ◌==◌, ltb, length, map, arith, refl, sym, ap, ◌∙◌}
use Rattle.std.specs.List.{filter, remove, position_or_len}
use Rattle.std.proofs.lemmas.Bool.{false≢true}
use Rattle.std.proofs.lemmas.Bool.Decides.{nat_tests}
use Rattle.rk_model.specs.Lists.{has, times}
use Rattle.rk_model.proofs.CountLemmas.{times-filter, has_none}

-- how many items stand in front of the first with a key, as the code finds it
abbrev pub position_at : {X : Type 0} → (X → ℕ) → ℕ → List X → ℕ
position_at key n xs = position_or_len (λ x. key x == n) xs

-- the items without those of a key
abbrev pub without_key : {X : Type 0} → (X → ℕ) → ℕ → List X → List X
without_key key n xs = filter (λ x. not (key x == n)) xs

pub has_position : {X : Type 0} (key : X → ℕ) (n : ℕ) (xs : List X) → has (map key xs) n ≡ ltb (position_at key n xs) (length xs)
has_position key n [] = refl
has_position key n (x ∷ xs) = by (key x == n) (has_position key n xs) where
  by : (b : Bool) → has (map key xs) n ≡ ltb (position_at key n xs) (length xs) → (b || has (map key xs) n) ≡ ltb (cond (not b) (1 + position_at key n xs) 0) (length (x ∷ xs))
  by true h = grind (arith, nat_tests)
  by false h = h ∙ grind (arith, nat_tests)

pub position_within : {X : Type 0} (key : X → ℕ) (n : ℕ) (xs : List X) → has (map key xs) n ≡ true → position_at key n xs < length xs
position_within key n xs h = let test = sym (has_position key n xs) ∙ h in grind (arith, nat_tests, test)

keys_cons : {X : Type 0} (key : X → ℕ) (b : Bool) (x : X) (xs : List X) (ns : List ℕ) → map key xs ≡ ns → map key (cond b (x ∷ xs) xs) ≡ cond b (key x ∷ ns) ns
keys_cons key true x xs ns h = ap (λ (ms : List ℕ). key x ∷ ms) h
keys_cons key false x xs ns h = h

-- the keys of the items without those of a key
pub keys-without : {X : Type 0} (key : X → ℕ) (n : ℕ) (xs : List X) → map key (without_key key n xs) ≡ filter (λ m. not (m == n)) (map key xs)
keys-without key n [] = refl
keys-without key n (x ∷ xs) = keys_cons key (not (key x == n)) x (without_key key n xs) _ (keys-without key n xs)

pub times-without : {X : Type 0} (key : X → ℕ) (m n : ℕ) (xs : List X) → times m (map key (without_key key n xs)) ≡ cond (not (m == n)) (times m (map key xs)) 0
times-without key m n xs = ap (times m) (keys-without key n xs) ∙ times-filter (λ k. not (k == n)) m (map key xs)

-- where none has the key, all items stay
pub without_none : {X : Type 0} (key : X → ℕ) (n : ℕ) (xs : List X) → has (map key xs) n ≡ false → without_key key n xs ≡ xs
without_none key n [] h = refl
without_none {X = X} key n (x ∷ xs) h = by (key x == n) refl h (without_none key n xs) where
  by : (b : Bool) → (key x == n) ≡ b → (b || has (map key xs) n) ≡ false → (has (map key xs) n ≡ false → without_key key n xs ≡ xs) → cond (not b) (x ∷ without_key key n xs) (without_key key n xs) ≡ x ∷ xs
  by true e h more = absurd (false≢true (sym h))
  by false e h more = ap (λ (rest : List X). x ∷ rest) (more h)

-- where at most one has the key, and the first has it, no other has it
pub alone_by : {X : Type 0} (key : X → ℕ) (n : ℕ) (x : X) (xs : List X) → times n (map key (x ∷ xs)) ≤ 1 → (key x == n) ≡ true → has (map key xs) n ≡ false
alone_by key n x xs once e = let none : times n (map key xs) ≡ 0 = grind (arith, once, e) in has_none n (map key xs) none

-- and it is taken out at its position
pub removed : {X : Type 0} (key : X → ℕ) (n : ℕ) (xs : List X) → times n (map key xs) ≤ 1 → remove xs (position_at key n xs) ≡ without_key key n xs
removed key n [] once = refl
removed {X = X} key n (x ∷ xs) once = by (key x == n) refl once (λ few. removed key n xs few) where
  by : (b : Bool) → (key x == n) ≡ b → times n (map key (x ∷ xs)) ≤ 1 → (times n (map key xs) ≤ 1 → remove xs (position_at key n xs) ≡ without_key key n xs) → remove (x ∷ xs) (cond (not b) (1 + position_at key n xs) 0) ≡ cond (not b) (x ∷ without_key key n xs) (without_key key n xs)
  by true e once more = sym (without_none key n xs (alone_by key n x xs once e))
  by false e once more =
      let few : times n (map key xs) ≤ 1 = omega (arith, once) in
      let step : 1 + position_at key n xs ≡ suc (position_at key n xs) = omega arith in
      rw step (ap (λ (rest : List X). x ∷ rest) (more few))

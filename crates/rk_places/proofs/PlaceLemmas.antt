-- The places of a group among those of all.
use Rattle.std.proofs.Common.{◌≡◌, ◌≢◌, ℕ, zero, suc, ◌+◌, ◌-◌, ◌*◌, ◌%◌, ◌<◌, List, [], ◌∷◌, ◌++◌, Bool, true, false, cond, ◌==◌, length, arith, refl, sym, ap, ◌∙◌, subst}
use Rattle.std.specs.List.{slice_set, slice_index_or, repeat}
use Rattle.std.proofs.Math.Nat.{div-add-mod}
use Rattle.std.proofs.lemmas.Bool.Decides.{nat_tests}
use Rattle.rk_model.specs.Lists.{nth, with_nth}
use Rattle.rk_places.specs.Stores.{GroupItems, group_of, place_of, IsOfGroup, IsStoreOf, none_live, stored_at, put_at, IsFull, item_at, put_item, no_items, with_item, vacant_items, place_in, spread, store_of}

-- An index is that of a place of its group.
index_is : (group index : ℕ) → IsOfGroup group index → index ≡ suc (group + 4 * place_of index)
index_is group index is = let split = div-add-mod (index - 1) 4 in omega (arith, split, is.of, is.low)

pub place_low : (group index : ℕ) → IsOfGroup group index → place_of index < 16
place_low group index is = let split = div-add-mod (index - 1) 4 in omega (arith, split, is.low, is.high)

nowhere : (group j : ℕ) → j % 4 ≢ group → group < 4 → (k : ℕ) → j ≢ group + 4 * k
nowhere group j other below k e = other (let split = div-add-mod j 4 in let same : j % 4 ≡ group = omega (arith, split, e, below) in same)

any_else : {X : Type 0} (items : List X) (k : ℕ) (x y : X) → k < length items → slice_index_or items k x ≡ slice_index_or items k y
any_else [] k x y within = absurd (omega (arith, within))
any_else (stored ∷ items) zero x y within = refl
any_else (stored ∷ items) (suc k) x y within = any_else items k x y (omega (arith, within))

module _ {X : Type 0} (none : X) where
  -- The places of a group stand at their indices,
  spread_at : (group k : ℕ) (items : List X) → group < 4 → slice_index_or (spread none group items) (group + 4 * k) none ≡ slice_index_or items k none
  spread_at group k [] below = refl
  spread_at group zero (stored ∷ items) below = by group below where
    by : (group : ℕ) → group < 4 → slice_index_or (spread none group (stored ∷ items)) (group + 4 * 0) none ≡ stored
    by zero below = refl
    by (suc zero) below = refl
    by (suc (suc zero)) below = refl
    by (suc (suc (suc zero))) below = refl
    by (suc (suc (suc (suc g)))) below = absurd (omega (arith, below))
  spread_at group (suc k) (stored ∷ items) below =
      let step : group + 4 * suc k ≡ suc (suc (suc (suc (group + 4 * k)))) = omega arith in
      rw step (spread_at group k items below)

  -- and change there.
  spread_set : (group k : ℕ) (x : X) (items : List X) → group < 4 → spread none group (slice_set items k x) ≡ slice_set (spread none group items) (group + 4 * k) x
  spread_set group k x [] below = refl
  spread_set group zero x (stored ∷ items) below = by group below where
    by : (group : ℕ) → group < 4 → spread none group (x ∷ items) ≡ slice_set (spread none group (stored ∷ items)) (group + 4 * 0) x
    by zero below = refl
    by (suc zero) below = refl
    by (suc (suc zero)) below = refl
    by (suc (suc (suc zero))) below = refl
    by (suc (suc (suc (suc g)))) below = absurd (omega (arith, below))
  spread_set group (suc k) x (stored ∷ items) below =
      let step : group + 4 * suc k ≡ suc (suc (suc (suc (group + 4 * k)))) = omega arith in
      rw step (ap (λ (rest : List X). place_in none group 0 stored ∷ place_in none group 1 stored ∷ place_in none group 2 stored ∷ place_in none group 3 stored ∷ rest) (spread_set group k x items below))

  length-spread : (group : ℕ) (items : List X) → length (spread none group items) ≡ 4 * length items
  length-spread group [] = refl
  length-spread group (stored ∷ items) = omega (arith, length-spread group items)

  -- a place that isn't that of the group
  not_there : (group number : ℕ) (stored : X) → number ≢ group + 4 * 0 → place_in none group number stored ≡ none
  not_there group number stored other = by (group == number) refl where
    by : (b : Bool) → (group == number) ≡ b → cond b stored none ≡ none
    by true is = let same : number ≡ group + 4 * 0 = grind (arith, nat_tests, is) in absurd (other same)
    by false is = refl

  -- an index that is that of no place of the group
  spread_other : (group j : ℕ) (items : List X) → ((k : ℕ) → j ≢ group + 4 * k) → slice_index_or (spread none group items) j none ≡ none
  spread_other group j [] other = refl
  spread_other group zero (stored ∷ items) other = not_there group 0 stored (other 0)
  spread_other group (suc zero) (stored ∷ items) other = not_there group 1 stored (other 0)
  spread_other group (suc (suc zero)) (stored ∷ items) other = not_there group 2 stored (other 0)
  spread_other group (suc (suc (suc zero))) (stored ∷ items) other = not_there group 3 stored (other 0)
  spread_other group (suc (suc (suc (suc j)))) (stored ∷ items) other =
      spread_other group j items (λ k e. other (suc k) (let step : suc (suc (suc (suc j))) ≡ group + 4 * suc k = omega (arith, e) in step))

  -- At each index of another group no object lives.
  others_none : (group index : ℕ) (items : List X) → group < 4 → group_of index ≢ group → nth none (spread none group items) index ≡ none
  others_none group zero items below other = refl
  others_none group (suc j) items below other =
      let at : suc j - 1 ≡ j = omega arith in
      let apart : j % 4 ≢ group = λ e. other (rw at e) in
      spread_other group j items (nowhere group j apart below)

  -- The store of the places of a group:

  -- what stands at a place is what the store has at its index,
  pub stored_there : (held : GroupItems X) (index : ℕ) (x : X) → IsFull held → IsOfGroup held.group index → x ≡ item_at x held index → x ≡ stored_at none (store_of none held) index
  stored_there held index x full is found =
      let within : place_of index < length held.items = rw full.count (place_low held.group index is) in
      found ∙ (any_else held.items (place_of index) x none within ∙ sym at_index)
    where
      at_index : nth none (spread none held.group held.items) index ≡ slice_index_or held.items (place_of index) none
      at_index = subst (λ i. nth none (spread none held.group held.items) i ≡ slice_index_or held.items (place_of index) none) (sym (index_is held.group index is)) (spread_at held.group (place_of index) held.items full.below)

  -- what is put there is put at its index,
  pub put_there : (held : GroupItems X) (index : ℕ) (x : X) → IsFull held → IsOfGroup held.group index → store_of none (put_item held index x) ≡ put_at (store_of none held) index x
  put_there held index x full is =
      ap (λ (places : List X). record (store_of none held) { places = places }) (spread_set held.group (place_of index) x held.items full.below ∙ at_index (index_is held.group index is))
    where
      at_index : index ≡ suc (held.group + 4 * place_of index) → slice_set (spread none held.group held.items) (held.group + 4 * place_of index) x ≡ with_nth (spread none held.group held.items) index x
      at_index e = subst (λ i. slice_set (spread none held.group held.items) (held.group + 4 * place_of index) x ≡ with_nth (spread none held.group held.items) i x) (sym e) refl

  -- and it is a store.
  pub store_is : (held : GroupItems X) → IsFull held → IsStoreOf none (store_of none held)
  store_is held full =
      record {
        below = full.below;
        count = omega (arith, length-spread held.group held.items, full.count);
        others = λ index other. others_none held.group index held.items full.below other;
      }

  -- Making the places:

  -- there are as many as were made,
  pub length-vacant : (made : ℕ) → length (repeat made (none ∷ [])) ≡ made
  length-vacant zero = refl
  length-vacant (suc made) = ap suc (length-vacant made)

  -- one more is made,
  pub vacant_more : (group made : ℕ) → with_item (vacant_items none group made) none ≡ vacant_items none group (made + 1)
  vacant_more group made =
      let step : made + 1 ≡ suc made = omega arith in
      rw step (ap (λ (items : List X). record (no_items group) { items = items }) (last made))
    where
      last : (n : ℕ) → repeat n (none ∷ []) ++ none ∷ [] ≡ none ∷ repeat n (none ∷ [])
      last zero = refl
      last (suc n) = ap (λ (rest : List X). none ∷ rest) (last n)

  vacant_there : (b : Bool) → cond b none none ≡ none
  vacant_there true = refl
  vacant_there false = refl

  spread_none : (group made : ℕ) → spread none group (repeat made (none ∷ [])) ≡ repeat (4 * made) (none ∷ [])
  spread_none group zero = refl
  spread_none group (suc made) =
      let step : 4 * suc made ≡ suc (suc (suc (suc (4 * made)))) = omega arith in
      rw (step, vacant_there (group == 0), vacant_there (group == 1), vacant_there (group == 2), vacant_there (group == 3), spread_none group made) refl

  -- and all 16 are a store in which no object lives.
  pub vacant_all : (group : ℕ) → store_of none (vacant_items none group 16) ≡ none_live none group
  vacant_all group = ap (λ (places : List X). record (none_live none group) { places = places }) (spread_none group 16)

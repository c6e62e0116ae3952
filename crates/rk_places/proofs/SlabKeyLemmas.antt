-- The places of a group in a slab, under a key for each.
use Rattle.std.proofs.Common.{◌≡◌, ◌≢◌, ℕ, zero, suc, ◌+◌, ◌<◌, ◌≤◌, List, [], ◌∷◌, ◌++◌, Bool, true, false, cond, ◌==◌, ◌||◌, length, length-append, Option, Some, None, is_some, IsSome, arith, refl, sym, ap, ◌∙◌, subst}
use Rattle.std.specs.List.{slice_set, slice_index_or}
use Rattle.std.proofs.lemmas.Bool.{false≢true}
use Rattle.std.proofs.lemmas.Bool.Decides.{nat_tests}
use Rattle.std.proofs.lemmas.List.Sums.{sum_by-set}
use Rattle.rk_model.specs.Lists.{has, times}
use Rattle.rk_model.proofs.BooleanLemmas.{equal_test, same_number}
use Rattle.rk_model.proofs.CountLemmas.{times-append, times-has, times_none, has_none, has-append}
use Rattle.slab.specs.Slab.{Slab, get, with_value, Updates, slab_len}
use Rattle.slab.proofs.SlabLemmas.{Updates-with_value}
use Rattle.rk_places.specs.Stores.{IsOfGroup, IsFull, place_of}
use Rattle.rk_places.specs.SlabKeys.{in_front, placed, AreKeys, IsHeld}
use Rattle.rk_places.proofs.PlaceLemmas.{place_low}

has_at : (keys : List ℕ) (k : ℕ) → k < length keys → has keys (slice_index_or keys k 0) ≡ true
has_at [] k within = absurd (omega (arith, within))
has_at (key ∷ keys) zero within = rw (equal_test key key refl) refl
has_at (key ∷ keys) (suc k) within = let more = has_at keys k (omega (arith, within)) in grind (arith, nat_tests, more)

module _ {X : Type 0} where
  -- a slab has something under each of these keys
  abbrev HasAll : Slab X → List ℕ → Type 0
  HasAll slab keys = (key : ℕ) → has keys key ≡ true → IsSome (get slab key)

  has_first : (slab : Slab X) (key : ℕ) (keys : List ℕ) → HasAll slab (key ∷ keys) → IsSome (get slab key)
  has_first slab key keys all = all key (rw (equal_test key key refl) refl)

  has_rest : (slab : Slab X) (key : ℕ) (keys : List ℕ) → HasAll slab (key ∷ keys) → HasAll slab keys
  has_rest slab key keys all = λ other h. all other (by other (key == other) h) where
    by : (other : ℕ) (b : Bool) → has keys other ≡ true → (b || has keys other) ≡ true
    by other true h = refl
    by other false h = h

  -- What a slab has under keys: something for each of them,
  one_more : (slot : Option X) (items : List X) → IsSome slot → length (in_front slot items) ≡ suc (length items)
  one_more None items some = absurd (false≢true some)
  one_more (Some x) items some = refl

  length-placed : (slab : Slab X) (keys : List ℕ) → HasAll slab keys → length (placed slab keys) ≡ length keys
  length-placed slab [] all = refl
  length-placed slab (key ∷ keys) all = one_more (get slab key) (placed slab keys) (has_first slab key keys all) ∙ ap suc (length-placed slab keys (has_rest slab key keys all))

  -- in the order of the keys.
  at_first : (slot : Option X) (x d : X) (items : List X) → slot ≡ Some x → slice_index_or (in_front slot items) 0 d ≡ x
  at_first slot x d items is = rw is refl

  behind : (slot : Option X) (k : ℕ) (d : X) (items : List X) → IsSome slot → slice_index_or (in_front slot items) (suc k) d ≡ slice_index_or items k d
  behind None k d items some = absurd (false≢true some)
  behind (Some x) k d items some = refl

  placed_at : (slab : Slab X) (keys : List ℕ) (k : ℕ) (x d : X) → HasAll slab keys → k < length keys → get slab (slice_index_or keys k 0) ≡ Some x → slice_index_or (placed slab keys) k d ≡ x
  placed_at slab [] k x d all within gives = absurd (omega (arith, within))
  placed_at slab (key ∷ keys) zero x d all within gives = at_first (get slab key) x d (placed slab keys) gives
  placed_at slab (key ∷ keys) (suc k) x d all within gives =
      behind (get slab key) k d (placed slab keys) (has_first slab key keys all) ∙ placed_at slab keys k x d (has_rest slab key keys all) (omega (arith, within)) gives

  placed-append : (slab : Slab X) (keys more : List ℕ) → placed slab (keys ++ more) ≡ placed slab keys ++ placed slab more
  placed-append slab [] more = refl
  placed-append slab (key ∷ keys) more = by (get slab key) (placed-append slab keys more) where
    by : (slot : Option X) → placed slab (keys ++ more) ≡ placed slab keys ++ placed slab more → in_front slot (placed slab (keys ++ more)) ≡ in_front slot (placed slab keys) ++ placed slab more
    by None rest = rest
    by (Some x) rest = ap (λ (items : List X). x ∷ items) rest

  -- A change under another key changes nothing,
  placed_other : (old new : Slab X) (key : ℕ) (slot : Option X) (keys : List ℕ) → Updates old new key slot → has keys key ≡ false → placed new keys ≡ placed old keys
  placed_other old new key slot [] updates none = refl
  placed_other old new key slot (other ∷ keys) updates none = by (other == key) refl none (λ rest. placed_other old new key slot keys updates rest) where
    by : (b : Bool) → (other == key) ≡ b → (b || has keys key) ≡ false → (has keys key ≡ false → placed new keys ≡ placed old keys) → in_front (get new other) (placed new keys) ≡ in_front (get old other) (placed old keys)
    by true is none more = absurd (false≢true (sym none))
    by false is none more =
        let differs : other ≢ key = λ e. false≢true (sym is ∙ equal_test other key e) in
        rw (updates.others other differs, more none) refl

  -- and one under a key changes its place alone.
  set_first : (slot : Option X) (x : X) (items : List X) → IsSome slot → x ∷ items ≡ slice_set (in_front slot items) 0 x
  set_first None x items some = absurd (false≢true some)
  set_first (Some y) x items some = refl

  set_behind : (slot : Option X) (k : ℕ) (x : X) (items : List X) → IsSome slot → in_front slot (slice_set items k x) ≡ slice_set (in_front slot items) (suc k) x
  set_behind None k x items some = absurd (false≢true some)
  set_behind (Some y) k x items some = refl

  placed_set : (old new : Slab X) (key : ℕ) (x : X) (keys : List ℕ) (k : ℕ) → Updates old new key (Some x) → ((j : ℕ) → times j keys ≤ 1) → HasAll old keys → k < length keys → key ≡ slice_index_or keys k 0 → placed new keys ≡ slice_set (placed old keys) k x
  placed_set old new key x [] k updates once all within is = absurd (omega (arith, within))
  placed_set old new key x (j ∷ keys) zero updates once all within is =
      let first : times j (j ∷ keys) ≡ 1 + times j keys = rw (equal_test j j refl) refl in
      let few = once j in
      let alone : times j keys ≡ 0 = omega (arith, first, few) in
      let none : has keys key ≡ false = rw is (has_none j keys alone) in
      let here : get new j ≡ Some x = subst (λ m. get new m ≡ Some x) is updates.changed in
      ap (λ (slot : Option X). in_front slot (placed new keys)) here ∙ (ap (λ (items : List X). x ∷ items) (placed_other old new key (Some x) keys updates none) ∙ set_first (get old j) x (placed old keys) (has_first old j keys all))
  placed_set old new key x (j ∷ keys) (suc k) updates once all within is =
      let inside : k < length keys = omega (arith, within) in
      let stands : has keys key ≡ true = rw is (has_at keys k inside) in
      let differs : j ≢ key = λ e. let first : times key (j ∷ keys) ≡ 1 + times key keys = rw (equal_test j key e) refl in let more = times-has key keys stands in let few = once key in omega (arith, first, more, few) in
      let rest : placed new keys ≡ slice_set (placed old keys) k x = placed_set old new key x keys k updates (λ m. let few = once m in omega (arith, few)) (has_rest old j keys all) inside is in
      ap (λ (slot : Option X). in_front slot (placed new keys)) (updates.others j differs) ∙ (ap (in_front (get old j)) rest ∙ set_behind (get old j) k x (placed old keys) (has_first old j keys all))

  -- The places of a group:

  -- all are made where there are 16 keys
  pub keys_full : (group : ℕ) (slab : Slab X) (keys : List ℕ) → IsHeld group slab keys → IsFull (record { group = group; items = placed slab keys }) → length keys ≡ 16
  keys_full group slab keys held full = sym (length-placed slab keys held.under.stored) ∙ full.count

  pub key_count : (group : ℕ) (slab : Slab X) (keys : List ℕ) → IsHeld group slab keys → length (placed slab keys) ≡ length keys
  key_count group slab keys held = length-placed slab keys held.under.stored

  -- the key of an index is that of a place,
  pub at_key : (group : ℕ) (slab : Slab X) (keys : List ℕ) (index key : ℕ) → IsHeld group slab keys → IsFull (record { group = group; items = placed slab keys }) → IsOfGroup group index → key ≡ slice_index_or keys (place_of index) 0 → IsSome (get slab key)
  at_key group slab keys index key held full is found =
      let within : place_of index < length keys = rw (keys_full group slab keys held full) (place_low group index is) in
      rw found (held.under.stored (slice_index_or keys (place_of index) 0) (has_at keys (place_of index) within))

  -- where what the slab has is what stands there,
  pub stands_there : (group : ℕ) (slab : Slab X) (keys : List ℕ) (index key : ℕ) (x : X) → IsHeld group slab keys → IsFull (record { group = group; items = placed slab keys }) → IsOfGroup group index → key ≡ slice_index_or keys (place_of index) 0 → get slab key ≡ Some x → x ≡ slice_index_or (placed slab keys) (place_of index) x
  stands_there group slab keys index key x held full is found gives =
      let within : place_of index < length keys = rw (keys_full group slab keys held full) (place_low group index is) in
      let there : get slab (slice_index_or keys (place_of index) 0) ≡ Some x = rw found at gives in
      sym (placed_at slab keys (place_of index) x x held.under.stored within there)

  -- and what is written there changes this place alone.
  pub written_there : (group : ℕ) (slab : Slab X) (keys : List ℕ) (index key : ℕ) (x : X) → IsHeld group slab keys → IsFull (record { group = group; items = placed slab keys }) → IsOfGroup group index → key ≡ slice_index_or keys (place_of index) 0 → placed (with_value slab key x) keys ≡ slice_set (placed slab keys) (place_of index) x
  written_there group slab keys index key x held full is found =
      let within : place_of index < length keys = rw (keys_full group slab keys held full) (place_low group index is) in
      let updates = Updates-with_value slab key x (at_key group slab keys index key held full is found) in
      placed_set slab (with_value slab key x) key x keys (place_of index) updates held.under.once held.under.stored within found

  within_slots : (slots : List (Option X)) (key : ℕ) → IsSome (slice_index_or slots key None) → key < length slots
  within_slots [] key some = absurd (false≢true some)
  within_slots (slot ∷ slots) zero some = omega arith
  within_slots (slot ∷ slots) (suc key) some = omega (arith, within_slots slots key some)

  same_len : (slab : Slab X) (key : ℕ) (x : X) → IsSome (get slab key) → slab_len (with_value slab key x) ≡ slab_len slab
  same_len slab key x some =
      let step = sum_by-set (λ (slot : Option X). cond (is_some slot) 1 0) slab.slots key (Some x) None (within_slots slab.slots key some) in
      by (is_some (get slab key)) some step
    where
      by : (b : Bool) → b ≡ true → slab_len (with_value slab key x) + cond b 1 0 ≡ slab_len slab + 1 → slab_len (with_value slab key x) ≡ slab_len slab
      by true is step = omega (arith, step)
      by false is step = absurd (false≢true is)

  keys_kept : (old new : Slab X) (key : ℕ) (x : X) (keys : List ℕ) → Updates old new key (Some x) → AreKeys old keys → AreKeys new keys
  keys_kept old new key x keys updates are = record { once = are.once; stored = λ other h. by other (other == key) refl (are.stored other h) } where
    by : (other : ℕ) (b : Bool) → (other == key) ≡ b → IsSome (get old other) → IsSome (get new other)
    by other true is some = rw (same_number other key is, updates.changed) refl
    by other false is some = rw (updates.others other (λ e. false≢true (sym is ∙ equal_test other key e))) some

  pub held_there : (group : ℕ) (slab : Slab X) (keys : List ℕ) (index key : ℕ) (x : X) → IsHeld group slab keys → IsFull (record { group = group; items = placed slab keys }) → IsOfGroup group index → key ≡ slice_index_or keys (place_of index) 0 → IsHeld group (with_value slab key x) keys
  held_there group slab keys index key x held full is found =
      let some = at_key group slab keys index key held full is found in
      record {
        below = held.below;
        few = held.few;
        count = same_len slab key x some ∙ held.count;
        room = held.room;
        under = keys_kept slab (with_value slab key x) key x keys (Updates-with_value slab key x some) held.under;
      }

  -- Making the places:

  fresh : (slab : Slab X) (key : ℕ) (keys : List ℕ) → HasAll slab keys → get slab key ≡ None → has keys key ≡ false
  fresh slab key keys all vacant = by (has keys key) refl where
    by : (b : Bool) → has keys key ≡ b → b ≡ false
    by true h = absurd (let no : IsSome {T = X} None = rw vacant at (all key h) in false≢true no)
    by false h = refl

  -- one more place stands behind the others,
  pub made_last : (group key : ℕ) (old new : Slab X) (keys : List ℕ) (x : X) → IsHeld group old keys → get old key ≡ None → Updates old new key (Some x) → placed new (keys ++ key ∷ []) ≡ placed old keys ++ x ∷ []
  made_last group key old new keys x held vacant updates =
      placed-append new keys (key ∷ []) ∙ (ap (λ (front : List X). front ++ in_front (get new key) []) (placed_other old new key (Some x) keys updates (fresh old key keys held.under.stored vacant)) ∙ ap (λ (slot : Option X). placed old keys ++ in_front slot []) updates.changed)

  -- under a key of its own.
  pub made_more : (group key : ℕ) (old new : Slab X) (keys : List ℕ) (x : X) → IsHeld group old keys → length keys < 16 → get old key ≡ None → Updates old new key (Some x) → slab_len new ≡ slab_len old + 1 → new.capacity ≡ old.capacity → IsHeld group new (keys ++ key ∷ [])
  made_more group key old new keys x held few vacant updates len room =
      let more : length (keys ++ key ∷ []) ≡ length keys + 1 = length-append keys (key ∷ []) in
      record {
        below = held.below;
        few = omega (arith, more, few);
        count = omega (arith, more, len, held.count);
        room = rw room held.room;
        under = record { once = λ other. once other (key == other) refl (times-append other keys (key ∷ [])); stored = λ other h. stored other (other == key) refl (sym (has-append keys (key ∷ []) other) ∙ h) };
      }
    where
      none : has keys key ≡ false
      none = fresh old key keys held.under.stored vacant

      once : (other : ℕ) (b : Bool) → (key == other) ≡ b → times other (keys ++ key ∷ []) ≡ times other keys + (cond (key == other) 1 0 + 0) → times other (keys ++ key ∷ []) ≤ 1
      once other true is split =
          let last : times other (keys ++ key ∷ []) ≡ times other keys + (1 + 0) = rw is at split in
          let absent : times other keys ≡ 0 = subst (λ k. times k keys ≡ 0) (same_number key other is) (times_none key keys none) in
          omega (arith, last, absent)
      once other false is split =
          let last : times other (keys ++ key ∷ []) ≡ times other keys + (0 + 0) = rw is at split in
          let few = held.under.once other in
          omega (arith, last, few)

      stored : (other : ℕ) (b : Bool) → (other == key) ≡ b → (has keys other || ((key == other) || false)) ≡ true → IsSome (get new other)
      stored other true is h = rw (same_number other key is, updates.changed) refl
      stored other false is h =
          let differs : (key == other) ≡ false = grind (arith, nat_tests, is) in
          let before : has keys other ≡ true = by (has keys other) (rw differs at h) in
          rw (updates.others other (λ e. false≢true (sym is ∙ equal_test other key e))) (held.under.stored other before)
        where
          by : (b : Bool) → (b || (false || false)) ≡ true → b ≡ true
          by true h = refl
          by false h = h

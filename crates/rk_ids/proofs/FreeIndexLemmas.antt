-- The indices of live objects and the free ones.
use Rattle.std.proofs.Common.{◌≡◌, ℕ, zero, suc, add-one, ◌+◌, ◌<◌, ◌≤◌, List, [], ◌∷◌, ◌++◌, Bool, true, false, cond, not, ◌&&◌, ◌==◌, nat_le, length, arith, refl, sym, ap, ◌∙◌, IsTrue, Option, Some}
use Rattle.std.specs.List.{remove, range_with_len, slice_index_or}
use Rattle.std.proofs.lemmas.List.{map-append, length-map, length-append}
use Rattle.std.proofs.lemmas.Bool.{false≢true}
use Rattle.std.proofs.lemmas.Bool.Decides.{nat_tests}
use Rattle.rk_model.specs.declared.ids.Named.{Named}
use Rattle.rk_model.specs.Lists.{has, times}
use Rattle.rk_model.specs.Names.{Names, no_names, indices, lives, least_named}
use Rattle.rk_model.proofs.CountLemmas.{times-append, times-has, length_by_times, length_range, once_in_range, times_range}
use Rattle.rk_model.proofs.KeyLemmas.{position_at, without_key, position_within, times-without, removed}
use Rattle.rk_ids.specs.LiveObjects.{IsSplit}
use Rattle.rk_ids.proofs.LeastNameLemmas.{least_stands}

-- what objects are known by
abbrev pub key : Named → ℕ
key object = object.index

outside : (index n : ℕ) → times index (range_with_len 1 64) ≡ n → (nat_le 1 index && nat_le index 64) ≡ false → n ≡ 0
outside index zero e is = refl
outside index (suc n) e is = let stands : 0 < times index (range_with_len 1 64) = omega (arith, e) in let within = times_range index 1 64 stands in grind (arith, nat_tests, is, within)

-- Each index from 1 to 64 stands once in the range, and no other does.
pub times_all : (index : ℕ) → times index (range_with_len 1 64) ≡ cond (nat_le 1 index && nat_le index 64) 1 0
times_all index = by (nat_le 1 index && nat_le index 64) refl where
  by : (b : Bool) → (nat_le 1 index && nat_le index 64) ≡ b → times index (range_with_len 1 64) ≡ cond b 1 0
  by true is = let low : 1 ≤ index = grind (arith, nat_tests, is) in let high : index < 1 + 64 = grind (arith, nat_tests, is) in once_in_range index 1 64 low high
  by false is = outside index (times index (range_with_len 1 64)) refl is

-- the indices of live objects and the free ones, in one list
abbrev all_indices : Names → List ℕ
all_indices names = indices names.live ++ names.free

times_split : (names : Names) (index : ℕ) → IsSplit names → times index (all_indices names) ≡ times index (range_with_len 1 64)
times_split names index split = times-append index (indices names.live) names.free ∙ split index ∙ sym (times_all index)

length_split : (names : Names) → length (all_indices names) ≡ length names.live + length names.free
length_split names = length-append (indices names.live) names.free ∙ ap (λ n. n + length names.free) (length-map names.live _)

-- there are 64 indices
pub count_split : (names : Names) → IsSplit names → length names.live + length names.free ≡ 64
count_split names split =
    let few = length_by_times (all_indices names) (range_with_len 1 64) (λ index. omega (arith, times_split names index split)) in
    let many = length_by_times (range_with_len 1 64) (all_indices names) (λ index. omega (arith, times_split names index split)) in
    omega (arith, few, many, length_range 1 64, length_split names)

-- of which all are free at first
pub split_none : IsSplit no_names
split_none index = let all = times_all index in omega (arith, all)

-- 64 objects live where no index is free
pub full_split : (names : Names) → IsSplit names → names.free ≡ [] → length names.live ≡ 64
full_split names split none = let count = count_split names split in grind (arith, count, none)

pub free_split : (names : Names) → IsSplit names → length names.live ≡ 64 → names.free ≡ []
free_split names split full = empty names.free (let count = count_split names split in omega (arith, count, full)) where
  empty : (xs : List ℕ) → length xs ≡ 0 → xs ≡ []
  empty [] h = refl
  empty (x ∷ xs) h = absurd (omega (arith, h))

within_by : (index : ℕ) (b : Bool) (n : ℕ) → (nat_le 1 index && nat_le index 64) ≡ b → n ≡ cond b 1 0 → 0 < n → (1 ≤ index) × (index ≤ 64)
within_by index true n is count stands = (grind (arith, nat_tests, is), grind (arith, nat_tests, is))
within_by index false n is count stands = absurd (omega (arith, count, stands))

-- an index that is free is from 1 to 64
pub free_within : (names : Names) (index : ℕ) (free : List ℕ) → IsSplit names → names.free ≡ index ∷ free → (1 ≤ index) × (index ≤ 64)
free_within names index free split first = within_by index (nat_le 1 index && nat_le index 64) (times index (indices names.live) + times index names.free) refl (split index) (grind (arith, nat_tests, first))

-- and so is that of a live object
pub live_within : (names : Names) (index : ℕ) → IsSplit names → lives names index ≡ true → (1 ≤ index) × (index ≤ 64)
live_within names index split is =
    let stands = times-has index (indices names.live) is in
    within_by index (nat_le 1 index && nat_le index 64) (times index (indices names.live) + times index names.free) refl (split index) (omega (arith, stands))

-- a range with one more number
pub range_more : (a n : ℕ) → range_with_len a (n + 1) ≡ range_with_len a n ++ (n + a) ∷ []
range_more a n = rw (add-one n) (by a n) where
  by : (a n : ℕ) → range_with_len a (suc n) ≡ range_with_len a n ++ (n + a) ∷ []
  by a zero = let start : 0 + a ≡ a = omega arith in rw start refl
  by a (suc n) = let sums : n + (a + 1) ≡ suc n + a = omega arith in ap (λ (xs : List ℕ). a ∷ xs) (rw sums at (by (a + 1) n))

-- which is what a push of it makes
pub pushed : (a n x : ℕ) (xs next : List ℕ) → xs ≡ range_with_len a n → x ≡ n + a → next ≡ xs ++ x ∷ [] → next ≡ range_with_len a (n + 1)
pushed a n x xs next is more made = rw (made, is, more, range_more a n) refl

-- Making:

-- what is taken from the front of a list that has some, and the rest
pub first_of : (free next : List ℕ) (index : ℕ) (empty : Bool) → (free ≡ [] → IsTrue empty) → empty ≡ false → index ≡ slice_index_or free 0 index → next ≡ remove free 0 → free ≡ index ∷ next
first_of [] next index empty none some item rest = let is : empty ≡ true = none refl in absurd (false≢true (sym some ∙ is))
first_of (x ∷ xs) next index empty none some item rest = rw (item, rest) refl

-- where an index is free, less than 64 objects live
pub room_to_make : (names : Names) (index : ℕ) (free : List ℕ) → IsSplit names → names.free ≡ index ∷ free → length names.live < 64
room_to_make names index free split first = let count = count_split names split in grind (arith, count, first)

times_one_more : (u index name : ℕ) (live : List Named) → times u (indices (live ++ (record { index = index; name = record { bits = name } }) ∷ [])) ≡ times u (indices live) + cond (index == u) 1 0
times_one_more u index name live =
    let last : List Named = (record { index = index; name = record { bits = name } }) ∷ [] in
    ap (times u) (map-append _ live last) ∙ times-append u (indices live) (indices last) ∙ omega arith

pub split_taken : (live : List Named) (free next : List ℕ) (index name : ℕ) → IsSplit (record { live = live; free = free }) → free ≡ index ∷ next → IsSplit (record { live = live ++ (record { index = index; name = record { bits = name } }) ∷ []; free = next })
split_taken live free next index name split first u =
    let more = times_one_more u index name live in
    let before : times u free ≡ cond (index == u) 1 0 + times u next = rw first refl in
    omega (arith, more, before, split u)

-- Giving back:

once_by : (n m : ℕ) (b : Bool) → n + m ≡ cond b 1 0 → n ≤ 1
once_by n m true h = omega (arith, h)
once_by n m false h = omega (arith, h)

-- an index is that of one live object at most
pub lives_once : (names : Names) (index : ℕ) → IsSplit names → times index (indices names.live) ≤ 1
lives_once names index split = once_by _ (times index names.free) (nat_le 1 index && nat_le index 64) (split index)

-- where an object lives, less than 64 indices are free
pub room_to_free : (names : Names) (index : ℕ) → IsSplit names → lives names index ≡ true → length names.free < 64
room_to_free names index split is =
    let within = position_within key index names.live is in
    let count = count_split names split in
    omega (arith, within, count)

given_by : (u index n m : ℕ) (b c : Bool) → (u == index) ≡ b → n + m ≡ cond c 1 0 → (u ≡ index → 0 < n) → cond (not b) n 0 + (m + cond b 1 0) ≡ cond c 1 0
given_by u index n m true true is split stands = let some = stands (grind (arith, nat_tests, is)) in omega (arith, split, some)
given_by u index n m true false is split stands = let some = stands (grind (arith, nat_tests, is)) in omega (arith, split, some)
given_by u index n m false c is split stands = omega (arith, split)

pub split_given : (live : List Named) (free : List ℕ) (index : ℕ) → IsSplit (record { live = live; free = free }) → has (indices live) index ≡ true → IsSplit (record { live = without_key key index live; free = free ++ index ∷ [] })
split_given live free index split is u =
    let stands : u ≡ index → 0 < times u (indices live) = λ e. rw e (times-has index (indices live) is) in
    let all = given_by u index (times u (indices live)) (times u free) (u == index) (nat_le 1 u && nat_le u 64) refl (split u) stands in
    let gone = times-without key u index live in
    let last : times u (free ++ index ∷ []) ≡ times u free + cond (u == index) 1 0 = times-append u free (index ∷ []) ∙ grind (arith, nat_tests) in
    rw (gone, last) all

-- what a slice of the live objects tells of them
pub taken_out : (index : ℕ) (slice live next : List Named) (free : List ℕ) (at : ℕ) → slice ≡ live → at ≡ position_at key index slice → IsSplit (record { live = live; free = free }) → next ≡ remove live at → next ≡ without_key key index live
taken_out index slice live next free at e found split made = rw (made, found, e, removed key index live (lives_once (record { live = live; free = free }) index split)) refl

pub there : (index : ℕ) (slice live : List Named) (at : ℕ) → slice ≡ live → at ≡ position_at key index slice → has (indices live) index ≡ true → at < length live
there index slice live at e found is = rw (found, e) (position_within key index live is)

-- the least index that is found is from 1 to 64
pub found_within : (name : ℕ) (slice live : List Named) (free : List ℕ) (index : ℕ) (found : Option ℕ) → slice ≡ live → IsSplit (record { live = live; free = free }) → found ≡ least_named name slice → found ≡ Some index → (1 ≤ index) × (index ≤ 64)
found_within name slice live free index found e split is some =
    let stands : has (indices live) index ≡ true = least_stands name live index (rw (sym e) (sym is ∙ some)) in
    live_within (record { live = live; free = free }) index split stands

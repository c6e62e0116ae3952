-- The buffers of a partition, and the free ones among them.
use Rattle.std.proofs.Common.{◌≡◌, ℕ, zero, suc, add-one, ◌+◌, ◌-◌, ◌*◌, ◌/◌, ◌%◌, ◌<◌, ◌≤◌, nat_lt, List, [], ◌∷◌, ◌++◌, Bool, true, false, cond, not, ◌==◌, ◌&&◌, ◌||◌, ◌⊎◌, inl, inr, length, length-append, IsTrue, slice_index_or, Option, Some, None, arith, refl, sym, ap, ◌∙◌, subst}
use Rattle.std.proofs.lemmas.Bool.{false≢true}
use Rattle.std.proofs.lemmas.Bool.Decides.{nat_tests}
use Rattle.std.proofs.lemmas.Nat.{div-add-mod', div-mul-add, mod-mul-add}
use Rattle.rk_model.specs.declared.status.Status.TheVariants.{InvalidSize, InvalidAddress}
use Rattle.rk_model.specs.Lists.{has, times}
use Rattle.rk_model.proofs.BooleanLemmas.{equal_test, same_number, and_front, and_back, or_back}
use Rattle.rk_model.proofs.CountLemmas.{times-append, times-has, times_none, has_times, has_none, length_by_times}
use Rattle.rk_partition.specs.declared.partition.Partition.{Partition}
use Rattle.rk_model.specs.State.{PartitionState, no_partition}
use Rattle.rk_model.specs.Directives.Partitions.{addresses, buffers, has_invalid_address, has_invalid_size, is_in_use, is_out, memory_refusal, with_free}
use Rattle.rk_partition.specs.Partitions.{IsStored, IsTaken, HasOut}
use Rattle.rk_partition.specs.PartitionSlots.{stored_by}

-- What is not refused is in order:

pub record IsInOrder (start length size : ℕ) : Type 0 where
  pub some : 0 < size
  pub within : start + length ≤ 4294967296
  pub few : length / size ≤ 1024

-- memory that isn't refused
pub in_order : (start length size : ℕ) → memory_refusal start length size ≡ None → IsInOrder start length size
in_order start length size is = by (start == 0) (has_invalid_size length size) (has_invalid_address start length) (nat_lt 1024 (length / size)) refl refl refl is where
  by : (a b c d : Bool) → has_invalid_size length size ≡ b → has_invalid_address start length ≡ c → nat_lt 1024 (length / size) ≡ d → cond a (Some InvalidAddress) (cond b (Some InvalidSize) (cond c (Some InvalidAddress) (cond d (Some InvalidSize) None))) ≡ None → IsInOrder start length size
  by true b c d sized placed counted is = absurd (let no : ⊥ = cc in no)
  by false true c d sized placed counted is = absurd (let no : ⊥ = cc in no)
  by false false true d sized placed counted is = absurd (let no : ⊥ = cc in no)
  by false false false true sized placed counted is = absurd (let no : ⊥ = cc in no)
  by false false false false sized placed counted is =
      record {
        some = grind (arith, nat_tests, sized);
        within = grind (arith, nat_tests, placed);
        few = grind (arith, nat_tests, counted);
      }

-- The addresses in steps of a size:

pub length-addresses : (first size n : ℕ) → length (addresses first size n) ≡ n
length-addresses first size zero = refl
length-addresses first size (suc n) = let more = length-addresses (first + size) size n in omega (arith, more)

-- one more is behind them
pub one_more : (first size n : ℕ) → addresses first size (n + 1) ≡ addresses first size n ++ (first + n * size) ∷ []
one_more first size n = rw (add-one n) (by first size n) where
  by : (first size n : ℕ) → addresses first size (suc n) ≡ addresses first size n ++ (first + n * size) ∷ []
  by first size zero = let start : first + 0 * size ≡ first = grind arith in rw start refl
  by first size (suc n) =
      let sums : first + size + n * size ≡ first + suc n * size = grind arith in
      ap (λ (rest : List ℕ). first ∷ rest) (rw sums at (by (first + size) size n))

-- each of them
stands : (first size n k : ℕ) → k < n → has (addresses first size n) (first + k * size) ≡ true
stands first size zero k within = absurd (omega (arith, within))
stands first size (suc n) zero within = let start : first ≡ first + 0 * size = grind arith in rw (equal_test first (first + 0 * size) start) refl
stands first size (suc n) (suc k) within =
    let sums : first + size + k * size ≡ first + suc k * size = grind arith in
    let more : has (addresses (first + size) size n) (first + suc k * size) ≡ true = rw sums at (stands (first + size) size n k (omega (arith, within))) in
    grind (arith, nat_tests, more)

-- and which of them an address is
record IsOneOf (first size n address : ℕ) : Type 0 where
  at : ℕ
  within : at < n
  is : address ≡ first + at * size

one_of : (first size n address : ℕ) → has (addresses first size n) address ≡ true → IsOneOf first size n address
one_of first size zero address h = absurd (false≢true h)
one_of first size (suc n) address h = by (first == address) refl h (λ k. one_of (first + size) size n address k) where
  by : (b : Bool) → (first == address) ≡ b → (b || has (addresses (first + size) size n) address) ≡ true → (has (addresses (first + size) size n) address ≡ true → IsOneOf (first + size) size n address) → IsOneOf first size (suc n) address
  by true is h rest = let same = same_number first address is in record { at = 0; within = omega arith; is = grind (arith, same) }
  by false is h rest =
      let more = rest h in
      let here = more.is in
      record { at = suc more.at; within = omega (arith, more.within); is = grind (arith, here) }

same_test : (b c : Bool) → (b ≡ true → c ≡ true) → (c ≡ true → b ≡ true) → b ≡ c
same_test true c to from = sym (to refl)
same_test false true to from = from refl
same_test false false to from = refl

-- An address before the first is none of them,
pub none_before : (first size n address : ℕ) → address < first → false ≡ has (addresses first size n) address
none_before first size n address before = same_test false (has (addresses first size n) address) (λ e. absurd (false≢true e)) (λ h. let one = one_of first size n address h in absurd (omega (arith, one.is, before)))

-- and each other is one of them where it is in steps of the size, and not too far.
pub is_one_of : (first size n address : ℕ) → 0 < size → first ≤ address → ((address - first) % size == 0) && nat_lt ((address - first) / size) n ≡ has (addresses first size n) address
is_one_of first size n address some behind = same_test _ _ to from where
  offset : ℕ
  offset = address - first

  to : ((address - first) % size == 0) && nat_lt ((address - first) / size) n ≡ true → has (addresses first size n) address ≡ true
  to h =
      let even = same_number ((address - first) % size) 0 (and_front ((address - first) % size == 0) (nat_lt ((address - first) / size) n) h) in
      let near = and_back ((address - first) % size == 0) (nat_lt ((address - first) / size) n) h in
      let few : (address - first) / size < n = grind (arith, nat_tests, near) in
      let split = div-add-mod' (address - first) size in
      let sums : first + (address - first) / size * size ≡ address = omega (arith, split, even, behind) in
      rw sums at (stands first size n ((address - first) / size) few)

  from : has (addresses first size n) address ≡ true → ((address - first) % size == 0) && nat_lt ((address - first) / size) n ≡ true
  from h =
      let one = one_of first size n address h in
      let steps : address - first ≡ one.at * size + 0 = omega (arith, one.is) in
      let even = mod-mul-add one.at size 0 some in
      let many = div-mul-add one.at size 0 some in
      let few = one.within in
      rw (steps, even, many) (grind (arith, nat_tests, few))

-- The free buffers:

-- what is out isn't free, and so there is room for it among the free ones
record IsOut (stored : PartitionState) (address : ℕ) : Type 0 where
  buffer : has (buffers stored) address ≡ true
  taken : has stored.free address ≡ false

out : (stored : PartitionState) (address : ℕ) → is_out stored address ≡ true → IsOut stored address
out stored address is = by (has (buffers stored) address) (has stored.free address) refl refl is where
  by : (b c : Bool) → has (buffers stored) address ≡ b → has stored.free address ≡ c → (b && not c) ≡ true → IsOut stored address
  by true false buffer taken is = record { buffer = buffer; taken = taken }
  by true true buffer taken is = absurd (false≢true is)
  by false c buffer taken is = absurd (false≢true is)

pub once_more : (stored : PartitionState) (address : ℕ) → IsStored stored → is_out stored address ≡ true → (u : ℕ) → times u (stored.free ++ address ∷ []) ≤ times u (buffers stored)
once_more stored address is free u = by (address == u) refl (times-append u stored.free (address ∷ [])) where
  by : (b : Bool) → (address == u) ≡ b → times u (stored.free ++ address ∷ []) ≡ times u stored.free + (cond (address == u) 1 0 + 0) → times u (stored.free ++ address ∷ []) ≤ times u (buffers stored)
  by true same split =
      let apart = out stored address free in
      let last : times u (stored.free ++ address ∷ []) ≡ times u stored.free + (1 + 0) = rw same at split in
      let none : times u stored.free ≡ 0 = subst (λ v. times v stored.free ≡ 0) (same_number address u same) (times_none address stored.free apart.taken) in
      let one : 0 < times u (buffers stored) = subst (λ v. 0 < times v (buffers stored)) (same_number address u same) (times-has address (buffers stored) apart.buffer) in
      omega (arith, last, none, one)
  by false same split =
      let last : times u (stored.free ++ address ∷ []) ≡ times u stored.free + (0 + 0) = rw same at split in
      let before = is.once u in
      omega (arith, last, before)

pub kept : (stored : PartitionState) (address : ℕ) → IsStored stored → stored.live ≡ true → is_out stored address ≡ true → IsStored (with_free stored address)
kept stored address is live free =
    record {
      vacant = λ e. absurd (false≢true (sym e ∙ live));
      made = is.made;
      once = once_more stored address is free;
    }

-- a partition lives where a buffer is out
pub lives : (stored : PartitionState) (address : ℕ) → IsStored stored → is_out stored address ≡ true → stored.live ≡ true
lives stored address is free = by stored.live refl where
  by : (b : Bool) → stored.live ≡ b → b ≡ true
  by true live = refl
  by false live = absurd (let none : is_out no_partition address ≡ true = subst (λ s. is_out s address ≡ true) (is.vacant live) free in false≢true none)

pub room : (stored : PartitionState) (address : ℕ) → IsStored stored → is_out stored address ≡ true → length stored.free < 1024
room stored address is free =
    let order = in_order stored.start stored.length stored.size (is.made (lives stored address is free)) in
    let few = length_by_times (stored.free ++ address ∷ []) (buffers stored) (once_more stored address is free) in
    let many = length-append stored.free (address ∷ []) in
    let all = length-addresses stored.start stored.size (stored.length / stored.size) in
    let most = order.few in
    omega (arith, few, many, all, most)

-- Each buffer is one by itself.
times_once : (first size n address : ℕ) → 0 < size → times address (addresses first size n) ≤ 1
times_once first size zero address some = omega arith
times_once first size (suc n) address some = by (first == address) refl (times_once (first + size) size n address some) where
  by : (b : Bool) → (first == address) ≡ b → times address (addresses (first + size) size n) ≤ 1 → cond b 1 0 + times address (addresses (first + size) size n) ≤ 1
  by true is rest =
      let same = same_number first address is in
      let before : address < first + size = omega (arith, same, some) in
      let none = times_none address (addresses (first + size) size n) (sym (none_before (first + size) size n address before)) in
      omega (arith, none)
  by false is rest = omega (arith, rest)

once_each : (stored : PartitionState) (address : ℕ) → IsStored stored → stored.live ≡ true → times address (buffers stored) ≤ 1
once_each stored address is live =
    let order = in_order stored.start stored.length stored.size (is.made live) in
    times_once stored.start stored.size (stored.length / stored.size) address order.some

-- So the first free one is out when it is taken.
pub taken : (stored : PartitionState) (address : ℕ) (rest : List ℕ) → IsStored stored → stored.free ≡ address ∷ rest → IsTaken address stored
taken stored address rest is first = record { free = rw (first, equal_test address address refl) refl; out = rw (first, buffer, absent) refl } where
  live : stored.live ≡ true
  live = by stored.live refl where
    by : (b : Bool) → stored.live ≡ b → b ≡ true
    by true live = refl
    by false live = absurd (let none : no_partition.free ≡ address ∷ rest = subst (λ s. s.free ≡ address ∷ rest) (is.vacant live) first in let no : ⊥ = cc in no)

  split : times address stored.free ≡ 1 + times address rest
  split = rw (first, equal_test address address refl) refl

  buffer : has (buffers stored) address ≡ true
  buffer = let once = is.once address in has_times address (buffers stored) (omega (arith, split, once))

  absent : has rest address ≡ false
  absent =
      let once = is.once address in
      let one = once_each stored address is live in
      has_none address rest (omega (arith, split, once, one))

-- Where a buffer is out, fewer are free than there are,
pub fewer_free : (stored : PartitionState) → IsStored stored → HasOut stored → is_in_use stored ≡ true
fewer_free stored is has_out =
    let few = length_by_times (stored.free ++ has_out.address ∷ []) (buffers stored) (once_more stored has_out.address is has_out.out) in
    let many = length-append stored.free (has_out.address ∷ []) in
    let all = length-addresses stored.start stored.size (stored.length / stored.size) in
    let less : length stored.free < stored.length / stored.size = omega (arith, few, many, all) in
    grind (arith, nat_tests, less)

-- one of these addresses that isn't among the free ones
record IsAbsent (xs free : List ℕ) : Type 0 where
  address : ℕ
  among : has xs address ≡ true
  absent : has free address ≡ false

some_absent : (xs free : List ℕ) → IsAbsent xs free ⊎ ((address : ℕ) → has xs address ≡ true → has free address ≡ true)
some_absent [] free = inr (λ address h. absurd (false≢true h))
some_absent (x ∷ xs) free = by (has free x) refl (some_absent xs free) where
  all : (address : ℕ) (b : Bool) → (x == address) ≡ b → has free x ≡ true → (has xs address ≡ true → has free address ≡ true) → (b || has xs address) ≡ true → has free address ≡ true
  all address true is first rest h = subst (λ t. has free t ≡ true) (same_number x address is) first
  all address false is first rest h = rest h

  by : (b : Bool) → has free x ≡ b → IsAbsent xs free ⊎ ((address : ℕ) → has xs address ≡ true → has free address ≡ true) → IsAbsent (x ∷ xs) free ⊎ ((address : ℕ) → has (x ∷ xs) address ≡ true → has free address ≡ true)
  by false first rest = inl (record { address = x; among = rw (equal_test x x refl) refl; absent = first })
  by true first (inl one) = inl (record { address = one.address; among = or_back (x == one.address) one.among; absent = one.absent })
  by true first (inr rest) = inr (λ address h. all address (x == address) refl first (rest address) h)

-- and the other way round.
pub one_out : (stored : PartitionState) → IsStored stored → is_in_use stored ≡ true → HasOut stored
one_out stored is used = by (some_absent (buffers stored) stored.free) where
  live : stored.live ≡ true
  live = by stored.live refl where
    by : (b : Bool) → stored.live ≡ b → b ≡ true
    by true live = refl
    by false live = absurd (let none : is_in_use no_partition ≡ true = subst (λ s. is_in_use s ≡ true) (is.vacant live) used in false≢true none)

  each : (address : ℕ) (b : Bool) → has (buffers stored) address ≡ b → (b ≡ true → has stored.free address ≡ true) → times address (buffers stored) ≤ times address stored.free
  each address true h free =
      let one = once_each stored address is live in
      let some = times-has address stored.free (free refl) in
      omega (arith, one, some)
  each address false h free = let none = times_none address (buffers stored) h in omega (arith, none)

  by : IsAbsent (buffers stored) stored.free ⊎ ((address : ℕ) → has (buffers stored) address ≡ true → has stored.free address ≡ true) → HasOut stored
  by (inl one) = record { address = one.address; out = rw (one.among, one.absent) refl }
  by (inr all) =
      let many = length_by_times (buffers stored) stored.free (λ address. each address (has (buffers stored) address) refl (all address)) in
      let count = length-addresses stored.start stored.size (stored.length / stored.size) in
      let less : length stored.free < stored.length / stored.size = grind (arith, nat_tests, used) in
      absurd (omega (arith, many, count, less))

-- The place that the code holds:

free_of : (partition : Option Partition) (free : List ℕ) → (stored_by partition free).free ≡ free
free_of None free = refl
free_of (Some partition) free = refl

-- a partition with one more free buffer,
pub kept_by : (partition : Option Partition) (free next : List ℕ) (address : ℕ) → IsStored (stored_by partition free) → is_out (stored_by partition free) address ≡ true → next ≡ free ++ address ∷ [] → IsStored (stored_by partition next)
kept_by partition free next address is free_one made = subst (λ (xs : List ℕ). IsStored (stored_by partition xs)) (sym made) (by partition is free_one) where
  by : (partition : Option Partition) → IsStored (stored_by partition free) → is_out (stored_by partition free) address ≡ true → IsStored (stored_by partition (free ++ address ∷ []))
  by None is free_one = absurd (let dead = lives (stored_by None free) address is free_one in false≢true dead)
  by (Some partition) is free_one = kept (stored_by (Some partition) free) address is refl free_one

-- for which there is room
pub room_by : (partition : Option Partition) (free : List ℕ) (address : ℕ) → IsStored (stored_by partition free) → is_out (stored_by partition free) address ≡ true → length free < 1024
room_by partition free address is free_one = rw (← free_of partition free) (room (stored_by partition free) address is free_one)

-- and one without its first free buffer
pub taken_by : (partition : Option Partition) (free : List ℕ) (address : ℕ) (empty : Bool) → IsStored (stored_by partition free) → (free ≡ [] → IsTrue empty) → empty ≡ false → address ≡ slice_index_or free 0 address → IsTaken address (stored_by partition free)
taken_by partition [] address empty is none some item = absurd (let all : empty ≡ true = none refl in false≢true (sym some ∙ all))
taken_by partition (first ∷ rest) address empty is none some item = subst (λ (x : ℕ). IsTaken x (stored_by partition (first ∷ rest))) (sym item) (taken (stored_by partition (first ∷ rest)) first rest is (free_of partition (first ∷ rest)))

-- Armed timers: where the timer of one stands, the timers without it, and how many there can be.
use Rattle.std.proofs.Common.{◌≡◌, ℕ, suc, ◌+◌, ◌<◌, ◌≤◌, List, [], ◌∷◌, ◌++◌, Bool, true, false, cond, not, ◌==◌, Some, None, length, map, get_or, arith, refl, sym, ap, ◌∙◌, subst}
use Rattle.std.specs.List.{remove, position_or_len, range_with_len}
use Rattle.std.proofs.lemmas.Bool.{false≢true}
use Rattle.std.proofs.lemmas.Bool.Decides.{nat_tests}
use Rattle.std.proofs.lemmas.List.{length-append, length-map}
use Rattle.rk_model.specs.Lists.{times}
use Rattle.rk_model.proofs.BooleanLemmas.{equal_test}
use Rattle.rk_model.proofs.CountLemmas.{length_by_times, length_range, once_in_range}
use Rattle.rk_model.specs.declared.state.Armer.{Armer}
use Rattle.rk_model.specs.declared.state.Armer.TheVariants.{Thread as OfThread, Period as OfPeriod}
use Rattle.rk_model.specs.declared.state.Armed.{Armed}
use Rattle.rk_model.specs.Scheduling.Timers.{is_due, due_at, head_of, without_due, is_same, times_armed, without_timer}
use Rattle.rk_wheel.specs.Wheels.{IsArmer, IsWheel, due_of}

-- whether a timer is that of one
abbrev pub is_timer : Armer → Armed → Bool
is_timer who timer = is_same timer.who who

-- One armer is the same as itself alone.
pub same_one : (a b : Armer) → is_same a b ≡ true → a ≡ b
same_one (OfThread t) (OfThread u) h = let e : t ≡ u = grind (arith, nat_tests, h) in ap (λ n. OfThread n) e
same_one (OfThread t) (OfPeriod j) h = absurd (false≢true h)
same_one (OfPeriod i) (OfThread u) h = absurd (false≢true h)
same_one (OfPeriod i) (OfPeriod j) h = let e : i ≡ j = grind (arith, nat_tests, h) in ap (λ n. OfPeriod n) e

pub same_self : (a : Armer) → is_same a a ≡ true
same_self (OfThread t) = equal_test t t refl
same_self (OfPeriod i) = equal_test i i refl

-- How often one is armed:

pub times_armed-append : (who : Armer) (xs ys : List Armed) → times_armed who (xs ++ ys) ≡ times_armed who xs + times_armed who ys
times_armed-append who [] ys = omega arith
times_armed-append who (x ∷ xs) ys = omega (arith, times_armed-append who xs ys)

-- no more often where the timer of one is taken out
pub times_armed-without : (who other : Armer) (timers : List Armed) → times_armed who (without_timer other timers) ≤ times_armed who timers
times_armed-without who other [] = omega arith
times_armed-without who other (timer ∷ timers) = by (is_same timer.who other) (times_armed-without who other timers) where
  by : (b : Bool) → times_armed who (without_timer other timers) ≤ times_armed who timers → times_armed who (cond (not b) (timer ∷ without_timer other timers) (without_timer other timers)) ≤ times_armed who (timer ∷ timers)
  by true h = omega (arith, h)
  by false h = omega (arith, h)

-- nor where one that is due is taken out
pub times_armed-without_due : (who : Armer) (tick : ℕ) (timers : List Armed) → times_armed who (without_due tick timers) ≤ times_armed who timers
times_armed-without_due who tick [] = omega arith
times_armed-without_due who tick (timer ∷ timers) = by (is_due tick timer) (times_armed-without_due who tick timers) where
  by : (b : Bool) → times_armed who (without_due tick timers) ≤ times_armed who timers → times_armed who (cond b timers (timer ∷ without_due tick timers)) ≤ times_armed who (timer ∷ timers)
  by true h = omega arith
  by false h = omega (arith, h)

-- Where one has no timer, taking its timer out does nothing.
pub without_none : (who : Armer) (timers : List Armed) → times_armed who timers ≡ 0 → without_timer who timers ≡ timers
without_none who [] h = refl
without_none who (timer ∷ timers) h = by (is_same timer.who who) h (without_none who timers) where
  by : (b : Bool) → cond b 1 0 + times_armed who timers ≡ 0 → (times_armed who timers ≡ 0 → without_timer who timers ≡ timers) → cond (not b) (timer ∷ without_timer who timers) (without_timer who timers) ≡ timer ∷ timers
  by true h more = absurd (omega (arith, h))
  by false h more = let none : times_armed who timers ≡ 0 = omega (arith, h) in ap (λ (rest : List Armed). timer ∷ rest) (more none)

-- Where the timer of one stands:

pub armed_within : (who : Armer) (timers : List Armed) → 0 < times_armed who timers → position_or_len (is_timer who) timers < length timers
armed_within who [] h = absurd (omega arith)
armed_within who (timer ∷ timers) h = by (is_same timer.who who) h (armed_within who timers) where
  by : (b : Bool) → 0 < cond b 1 0 + times_armed who timers → (0 < times_armed who timers → position_or_len (is_timer who) timers < length timers) → cond (not b) (1 + position_or_len (is_timer who) timers) 0 < length (timer ∷ timers)
  by true h more = omega arith
  by false h more = let some : 0 < times_armed who timers = omega (arith, h) in omega (arith, more some)

-- it is armed, and that timer is due when the definition says
pub found_within : (who : Armer) (timers : List Armed) (d : Armed) → position_or_len (is_timer who) timers < length timers →
    (0 < times_armed who timers) × (Some (get_or timers (position_or_len (is_timer who) timers) d).due ≡ due_of who timers)
found_within who [] d h = absurd (omega arith)
found_within who (timer ∷ timers) d h = by (is_same timer.who who) h (found_within who timers d) where
  by : (b : Bool) → cond (not b) (1 + position_or_len (is_timer who) timers) 0 < length (timer ∷ timers) →
      (position_or_len (is_timer who) timers < length timers → (0 < times_armed who timers) × (Some (get_or timers (position_or_len (is_timer who) timers) d).due ≡ due_of who timers)) →
      (0 < cond b 1 0 + times_armed who timers) × (Some (get_or (timer ∷ timers) (cond (not b) (1 + position_or_len (is_timer who) timers) 0) d).due ≡ cond b (Some timer.due) (due_of who timers))
  by true h more = (omega arith, refl)
  by false h more =
      let within : position_or_len (is_timer who) timers < length timers = omega (arith, h) in
      let rest = more within in
      let step : 1 + position_or_len (is_timer who) timers ≡ suc (position_or_len (is_timer who) timers) = omega arith in
      (omega (arith, rest.0), rw step rest.1)

-- behind the last one it isn't
pub found_past : (who : Armer) (timers : List Armed) → length timers ≤ position_or_len (is_timer who) timers → (times_armed who timers ≡ 0) × (due_of who timers ≡ None)
found_past who [] h = (refl, refl)
found_past who (timer ∷ timers) h = by (is_same timer.who who) h (found_past who timers) where
  by : (b : Bool) → length (timer ∷ timers) ≤ cond (not b) (1 + position_or_len (is_timer who) timers) 0 →
      (length timers ≤ position_or_len (is_timer who) timers → (times_armed who timers ≡ 0) × (due_of who timers ≡ None)) →
      (cond b 1 0 + times_armed who timers ≡ 0) × (cond b (Some timer.due) (due_of who timers) ≡ None)
  by true h more = absurd (omega arith)
  by false h more =
      let past : length timers ≤ position_or_len (is_timer who) timers = omega (arith, h) in
      let rest = more past in
      (omega (arith, rest.0), rest.1)

-- Where one is armed at most once, its timer is taken out there.
pub removed : (who : Armer) (timers : List Armed) → times_armed who timers ≤ 1 → remove timers (position_or_len (is_timer who) timers) ≡ without_timer who timers
removed who [] once = refl
removed who (timer ∷ timers) once = by (is_same timer.who who) once (removed who timers) where
  by : (b : Bool) → cond b 1 0 + times_armed who timers ≤ 1 → (times_armed who timers ≤ 1 → remove timers (position_or_len (is_timer who) timers) ≡ without_timer who timers) →
      remove (timer ∷ timers) (cond (not b) (1 + position_or_len (is_timer who) timers) 0) ≡ cond (not b) (timer ∷ without_timer who timers) (without_timer who timers)
  by true once more = let none : times_armed who timers ≡ 0 = omega (arith, once) in sym (without_none who timers none)
  by false once more =
      let few : times_armed who timers ≤ 1 = omega (arith, once) in
      let step : 1 + position_or_len (is_timer who) timers ≡ suc (position_or_len (is_timer who) timers) = omega arith in
      rw step (ap (λ (rest : List Armed). timer ∷ rest) (more few))

-- Where the first timer that is due stands: it is the first of these,
pub due_first : (tick : ℕ) (timers : List Armed) (d : Armed) → position_or_len (is_due tick) timers < length timers → Some (get_or timers (position_or_len (is_due tick) timers) d) ≡ head_of (due_at tick timers)
due_first tick [] d h = absurd (omega arith)
due_first tick (timer ∷ timers) d h = by (is_due tick timer) h (due_first tick timers d) where
  by : (b : Bool) → cond (not b) (1 + position_or_len (is_due tick) timers) 0 < length (timer ∷ timers) →
      (position_or_len (is_due tick) timers < length timers → Some (get_or timers (position_or_len (is_due tick) timers) d) ≡ head_of (due_at tick timers)) →
      Some (get_or (timer ∷ timers) (cond (not b) (1 + position_or_len (is_due tick) timers) 0) d) ≡ head_of (cond b (timer ∷ due_at tick timers) (due_at tick timers))
  by true h more = refl
  by false h more =
      let within : position_or_len (is_due tick) timers < length timers = omega (arith, h) in
      let step : 1 + position_or_len (is_due tick) timers ≡ suc (position_or_len (is_due tick) timers) = omega arith in
      rw step (more within)

-- and is taken out there;
pub due_removed : (tick : ℕ) (timers : List Armed) → remove timers (position_or_len (is_due tick) timers) ≡ without_due tick timers
due_removed tick [] = refl
due_removed tick (timer ∷ timers) = by (is_due tick timer) (due_removed tick timers) where
  by : (b : Bool) → remove timers (position_or_len (is_due tick) timers) ≡ without_due tick timers →
      remove (timer ∷ timers) (cond (not b) (1 + position_or_len (is_due tick) timers) 0) ≡ cond b timers (timer ∷ without_due tick timers)
  by true more = refl
  by false more =
      let step : 1 + position_or_len (is_due tick) timers ≡ suc (position_or_len (is_due tick) timers) = omega arith in
      rw step (ap (λ (rest : List Armed). timer ∷ rest) more)

-- behind the last one none is due.
pub due_past : (tick : ℕ) (timers : List Armed) → length timers ≤ position_or_len (is_due tick) timers → (head_of (due_at tick timers) ≡ None) × (without_due tick timers ≡ timers)
due_past tick [] h = (refl, refl)
due_past tick (timer ∷ timers) h = by (is_due tick timer) h (due_past tick timers) where
  by : (b : Bool) → length (timer ∷ timers) ≤ cond (not b) (1 + position_or_len (is_due tick) timers) 0 →
      (length timers ≤ position_or_len (is_due tick) timers → (head_of (due_at tick timers) ≡ None) × (without_due tick timers ≡ timers)) →
      (head_of (cond b (timer ∷ due_at tick timers) (due_at tick timers)) ≡ None) × (cond b timers (timer ∷ without_due tick timers) ≡ timer ∷ timers)
  by true h more = absurd (omega arith)
  by false h more =
      let past : length timers ≤ position_or_len (is_due tick) timers = omega (arith, h) in
      let rest = more past in
      (rest.0, ap (λ (others : List Armed). timer ∷ others) rest.1)

-- Wheels:

pub wheel_empty : IsWheel []
wheel_empty = record { once = λ who. omega arith; within = λ who h. absurd (omega arith) }

-- timers of which each owner has no more than in a wheel
pub wheel_less : (timers next : List Armed) → ((who : Armer) → times_armed who next ≤ times_armed who timers) → IsWheel timers → IsWheel next
wheel_less timers next less is = record {
  once = λ who. omega (arith, less who, is.once who);
  within = λ who h. let before : 0 < times_armed who timers = omega (arith, h, less who) in is.within who before;
}

pub wheel_without : (who : Armer) (timers : List Armed) → IsWheel timers → IsWheel (without_timer who timers)
wheel_without who timers is = wheel_less timers (without_timer who timers) (λ other. times_armed-without other who timers) is

pub wheel_without_due : (tick : ℕ) (timers : List Armed) → IsWheel timers → IsWheel (without_due tick timers)
wheel_without_due tick timers is = wheel_less timers (without_due tick timers) (λ who. times_armed-without_due who tick timers) is

-- and one that is armed besides
pub wheel_last : (timers : List Armed) (timer : Armed) → IsWheel timers → times_armed timer.who timers ≡ 0 → IsArmer timer.who → IsWheel (timers ++ timer ∷ [])
wheel_last timers timer is none known =
    record { once = λ who. once who (is_same timer.who who) refl (times_armed-append who timers (timer ∷ [])); within = λ who h. within who (is_same timer.who who) refl (times_armed-append who timers (timer ∷ [])) h }
  where
    once : (who : Armer) (b : Bool) → is_same timer.who who ≡ b → times_armed who (timers ++ timer ∷ []) ≡ times_armed who timers + (cond b 1 0 + 0) → times_armed who (timers ++ timer ∷ []) ≤ 1
    once who true e h = let before : times_armed who timers ≡ 0 = subst (λ a. times_armed a timers ≡ 0) (same_one timer.who who e) none in omega (arith, h, before)
    once who false e h = omega (arith, h, is.once who)

    within : (who : Armer) (b : Bool) → is_same timer.who who ≡ b → times_armed who (timers ++ timer ∷ []) ≡ times_armed who timers + (cond b 1 0 + 0) → 0 < times_armed who (timers ++ timer ∷ []) → IsArmer who
    within who true e h some = subst IsArmer (same_one timer.who who e) known
    within who false e h some = let before : 0 < times_armed who timers = omega (arith, h, some) in is.within who before

-- The number of an armer, from 2 to 129: those of threads are even, and those of periods odd.
abbrev number_of : Armer → ℕ
number_of (OfThread t) = t + t
number_of (OfPeriod i) = i + i + 1

equal_numbers : (a b : Armer) → is_same a b ≡ (number_of a == number_of b)
equal_numbers (OfThread t) (OfThread u) = grind (arith, nat_tests)
equal_numbers (OfThread t) (OfPeriod j) = grind (arith, nat_tests)
equal_numbers (OfPeriod i) (OfThread u) = grind (arith, nat_tests)
equal_numbers (OfPeriod i) (OfPeriod j) = grind (arith, nat_tests)

abbrev numbers_of : List Armed → List ℕ
numbers_of timers = map (λ (timer : Armed). number_of timer.who) timers

times_number : (who : Armer) (timers : List Armed) → times (number_of who) (numbers_of timers) ≡ times_armed who timers
times_number who [] = refl
times_number who (timer ∷ timers) = rw (equal_numbers timer.who who, times_number who timers) refl

within_range : (who : Armer) → IsArmer who → (2 ≤ number_of who) × (number_of who < 2 + 128)
within_range (OfThread t) h = let low = h.0 in let high = h.1 in (omega (arith, low), omega (arith, high))
within_range (OfPeriod i) h = let low = h.0 in let high = h.1 in (omega (arith, low), omega (arith, high))

-- a number that stands among those of the timers is that of one that is armed
record Owner (n : ℕ) (timers : List Armed) : Type 0 where
  who : Armer
  is : number_of who ≡ n
  armed : 0 < times_armed who timers

owner_of : (n : ℕ) (timers : List Armed) → 0 < times n (numbers_of timers) → Owner n timers
owner_of n [] h = absurd (omega arith)
owner_of n (timer ∷ timers) h = by (number_of timer.who == n) refl h (owner_of n timers) where
  by : (b : Bool) → (number_of timer.who == n) ≡ b → 0 < cond b 1 0 + times n (numbers_of timers) → (0 < times n (numbers_of timers) → Owner n timers) → Owner n (timer ∷ timers)
  by true e h more =
      let same : number_of timer.who ≡ n = grind (arith, nat_tests, e) in
      let here : 0 < times_armed timer.who (timer ∷ timers) = rw (same_self timer.who) (omega arith) in
      record { who = timer.who; is = same; armed = here }
  by false e h more =
      let some : 0 < times n (numbers_of timers) = omega (arith, h) in
      let rest = more some in
      let there = rest.armed in
      let later : 0 < times_armed rest.who (timer ∷ timers) = omega (arith, there) in
      record { who = rest.who; is = rest.is; armed = later }

-- There are no more timers than armers.
pub length_wheel : (timers : List Armed) → IsWheel timers → length timers ≤ 128
length_wheel timers is = rw (length-map, length_range) at (length_by_times (numbers_of timers) (range_with_len 2 128) no_more) where
  by : (n : ℕ) (b : Bool) → (0 == times n (numbers_of timers)) ≡ b → times n (numbers_of timers) ≤ times n (range_with_len 2 128)
  by n true e = let none : times n (numbers_of timers) ≡ 0 = grind (arith, nat_tests, e) in omega (arith, none)
  by n false e =
      let some : 0 < times n (numbers_of timers) = grind (arith, nat_tests, e) in
      let owner = owner_of n timers some in
      let range = within_range owner.who (is.within owner.who owner.armed) in
      let once : times n (numbers_of timers) ≤ 1 = subst (λ m. times m (numbers_of timers) ≤ 1) owner.is (rw (times_number owner.who timers) (is.once owner.who)) in
      let there : times n (range_with_len 2 128) ≡ 1 = subst (λ m. times m (range_with_len 2 128) ≡ 1) owner.is (once_in_range (number_of owner.who) 2 128 range.0 range.1) in
      omega (arith, once, there)

  no_more : (n : ℕ) → times n (numbers_of timers) ≤ times n (range_with_len 2 128)
  no_more n = by n (0 == times n (numbers_of timers)) refl

-- So there is room for one that has none.
pub wheel_room : (timers : List Armed) (timer : Armed) → IsWheel timers → times_armed timer.who timers ≡ 0 → IsArmer timer.who → length timers < 128
wheel_room timers timer is none known =
    let more = length_wheel (timers ++ timer ∷ []) (wheel_last timers timer is none known) in
    let one : length (timers ++ timer ∷ []) ≡ length timers + 1 = rw length-append refl in
    omega (arith, more, one)

-- What a slice of the timers tells of the wheel: that of one stands in it,
pub there : (who : Armer) (slice timers wheel : List Armed) (at : ℕ) → slice ≡ timers → timers ≡ wheel → at ≡ position_or_len (is_timer who) slice → times_armed who wheel ≡ 1 → at < length timers
there who slice timers wheel at e f found one =
    let some : 0 < times_armed who timers = rw f (omega (arith, one)) in
    rw (found, e) (armed_within who timers some)

-- the wheel without it,
pub taken : (who : Armer) (slice timers wheel next : List Armed) (at : ℕ) → slice ≡ timers → timers ≡ wheel → at ≡ position_or_len (is_timer who) slice → IsWheel timers → next ≡ remove timers at → next ≡ without_timer who wheel
taken who slice timers wheel next at e f found is made = rw (made, found, e, removed who timers (is.once who), f) refl

-- when it is due,
pub due_there : (who : Armer) (slice timers wheel : List Armed) (at : ℕ) (d : Armed) → slice ≡ timers → timers ≡ wheel → at ≡ position_or_len (is_timer who) slice → at < length slice → Some (get_or slice at d).due ≡ due_of who wheel
due_there who slice timers wheel at d e f found within =
    let first : position_or_len (is_timer who) slice < length slice = rw found at within in
    rw (found, ← f, ← e) (found_within who slice d first).1

pub armed_there : (who : Armer) (slice timers wheel : List Armed) (at : ℕ) → slice ≡ timers → timers ≡ wheel → at ≡ position_or_len (is_timer who) slice → IsWheel timers → at < length slice → times_armed who wheel ≡ 1
armed_there who slice timers wheel at e f found is within =
    let first : position_or_len (is_timer who) slice < length slice = rw found at within in
    let some : 0 < times_armed who slice = (found_within who slice (record { who = who; due = 0 }) first).0 in
    let few : times_armed who slice ≤ 1 = rw e (is.once who) in
    let one : times_armed who slice ≡ 1 = omega (arith, some, few) in
    rw (← f, ← e) one

-- and that it has none.
pub due_nowhere : (who : Armer) (slice timers wheel : List Armed) (at : ℕ) → slice ≡ timers → timers ≡ wheel → at ≡ position_or_len (is_timer who) slice → length slice ≤ at → (times_armed who wheel ≡ 0) × (due_of who wheel ≡ None)
due_nowhere who slice timers wheel at e f found past =
    let behind : length slice ≤ position_or_len (is_timer who) slice = rw found at past in
    rw (← f, ← e) (found_past who slice behind)

-- The same of the first that is due:
pub due_taken : (tick : ℕ) (slice timers wheel next : List Armed) (at : ℕ) → slice ≡ timers → timers ≡ wheel → at ≡ position_or_len (is_due tick) slice → next ≡ remove timers at → next ≡ without_due tick wheel
due_taken tick slice timers wheel next at e f found made = rw (made, found, e, due_removed tick timers, f) refl

pub due_given : (tick : ℕ) (slice timers wheel : List Armed) (at : ℕ) (d : Armed) → slice ≡ timers → timers ≡ wheel → at ≡ position_or_len (is_due tick) slice → at < length timers → d ≡ get_or timers at d → Some d ≡ head_of (due_at tick wheel)
due_given tick slice timers wheel at d e f found within is =
    let first : position_or_len (is_due tick) timers < length timers = rw (found, e) at within in
    let here : Some (get_or timers at d) ≡ head_of (due_at tick timers) = rw (found, e) (due_first tick timers d first) in
    ap (λ (timer : Armed). Some timer) is ∙ subst (λ (all : List Armed). Some (get_or timers at d) ≡ head_of (due_at tick all)) f here

pub none_due : (tick : ℕ) (slice timers wheel : List Armed) (at : ℕ) → slice ≡ timers → timers ≡ wheel → at ≡ position_or_len (is_due tick) slice → length timers ≤ at → (head_of (due_at tick wheel) ≡ None) × (without_due tick wheel ≡ wheel)
none_due tick slice timers wheel at e f found past =
    let behind : length timers ≤ position_or_len (is_due tick) timers = rw (found, e) at past in
    rw (← f) (due_past tick timers behind)

-- a timer of one that has none
pub free : (timers wheel : List Armed) (timer : Armed) (who : Armer) (due : ℕ) → timers ≡ wheel → timer ≡ record { who = who; due = due } → times_armed who wheel ≡ 0 → times_armed timer.who timers ≡ 0
free timers wheel timer who due same is none = rw (same, is) none

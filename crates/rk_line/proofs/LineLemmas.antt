-- The threads of lines, the priorities that they have there, and lines that were changed.
use Rattle.std.proofs.Common.{◌≡◌, ℕ, suc, ◌+◌, ◌<◌, ◌≤◌, List, [], ◌∷◌, ◌++◌, Bool, true, false, cond, not, ◌||◌, ◌==◌, length, arith, refl, sym, ap, ◌∙◌, subst}
use Rattle.std.specs.List.{remove, slice_set}
use Rattle.std.proofs.lemmas.List.{map-append, length-map}
use Rattle.std.proofs.lemmas.Bool.{false≢true}
use Rattle.std.proofs.lemmas.Bool.Decides.{nat_tests}
use Rattle.rk_model.specs.Lists.{has, times}
use Rattle.rk_model.proofs.BooleanLemmas.{equal_test}
use Rattle.rk_model.proofs.CountLemmas.{times-append, times-has, has_times, times_none, length_within}
use Rattle.rk_model.proofs.KeyLemmas.{position_at, position_within, times-without, alone_by, removed}
use Rattle.rk_line.specs.declared.line.Place.{Place}
use Rattle.rk_line.specs.Places.{threads, prio_in, without, with_prio, IsLine}

-- what places are known by
abbrev pub key : Place → ℕ
key place = place.thread

pub threads-append : (xs ys : List Place) → threads (xs ++ ys) ≡ threads xs ++ threads ys
threads-append xs ys = map-append _ xs ys

pub length-threads : (line : List Place) → length (threads line) ≡ length line
length-threads line = length-map line _

same_thread : (b : Bool) (p : ℕ) (place : Place) → (let changed : Place = cond b (record place { prio = p }) place in changed.thread) ≡ place.thread
same_thread true p place = refl
same_thread false p place = refl

pub threads-with_prio : (t p : ℕ) (line : List Place) → threads (with_prio t p line) ≡ threads line
threads-with_prio t p [] = refl
threads-with_prio t p (place ∷ line) = rw (same_thread (place.thread == t) p place) (ap (λ (ys : List ℕ). place.thread ∷ ys) (threads-with_prio t p line))

-- a thread stands no more often in the ready queue without another
pub times-without-le : (u t : ℕ) (line : List Place) → times u (threads (without t line)) ≤ times u (threads line)
times-without-le u t line = by (not (u == t)) (times-without key u t line) where
  by : (b : Bool) → times u (threads (without t line)) ≡ cond b (times u (threads line)) 0 → times u (threads (without t line)) ≤ times u (threads line)
  by true h = omega (arith, h)
  by false h = omega (arith, h)

gone_by : (t : ℕ) (place : Place) (line : List Place) (b : Bool) → (place.thread == t) ≡ b → has (threads line) t ≡ false → has (threads (cond (not b) (place ∷ line) line)) t ≡ false
gone_by t place line true h none = none
gone_by t place line false h none = rw h none

-- the ready queue without a thread hasn't it
pub gone : (t : ℕ) (line : List Place) → has (threads (without t line)) t ≡ false
gone t [] = refl
gone t (place ∷ line) = gone_by t place (without t line) (place.thread == t) refl (gone t line)

still_by : (u t : ℕ) (place : Place) (next line : List Place) (b : Bool) → (place.thread == t) ≡ b → (u == t) ≡ false → has (threads next) u ≡ has (threads line) u → has (threads (cond (not b) (place ∷ next) next)) u ≡ ((place.thread == u) || has (threads line) u)
still_by u t place next line true e h more =
    let other : (place.thread == u) ≡ false = grind (arith, nat_tests, e, h) in
    rw (other, more) refl
still_by u t place next line false e h more = rw more refl

-- and has each other thread as before
pub still : (u t : ℕ) (line : List Place) → (u == t) ≡ false → has (threads (without t line)) u ≡ has (threads line) u
still u t [] h = refl
still u t (place ∷ line) h = still_by u t place (without t line) line (place.thread == t) refl h (still u t line h)

-- The priority in two lines, one behind the other: that in the first, where it has the thread.
pub prio_in-append : (xs ys : List Place) (t : ℕ) → prio_in (xs ++ ys) t ≡ cond (has (threads xs) t) (prio_in xs t) (prio_in ys t)
prio_in-append [] ys t = refl
prio_in-append (x ∷ xs) ys t = grind (arith, nat_tests, prio_in-append xs ys t)

-- The priority of a thread is that of its place, where it stands in no place before.
pub prio_there : (front : List Place) (place : Place) (back : List Place) → times place.thread (threads front) ≡ 0 → prio_in (front ++ place ∷ back) place.thread ≡ place.prio
prio_there [] place back h = grind (arith, nat_tests)
prio_there (other ∷ front) place back h = grind (arith, nat_tests, h, prio_there front place back)

-- how often a thread stands in a ready queue of two parts, and one place between them
pub times_split : (t : ℕ) (front : List Place) (place : Place) (back : List Place) → times t (threads (front ++ place ∷ back)) ≡ times t (threads front) + (cond (place.thread == t) 1 0 + times t (threads back))
times_split t front place back = ap (times t) (threads-append front (place ∷ back)) ∙ times-append t (threads front) (threads (place ∷ back))

-- In a ready queue a thread's priority is that of its place.
pub prio_place : (front : List Place) (place : Place) (back : List Place) → IsLine (front ++ place ∷ back) → prio_in (front ++ place ∷ back) place.thread ≡ place.prio
prio_place front place back is =
    let split : times place.thread (threads (front ++ place ∷ back)) ≡ times place.thread (threads front) + (1 + times place.thread (threads back)) =
    rw (equal_test place.thread place.thread refl) at (times_split place.thread front place back) in
    prio_there front place back (omega (arith, split, is.once place.thread))

-- another thread keeps its priority where one leaves
pub prio_in-without : (u t : ℕ) (line : List Place) → (u == t) ≡ false → prio_in (without t line) u ≡ prio_in line u
prio_in-without u t [] h = refl
prio_in-without u t (place ∷ line) h = grind (arith, nat_tests, h, prio_in-without u t line)

-- a thread of the ready queue has the priority that it was given
prio_given_by : (t p : ℕ) (place : Place) (line : List Place) (b : Bool) → (place.thread == t) ≡ b → (b || has (threads line) t) ≡ true → (has (threads line) t ≡ true → prio_in line t ≡ p) → prio_in (cond b (record place { prio = p }) place ∷ line) t ≡ p
prio_given_by t p place line true e h more = rw e refl
prio_given_by t p place line false e h more = rw e (more h)

pub prio_given : (t p : ℕ) (line : List Place) → has (threads line) t ≡ true → prio_in (with_prio t p line) t ≡ p
prio_given t p [] h = absurd (false≢true h)
prio_given t p (place ∷ line) h =
    prio_given_by t p place (with_prio t p line) (place.thread == t) refl (rw (threads-with_prio t p line) h) (λ e. prio_given t p line (rw (threads-with_prio t p line) at e))

prio_kept_by : (u t p : ℕ) (place : Place) (next line : List Place) (b : Bool) → (t == u) ≡ false → (place.thread == t) ≡ b → prio_in next u ≡ prio_in line u → prio_in (cond b (record place { prio = p }) place ∷ next) u ≡ prio_in (place ∷ line) u
prio_kept_by u t p place next line true h e more =
    let test : (place.thread == u) ≡ false = grind (arith, nat_tests, h, e) in
    rw (test, more) refl
prio_kept_by u t p place next line false h e more = rw more refl

-- and the others keep theirs
pub prio_kept : (u t p : ℕ) (line : List Place) → (t == u) ≡ false → prio_in (with_prio t p line) u ≡ prio_in line u
prio_kept u t p [] h = refl
prio_kept u t p (place ∷ line) h = prio_kept_by u t p place (with_prio t p line) line (place.thread == t) h refl (prio_kept u t p line h)

-- Lines:

-- a list of places whose threads stand no more often than in a ready queue
pub line_less : (line next : List Place) → ((t : ℕ) → times t (threads next) ≤ times t (threads line)) → IsLine line → IsLine next
line_less line next less is = record {
  once = λ t. omega (arith, less t, is.once t);
  within = λ t h. let stands = times-has t (threads next) h in let before : 0 < times t (threads line) = omega (arith, stands, less t) in is.within t (has_times t (threads line) before);
}

-- and one that has another thread besides
pub line_more : (line next : List Place) (u : ℕ) → ((t : ℕ) → times t (threads next) ≡ cond (u == t) 1 0 + times t (threads line)) → IsLine line → has (threads line) u ≡ false → 1 ≤ u → u ≤ 64 → IsLine next
line_more line next u more is none low high = record { once = λ t. once t (u == t) refl (more t); within = λ t h. within t (u == t) refl (more t) (times-has t (threads next) h) }
  where
    once : (t : ℕ) (b : Bool) → (u == t) ≡ b → times t (threads next) ≡ cond b 1 0 + times t (threads line) → times t (threads next) ≤ 1
    once t true e h = let same : u ≡ t = grind (arith, nat_tests, e) in let no : times t (threads line) ≡ 0 = subst (λ v. times v (threads line) ≡ 0) same (times_none u (threads line) none) in omega (arith, h, no)
    once t false e h = omega (arith, h, is.once t)

    within : (t : ℕ) (b : Bool) → (u == t) ≡ b → times t (threads next) ≡ cond b 1 0 + times t (threads line) → 0 < times t (threads next) → (1 ≤ t) × (t ≤ 64)
    within t true e h stands = let same : u ≡ t = grind (arith, nat_tests, e) in subst (λ v. (1 ≤ v) × (v ≤ 64)) same (low, high)
    within t false e h stands = let before : 0 < times t (threads line) = omega (arith, h, stands) in is.within t (has_times t (threads line) before)

pub line_empty : IsLine []
line_empty = record { once = λ t. omega arith; within = λ t h. absurd (false≢true h) }

pub line_first : (line : List Place) (place : Place) → IsLine line → has (threads line) place.thread ≡ false → 1 ≤ place.thread → place.thread ≤ 64 → IsLine (place ∷ line)
line_first line place is none low high = line_more line (place ∷ line) place.thread (λ t. refl) is none low high

pub line_last : (line : List Place) (place : Place) → IsLine line → has (threads line) place.thread ≡ false → 1 ≤ place.thread → place.thread ≤ 64 → IsLine (line ++ place ∷ [])
line_last line place is none low high = line_more line (line ++ place ∷ []) place.thread (λ t. omega (arith, times_split t line place [])) is none low high

pub line_without : (t : ℕ) (line : List Place) → IsLine line → IsLine (without t line)
line_without t line is = line_less line (without t line) (λ u. times-without-le u t line) is

pub line_with_prio : (t p : ℕ) (line : List Place) → IsLine line → IsLine (with_prio t p line)
line_with_prio t p line is = line_less line (with_prio t p line) (λ u. rw (threads-with_prio t p line) (omega arith)) is

-- A ready queue has at most 64 places,
pub line_few : (line : List Place) → IsLine line → length line ≤ 64
line_few line is = rw length-threads at (length_within 64 (threads line) is.once is.within)

-- and fewer where a thread isn't in it.
pub line_room : (line : List Place) (t : ℕ) → IsLine line → has (threads line) t ≡ false → 1 ≤ t → t ≤ 64 → length line < 64
line_room line t is none low high =
    let place : Place = record { thread = t; prio = 0 } in
    let few : length (place ∷ line) ≤ 64 = line_few (place ∷ line) (line_first line place is none low high) in
    omega (arith, few)

-- Where a thread is not in the ready queue, changing it does nothing.
pub with_prio_none : (t p : ℕ) (line : List Place) → has (threads line) t ≡ false → with_prio t p line ≡ line
with_prio_none t p [] h = refl
with_prio_none t p (place ∷ line) h = with_prio_by t p place line (place.thread == t) refl h (with_prio_none t p line) where
  with_prio_by : (t p : ℕ) (place : Place) (line : List Place) (b : Bool) → (place.thread == t) ≡ b → (b || has (threads line) t) ≡ false → (has (threads line) t ≡ false → with_prio t p line ≡ line) → cond b (record place { prio = p }) place ∷ with_prio t p line ≡ place ∷ line
  with_prio_by t p place line true e h more = absurd (false≢true (sym h))
  with_prio_by t p place line false e h more = ap (λ (rest : List Place). place ∷ rest) (more h)

-- where it stands once, it is taken out at that place, and changed there
pub changed : (t p : ℕ) (line : List Place) → times t (threads line) ≤ 1 → slice_set line (position_at key t line) (record { thread = t; prio = p }) ≡ with_prio t p line
changed t p [] once = refl
changed t p (place ∷ line) once = changed_by t p place line (place.thread == t) refl once (λ few. changed t p line few) where
  changed_by : (t p : ℕ) (place : Place) (line : List Place) (b : Bool) → (place.thread == t) ≡ b → times t (threads (place ∷ line)) ≤ 1 → (times t (threads line) ≤ 1 → slice_set line (position_at key t line) (record { thread = t; prio = p }) ≡ with_prio t p line) → slice_set (place ∷ line) (cond (not b) (1 + position_at key t line) 0) (record { thread = t; prio = p }) ≡ cond b (record place { prio = p }) place ∷ with_prio t p line
  changed_by t p place line true e once more =
      let same : place.thread ≡ t = grind (arith, nat_tests, e) in
      rw (with_prio_none t p line (alone_by key t place line once e)) (ap (λ u. (let put : Place = record { thread = u; prio = p } in put) ∷ line) (sym same))
  changed_by t p place line false e once more =
      let few : times t (threads line) ≤ 1 = omega (arith, once) in
      let step : 1 + position_at key t line ≡ suc (position_at key t line) = omega arith in
      rw step (ap (λ (rest : List Place). place ∷ rest) (more few))

-- a place of a thread that is in no place
pub free : (places line : List Place) (place : Place) (t p : ℕ) → places ≡ line → place ≡ record { thread = t; prio = p } → has (threads line) t ≡ false → has (threads places) place.thread ≡ false
free places line place t p same is none = rw (same, is) none

-- what a slice of the places tells of the ready queue: where a thread stands, the ready queue without it, and with its other priority
pub there : (t : ℕ) (slice places line : List Place) (at : ℕ) → slice ≡ places → places ≡ line → at ≡ position_at key t slice → has (threads line) t ≡ true → at < length places
there t slice places line at e f found is = rw (found, e, f) (position_within key t line is)

pub taken : (t : ℕ) (slice places line next : List Place) (at : ℕ) → slice ≡ places → places ≡ line → at ≡ position_at key t slice → IsLine places → next ≡ remove places at → next ≡ without t line
taken t slice places line next at e f found is made = rw (made, found, e, removed key t places (is.once t), f) refl

pub reset : (t p : ℕ) (slice places line next : List Place) (at : ℕ) → slice ≡ places → places ≡ line → at ≡ position_at key t slice → IsLine places → next ≡ slice_set places at (record { thread = t; prio = p }) → next ≡ with_prio t p line
reset t p slice places line next at e f found is made = rw (made, found, e, changed t p places (is.once t), f) refl

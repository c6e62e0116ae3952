-- What the changes of one thread after another do to a ready queue.
use Rattle.std.proofs.Common.{◌≡◌, ◌≢◌, ℕ, zero, suc, ◌+◌, ◌-◌, ◌<◌, ◌≤◌, List, [], ◌∷◌, ◌++◌, Bool, true, false, cond, not, ◌||◌, ◌==◌, ◌⊎◌, inl, inr, ⊎_elim, Option, Some, None, length, replicate, get_or, arith, refl, ap, sym, ◌∙◌, append_assoc, add-one}
use Rattle.std.proofs.lemmas.List.{get_or_past, append-nil, get_or_default, get_or-replicate, length-replicate, get_or-set_same, get_or-set_other}
use Rattle.std.proofs.lemmas.Bool.{cases_lt, cases_eq, false≢true}
use Rattle.std.proofs.lemmas.Bool.Decides.{nat_tests}
use Rattle.std.proofs.lemmas.Nat.Bits.{bit_at-zero}
use Rattle.std.specs.Int.{bit_at}
use Rattle.std.specs.List.{slice_set}
use Rattle.rk_model.specs.Lists.{has}
use Rattle.rk_line.specs.declared.line.Place.{Place}
use Rattle.rk_line.specs.Places.{threads, without, with_prio}
use Rattle.rk_model.proofs.BooleanLemmas.{same_number}
use Rattle.rk_model.proofs.CountLemmas.{has-append}
use Rattle.rk_line.proofs.LineLemmas.{threads-append}
use Rattle.rk_cluster.specs.declared.moves.Change.{Change}
use Rattle.rk_cluster.specs.declared.moves.Change.TheVariants.{Leave, ToEnd, ToFront, Stay}
use Rattle.rk_cluster.specs.Registers.{change_at, no_changes, front_place, end_place, kept_place, kept_places, fronts_from, ends_from, fronts, ends, moved}
use Rattle.rk_cluster.specs.Passes.{alone, changed_but_end, changed_but_ends_from, IsOut, EndsAreOut, AreMarked}

-- a thread whose change keeps no place is taken out
pub kept_out : (t : ℕ) (change : Option Change) (line : List Place) → ((place : Place) → kept_place place change ≡ []) → kept_places (alone t change) line ≡ without t line
kept_out t change [] out = refl
kept_out t change (place ∷ line) out = by t change place line (place.thread == t) out (kept_out t change line out) where
  by : (t : ℕ) (change : Option Change) (place : Place) (line : List Place) (b : Bool) → ((place : Place) → kept_place place change ≡ []) → kept_places (alone t change) line ≡ without t line →
      kept_place place (cond b change None) ++ kept_places (alone t change) line ≡ cond (not b) (place ∷ without t line) (without t line)
  by t change place line true out more = rw (out place, more) refl
  by t change place line false out more = ap (λ (rest : List Place). place ∷ rest) more

-- a thread that stays has the new priority
pub kept_stay : (t prio : ℕ) (line : List Place) → kept_places (alone t (Some (Stay prio))) line ≡ with_prio t prio line
kept_stay t prio [] = refl
kept_stay t prio (place ∷ line) = by t prio place line (place.thread == t) (kept_stay t prio line) where
  by : (t prio : ℕ) (place : Place) (line : List Place) (b : Bool) → kept_places (alone t (Some (Stay prio))) line ≡ with_prio t prio line →
      kept_place place (cond b (Some (Stay prio)) None) ++ kept_places (alone t (Some (Stay prio))) line ≡ cond b (record place { prio = prio }) place ∷ with_prio t prio line
  by t prio place line true more = ap (λ (rest : List Place). (record place { prio = prio }) ∷ rest) more
  by t prio place line false more = ap (λ (rest : List Place). place ∷ rest) more

-- where no thread of a ready queue has a change, it stays as it is
pub kept_all : (f : ℕ → Option Change) (line : List Place) → ((t : ℕ) → has (threads line) t ≡ true → f t ≡ None) → kept_places f line ≡ line
kept_all f [] none = refl
kept_all f (place ∷ line) none =
    let here : f place.thread ≡ None = none place.thread (found place.thread (threads line)) in
    rw (here, kept_all f line (λ t h. none t (later place.thread t (threads line) h))) refl where
      found : (t : ℕ) (us : List ℕ) → ((t == t) || has us t) ≡ true
      found t us = grind (arith, nat_tests)

      later : (u t : ℕ) (us : List ℕ) → has us t ≡ true → ((u == t) || has us t) ≡ true
      later u t us h = grind (arith, nat_tests, h)

alone_none : (t u : ℕ) → alone t None u ≡ None
alone_none t u = by (u == t) where
  by : (b : Bool) → ◌≡◌ {A = Option Change} (cond b None None) None
  by true = refl
  by false = refl

pub kept_none : (t : ℕ) (line : List Place) → kept_places (alone t None) line ≡ line
kept_none t line = kept_all (alone t None) line (λ u h. alone_none t u)

pub kept-append : (f : ℕ → Option Change) (a b : List Place) → kept_places f (a ++ b) ≡ kept_places f a ++ kept_places f b
kept-append f [] b = refl
kept-append f (place ∷ a) b = rw (kept-append f a b, append_assoc) refl

-- what is kept by two registers one after the other is kept by one that has the changes of both, where no thread has two
abbrev pub Joins : (ℕ → Option Change) → (ℕ → Option Change) → (ℕ → Option Change) → Type 0
Joins f g h = (t : ℕ) → ((f t ≡ None) × (h t ≡ g t)) ⊎ ((g t ≡ None) × (h t ≡ f t))

kept_then : (g : ℕ → Option Change) (place : Place) (change : Option Change) → g place.thread ≡ None → kept_places g (kept_place place change) ≡ kept_place place change
kept_then g place None none = rw none refl
kept_then g place (Some Leave) none = refl
kept_then g place (Some (ToEnd p)) none = refl
kept_then g place (Some (ToFront p)) none = refl
kept_then g place (Some (Stay p)) none = rw none refl

kept_place_twice : (f g h : ℕ → Option Change) (place : Place) → Joins f g h → kept_places g (kept_place place (f place.thread)) ≡ kept_place place (h place.thread)
kept_place_twice f g h place joins =
    ⊎_elim
    (λ e. rw (e.0, e.1, append-nil) refl)
    (λ e. kept_then g place (f place.thread) e.0 ∙ ap (kept_place place) (sym e.1))
    (joins place.thread)

pub kept_twice : (f g h : ℕ → Option Change) (line : List Place) → Joins f g h → kept_places g (kept_places f line) ≡ kept_places h line
kept_twice f g h [] joins = refl
kept_twice f g h (place ∷ line) joins =
    kept-append g (kept_place place (f place.thread)) (kept_places f line) ∙ (rw (kept_place_twice f g h place joins, kept_twice f g h line joins) refl)

kept-same : (f g : ℕ → Option Change) (line : List Place) → ((t : ℕ) → f t ≡ g t) → kept_places f line ≡ kept_places g line
kept-same f g line same = let e : f ≡ g = λ i t. same t i in ap (λ (h : ℕ → Option Change). kept_places h line) e

has_threads-append : (a b : List Place) (t : ℕ) → has (threads (a ++ b)) t ≡ (has (threads a) t || has (threads b) t)
has_threads-append a b t = rw threads-append (has-append (threads a) (threads b) t)

-- a thread with a lesser index isn't at the front of the greater ones
front_above : (t u : ℕ) (change : Option Change) → t < u → has (threads (front_place u change)) t ≡ false
front_above t u None h = refl
front_above t u (Some Leave) h = refl
front_above t u (Some (ToEnd p)) h = refl
front_above t u (Some (ToFront p)) h = grind (arith, nat_tests, h)
front_above t u (Some (Stay p)) h = refl

fronts_above : (changes : ℕ → Option Change) (t a n : ℕ) → t < a → has (threads (fronts_from changes a n)) t ≡ false
fronts_above changes t a zero h = refl
fronts_above changes t a (suc n) h =
    let more = fronts_above changes t (a + 1) n (omega arith) in
    has_threads-append (front_place a (changes a)) (fronts_from changes (a + 1) n) t ∙ (rw (front_above t a (changes a) h, more) refl)

-- where a thread isn't in a ready queue, its change alone does nothing to it
alone_absent : (t : ℕ) (change : Option Change) (line : List Place) → has (threads line) t ≡ false → kept_places (alone t change) line ≡ line
alone_absent t change line absent = kept_all (alone t change) line (λ u h. by u (u == t) refl h) where
  by : (u : ℕ) (b : Bool) → (u == t) ≡ b → has (threads line) u ≡ true → cond b change None ≡ None
  by u true is h = let e = same_number u t is in absurd (false≢true (sym absent ∙ (rw e at h)))
  by u false is h = refl

-- the register of the changes of n threads, from a on
abbrev gathered : (ℕ → Option Change) → ℕ → ℕ → ℕ → Option Change
gathered changes a zero t = None
gathered changes a (suc n) t = cond (t == a) (changes a) (gathered changes (a + 1) n t)

gathered_below : (changes : ℕ → Option Change) (t a n : ℕ) → t < a → gathered changes a n t ≡ None
gathered_below changes t a zero h = refl
gathered_below changes t a (suc n) h =
    let no : (t == a) ≡ false = grind (arith, nat_tests, h) in
    rw no (gathered_below changes t (a + 1) n (omega arith))

gathered_above : (changes : ℕ → Option Change) (t a n : ℕ) → a + n ≤ t → gathered changes a n t ≡ None
gathered_above changes t a zero h = refl
gathered_above changes t a (suc n) h =
    let no : (t == a) ≡ false = grind (arith, nat_tests, h) in
    rw no (gathered_above changes t (a + 1) n (omega arith))

gathered_within : (changes : ℕ → Option Change) (t a n : ℕ) → a ≤ t → t < a + n → gathered changes a n t ≡ changes t
gathered_within changes t a zero low high = absurd (omega arith)
gathered_within changes t a (suc n) low high = by (t == a) refl (λ more. gathered_within changes t (a + 1) n more (omega arith)) where
  by : (b : Bool) → (t == a) ≡ b → (a + 1 ≤ t → gathered changes (a + 1) n t ≡ changes t) → cond b (changes a) (gathered changes (a + 1) n t) ≡ changes t
  by true is later = ap changes (sym (same_number t a is))
  by false is later = later (grind (arith, nat_tests, is, low))

joins_one : (changes : ℕ → Option Change) (a n : ℕ) → Joins (gathered changes (a + 1) n) (alone a (changes a)) (gathered changes a (suc n))
joins_one changes a n t = by (t == a) refl where
  by : (b : Bool) → (t == a) ≡ b → ((gathered changes (a + 1) n t ≡ None) × (cond b (changes a) (gathered changes (a + 1) n t) ≡ cond b (changes a) None)) ⊎ ((cond b (changes a) None ≡ None) × (cond b (changes a) (gathered changes (a + 1) n t) ≡ gathered changes (a + 1) n t))
  by true is = let e = same_number t a is in inl (gathered_below changes t (a + 1) n (omega arith), refl)
  by false is = inr (refl, refl)

-- after the changes of n threads: those that go to the front, and what is kept
changed_from : (changes : ℕ → Option Change) (a n : ℕ) (line : List Place) → changed_but_ends_from changes a n line ≡ fronts_from changes a n ++ kept_places (gathered changes a n) line
changed_from changes a zero line = sym (kept_all (gathered changes a zero) line (λ t h. refl))
changed_from changes a (suc n) line =
    let front = fronts_from changes (a + 1) n in
    let kept = kept_places (gathered changes (a + 1) n) line in
    let one = alone a (changes a) in
    let absent = fronts_above changes a (a + 1) n (omega arith) in
    let same = alone_absent a (changes a) front absent in
    let twice = kept_twice (gathered changes (a + 1) n) one (gathered changes a (suc n)) line (joins_one changes a n) in
    let rest : kept_places one (front ++ kept) ≡ front ++ kept_places (gathered changes a (suc n)) line = kept-append one front kept ∙ (rw (same, twice) refl) in
    ap (changed_but_end a (changes a)) (changed_from changes (a + 1) n line) ∙ (rw rest (sym (append_assoc (front_place a (changes a)) front (kept_places (gathered changes a (suc n)) line))))

-- the changes of all threads are all changes
all_gathered : (changes : List (Option Change)) (n t : ℕ) → length changes ≡ n → gathered (change_at changes) 1 n t ≡ change_at changes t
all_gathered changes n zero size = gathered_below (change_at changes) zero 1 n (omega arith)
all_gathered changes n (suc i) size =
    ⊎_elim
    (λ h. gathered_within (change_at changes) (suc i) 1 n (omega arith) (omega arith))
    (λ h. gathered_above (change_at changes) (suc i) 1 n (omega arith) ∙ sym (get_or_past changes i None (omega arith)))
    (cases_lt i n)

changed_whole : (changes : List (Option Change)) (n : ℕ) (line : List Place) → length changes ≡ n → changed_but_ends_from (change_at changes) 1 n line ≡ fronts_from (change_at changes) 1 n ++ kept_places (change_at changes) line
changed_whole changes n line size =
    changed_from (change_at changes) 1 n line ∙ ap (λ (kept : List Place). fronts_from (change_at changes) 1 n ++ kept) (kept-same (gathered (change_at changes) 1 n) (change_at changes) line (λ t. all_gathered changes n t size))

whole_fronts : (changes : ℕ → Option Change) (n : ℕ) → n ≡ 64 → fronts_from changes 1 n ≡ fronts changes
unfolding fronts
whole_fronts changes n e = ap (fronts_from changes 1) e

-- threads without a change are passed over
skipped : (f : ℕ → Option Change) (a m n : ℕ) (line : List Place) → ((t : ℕ) → a ≤ t → t < a + m → f t ≡ None) → changed_but_ends_from f a (m + n) line ≡ changed_but_ends_from f (a + m) n line
skipped f a zero n line none =
    let e : a + 0 ≡ a = omega arith in
    let z : 0 + n ≡ n = omega arith in
    rw (e, z) refl
skipped f a (suc m) n line none =
    let here : f a ≡ None = none a (omega arith) (omega arith) in
    let e : suc m + n ≡ suc (m + n) = omega arith in
    let g : a + suc m ≡ a + 1 + m = omega arith in
    let more = skipped f (a + 1) m n line (λ t low high. none t (omega (arith, low)) (omega (arith, high))) in
    rw (e, g) (ap (λ (change : Option Change). changed_but_end a change (changed_but_ends_from f (a + 1) (m + n) line)) here ∙ kept_none a (changed_but_ends_from f (a + 1) (m + n) line) ∙ more)

-- what a loop over the marks, the greatest first, keeps: those from done on are done, and the others are left
pub record IsFalling (marks rest done : ℕ) (changes : List (Option Change)) (line0 line : List Place) : Type 0 where
  pub within : done ≤ 64
  pub left : (i : ℕ) → i < done → bit_at rest i ≡ bit_at marks i
  pub over : (i : ℕ) → done ≤ i → i < 64 → bit_at rest i ≡ 0
  pub told : line ≡ changed_but_ends_from (change_at changes) (done + 1) (64 - done) line0

-- between the marks no thread has a change
unmarked : (marks rest a b : ℕ) (changes : List (Option Change)) → b ≤ 64 → AreMarked marks changes → ((i : ℕ) → a ≤ i → i < b → bit_at rest i ≡ bit_at marks i) → ((i : ℕ) → a ≤ i → i < b → bit_at rest i ≡ 0) →
    (t : ℕ) → a + 1 ≤ t → t < b + 1 → change_at changes t ≡ None
unmarked marks rest a b changes few marked same none zero low high = absurd (omega (arith, low))
unmarked marks rest a b changes few marked same none (suc i) low high = marked i (omega (arith, few, high)) (sym (same i (omega (arith, low)) (omega (arith, high))) ∙ none i (omega (arith, low)) (omega (arith, high)))

falls_over : (marks rest done a : ℕ) (changes : List (Option Change)) (line0 line : List Place) → AreMarked marks changes → IsFalling marks rest done changes line0 line → a ≤ done → ((i : ℕ) → a ≤ i → bit_at rest i ≡ 0) →
    line ≡ changed_but_ends_from (change_at changes) (a + 1) (64 - a) line0
falls_over marks rest done a changes line0 line marked is low none =
    let within = is.within in
    let e : 64 - a ≡ (done - a) + (64 - done) = omega (arith, within, low) in
    let g : a + 1 + (done - a) ≡ done + 1 = omega (arith, low) in
    let over = skipped (change_at changes) (a + 1) (done - a) (64 - done) line0 (λ t l h. unmarked marks rest a done changes within marked (λ i p q. is.left i q) (λ i p q. none i p) t l (omega (arith, h, low))) in
    rw e (is.told ∙ (rw g at (sym over)))

-- the greatest mark is below what is done
falling_below : (marks rest done at : ℕ) (changes : List (Option Change)) (line0 line : List Place) → IsFalling marks rest done changes line0 line → at < 64 → bit_at rest at ≡ 1 → at < done
falling_below marks rest done at changes line0 line is within there =
    ⊎_elim (λ h. h) (λ h. let none = is.over at h within in absurd (omega (arith, there, none))) (cases_lt at done)

-- the change of the place that is read
pub read_change : (changes : List (Option Change)) (at : ℕ) (change : Option Change) → at < length changes → change ≡ get_or changes at change → change ≡ change_at changes (at + 1)
read_change changes at change h is = rw add-one (is ∙ get_or_default changes at change None h)

pub fall_on : (marks rest rest' done at t : ℕ) (changes : List (Option Change)) (change : Option Change) (line0 line line' : List Place) → AreMarked marks changes → IsFalling marks rest done changes line0 line →
    length changes ≡ 64 → at < 64 → bit_at rest at ≡ 1 → ((i : ℕ) → at < i → bit_at rest i ≡ 0) → bit_at rest' at ≡ 0 → ((i : ℕ) → i < 64 → i ≢ at → bit_at rest' i ≡ bit_at rest i) →
    t ≡ at + 1 → change ≡ get_or changes at change → line' ≡ changed_but_end t change line →
    IsFalling marks rest' at changes line0 line' × (at < done)
fall_on marks rest rest' done at t changes change line0 line line' marked is size few there none gone others e read next =
    let below = falling_below marks rest done at changes line0 line is few there in
    let over = falls_over marks rest done (at + 1) changes line0 line marked is (omega (arith, below)) (λ i h. none i (omega (arith, h))) in
    let n : 64 - at ≡ suc (64 - (at + 1)) = omega (arith, few) in
    let c = read_change changes at change (omega (arith, size, few)) read in (
      record {
        within = omega (arith, few);
        left = λ i h. others i (omega (arith, h, few)) (λ q. omega (arith, q, h)) ∙ is.left i (omega (arith, h, below));
        over = λ i h high. ⊎_elim (λ more. others i high (λ q. omega (arith, q, more)) ∙ none i more) (λ same. let q : i ≡ at = omega (arith, same, h) in rw q gone) (cases_lt at i);
        told = rw n (next ∙ (rw (e, c) (ap (changed_but_end (at + 1) (change_at changes (at + 1))) over)));
      },
      below,
    )

pub falling : (marks : ℕ) (changes : List (Option Change)) (line : List Place) → IsFalling marks marks 64 changes line line
falling marks changes line = record {
  within = omega arith;
  left = λ i h. refl;
  over = λ i low high. absurd (omega (arith, low, high));
  told = refl;
}

pub fallen : (marks rest done : ℕ) (changes : List (Option Change)) (line0 line : List Place) → length changes ≡ 64 → AreMarked marks changes → IsFalling marks rest done changes line0 line → rest ≡ 0 →
    line ≡ fronts (change_at changes) ++ kept_places (change_at changes) line0
unfolding fronts
fallen marks rest done changes line0 line size marked is none =
    falls_over marks rest done 0 changes line0 line marked is (omega arith) (λ i h. rw none (bit_at-zero i)) ∙ changed_whole changes 64 line0 size

-- a thread that goes to the end doesn't go to the front
front_out : (t p u : ℕ) (changes : ℕ → Option Change) (change : Option Change) → changes t ≡ Some (ToEnd p) → changes u ≡ change → has (threads (front_place u change)) t ≡ false
front_out t p u changes None e is = refl
front_out t p u changes (Some Leave) e is = refl
front_out t p u changes (Some (ToEnd q)) e is = refl
front_out t p u changes (Some (ToFront q)) e is = by (u == t) refl where
  by : (b : Bool) → (u == t) ≡ b → (b || false) ≡ false
  by true same = let w = same_number u t same in let h : changes u ≡ Some (ToEnd p) = rw w e in cc
  by false same = refl
front_out t p u changes (Some (Stay q)) e is = refl

fronts_out : (changes : ℕ → Option Change) (t p a n : ℕ) → changes t ≡ Some (ToEnd p) → has (threads (fronts_from changes a n)) t ≡ false
fronts_out changes t p a zero e = refl
fronts_out changes t p a (suc n) e =
    has_threads-append (front_place a (changes a)) (fronts_from changes (a + 1) n) t ∙ (rw (front_out t p a changes (changes a) e refl, fronts_out changes t p (a + 1) n e) refl)

-- nor is it kept
place_out : (t p : ℕ) (place : Place) (changes : ℕ → Option Change) (change : Option Change) → changes t ≡ Some (ToEnd p) → changes place.thread ≡ change → has (threads (kept_place place change)) t ≡ false
place_out t p place changes change e is = by change is where
  other : (b : Bool) → (place.thread == t) ≡ b → (changes place.thread ≡ Some (ToEnd p) → ⊥) → (b || false) ≡ false
  other true same never = let w = same_number place.thread t same in absurd (never (rw w e))
  other false same never = refl

  by : (change : Option Change) → changes place.thread ≡ change → has (threads (kept_place place change)) t ≡ false
  by None is = other (place.thread == t) refl (λ h. let wrong : ⊥ = cc in wrong)
  by (Some Leave) is = refl
  by (Some (ToEnd q)) is = refl
  by (Some (ToFront q)) is = refl
  by (Some (Stay q)) is = other (place.thread == t) refl (λ h. let wrong : ⊥ = cc in wrong)

kept_without_ends : (changes : ℕ → Option Change) (t p : ℕ) (line : List Place) → changes t ≡ Some (ToEnd p) → has (threads (kept_places changes line)) t ≡ false
kept_without_ends changes t p [] e = refl
kept_without_ends changes t p (place ∷ line) e =
    has_threads-append (kept_place place (changes place.thread)) (kept_places changes line) t ∙ (rw (place_out t p place changes (changes place.thread) e refl, kept_without_ends changes t p line e) refl)

-- of what goes to the front and what is kept, nothing goes to the end
pub ends_out : (changes : ℕ → Option Change) (line : List Place) → EndsAreOut changes (fronts changes ++ kept_places changes line)
unfolding fronts
ends_out changes line t p e =
    has_threads-append (fronts_from changes 1 64) (kept_places changes line) t ∙ (rw (fronts_out changes t p 1 64 e, kept_without_ends changes t p line e) refl)

pub ends_begin : (changes : ℕ → Option Change) (line : List Place) → line ++ ends_from changes 1 64 ≡ line ++ ends changes
unfolding ends
ends_begin changes line = refl

-- a thread that is not at the end of the others isn't there with its own change
end_below : (t u : ℕ) (change : Option Change) → u < t → has (threads (end_place u change)) t ≡ false
end_below t u None h = refl
end_below t u (Some Leave) h = refl
end_below t u (Some (ToEnd p)) h = grind (arith, nat_tests, h)
end_below t u (Some (ToFront p)) h = refl
end_below t u (Some (Stay p)) h = refl

-- one thread's place at the end more
pub ends_more : (changes : ℕ → Option Change) (at : ℕ) (line line' whole : List Place) → at < 64 → line' ≡ line ++ end_place (at + 1) (changes (at + 1)) → line ++ ends_from changes (at + 1) (64 - at) ≡ whole → line' ++ ends_from changes (at + 1 + 1) (64 - (at + 1)) ≡ whole
ends_more changes at line line' whole h next told =
    let e : 64 - at ≡ suc (64 - (at + 1)) = omega arith in
    let all : line ++ ends_from changes (at + 1) (suc (64 - (at + 1))) ≡ whole = rw e at told in
    (rw next (append_assoc line (end_place (at + 1) (changes (at + 1))) (ends_from changes (at + 1 + 1) (64 - (at + 1))))) ∙ all

pub still_out : (changes : ℕ → Option Change) (at : ℕ) (line line' : List Place) → line' ≡ line ++ end_place (at + 1) (changes (at + 1)) → ((t p : ℕ) → at < t → changes t ≡ Some (ToEnd p) → has (threads line) t ≡ false) → (t p : ℕ) → at + 1 < t → changes t ≡ Some (ToEnd p) → has (threads line') t ≡ false
still_out changes at line line' next out t p h e =
    rw next (has_threads-append line (end_place (at + 1) (changes (at + 1))) t ∙ (rw (out t p (omega arith) e, end_below t (at + 1) (changes (at + 1)) h) refl))

-- threads without a change have no place at the end
skipped_ends : (f : ℕ → Option Change) (a m n : ℕ) → ((t : ℕ) → a ≤ t → t < a + m → f t ≡ None) → ends_from f a (m + n) ≡ ends_from f (a + m) n
skipped_ends f a zero n none =
    let e : a + 0 ≡ a = omega arith in
    let z : 0 + n ≡ n = omega arith in
    rw (e, z) refl
skipped_ends f a (suc m) n none =
    let here : f a ≡ None = none a (omega arith) (omega arith) in
    let e : suc m + n ≡ suc (m + n) = omega arith in
    let g : a + suc m ≡ a + 1 + m = omega arith in
    let more = skipped_ends f (a + 1) m n (λ t low high. none t (omega (arith, low)) (omega (arith, high))) in
    rw (e, g) (ap (λ (change : Option Change). end_place a change ++ ends_from f (a + 1) (m + n)) here ∙ more)

-- what a loop over the marks, the least first, keeps: those below done are done, and the others are left
pub record IsRising (marks rest done : ℕ) (changes : List (Option Change)) (line0 line : List Place) : Type 0 where
  pub within : done ≤ 64
  pub below : (i : ℕ) → i < done → bit_at rest i ≡ 0
  pub left : (i : ℕ) → done ≤ i → i < 64 → bit_at rest i ≡ bit_at marks i
  pub told : line ++ ends_from (change_at changes) (done + 1) (64 - done) ≡ line0 ++ ends (change_at changes)
  pub out : (t p : ℕ) → done < t → change_at changes t ≡ Some (ToEnd p) → has (threads line) t ≡ false

rises_over : (marks rest done a : ℕ) (changes : List (Option Change)) (line0 line : List Place) → AreMarked marks changes → IsRising marks rest done changes line0 line → done ≤ a → a ≤ 64 → ((i : ℕ) → i < a → bit_at rest i ≡ 0) →
    line ++ ends_from (change_at changes) (a + 1) (64 - a) ≡ line0 ++ ends (change_at changes)
rises_over marks rest done a changes line0 line marked is low few none =
    let within = is.within in
    let e : 64 - done ≡ (a - done) + (64 - a) = omega (arith, low, few) in
    let g : done + 1 + (a - done) ≡ a + 1 = omega (arith, low) in
    let over = skipped_ends (change_at changes) (done + 1) (a - done) (64 - a) (λ t l h. unmarked marks rest done a changes few marked (λ i p q. is.left i p (omega (arith, q, few))) (λ i p q. none i q) t l (omega (arith, h, low))) in
    let told = rw e at is.told in
    ap (λ (xs : List Place). line ++ xs) (rw g at (sym over)) ∙ told

rising_above : (marks rest done at : ℕ) (changes : List (Option Change)) (line0 line : List Place) → IsRising marks rest done changes line0 line → bit_at rest at ≡ 1 → done ≤ at
rising_above marks rest done at changes line0 line is there =
    ⊎_elim (λ h. let none = is.below at h in absurd (omega (arith, there, none))) (λ h. h) (cases_lt at done)

pub rising_out : (marks rest done at t : ℕ) (changes : List (Option Change)) (change : Option Change) (line0 line : List Place) → IsRising marks rest done changes line0 line → length changes ≡ 64 → at < 64 → bit_at rest at ≡ 1 → t ≡ at + 1 → change ≡ get_or changes at change → IsOut t change line
rising_out marks rest done at t changes change line0 line is size few there e read p goes =
    let above = rising_above marks rest done at changes line0 line is there in
    let c = read_change changes at change (omega (arith, size, few)) read in
    rw e (is.out (at + 1) p (omega (arith, above)) (sym c ∙ goes))

pub rise_on : (marks rest rest' done at t : ℕ) (changes : List (Option Change)) (change : Option Change) (line0 line line' : List Place) → AreMarked marks changes → IsRising marks rest done changes line0 line →
    length changes ≡ 64 → at < 64 → bit_at rest at ≡ 1 → ((i : ℕ) → i < at → bit_at rest i ≡ 0) → bit_at rest' at ≡ 0 → ((i : ℕ) → i < 64 → i ≢ at → bit_at rest' i ≡ bit_at rest i) →
    t ≡ at + 1 → change ≡ get_or changes at change → line' ≡ line ++ end_place t change →
    IsRising marks rest' (at + 1) changes line0 line' × (done ≤ at)
rise_on marks rest rest' done at t changes change line0 line line' marked is size few there none gone others e read next =
    let above = rising_above marks rest done at changes line0 line is there in
    let over = rises_over marks rest done at changes line0 line marked is above (omega (arith, few)) none in
    let c = read_change changes at change (omega (arith, size, few)) read in
    let added : line' ≡ line ++ end_place (at + 1) (change_at changes (at + 1)) = rw (e, c) at next in (
      record {
        within = omega (arith, few);
        below = λ i h. ⊎_elim (λ less. others i (omega (arith, less, few)) (λ q. omega (arith, q, less)) ∙ none i less) (λ same. let q : i ≡ at = omega (arith, same, h) in rw q gone) (cases_lt i at);
        left = λ i low high. others i high (λ q. omega (arith, q, low)) ∙ is.left i (omega (arith, low, above)) high;
        told = ends_more (change_at changes) at line line' _ few added over;
        out = still_out (change_at changes) at line line' added (λ t p h g. is.out t p (omega (arith, h, above)) g);
      },
      above,
    )

pub rising : (marks : ℕ) (changes : List (Option Change)) (line : List Place) → EndsAreOut (change_at changes) line → IsRising marks marks 0 changes line line
rising marks changes line out = record {
  within = omega arith;
  below = λ i h. absurd (omega (arith, h));
  left = λ i low high. refl;
  told = ends_begin (change_at changes) line;
  out = λ t p low is. out t p is;
}

pub risen : (marks rest done : ℕ) (changes : List (Option Change)) (line0 line : List Place) → AreMarked marks changes → IsRising marks rest done changes line0 line → rest ≡ 0 → line ≡ line0 ++ ends (change_at changes)
risen marks rest done changes line0 line marked is none =
    sym (append-nil line) ∙ rises_over marks rest done 64 changes line0 line marked is is.within (omega arith) (λ i h. rw none (bit_at-zero i))

-- the register of no changes
free_at : (n i : ℕ) → ◌≡◌ {A = Option Change} (get_or (replicate n None) i None) None
free_at n i = ⊎_elim (λ h. get_or-replicate n i None None h) (λ h. get_or_past (replicate n None) i None (rw length-replicate h)) (cases_lt i n)

no_change_at : (n t : ℕ) → change_at (replicate n None) t ≡ None
no_change_at n zero = refl
no_change_at n (suc i) = free_at n i

pub all_free : (n : ℕ) (changes : List (Option Change)) → changes ≡ replicate n None → change_at changes ≡ no_changes
all_free n changes e = let free : change_at (replicate n None) ≡ no_changes = λ i t. no_change_at n t i in rw e free

-- no place is marked
pub all_unmarked : (marks : ℕ) (changes : List (Option Change)) → length changes ≡ 64 → AreMarked marks changes → marks ≡ 0 → change_at changes ≡ no_changes
all_unmarked marks changes size marked none = λ i t. at t i where
  at : (t : ℕ) → change_at changes t ≡ None
  at zero = refl
  at (suc i) = ⊎_elim (λ h. marked i h (rw none (bit_at-zero i))) (λ h. get_or_past changes i None (omega (arith, size, h))) (cases_lt i 64)

-- at first none is marked
pub unmarked_at_first : (n : ℕ) (changes : List (Option Change)) → changes ≡ replicate n None → AreMarked 0 changes
unmarked_at_first n changes e i h none = rw e (no_change_at n (suc i))

-- a change more, and its mark
pub marked_more : (marks marks' at : ℕ) (changes : List (Option Change)) (change : Option Change) → AreMarked marks changes → bit_at marks' at ≡ 1 → ((i : ℕ) → i ≢ at → bit_at marks' i ≡ bit_at marks i) → AreMarked marks' (slice_set changes at change)
marked_more marks marks' at changes change marked there others i h none =
    let other : i ≢ at = λ e. let one : bit_at marks' i ≡ 1 = rw e there in omega (arith, one, none) in
    get_or-set_other changes at i change None other ∙ marked i h (sym (others i other) ∙ none)

-- a change less
pub marked_less : (marks marks' at : ℕ) (changes : List (Option Change)) → at < length changes → AreMarked marks changes → ((i : ℕ) → i < 64 → i ≢ at → bit_at marks' i ≡ bit_at marks i) → AreMarked marks' (slice_set changes at None)
marked_less marks marks' at changes within marked others i h none =
    ⊎_elim
    (λ e. rw e (get_or-set_same changes at None None within))
    (λ other. get_or-set_other changes at i None None other ∙ marked i h (sym (others i h other) ∙ none))
    (cases_eq i at)

-- an empty register keeps a ready queue
pub moved_none : (changes : ℕ → Option Change) (line : List Place) → changes ≡ no_changes → moved changes line ≡ line
unfolding fronts ends
moved_none changes line none =
    let same : moved no_changes line ≡ line =
    ap (λ (kept : List Place). kept ++ ends_from no_changes 1 64) (kept_all no_changes line (λ t h. refl)) ∙ append-nil line in
    rw none same

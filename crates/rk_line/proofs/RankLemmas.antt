-- The ranks of places: the thread of each is found by how many more urgent ones there are.
use Rattle.std.proofs.Common.{◌≡◌, ℕ, zero, suc, ◌+◌, ◌<◌, ◌≤◌, List, [], ◌∷◌, ◌++◌, Bool, true, false, cond, ◌==◌, ◌||◌, nat_le, nat_lt, Option, Some, None, length, take, drop, get_or, arith, refl, sym, ap, ◌∙◌, append_assoc}
use Rattle.std.specs.List.{slice_get, count_by}
use Rattle.std.proofs.lemmas.List.{take-map, drop-map, get_or-map, drop_more, take_more, drop_all}
use Rattle.std.proofs.lemmas.List.Sums.{sum_by-cons}
use Rattle.std.proofs.lemmas.Option.{slice_get_within}
use Rattle.std.proofs.lemmas.Bool.Decides.{nat_tests}
use Rattle.rk_model.specs.Lists.{has}
use Rattle.rk_model.specs.Scheduling.ReadyQueues.{rank, ranked_from, nth_urgent}
use Rattle.rk_line.specs.declared.line.Place.{Place}
use Rattle.rk_line.specs.Places.{threads, prio_in, prio_at, more_urgent, IsLine}
use Rattle.rk_model.proofs.SortedLineLemmas.{inserted, all_inserted, sorted_line, sort_of}
use Rattle.rk_line.proofs.LineLemmas.{length-threads, prio_place}

-- each place of a list has its thread's key as its priority
abbrev Agree : (ℕ → ℕ) → List Place → Type 0
Agree key [] = Unit {0}
Agree key (place ∷ places) = (key place.thread ≡ place.prio) × Agree key places

agree_from : (front back : List Place) → IsLine (front ++ back) → Agree (prio_in (front ++ back)) back
agree_from front [] is = tt
agree_from front (place ∷ back) is = (prio_place front place back is, rw append_assoc at (agree_from (front ++ place ∷ []) back (rw append_assoc is)))

agree : (line : List Place) → IsLine line → Agree (prio_in line) line
agree line is = agree_from [] line is

agree-take : (key : ℕ → ℕ) (n : ℕ) (places : List Place) → Agree key places → Agree key (take n places)
agree-take key zero places h = tt
agree-take key (suc n) [] h = tt
agree-take key (suc n) (place ∷ places) h = (h.0, agree-take key n places h.1)

agree-drop : (key : ℕ → ℕ) (n : ℕ) (places : List Place) → Agree key places → Agree key (drop n places)
agree-drop key zero places h = h
agree-drop key (suc n) [] h = tt
agree-drop key (suc n) (place ∷ places) h = agree-drop key n places h.1

count_agree : (key : ℕ → ℕ) (test : ℕ → Bool) (places : List Place) → Agree key places → count_by (λ u. test (key u)) (threads places) ≡ count_by (λ (place : Place). test place.prio) places
count_agree key test [] h = refl
count_agree key test (place ∷ places) h =
    sum_by-cons (λ u. cond (test (key u)) 1 0) place.thread (threads places)
    ∙ rw (h.0, count_agree key test places h.1) (sym (sum_by-cons (λ (other : Place). cond (test other.prio) 1 0) place places))

-- what a sorted ready queue has
length-inserted : (key : ℕ → ℕ) (t : ℕ) (us : List ℕ) → length (inserted key t us) ≡ 1 + length us
length-inserted key t [] = refl
length-inserted key t (u ∷ us) = by (nat_lt (key t) (key u)) (length-inserted key t us) where
  by : (b : Bool) → length (inserted key t us) ≡ 1 + length us → length (cond b (t ∷ u ∷ us) (u ∷ inserted key t us)) ≡ 1 + length (u ∷ us)
  by true h = omega arith
  by false h = omega (arith, h)

length-all_inserted : (key : ℕ → ℕ) (done rest : List ℕ) → length (all_inserted key done rest) ≡ length done + length rest
length-all_inserted key done [] = omega arith
length-all_inserted key done (t ∷ ts) = omega (arith, length-all_inserted key (inserted key t done) ts, length-inserted key t done)

pub length-sorted : (key : ℕ → ℕ) (line : List ℕ) → length (sorted_line key line) ≡ length line
length-sorted key line = omega (arith, length-all_inserted key [] line)

get_none : (xs : List ℕ) (n : ℕ) → slice_get xs n ≡ None → length xs ≤ n
get_none [] n h = omega arith
get_none (x ∷ xs) zero h = let no : ⊥ = cc in absurd no
get_none (x ∷ xs) (suc n) h = omega (arith, get_none xs n h)

-- A ready queue has a thread with n more urgent ones exactly where it has more than n threads.
pub nth_within : (key : ℕ → ℕ) (n : ℕ) (line : List ℕ) (t : ℕ) → nth_urgent key n line ≡ Some t → n < length line
nth_within key n line t h = rw length-sorted at (slice_get_within (sorted_line key line) n t (sym ((sort_of key line).found n) ∙ h))

pub nth_past : (key : ℕ → ℕ) (n : ℕ) (line : List ℕ) → nth_urgent key n line ≡ None → length line ≤ n
nth_past key n line h = rw length-sorted at (get_none (sorted_line key line) n (sym ((sort_of key line).found n) ∙ h))

stands_or : (u t : ℕ) (back : List ℕ) (rest : Option ℕ) (b : Bool) → cond b (Some u) rest ≡ Some t → (rest ≡ Some t → has back t ≡ true) → ((u == t) || has back t) ≡ true
stands_or u t back rest true h more = let e : u ≡ t = cc in grind (arith, nat_tests, e)
stands_or u t back rest false h more = let e = more h in grind (arith, nat_tests, e)

stands_from : (key : ℕ → ℕ) (n : ℕ) (front back : List ℕ) (t : ℕ) → ranked_from key n front back ≡ Some t → has back t ≡ true
stands_from key n front [] t h = cc
stands_from key n front (u ∷ back) t h = stands_or u t back (ranked_from key n (front ++ u ∷ []) back) (rank key front u back == n) h (stands_from key n (front ++ u ∷ []) back t)

-- it is in the ready queue
pub nth_stands : (key : ℕ → ℕ) (n : ℕ) (line : List ℕ) (t : ℕ) → nth_urgent key n line ≡ Some t → has line t ≡ true
nth_stands key n line t h = stands_from key n [] line t h

agree_get : (key : ℕ → ℕ) (places : List Place) (at : ℕ) (d : Place) → Agree key places → at < length places → key (get_or places at d).thread ≡ (get_or places at d).prio
agree_get key [] at d h within = absurd (omega arith)
agree_get key (place ∷ places) zero d h within = h.0
agree_get key (place ∷ places) (suc at) d h within = agree_get key places at d h.1 (omega arith)

-- The rank of a thread is how many places are more urgent than its own.
pub rank_at : (line : List Place) (at : ℕ) (d : Place) → IsLine line → at < length line →
    rank (prio_in line) (take at (threads line)) (get_or line at d).thread (drop (at + 1) (threads line)) ≡ more_urgent (take at line) (prio_at line at) (drop (at + 1) line)
rank_at line at d is within =
    let key = prio_in line in
    let p = (get_or line at d).prio in
    let own : key (get_or line at d).thread ≡ p = agree_get key line at d (agree line is) within in
    let asked : prio_at line at ≡ p = get_or-map (λ (place : Place). place.prio) line at d 0 within in
    rw (take-map, drop-map, own, asked)
    (ap (λ a. a + count_by (λ u. nat_lt (key u) p) (threads (drop (at + 1) line))) (count_agree key (λ n. nat_le n p) (take at line) (agree-take key at line (agree line is)))
    ∙ ap (λ b. count_by (λ (place : Place). nat_le place.prio p) (take at line) + b) (count_agree key (λ n. nat_lt n p) (drop (at + 1) line) (agree-drop key (at + 1) line (agree line is))))

-- one place further, in the search for a thread by its rank
pub ranked_step : (line : List Place) (n at : ℕ) (d : Place) → IsLine line → at < length line →
    ranked_from (prio_in line) n (take at (threads line)) (drop at (threads line)) ≡
    cond (more_urgent (take at line) (prio_at line at) (drop (at + 1) line) == n) (Some (get_or line at d).thread) (ranked_from (prio_in line) n (take (at + 1) (threads line)) (drop (at + 1) (threads line)))
ranked_step line n at d is within =
    let short : at < length (threads line) = rw length-threads within in
    let here : get_or (threads line) at d.thread ≡ (get_or line at d).thread = get_or-map (λ (place : Place). place.thread) line at d d.thread within in
    let more = drop_more (threads line) at d.thread short in
    let behind = take_more (threads line) at d.thread short in
    rw (more, behind, here, ← rank_at line at d is within) refl

-- the search over a slice of the places of a ready queue: it ends where the rank is found,
pub ranked_found : (slice places line : List Place) (n at : ℕ) (place : Place) (b : Bool) (x : Option ℕ) → slice ≡ places → places ≡ line → IsLine places → at < length slice → place ≡ get_or slice at place →
    b ≡ (more_urgent (take at slice) (prio_at slice at) (drop (at + 1) slice) == n) → b ≡ true →
    ranked_from (prio_in line) n (take at (threads slice)) (drop at (threads slice)) ≡ x → Some place.thread ≡ x
ranked_found slice places line n at place b x e f is within here test found before =
    let line_is : IsLine slice = rw e is in
    let step = ranked_step slice n at place line_is within in
    let passes : (more_urgent (take at slice) (prio_at slice at) (drop (at + 1) slice) == n) ≡ true = sym test ∙ found in
    ap (λ (p : Place). Some p.thread) here ∙ sym (rw passes at step) ∙ (rw (← f, ← e) at before)

-- and goes on where it isn't.
pub ranked_further : (slice places line : List Place) (n at : ℕ) (place : Place) (b : Bool) (x : Option ℕ) → slice ≡ places → places ≡ line → IsLine places → at < length slice → place ≡ get_or slice at place →
    b ≡ (more_urgent (take at slice) (prio_at slice at) (drop (at + 1) slice) == n) → b ≡ false →
    ranked_from (prio_in line) n (take at (threads slice)) (drop at (threads slice)) ≡ x → ranked_from (prio_in line) n (take (at + 1) (threads slice)) (drop (at + 1) (threads slice)) ≡ x
ranked_further slice places line n at place b x e f is within here test missed before =
    let line_is : IsLine slice = rw e is in
    let step = ranked_step slice n at place line_is within in
    let fails : (more_urgent (take at slice) (prio_at slice at) (drop (at + 1) slice) == n) ≡ false = sym test ∙ missed in
    rw (← f, ← e) (sym (rw fails at step) ∙ (rw (← f, ← e) at before))

-- At its end it has found none, and the ready queue is too short.
pub ranked_past : (slice places line : List Place) (n at : ℕ) → slice ≡ places → places ≡ line → length slice ≤ at → ranked_from (prio_in line) n (take at (threads slice)) (drop at (threads slice)) ≡ nth_urgent (prio_in line) n (threads line) → length line ≤ n
ranked_past slice places line n at e f past before =
    let short : length (threads slice) ≤ at = rw length-threads past in
    let none : nth_urgent (prio_in line) n (threads line) ≡ None = sym before ∙ rw (drop_all at (threads slice) short) refl in
    rw length-threads at (nth_past (prio_in line) n (threads line) none)

-- The threads of a line with fewer than m more urgent ones.
use Rattle.std.proofs.Common.{◌≡◌, ◌≢◌, ℕ, zero, suc, ◌+◌, ◌<◌, ◌≤◌, List, [], ◌∷◌, ◌++◌, Bool, true, false, cond, eqb, nat_lt, ⊎_elim, Option, None, Some, length, length-append, take, arith, refl, sym, ap, ◌∙◌, append_assoc, subst}
use Rattle.std.specs.Option.{option_to_list}
use Rattle.std.proofs.lemmas.List.{append-nil}
use Rattle.std.proofs.lemmas.Bool.{false≢true, cases_lt}
use Rattle.std.proofs.lemmas.Bool.Decides.{nat_tests}
use Rattle.rk_model.specs.Lists.{has, times}
use Rattle.rk_model.specs.Scheduling.ReadyQueues.{rank, ranked_from, nth_urgent, most_urgent}
use Rattle.rk_kernel.specs.SchedulingLaws.{StandsUrgent, RunnersAreTheMostUrgent}
use Rattle.rk_model.proofs.BooleanLemmas.{equal_test, either, or_front, or_back}
use Rattle.rk_model.proofs.AssignmentLemmas.{option_has}
use Rattle.rk_model.proofs.CountLemmas.{has-append}
use Rattle.rk_model.proofs.SortedLineLemmas.{upto-append, under-append, upto-le, under-le, upto-le_under, under-le_upto, rank_counts, inserted, all_inserted, sorted_line, sort_of, most_sorted}

pub none_urgent : (key : ℕ → ℕ) (m : ℕ) → most_urgent key m [] ≡ []
none_urgent key zero = refl
none_urgent key (suc m) = rw (none_urgent key m) refl

-- there are at most m of them
pub most_few : (key : ℕ → ℕ) (m : ℕ) (line : List ℕ) → length (most_urgent key m line) ≤ m
most_few key zero line = omega arith
most_few key (suc m) line = omega (arith, length-append (most_urgent key m line) (option_to_list (nth_urgent key m line)), most_few key m line, one (nth_urgent key m line)) where
  one : (o : Option ℕ) → length (option_to_list o) ≤ 1
  one None = omega arith
  one (Some t) = omega arith

times-take : (t m : ℕ) (us : List ℕ) → times t (take m us) ≤ times t us
times-take t zero us = omega arith
times-take t (suc m) [] = omega arith
times-take t (suc m) (u ∷ us) = omega (arith, times-take t m us)

inserted_by : (key : ℕ → ℕ) (t x u : ℕ) (us : List ℕ) (b : Bool) → times t (inserted key x us) ≡ cond (eqb x t) 1 0 + times t us → times t (cond b (x ∷ u ∷ us) (u ∷ inserted key x us)) ≡ cond (eqb x t) 1 0 + (cond (eqb u t) 1 0 + times t us)
inserted_by key t x u us true h = refl
inserted_by key t x u us false h = omega (arith, h)

times-inserted : (key : ℕ → ℕ) (t x : ℕ) (us : List ℕ) → times t (inserted key x us) ≡ cond (eqb x t) 1 0 + times t us
times-inserted key t x [] = refl
times-inserted key t x (u ∷ us) = inserted_by key t x u us (nat_lt (key x) (key u)) (times-inserted key t x us)

times-all_inserted : (key : ℕ → ℕ) (t : ℕ) (done rest : List ℕ) → times t (all_inserted key done rest) ≡ times t done + times t rest
times-all_inserted key t done [] = omega arith
times-all_inserted key t done (x ∷ xs) = omega (arith, times-all_inserted key t (inserted key x done) xs, times-inserted key t x done)

-- none of them stands more often than in the line
pub times-most_urgent : (key : ℕ → ℕ) (m : ℕ) (line : List ℕ) (t : ℕ) → times t (most_urgent key m line) ≤ times t line
times-most_urgent key m line t =
    rw (most_sorted key m line (sorted_line key line) (sort_of key line)) (omega (arith, times-take t m (sorted_line key line), times-all_inserted key t [] line))

-- a thread of a line and one behind it have other ranks
ranks_differ : (key : ℕ → ℕ) (front : List ℕ) (u : ℕ) (mid : List ℕ) (t : ℕ) (back : List ℕ) → rank key front u (mid ++ t ∷ back) ≢ rank key (front ++ u ∷ mid) t back
ranks_differ key front u mid t back same =
    let p = key t in
    let q = key u in
    let a = rank_counts key front u (mid ++ t ∷ back) in
    let b = rank_counts key (front ++ u ∷ mid) t back in
    let c = under-append key q mid (t ∷ back) in
    let d = upto-append key p front (u ∷ mid) in
    ⊎_elim
    (λ lt. grind (arith, nat_tests, a, b, c, d, same, lt, upto-le key p q front (omega (arith, lt)), upto-le_under key p q mid lt, under-le key p q back (omega (arith, lt))))
    (λ le. grind (arith, nat_tests, a, b, c, d, same, le, upto-le key q p front le, under-le_upto key q p mid le, under-le key q p back le))
    (cases_lt p q)

-- each thread of a line is found by its rank
found_from : (key : ℕ → ℕ) (front mid : List ℕ) (t : ℕ) (back : List ℕ) → ranked_from key (rank key (front ++ mid) t back) front (mid ++ t ∷ back) ≡ Some t
found_from key front [] t back =
    let test : eqb (rank key front t back) (rank key (front ++ []) t back) ≡ true = rw append-nil (equal_test (rank key front t back) (rank key front t back) refl) in
    rw test refl
found_from key front (u ∷ mid) t back =
    let differ = ranks_differ key front u mid t back in
    let test : eqb (rank key front u (mid ++ t ∷ back)) (rank key (front ++ u ∷ mid) t back) ≡ false = grind (arith, nat_tests, differ) in
    rw test (rw append_assoc at (found_from key (front ++ u ∷ []) mid t back))

pub found_by_rank : (key : ℕ → ℕ) (front : List ℕ) (t : ℕ) (back : List ℕ) → nth_urgent key (rank key front t back) (front ++ t ∷ back) ≡ Some t
found_by_rank key front t back = found_from key [] front t back

has_found : (key : ℕ → ℕ) (n m : ℕ) (line : List ℕ) (t : ℕ) → nth_urgent key n line ≡ Some t → n < m → has (most_urgent key m line) t ≡ true
has_found key n zero line t e h = absurd (omega arith)
has_found key n (suc m) line t e h =
    has-append (most_urgent key m line) (option_to_list (nth_urgent key m line)) t ∙
    ⊎_elim
    (λ lt. or_front (has (option_to_list (nth_urgent key m line)) t) (has_found key n m line t e lt))
    (λ le. or_back (has (most_urgent key m line) t) (last (let same : n ≡ m = omega (arith, h, le) in subst (λ j. nth_urgent key j line ≡ Some t) same e)))
    (cases_lt n m)
  where
    last : nth_urgent key m line ≡ Some t → has (option_to_list (nth_urgent key m line)) t ≡ true
    last f = rw f (or_front false (equal_test t t refl))

-- what is found by a rank stands in the line with that rank
record Splits (key : ℕ → ℕ) (n : ℕ) (line : List ℕ) (t : ℕ) : Type 0 where
  front : List ℕ
  back : List ℕ
  place : line ≡ front ++ t ∷ back
  ranked : rank key front t back ≡ n

splits_by : (key : ℕ → ℕ) (n : ℕ) (front : List ℕ) (u : ℕ) (back : List ℕ) (t : ℕ) (b : Bool) → eqb (rank key front u back) n ≡ b → cond b (Some u) (ranked_from key n (front ++ u ∷ []) back) ≡ Some t →
    (ranked_from key n (front ++ u ∷ []) back ≡ Some t → Splits key n ((front ++ u ∷ []) ++ back) t) → Splits key n (front ++ u ∷ back) t
splits_by key n front u back t true e found more =
    let same : u ≡ t = cc in
    let ranked : rank key front u back ≡ n = grind (arith, nat_tests, e) in
    record { front = front; back = back; place = ap (λ v. front ++ v ∷ back) same; ranked = ap (λ v. rank key front v back) (sym same) ∙ ranked }
splits_by key n front u back t false e found more = rw append_assoc at (more found)

splits_from : (key : ℕ → ℕ) (n : ℕ) (front back : List ℕ) (t : ℕ) → ranked_from key n front back ≡ Some t → Splits key n (front ++ back) t
splits_from key n front [] t found = let no : ⊥ = cc in absurd no
splits_from key n front (u ∷ back) t found = splits_by key n front u back t (eqb (rank key front u back) n) refl found (splits_from key n (front ++ u ∷ []) back t)

stands_more : (key : ℕ → ℕ) (m : ℕ) (line : List ℕ) (t : ℕ) → StandsUrgent key m line t → StandsUrgent key (suc m) line t
stands_more key m line t is = record { front = is.front; back = is.back; place = is.place; urgent = omega (arith, is.urgent) }

stands_last : (key : ℕ → ℕ) (m : ℕ) (line : List ℕ) (t : ℕ) → Splits key m line t → StandsUrgent key (suc m) line t
stands_last key m line t is = record { front = is.front; back = is.back; place = is.place; urgent = omega (arith, is.ranked) }

-- they stand in the line with fewer than m more urgent ones
pub has_stands : (key : ℕ → ℕ) (m : ℕ) (line : List ℕ) (t : ℕ) → has (most_urgent key m line) t ≡ true → StandsUrgent key m line t
has_stands key zero line t h = absurd (false≢true h)
has_stands key (suc m) line t h =
    ⊎_elim
    (λ e. stands_more key m line t (has_stands key m line t e))
    (λ e. stands_last key m line t (splits_from key m [] line t (option_has (nth_urgent key m line) t e)))
    (either (has (most_urgent key m line) t) (has (option_to_list (nth_urgent key m line)) t) (rw has-append at h))

-- and each such thread is one of them
pub stands_has : (key : ℕ → ℕ) (m : ℕ) (line : List ℕ) (t : ℕ) → StandsUrgent key m line t → has (most_urgent key m line) t ≡ true
stands_has key m line t is = has_found key (rank key is.front t is.back) m line t (ap (nth_urgent key (rank key is.front t is.back)) is.place ∙ found_by_rank key is.front t is.back) is.urgent

-- The runners are those of the line with fewer more urgent ones than there are processors, in any state.
pub runners_urgent : RunnersAreTheMostUrgent
runners_urgent s xs is legal c t within = (has_stands _ _ _ t, stands_has _ _ _ t)

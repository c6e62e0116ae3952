-- The threads of a line by their rank are the line sorted by urgency.
use Rattle.std.proofs.Common.{◌≡◌, ℕ, zero, suc, ◌+◌, ◌<◌, ◌≤◌, List, [], ◌∷◌, ◌++◌, Bool, true, false, cond, ◌==◌, if◌then◌else◌, nat_le, nat_lt, ◌⊎◌, inl, inr, ⊎_elim, Option, Some, take, arith, refl, ap, sym, ◌∙◌, append_assoc}
use Rattle.std.specs.List.{slice_get, count_by}
use Rattle.std.specs.Option.{option_to_list}
use Rattle.std.proofs.lemmas.List.{append-nil}
use Rattle.std.proofs.lemmas.List.Recursion.{is_count_by}
use Rattle.std.proofs.lemmas.Bool.Decides.{nat_tests}
use Rattle.std.proofs.lemmas.Bool.{cases_lt}
use Rattle.rk_model.specs.Scheduling.ReadyQueues.{rank, ranked_from, nth_urgent, most_urgent}

-- the list with one more thread, behind those that are as urgent as it
abbrev pub inserted : (ℕ → ℕ) → ℕ → List ℕ → List ℕ
inserted key t [] = t ∷ []
inserted key t (u ∷ us) = if nat_lt (key t) (key u) then t ∷ u ∷ us else u ∷ inserted key t us

-- how many threads of a list have a priority or a lesser one
abbrev pub upto : (ℕ → ℕ) → ℕ → List ℕ → ℕ
upto key p [] = 0
upto key p (u ∷ us) = cond (nat_le (key u) p) 1 0 + upto key p us

-- how many have a lesser one
abbrev pub under : (ℕ → ℕ) → ℕ → List ℕ → ℕ
under key p [] = 0
under key p (u ∷ us) = cond (nat_lt (key u) p) 1 0 + under key p us

pub upto-append : (key : ℕ → ℕ) (p : ℕ) (xs ys : List ℕ) → upto key p (xs ++ ys) ≡ upto key p xs + upto key p ys
upto-append key p [] ys = omega arith
upto-append key p (x ∷ xs) ys = omega (arith, upto-append key p xs ys)

pub under-append : (key : ℕ → ℕ) (p : ℕ) (xs ys : List ℕ) → under key p (xs ++ ys) ≡ under key p xs + under key p ys
under-append key p [] ys = omega arith
under-append key p (x ∷ xs) ys = omega (arith, under-append key p xs ys)

pub upto-le : (key : ℕ → ℕ) (p q : ℕ) (xs : List ℕ) → p ≤ q → upto key p xs ≤ upto key q xs
upto-le key p q [] h = omega arith
upto-le key p q (x ∷ xs) h = grind (arith, nat_tests, upto-le key p q xs h)

pub under-le_upto : (key : ℕ → ℕ) (p q : ℕ) (xs : List ℕ) → p ≤ q → under key p xs ≤ upto key q xs
under-le_upto key p q [] h = omega arith
under-le_upto key p q (x ∷ xs) h = grind (arith, nat_tests, under-le_upto key p q xs h)

pub upto-le_under : (key : ℕ → ℕ) (p q : ℕ) (xs : List ℕ) → p < q → upto key p xs ≤ under key q xs
upto-le_under key p q [] h = omega arith
upto-le_under key p q (x ∷ xs) h = grind (arith, nat_tests, upto-le_under key p q xs h)

pub under-le : (key : ℕ → ℕ) (p q : ℕ) (xs : List ℕ) → p ≤ q → under key p xs ≤ under key q xs
under-le key p q [] h = omega arith
under-le key p q (x ∷ xs) h = grind (arith, nat_tests, under-le key p q xs h)

one_more : (b : Bool) (n : ℕ) → cond b 1 0 + n ≡ cond b (1 + n) n
one_more true n = refl
one_more false n = omega arith

upto_counts : (key : ℕ → ℕ) (p : ℕ) (xs : List ℕ) → upto key p xs ≡ count_by (λ u. nat_le (key u) p) xs
upto_counts key p xs = is_count_by (upto key p) (λ u. nat_le (key u) p) refl (λ x us. one_more (nat_le (key x) p) (upto key p us)) xs

under_counts : (key : ℕ → ℕ) (p : ℕ) (xs : List ℕ) → under key p xs ≡ count_by (λ u. nat_lt (key u) p) xs
under_counts key p xs = is_count_by (under key p) (λ u. nat_lt (key u) p) refl (λ x us. one_more (nat_lt (key x) p) (under key p us)) xs

pub rank_counts : (key : ℕ → ℕ) (front : List ℕ) (u : ℕ) (back : List ℕ) → rank key front u back ≡ upto key (key u) front + under key (key u) back
rank_counts key front u back = rw (upto_counts key (key u) front, under_counts key (key u) back) refl

-- the rank of a thread, and what it is where another comes to the end of the line: it stays and is below the other's, or it is one more and was not
abbrev Changes : ℕ → ℕ → ℕ → Type 0
Changes before after other = ((after ≡ before) × (before < other)) ⊎ ((after ≡ before + 1) × (other ≤ before))

changes_by : (p q f b f' b' before after other : ℕ) → before ≡ f + b → after ≡ f + (b + (cond (nat_lt p q) 1 0 + 0)) → other ≡ f' + (cond (nat_le q p) 1 0 + b') →
    (p < q → f' ≤ f) → (p < q → b' ≤ b) → (q ≤ p → f ≤ f') → (q ≤ p → b ≤ b') → Changes before after other
changes_by p q f b f' b' before after other e1 e2 e3 h1 h2 h3 h4 =
    ⊎_elim
    (λ lt. inr (grind (arith, nat_tests, e1, e2, lt), grind (arith, nat_tests, e1, e3, h1 lt, h2 lt, lt)))
    (λ le. inl (grind (arith, nat_tests, e1, e2, le), grind (arith, nat_tests, e1, e3, h3 le, h4 le, le)))
    (cases_lt p q)

rank_more : (key : ℕ → ℕ) (t : ℕ) (front : List ℕ) (u : ℕ) (back : List ℕ) → Changes (rank key front u back) (rank key front u (back ++ t ∷ [])) (upto key (key t) (front ++ u ∷ back))
rank_more key t front u back =
    changes_by (key t) (key u) (upto key (key u) front) (under key (key u) back) (upto key (key t) front) (upto key (key t) back)
    (rank key front u back) (rank key front u (back ++ t ∷ [])) (upto key (key t) (front ++ u ∷ back))
    (rank_counts key front u back)
    (rank_counts key front u (back ++ t ∷ []) ∙ ap (λ n. upto key (key u) front + n) (under-append key (key u) back (t ∷ [])))
    (upto-append key (key t) front (u ∷ back))
    (λ h. upto-le key (key t) (key u) front (omega arith))
    (λ h. upto-le_under key (key t) (key u) back h)
    (λ h. upto-le key (key u) (key t) front h)
    (λ h. under-le_upto key (key u) (key t) back h)

same_test : (a n b m : ℕ) → (a ≡ n → b ≡ m) → (b ≡ m → a ≡ n) → (a == n) ≡ (b == m)
same_test a n b m f g = grind (arith, nat_tests, f, g)

other_test : (a n : ℕ) → (a ≡ n → ⊥) → (a == n) ≡ false
other_test a n f = grind (arith, nat_tests, f)

below_step : (before after other n u : ℕ) (x y : Option ℕ) → Changes before after other → n < other → x ≡ y → cond (after == n) (Some u) x ≡ cond (before == n) (Some u) y
below_step before after other n u x y changes h e =
    let test : (after == n) ≡ (before == n) =
    ⊎_elim (λ c. same_test after n before n (λ a. omega arith) (λ a. omega arith)) (λ c. same_test after n before n (λ a. omega arith) (λ a. omega arith)) changes in
    rw (test, e) refl

there_step : (before after other n u : ℕ) (x : Option ℕ) → Changes before after other → n ≡ other → cond (after == n) (Some u) x ≡ x
there_step before after other n u x changes h =
    let test : (after == n) ≡ false =
    ⊎_elim (λ c. other_test after n (λ a. omega arith)) (λ c. other_test after n (λ a. omega arith)) changes in
    rw test refl

above_step : (before after other n u : ℕ) (x y : Option ℕ) → Changes before after other → other ≤ n → x ≡ y → cond (after == suc n) (Some u) x ≡ cond (before == n) (Some u) y
above_step before after other n u x y changes h e =
    let test : (after == suc n) ≡ (before == n) =
    ⊎_elim (λ c. same_test after (suc n) before n (λ a. omega arith) (λ a. omega arith)) (λ c. same_test after (suc n) before n (λ a. omega arith) (λ a. omega arith)) changes in
    rw (test, e) refl

-- the rank of the last thread
rank_last : (key : ℕ → ℕ) (t : ℕ) (front : List ℕ) → rank key front t [] ≡ upto key (key t) (front ++ [])
rank_last key t front = rank_counts key front t [] ∙ sym (upto-append key (key t) front [])

-- where a thread comes to the end of a line, those with a lesser rank than its own are found as before
find_below : (key : ℕ → ℕ) (n t : ℕ) (front back : List ℕ) → n < upto key (key t) (front ++ back) → ranked_from key n front (back ++ t ∷ []) ≡ ranked_from key n front back
find_below key n t front [] h =
    let test : (rank key front t [] == n) ≡ false = rw (rank_last key t front) (other_test _ n (λ a. omega arith)) in
    rw test refl
find_below key n t front (u ∷ back) h =
    below_step (rank key front u back) (rank key front u (back ++ t ∷ [])) (upto key (key t) (front ++ u ∷ back)) n u _ _ (rank_more key t front u back) h
    (find_below key n t (front ++ u ∷ []) back (rw append_assoc h))

-- with its rank it is found itself
find_there : (key : ℕ → ℕ) (n t : ℕ) (front back : List ℕ) → n ≡ upto key (key t) (front ++ back) → ranked_from key n front (back ++ t ∷ []) ≡ Some t
find_there key n t front [] h =
    let test : (rank key front t [] == n) ≡ true = rw (rank_last key t front, h) (grind (arith, nat_tests)) in
    rw test refl
find_there key n t front (u ∷ back) h =
    there_step (rank key front u back) (rank key front u (back ++ t ∷ [])) (upto key (key t) (front ++ u ∷ back)) n u _ (rank_more key t front u back) h
    ∙ find_there key n t (front ++ u ∷ []) back (rw append_assoc h)

-- and the others have a rank that is greater by one
find_above : (key : ℕ → ℕ) (n t : ℕ) (front back : List ℕ) → upto key (key t) (front ++ back) ≤ n → ranked_from key (suc n) front (back ++ t ∷ []) ≡ ranked_from key n front back
find_above key n t front [] h =
    let test : (rank key front t [] == suc n) ≡ false = rw (rank_last key t front) (other_test _ (suc n) (λ a. omega arith)) in
    rw test refl
find_above key n t front (u ∷ back) h =
    above_step (rank key front u back) (rank key front u (back ++ t ∷ [])) (upto key (key t) (front ++ u ∷ back)) n u _ _ (rank_more key t front u back) h
    (find_above key n t (front ++ u ∷ []) back (rw append_assoc h))

-- each thread of the list is as urgent as those behind it
abbrev Ordered : (ℕ → ℕ) → List ℕ → Type 0
Ordered key [] = Unit {0}
Ordered key (u ∷ us) = (under key (key u) us ≡ 0) × Ordered key us

upto-either : (key : ℕ → ℕ) (p t u : ℕ) (us : List ℕ) (b : Bool) → upto key p (inserted key t us) ≡ upto key p us + cond (nat_le (key t) p) 1 0 →
    upto key p (cond b (t ∷ u ∷ us) (u ∷ inserted key t us)) ≡ upto key p (u ∷ us) + cond (nat_le (key t) p) 1 0
upto-either key p t u us true h = omega arith
upto-either key p t u us false h = omega (arith, h)

upto-inserted : (key : ℕ → ℕ) (p t : ℕ) (us : List ℕ) → upto key p (inserted key t us) ≡ upto key p us + cond (nat_le (key t) p) 1 0
upto-inserted key p t [] = omega arith
upto-inserted key p t (u ∷ us) = upto-either key p t u us (nat_lt (key t) (key u)) (upto-inserted key p t us)

under-either : (key : ℕ → ℕ) (p t u : ℕ) (us : List ℕ) (b : Bool) → under key p (inserted key t us) ≡ under key p us + cond (nat_lt (key t) p) 1 0 →
    under key p (cond b (t ∷ u ∷ us) (u ∷ inserted key t us)) ≡ under key p (u ∷ us) + cond (nat_lt (key t) p) 1 0
under-either key p t u us true h = omega arith
under-either key p t u us false h = omega (arith, h)

under-inserted : (key : ℕ → ℕ) (p t : ℕ) (us : List ℕ) → under key p (inserted key t us) ≡ under key p us + cond (nat_lt (key t) p) 1 0
under-inserted key p t [] = omega arith
under-inserted key p t (u ∷ us) = under-either key p t u us (nat_lt (key t) (key u)) (under-inserted key p t us)

none_under : (key : ℕ → ℕ) (t u : ℕ) (us : List ℕ) → under key (key u) us ≡ 0 → nat_lt (key t) (key u) ≡ true → under key (key t) (u ∷ us) ≡ 0
none_under key t u us none is =
    let lt : key t < key u = grind (arith, nat_tests, is) in
    let le = under-le key (key t) (key u) us (omega arith) in
    grind (arith, nat_tests, le, none, lt)

none_upto : (key : ℕ → ℕ) (t u : ℕ) (us : List ℕ) → under key (key u) us ≡ 0 → nat_lt (key t) (key u) ≡ true → upto key (key t) (u ∷ us) ≡ 0
none_upto key t u us none is =
    let lt : key t < key u = grind (arith, nat_tests, is) in
    let le = upto-le_under key (key t) (key u) us lt in
    grind (arith, nat_tests, le, none, lt)

one_upto : (key : ℕ → ℕ) (t u : ℕ) (us : List ℕ) → nat_lt (key t) (key u) ≡ false → upto key (key t) (u ∷ us) ≡ 1 + upto key (key t) us
one_upto key t u us is = grind (arith, nat_tests, is)

ordered-either : (key : ℕ → ℕ) (t u : ℕ) (us : List ℕ) (b : Bool) → nat_lt (key t) (key u) ≡ b → Ordered key (u ∷ us) → Ordered key (inserted key t us) → Ordered key (cond b (t ∷ u ∷ us) (u ∷ inserted key t us))
ordered-either key t u us true is ordered more = (none_under key t u us ordered.0 is, ordered)
ordered-either key t u us false is ordered more =
    let none : under key (key u) (inserted key t us) ≡ 0 = rw (under-inserted key (key u) t us, is, ordered.0) refl in
    (none, more)

ordered-inserted : (key : ℕ → ℕ) (t : ℕ) (us : List ℕ) → Ordered key us → Ordered key (inserted key t us)
ordered-inserted key t [] ordered = (refl, tt)
ordered-inserted key t (u ∷ us) ordered = ordered-either key t u us (nat_lt (key t) (key u)) refl ordered (ordered-inserted key t us ordered.1)

-- what stands at a place after a thread was inserted: in front of its own
below-either : (key : ℕ → ℕ) (n t u : ℕ) (us : List ℕ) (b : Bool) → nat_lt (key t) (key u) ≡ b → under key (key u) us ≡ 0 → n < upto key (key t) (u ∷ us) →
    ((m : ℕ) → m < upto key (key t) us → slice_get (inserted key t us) m ≡ slice_get us m) → slice_get (cond b (t ∷ u ∷ us) (u ∷ inserted key t us)) n ≡ slice_get (u ∷ us) n
below-either key n t u us true is none h more = let no = none_upto key t u us none is in absurd (omega arith)
below-either key zero t u us false is none h more = refl
below-either key (suc n) t u us false is none h more = let one = one_upto key t u us is in more n (omega arith)

get_below : (key : ℕ → ℕ) (n t : ℕ) (us : List ℕ) → Ordered key us → n < upto key (key t) us → slice_get (inserted key t us) n ≡ slice_get us n
get_below key n t [] ordered h = absurd (omega arith)
get_below key n t (u ∷ us) ordered h = below-either key n t u us (nat_lt (key t) (key u)) refl ordered.0 h (λ m g. get_below key m t us ordered.1 g)

-- at its own
there-either : (key : ℕ → ℕ) (n t u : ℕ) (us : List ℕ) (b : Bool) → nat_lt (key t) (key u) ≡ b → under key (key u) us ≡ 0 → n ≡ upto key (key t) (u ∷ us) →
    ((m : ℕ) → m ≡ upto key (key t) us → slice_get (inserted key t us) m ≡ Some t) → slice_get (cond b (t ∷ u ∷ us) (u ∷ inserted key t us)) n ≡ Some t
there-either key zero t u us true is none h more = refl
there-either key (suc n) t u us true is none h more = let no = none_upto key t u us none is in absurd (omega arith)
there-either key zero t u us false is none h more = let one = one_upto key t u us is in absurd (omega arith)
there-either key (suc n) t u us false is none h more = let one = one_upto key t u us is in more n (omega arith)

get_there : (key : ℕ → ℕ) (n t : ℕ) (us : List ℕ) → Ordered key us → n ≡ upto key (key t) us → slice_get (inserted key t us) n ≡ Some t
get_there key n t [] ordered h = rw h refl
get_there key n t (u ∷ us) ordered h = there-either key n t u us (nat_lt (key t) (key u)) refl ordered.0 h (λ m g. get_there key m t us ordered.1 g)

-- behind it
above-either : (key : ℕ → ℕ) (n t u : ℕ) (us : List ℕ) (b : Bool) → nat_lt (key t) (key u) ≡ b → upto key (key t) (u ∷ us) ≤ n →
    ((m : ℕ) → upto key (key t) us ≤ m → slice_get (inserted key t us) (suc m) ≡ slice_get us m) → slice_get (cond b (t ∷ u ∷ us) (u ∷ inserted key t us)) (suc n) ≡ slice_get (u ∷ us) n
above-either key n t u us true is h more = refl
above-either key zero t u us false is h more = let one = one_upto key t u us is in absurd (omega arith)
above-either key (suc n) t u us false is h more = let one = one_upto key t u us is in more n (omega arith)

get_above : (key : ℕ → ℕ) (n t : ℕ) (us : List ℕ) → Ordered key us → upto key (key t) us ≤ n → slice_get (inserted key t us) (suc n) ≡ slice_get us n
get_above key n t [] ordered h = refl
get_above key n t (u ∷ us) ordered h = above-either key n t u us (nat_lt (key t) (key u)) refl h (λ m g. get_above key m t us ordered.1 g)

-- a list has the threads of a line in the order of their urgency:
pub record IsSortOf (key : ℕ → ℕ) (line sorted : List ℕ) : Type 0 where
  ordered : Ordered key sorted
  counts : (p : ℕ) → upto key p sorted ≡ upto key p line
  pub found : (n : ℕ) → nth_urgent key n line ≡ slice_get sorted n

sort_below : (key : ℕ → ℕ) (n t : ℕ) (line sorted : List ℕ) → IsSortOf key line sorted → n < upto key (key t) line → nth_urgent key n (line ++ t ∷ []) ≡ slice_get (inserted key t sorted) n
sort_below key n t line sorted is h = find_below key n t [] line h ∙ is.found n ∙ sym (get_below key n t sorted is.ordered (rw (is.counts (key t)) h))

sort_there : (key : ℕ → ℕ) (n t : ℕ) (line sorted : List ℕ) → IsSortOf key line sorted → n ≡ upto key (key t) line → nth_urgent key n (line ++ t ∷ []) ≡ slice_get (inserted key t sorted) n
sort_there key n t line sorted is h = find_there key n t [] line h ∙ sym (get_there key n t sorted is.ordered (rw (is.counts (key t)) h))

sort_above : (key : ℕ → ℕ) (n t : ℕ) (line sorted : List ℕ) → IsSortOf key line sorted → upto key (key t) line ≤ n → nth_urgent key (suc n) (line ++ t ∷ []) ≡ slice_get (inserted key t sorted) (suc n)
sort_above key n t line sorted is h = find_above key n t [] line h ∙ is.found n ∙ sym (get_above key n t sorted is.ordered (rw (is.counts (key t)) h))

sort_found : (key : ℕ → ℕ) (n t : ℕ) (line sorted : List ℕ) → IsSortOf key line sorted → nth_urgent key n (line ++ t ∷ []) ≡ slice_get (inserted key t sorted) n
sort_found key zero t line sorted is =
    ⊎_elim (λ lt. sort_below key zero t line sorted is lt) (λ le. sort_there key zero t line sorted is (omega arith)) (cases_lt zero (upto key (key t) line))
sort_found key (suc n) t line sorted is =
    ⊎_elim
    (λ lt. sort_below key (suc n) t line sorted is lt)
    (λ le. ⊎_elim (λ lt. sort_above key n t line sorted is (omega arith)) (λ ge. sort_there key (suc n) t line sorted is (omega arith)) (cases_lt (upto key (key t) line) (suc n)))
    (cases_lt (suc n) (upto key (key t) line))

sort_more : (key : ℕ → ℕ) (t : ℕ) (line sorted : List ℕ) → IsSortOf key line sorted → IsSortOf key (line ++ t ∷ []) (inserted key t sorted)
sort_more key t line sorted is = record {
  ordered = ordered-inserted key t sorted is.ordered;
  counts = λ p. omega (arith, upto-inserted key p t sorted, upto-append key p line (t ∷ []), is.counts p);
  found = λ n. sort_found key n t line sorted is;
}

abbrev pub all_inserted : (ℕ → ℕ) → List ℕ → List ℕ → List ℕ
all_inserted key done [] = done
all_inserted key done (t ∷ ts) = all_inserted key (inserted key t done) ts

sort_all : (key : ℕ → ℕ) (front done rest : List ℕ) → IsSortOf key front done → IsSortOf key (front ++ rest) (all_inserted key done rest)
sort_all key front done [] is = rw append-nil is
sort_all key front done (t ∷ ts) is = rw append_assoc at (sort_all key (front ++ t ∷ []) (inserted key t done) ts (sort_more key t front done is))

-- a line, sorted by urgency
abbrev pub sorted_line : (ℕ → ℕ) → List ℕ → List ℕ
sorted_line key line = all_inserted key [] line

pub sort_of : (key : ℕ → ℕ) (line : List ℕ) → IsSortOf key line (sorted_line key line)
sort_of key line = sort_all key [] [] line (record { ordered = tt; counts = λ p. refl; found = λ n. refl })

take_more_get : (m : ℕ) (us : List ℕ) → take m us ++ option_to_list (slice_get us m) ≡ take (suc m) us
take_more_get zero [] = refl
take_more_get zero (u ∷ us) = refl
take_more_get (suc m) [] = refl
take_more_get (suc m) (u ∷ us) = ap (λ (vs : List ℕ). u ∷ vs) (take_more_get m us)

-- the most urgent threads are the first ones of the sorted line
pub most_sorted : (key : ℕ → ℕ) (m : ℕ) (line sorted : List ℕ) → IsSortOf key line sorted → most_urgent key m line ≡ take m sorted
most_sorted key zero line sorted is = refl
most_sorted key (suc m) line sorted is = (rw (most_sorted key m line sorted is, is.found m) refl) ∙ take_more_get m sorted

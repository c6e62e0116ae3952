-- The assignment of processors: it keeps their number, gives them threads of the line alone, and changes nothing when it is done again.
use Rattle.std.proofs.Common.{◌≡◌, ℕ, zero, suc, List, [], ◌∷◌, ◌++◌, Bool, true, false, cond, not, ◌||◌, ◌==◌, ◌⊎◌, inl, inr, ⊎_elim, Option, Some, None, length, map, replicate, arith, refl, ap, sym, ◌∙◌}
use Rattle.std.specs.List.{filter}
use Rattle.std.specs.Option.{option_to_list}
use Rattle.std.proofs.lemmas.List.{length-map}
use Rattle.std.proofs.lemmas.Bool.{false≢true}
use Rattle.std.proofs.lemmas.Bool.Decides.{nat_tests}
use Rattle.rk_model.specs.Lists.{has}
use Rattle.rk_model.specs.Scheduling.ReadyQueues.{rank, ranked_from, nth_urgent, most_urgent, has_cpu, kept, filled, assigned}
use Rattle.rk_model.proofs.CountLemmas.{has-append}
use Rattle.rk_model.proofs.BooleanLemmas.{equal_test, same_number, either, or_front, or_back}

length-filled : (cpus : List (Option ℕ)) (ts : List ℕ) → length (filled cpus ts) ≡ length cpus
length-filled [] ts = refl
length-filled (Some u ∷ cpus) ts = omega (arith, length-filled cpus ts)
length-filled (None ∷ cpus) [] = omega (arith, length-filled cpus [])
length-filled (None ∷ cpus) (t ∷ ts) = omega (arith, length-filled cpus ts)

pub length-assigned : (old : List (Option ℕ)) (running : List ℕ) → length (assigned old running) ≡ length old
length-assigned old running = length-filled (map (kept running) old) _ ∙ length-map old (kept running)

found_or : (u t : ℕ) (back : List ℕ) (rest : Option ℕ) (b : Bool) → cond b (Some u) rest ≡ Some t → (rest ≡ Some t → has back t ≡ true) → ((u == t) || has back t) ≡ true
found_or u t back rest true h more = let e : u ≡ t = cc in grind (arith, nat_tests, e)
found_or u t back rest false h more = let e = more h in grind (arith, nat_tests, e)

-- what is found is in the line
ranked_has : (key : ℕ → ℕ) (n : ℕ) (front back : List ℕ) (t : ℕ) → ranked_from key n front back ≡ Some t → has back t ≡ true
ranked_has key n front [] t h = cc
ranked_has key n front (u ∷ back) t h =
    found_or u t back (ranked_from key n (front ++ u ∷ []) back) (rank key front u back == n) h (ranked_has key n (front ++ u ∷ []) back t)

pub option_has : (o : Option ℕ) (t : ℕ) → has (option_to_list o) t ≡ true → o ≡ Some t
option_has None t h = absurd (false≢true h)
option_has (Some u) t h = grind (arith, nat_tests, h)

-- the runners are of the line
runners_has : (key : ℕ → ℕ) (m : ℕ) (line : List ℕ) (t : ℕ) → has (most_urgent key m line) t ≡ true → has line t ≡ true
runners_has key zero line t h = absurd (false≢true h)
runners_has key (suc m) line t h =
    ⊎_elim
    (λ e. runners_has key m line t e)
    (λ e. ranked_has key m [] line t (option_has (nth_urgent key m line) t e))
    (either (has (most_urgent key m line) t) (has (option_to_list (nth_urgent key m line)) t) (rw has-append at h))

filter_has : (p : ℕ → Bool) (xs : List ℕ) (t : ℕ) → has (filter p xs) t ≡ true → has xs t ≡ true
filter_has p [] t h = h
filter_has p (x ∷ xs) t h = grind (arith, nat_tests, h, filter_has p xs t)

kept_or : (running : List ℕ) (u t : ℕ) (cpus : List (Option ℕ)) (b : Bool) → has running u ≡ b → has_cpu (cond b (Some u) None ∷ cpus) t ≡ true → (has_cpu cpus t ≡ true → has running t ≡ true) → has running t ≡ true
kept_or running u t cpus true is h more = ⊎_elim (λ e. let same = same_number u t e in rw (← same) is) (λ e. more e) (either (u == t) (has_cpu cpus t) h)
kept_or running u t cpus false is h more = more h

-- what stays on a processor is a runner
kept_has : (running : List ℕ) (old : List (Option ℕ)) (t : ℕ) → has_cpu (map (kept running) old) t ≡ true → has running t ≡ true
kept_has running [] t h = absurd (false≢true h)
kept_has running (None ∷ old) t h = kept_has running old t h
kept_has running (Some u ∷ old) t h = kept_or running u t (map (kept running) old) (has running u) refl h (kept_has running old t)

-- what fills a processor had one, or is one of those that take the free ones
filled_has : (cpus : List (Option ℕ)) (ts : List ℕ) (t : ℕ) → has_cpu (filled cpus ts) t ≡ true → (has_cpu cpus t ≡ true) ⊎ (has ts t ≡ true)
filled_has [] ts t h = inl h
filled_has (None ∷ cpus) [] t h = filled_has cpus [] t h
filled_has (None ∷ cpus) (s ∷ ts) t h =
    ⊎_elim
    (λ e. inr (or_front (has ts t) e))
    (λ e. ⊎_elim (λ g. inl g) (λ g. inr (or_back (s == t) g)) (filled_has cpus ts t e))
    (either (s == t) (has_cpu (filled cpus ts) t) h)
filled_has (Some u ∷ cpus) ts t h =
    ⊎_elim
    (λ e. inl (or_front (has_cpu cpus t) e))
    (λ e. ⊎_elim (λ g. inl (or_back (u == t) g)) (λ g. inr g) (filled_has cpus ts t e))
    (either (u == t) (has_cpu (filled cpus ts) t) h)

-- each thread that is assigned is of the line
pub assigned_has : (key : ℕ → ℕ) (old : List (Option ℕ)) (m : ℕ) (line : List ℕ) (t : ℕ) → has_cpu (assigned old (most_urgent key m line)) t ≡ true → has line t ≡ true
assigned_has key old m line t h =
    let running = most_urgent key m line in
    let fresh = filter (λ u. not (has_cpu old u)) running in
    runners_has key m line t
    (⊎_elim (λ e. kept_has running old t e) (λ e. filter_has (λ u. not (has_cpu old u)) running t e) (filled_has (map (kept running) old) fresh t h))

-- what none of a list passes leaves nothing
filter_none : (p : ℕ → Bool) (xs : List ℕ) → ((t : ℕ) → has xs t ≡ true → p t ≡ false) → filter p xs ≡ []
filter_none p [] none = refl
filter_none p (x ∷ xs) none =
    let here = none x (or_front (has xs x) (equal_test x x refl)) in
    rw here (filter_none p xs (λ t h. none t (or_back (x == t) h)))

has_filter : (p : ℕ → Bool) (xs : List ℕ) (t : ℕ) → has xs t ≡ true → p t ≡ true → has (filter p xs) t ≡ true
has_filter p [] t h passes = h
has_filter p (x ∷ xs) t h passes = by (x == t) refl (p x) refl h (λ g. has_filter p xs t g passes) where
  by : (b : Bool) → (x == t) ≡ b → (c : Bool) → p x ≡ c → (b || has xs t) ≡ true → (has xs t ≡ true → has (filter p xs) t ≡ true) → has (cond c (x ∷ filter p xs) (filter p xs)) t ≡ true
  by true same true is h more = or_front (has (filter p xs) t) same
  by true same false is h more =
      let e = same_number x t same in
      let no : p t ≡ false = rw (← e) is in
      absurd (false≢true (sym no ∙ passes))
  by false other true is h more = or_back (x == t) (more h)
  by false other false is h more = more h

-- processors that have runners alone keep them
kept_all : (running : List ℕ) (cpus : List (Option ℕ)) → ((t : ℕ) → has_cpu cpus t ≡ true → has running t ≡ true) → map (kept running) cpus ≡ cpus
kept_all running [] runs = refl
kept_all running (None ∷ cpus) runs = ap (λ (xs : List (Option ℕ)). None ∷ xs) (kept_all running cpus runs)
kept_all running (Some u ∷ cpus) runs =
    let here = runs u (or_front (has_cpu cpus u) (equal_test u u refl)) in
    rw here (ap (λ (xs : List (Option ℕ)). Some u ∷ xs) (kept_all running cpus (λ t h. runs t (or_back (u == t) h))))

-- where nobody is to fill a processor, all stay as they are
pub filled_none : (cpus : List (Option ℕ)) → filled cpus [] ≡ cpus
filled_none [] = refl
filled_none (None ∷ cpus) = ap (λ (xs : List (Option ℕ)). None ∷ xs) (filled_none cpus)
filled_none (Some u ∷ cpus) = ap (λ (xs : List (Option ℕ)). Some u ∷ xs) (filled_none cpus)

-- a runner that had a processor has it still
kept_stays : (running : List ℕ) (cpus : List (Option ℕ)) (t : ℕ) → has_cpu cpus t ≡ true → has running t ≡ true → has_cpu (map (kept running) cpus) t ≡ true
kept_stays running [] t h runs = h
kept_stays running (None ∷ cpus) t h runs = kept_stays running cpus t h runs
kept_stays running (Some u ∷ cpus) t h runs = by (has running u) refl (either (u == t) (has_cpu cpus t) h) (λ more. kept_stays running cpus t more runs) where
  by : (b : Bool) → has running u ≡ b → ((u == t) ≡ true) ⊎ (has_cpu cpus t ≡ true) → (has_cpu cpus t ≡ true → has_cpu (map (kept running) cpus) t ≡ true) → has_cpu (cond b (Some u) None ∷ map (kept running) cpus) t ≡ true
  by true is (inl same) later = or_front (has_cpu (map (kept running) cpus) t) same
  by true is (inr more) later = or_back (u == t) (later more)
  by false is (inl same) later =
      let e = same_number u t same in
      let no : has running t ≡ false = rw (← e) is in
      absurd (false≢true (sym no ∙ runs))
  by false is (inr more) later = later more

filled_stays : (cpus : List (Option ℕ)) (ts : List ℕ) (t : ℕ) → has_cpu cpus t ≡ true → has_cpu (filled cpus ts) t ≡ true
filled_stays [] ts t h = h
filled_stays (None ∷ cpus) [] t h = filled_stays cpus [] t h
filled_stays (None ∷ cpus) (s ∷ ts) t h = or_back (s == t) (filled_stays cpus ts t h)
filled_stays (Some u ∷ cpus) ts t h =
    ⊎_elim (λ e. or_front (has_cpu (filled cpus ts) t) e) (λ e. or_back (u == t) (filled_stays cpus ts t e)) (either (u == t) (has_cpu cpus t) h)

-- all that are to fill processors have one, or no processor is free
all_or_full : (cpus : List (Option ℕ)) (ts : List ℕ) → ((t : ℕ) → has ts t ≡ true → has_cpu (filled cpus ts) t ≡ true) ⊎ ((us : List ℕ) → filled (filled cpus ts) us ≡ filled cpus ts)
all_or_full [] ts = inr (λ us. refl)
all_or_full (None ∷ cpus) [] = inl (λ t h. absurd (false≢true h))
all_or_full (None ∷ cpus) (s ∷ ts) =
    ⊎_elim
    (λ all. inl (λ t h. ⊎_elim (λ e. or_front (has_cpu (filled cpus ts) t) e) (λ e. or_back (s == t) (all t e)) (either (s == t) (has ts t) h)))
    (λ full. inr (λ us. ap (λ (xs : List (Option ℕ)). Some s ∷ xs) (full us)))
    (all_or_full cpus ts)
all_or_full (Some u ∷ cpus) ts =
    ⊎_elim
    (λ all. inl (λ t h. or_back (u == t) (all t h)))
    (λ full. inr (λ us. ap (λ (xs : List (Option ℕ)). Some u ∷ xs) (full us)))
    (all_or_full cpus ts)

-- Assigning by the same runners again changes nothing.
pub assigned_again : (old : List (Option ℕ)) (running : List ℕ) → assigned (assigned old running) running ≡ assigned old running
assigned_again old running =
    let stay = map (kept running) old in
    let fresh = filter (λ u. not (has_cpu old u)) running in
    let cpus = filled stay fresh in
    let keeps : map (kept running) cpus ≡ cpus = kept_all running cpus (λ t h. ⊎_elim (λ e. kept_has running old t e) (λ e. filter_has (λ u. not (has_cpu old u)) running t e) (filled_has stay fresh t h)) in
    let again = filter (λ u. not (has_cpu cpus u)) running in
    ap (λ (xs : List (Option ℕ)). filled xs again) keeps
    ∙ ⊎_elim
    (λ all. ap (λ (us : List ℕ). filled cpus us) (filter_none (λ u. not (has_cpu cpus u)) running (λ t h. ap not (by t (has_cpu old t) refl h all))) ∙ filled_none cpus)
    (λ full. full again)
    (all_or_full stay fresh)
  where
    by : (t : ℕ) (b : Bool) → has_cpu old t ≡ b → has running t ≡ true → ((u : ℕ) → has (filter (λ u. not (has_cpu old u)) running) u ≡ true → has_cpu (assigned old running) u ≡ true) → has_cpu (assigned old running) t ≡ true
    by t true is h all = filled_stays (map (kept running) old) _ t (kept_stays running old t is h)
    by t false is h all = all t (has_filter (λ u. not (has_cpu old u)) running t h (ap not is))

-- a line without threads has no most urgent ones
pub none_urgent : (key : ℕ → ℕ) (m : ℕ) → most_urgent key m [] ≡ []
none_urgent key zero = refl
none_urgent key (suc m) = rw (none_urgent key m) refl

pub kept_free : (n : ℕ) → map (kept []) (replicate n None) ≡ replicate n None
kept_free zero = refl
kept_free (suc n) = ap (λ (xs : List (Option ℕ)). None ∷ xs) (kept_free n)

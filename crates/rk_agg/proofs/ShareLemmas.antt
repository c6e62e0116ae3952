-- Contributions: which are found after one was written, and which is the least.
use Rattle.std.proofs.Common.{◌≡◌, ◌≢◌, ℕ, zero, suc, ◌+◌, ◌-◌, ◌<◌, ◌≤◌, List, Bool, true, false, cond, ◌&&◌, ◌||◌, ◌==◌, not, Option, None, Some, is_some, ltb, length, get_or, set, replicate, arith, refl, sym, ap, ◌∙◌, ⊎_elim, length-set}
use Rattle.std.proofs.lemmas.List.{get_or-set_same, get_or-set_other, get_or_read_under, get_or-replicate, get_or_past, length-replicate}
use Rattle.std.proofs.lemmas.Bool.{false≢true, true≢false, cases_lt}
use Rattle.std.proofs.lemmas.Bool.Decides.{nat_tests}
use Rattle.rk_model.specs.IndexSets.{is_in, IsTaken}
use Rattle.rk_model.specs.declared.index_set.IndexSet.{IndexSet}
use Rattle.rk_model.specs.Lists.{nth}
use Rattle.rk_model.specs.Queues.{lesser}
use Rattle.rk_model.specs.Scheduling.Priorities.{lesser_of, least_of}
use Rattle.rk_model.proofs.IndexSetLemmas.{none_in}
use Rattle.rk_model.proofs.BooleanLemmas.{equal_test, same_number, and_front, and_back, and_false}
use Rattle.rk_model.proofs.IndexLemmas.{nth-with_other}
use Rattle.rk_agg.specs.Shares.{cell_of, found, is_one, is_row, is_same, is_same_prio, least_source, no_indices, nones, row_at, row_of, set_at, with_found, AreIndexed, AreLeast, Shares}

-- ---- the lesser of two priorities

pub lesser_none : (a : Option ℕ) → lesser_of a None ≡ a
lesser_none None = refl
lesser_none (Some a) = refl

pub lesser_assoc : (a b c : Option ℕ) → lesser_of (lesser_of a b) c ≡ lesser_of a (lesser_of b c)
lesser_assoc None b c = refl
lesser_assoc (Some a) None c = refl
lesser_assoc (Some a) (Some b) None = refl
lesser_assoc (Some a) (Some b) (Some d) = grind (arith, nat_tests)

lesser_comm : (a b : Option ℕ) → lesser_of a b ≡ lesser_of b a
lesser_comm None b = sym (lesser_none b)
lesser_comm (Some a) None = refl
lesser_comm (Some a) (Some b) = grind (arith, nat_tests)

-- ---- where contributions stand

pub record IsRow (t c : ℕ) : Type 0 where
  pub low : 1 ≤ t
  pub high : t ≤ 64
  pub cluster : c < 4

one_within : (t : ℕ) → is_one t ≡ true → (1 ≤ t) × (t ≤ 64)
one_within t h =
    let low = and_front (ltb 0 t) (ltb t 65) h in
    let high = and_back (ltb 0 t) (ltb t 65) h in
    (grind (arith, nat_tests, low), grind (arith, nat_tests, high))

pub one_is : (t : ℕ) → 1 ≤ t → t ≤ 64 → is_one t ≡ true
one_is t low high =
    let a : ltb 0 t ≡ true = grind (arith, nat_tests, low) in
    let b : ltb t 65 ≡ true = grind (arith, nat_tests, high) in
    rw (a, b) refl

row_within : (t c : ℕ) → is_row t c ≡ true → IsRow t c
row_within t c h =
    let one = one_within t (and_front (is_one t) (ltb c 4) h) in
    let less = and_back (is_one t) (ltb c 4) h in
    record { low = one.0; high = one.1; cluster = grind (arith, nat_tests, less) }

both : (a b : Bool) → a ≡ true → b ≡ true → (a && b) ≡ true
both a b e f = rw (e, f) refl

same_row : (t c v d : ℕ) → IsRow t c → IsRow v d → row_of v d ≡ row_of t c → (v ≡ t) × (d ≡ c)
same_row t c v d a b e = (omega (arith, a.low, a.cluster, b.low, b.cluster, e), omega (arith, a.low, a.cluster, b.low, b.cluster, e))

record AreSame (t c u v d w : ℕ) : Type 0 where
  thread : t ≡ v
  cluster : c ≡ d
  source : u ≡ w

same_cell : (t c u v d w : ℕ) → IsRow t c → (1 ≤ u) × (u ≤ 64) → IsRow v d → (1 ≤ w) × (w ≤ 64) → cell_of v d w ≡ cell_of t c u → AreSame t c u v d w
same_cell t c u v d w a x b y e = record {
  thread = omega (arith, a.low, a.cluster, x, b.low, b.cluster, y, e);
  cluster = omega (arith, a.low, a.cluster, x, b.low, b.cluster, y, e);
  source = omega (arith, a.low, a.cluster, x, b.low, b.cluster, y, e);
}

-- ---- look-ups

same_are : (t c u v d w : ℕ) → is_same t c u v d w ≡ true → AreSame t c u v d w
same_are t c u v d w h =
    let rest = and_back (t == v) ((c == d) && (u == w)) h in
    record {
      thread = same_number t v (and_front (t == v) ((c == d) && (u == w)) h);
      cluster = same_number c d (and_front (c == d) (u == w) rest);
      source = same_number u w (and_back (c == d) (u == w) rest);
    }

are_same : (t c u v d w : ℕ) → AreSame t c u v d w → is_same t c u v d w ≡ true
are_same t c u v d w is = both (t == v) ((c == d) && (u == w)) (equal_test t v is.thread) (both (c == d) (u == w) (equal_test c d is.cluster) (equal_test u w is.source))

-- what stands in a cell is found
found_there : (xs : Shares) (t c u : ℕ) → is_row t c ≡ true → is_one u ≡ true → found xs t c u ≡ nth None xs (cell_of t c u)
unfolding found
found_there xs t c u row one = ap (λ b. cond b (nth None xs (cell_of t c u)) None) (both (is_row t c) (is_one u) row one)

found_outside : (xs : Shares) (t c u : ℕ) → (is_row t c && is_one u) ≡ false → found xs t c u ≡ None
unfolding found
found_outside xs t c u out = ap (λ b. cond b (nth None xs (cell_of t c u)) None) out

pub share_there : (xs now : Shares) (t c u at : ℕ) (r : Option ℕ) → xs ≡ now → length xs ≡ 16384 → at < 16384 → at + 1 ≡ cell_of t c u → is_row t c ≡ true → is_one u ≡ true → r ≡ get_or xs at r → r ≡ found now t c u
share_there xs now t c u at r same size within place row one is =
    let cell : cell_of t c u ≡ suc at = omega (arith, place) in
    get_or_read_under xs at 16384 r None is within (sym size) ∙ ap (nth None xs) (sym cell) ∙ sym (found_there xs t c u row one) ∙ ap (λ (ys : Shares). found ys t c u) same

pub found_nowhere : (xs : Shares) (t c u : ℕ) → 4 ≤ c → None ≡ found xs t c u
found_nowhere xs t c u more =
    let past : ltb c 4 ≡ false = grind (arith, nat_tests, more) in
    sym (found_outside xs t c u (ap (λ b. (is_one t && b) && is_one u) past ∙ ap (λ b. b && is_one u) (and_false (is_one t))))

-- what is found is in one of the four clusters
pub found_within : (xs : Shares) (t c u : ℕ) → is_some (found xs t c u) ≡ true → c < 4
found_within xs t c u some = ⊎_elim (λ less. less) (λ more. absurd (false≢true (ap (λ o. is_some o) (found_nowhere xs t c u more) ∙ some))) (cases_lt c 4)

-- one that no thread contributes
pub found_of_none : (xs : Shares) (t c u : ℕ) → is_one u ≡ false → found xs t c u ≡ None
found_of_none xs t c u other = found_outside xs t c u (ap (λ b. is_row t c && b) other ∙ and_false (is_row t c))

length_nones : (n : ℕ) → length (nones n) ≡ n
unfolding nones
length_nones n = length-replicate {A = Option ℕ} n None

nth_nones : (n i : ℕ) → nth None (nones n) i ≡ None
unfolding nones
nth_nones n zero = refl
nth_nones n (suc i) = ⊎_elim (λ less. get_or-replicate n i None None less) (λ more. get_or_past (replicate n None) i None (rw (length-replicate {A = Option ℕ} n None) more)) (cases_lt i n)

pub found_nones : (n t c u : ℕ) → found (nones n) t c u ≡ None
found_nones n t c u = by (is_row t c && is_one u) refl where
  by : (b : Bool) → (is_row t c && is_one u) ≡ b → found (nones n) t c u ≡ None
  by true e = found_there (nones n) t c u (and_front (is_row t c) (is_one u) e) (and_back (is_row t c) (is_one u) e) ∙ nth_nones n (cell_of t c u)
  by false e = found_outside (nones n) t c u e

-- ---- one is written

found_written_at : (xs : Shares) (t c u at : ℕ) (s : Option ℕ) → length xs ≡ 16384 → at + 1 ≡ cell_of t c u → is_row t c ≡ true → is_one u ≡ true → at < 16384 → (v d w : ℕ) → found (set xs at s) v d w ≡ with_found t c u s (found xs) v d w
found_written_at xs t c u at s size place row one within v d w = by (is_same t c u v d w) refl (is_row v d && is_one w) refl where
  cell : cell_of t c u ≡ suc at
  cell = omega (arith, place)

  here : found (set xs at s) t c u ≡ s
  here = found_there (set xs at s) t c u row one ∙ ap (nth None (set xs at s)) cell ∙ get_or-set_same xs at s None (omega (arith, size, within))

  apart : is_same t c u v d w ≡ false → (is_row v d && is_one w) ≡ true → cell_of v d w ≢ suc at
  apart other inside e =
      let is = same_cell t c u v d w (row_within t c row) (one_within u one) (row_within v d (and_front (is_row v d) (is_one w) inside)) (one_within w (and_back (is_row v d) (is_one w) inside)) (e ∙ sym cell) in
      true≢false (sym (are_same t c u v d w is) ∙ other)

  by : (b : Bool) → is_same t c u v d w ≡ b → (e : Bool) → (is_row v d && is_one w) ≡ e → found (set xs at s) v d w ≡ cond b s (found xs v d w)
  by true same e inside =
      let is = same_are t c u v d w same in
      ap (λ n. found (set xs at s) n d w) (sym is.thread) ∙ ap (λ n. found (set xs at s) t n w) (sym is.cluster) ∙ ap (λ n. found (set xs at s) t c n) (sym is.source) ∙ here
  by false other true inside =
      let is_in = and_front (is_row v d) (is_one w) inside in
      let is_from = and_back (is_row v d) (is_one w) inside in
      found_there (set xs at s) v d w is_in is_from
      ∙ nth-with_other None s xs (suc at) (cell_of v d w) (apart other inside)
      ∙ sym (found_there xs v d w is_in is_from)
  by false other false outside = found_outside (set xs at s) v d w outside ∙ sym (found_outside xs v d w outside)

pub found_written : (xs new : Shares) (t c u at : ℕ) (s : Option ℕ) → length xs ≡ 16384 → at < 16384 → at + 1 ≡ cell_of t c u → is_row t c ≡ true → is_one u ≡ true → new ≡ set xs at s → found new ≡ with_found t c u s (found xs)
found_written xs new t c u at s size within place row one is = ap found is ∙ (λ i v d w. found_written_at xs t c u at s size place row one within v d w i)

-- one is taken out and put back with another priority
pub put_back : (t c u : ℕ) (p : Option ℕ) (f : ℕ → ℕ → ℕ → Option ℕ) → with_found t c u p (with_found t c u None f) ≡ with_found t c u p f
put_back t c u p f = λ i v d w. by (is_same t c u v d w) (f v d w) i where
  by : (b : Bool) (x : Option ℕ) → cond b p (cond b None x) ≡ cond b p x
  by true x = refl
  by false x = refl

pub none_left : (t c u : ℕ) (f : ℕ → ℕ → ℕ → Option ℕ) → with_found t c u None f t c u ≡ None
none_left t c u f = rw (equal_test t t refl, equal_test c c refl, equal_test u u refl) refl

-- ---- the least

-- one that stands outside changes nothing
least_outside : (f : ℕ → Option ℕ) (v a n : ℕ) (p : Option ℕ) → v < a → least_of (λ w. cond (v == w) p (f w)) a n ≡ least_of f a n
least_outside f v a zero p low = refl
least_outside f v a (suc n) p low =
    let other : (v == a) ≡ false = grind (arith, nat_tests, low) in
    let here : cond (v == a) p (f a) ≡ f a = rw other refl in
    ap (λ x. lesser_of x (least_of (λ w. cond (v == w) p (f w)) (a + 1) n)) here ∙ ap (lesser_of (f a)) (least_outside f v (a + 1) n p (omega arith))

swap : (a b c : Option ℕ) → lesser_of a (lesser_of b c) ≡ lesser_of b (lesser_of a c)
swap a b c = sym (lesser_assoc a b c) ∙ ap (λ x. lesser_of x c) (lesser_comm a b) ∙ lesser_assoc b a c

-- one more than before, where there was none
least_with : (f : ℕ → Option ℕ) (v a n : ℕ) (p : Option ℕ) → f v ≡ None → a ≤ v → v < a + n → least_of (λ w. cond (v == w) p (f w)) a n ≡ lesser_of p (least_of f a n)
least_with f v a zero p none low high = absurd (omega (arith, low, high))
least_with f v a (suc n) p none low high = by (v == a) refl (λ above. least_with f v (a + 1) n p none above (omega (arith, high))) where
  by : (b : Bool) → (v == a) ≡ b → (a + 1 ≤ v → least_of (λ w. cond (v == w) p (f w)) (a + 1) n ≡ lesser_of p (least_of f (a + 1) n)) → lesser_of (cond b p (f a)) (least_of (λ w. cond (v == w) p (f w)) (a + 1) n) ≡ lesser_of p (lesser_of (f a) (least_of f (a + 1) n))
  by true e more =
      let same : v ≡ a = same_number v a e in
      ap (lesser_of p) (least_outside f v (a + 1) n p (omega (arith, same)) ∙ ap (λ x. lesser_of x (least_of f (a + 1) n)) (sym none ∙ ap f same))
  by false e more =
      let above : a + 1 ≤ v = grind (arith, nat_tests, low, e) in
      ap (lesser_of (f a)) (more above) ∙ swap (f a) p (least_of f (a + 1) n)

-- with one more, where there was none
pub least_added : (f : ℕ → ℕ → ℕ → Option ℕ) (t c u : ℕ) (p : Option ℕ) → f t c u ≡ None → 1 ≤ u → u ≤ 64 → least_source (with_found t c u p f t c) ≡ lesser_of p (least_source (f t c))
unfolding least_source
least_added f t c u p none low high = ap (λ (g : ℕ → Option ℕ). least_of g 1 64) (λ i w. same w i) ∙ least_with (f t c) u 1 64 p none low (omega (arith, high)) where
  same : (w : ℕ) → with_found t c u p f t c w ≡ cond (u == w) p (f t c w)
  same w = ap (λ b. cond (b && ((c == c) && (u == w))) p (f t c w)) (equal_test t t refl) ∙ ap (λ b. cond (b && (u == w)) p (f t c w)) (equal_test c c refl)

pub least_with_one : (xs : Shares) (t c u p : ℕ) (rest least : Option ℕ) → found xs t c u ≡ None → 1 ≤ u → u ≤ 64 → rest ≡ least_source (found xs t c) → least ≡ lesser_of (Some p) rest → least ≡ least_source (with_found t c u (Some p) (found xs) t c)
least_with_one xs t c u p rest least none low high is e = e ∙ ap (lesser_of (Some p)) is ∙ sym (least_added (found xs) t c u (Some p) none low high)

pub written_as_found : (t c u : ℕ) (f : ℕ → ℕ → ℕ → Option ℕ) → with_found t c u (f t c u) f ≡ f
written_as_found t c u f = λ i v d w. by v d w (is_same t c u v d w) refl i where
  by : (v d w : ℕ) (b : Bool) → is_same t c u v d w ≡ b → cond b (f t c u) (f v d w) ≡ f v d w
  by v d w true same = let is = same_are t c u v d w same in ap (λ n. f n c u) is.thread ∙ ap (λ n. f v n u) is.cluster ∙ ap (f v d) is.source
  by v d w false other = refl

-- without one that wasn't the least
pub least_left : (f : ℕ → ℕ → ℕ → Option ℕ) (t c u : ℕ) (share least : Option ℕ) → share ≡ f t c u → is_some (f t c u) ≡ true → least ≡ least_source (f t c) → is_same_prio share least ≡ false → 1 ≤ u → u ≤ 64 → least ≡ least_source (with_found t c u None f t c)
least_left f t c u share least is some e other low high = by (f t c u) (least_source (g t c)) some whole (ap (λ o. is_same_prio o (least_source (f t c))) (sym is) ∙ ap (is_same_prio share) (sym e) ∙ other) where
  g : ℕ → ℕ → ℕ → Option ℕ
  g = with_found t c u None f

  whole : least_source (f t c) ≡ lesser_of (f t c u) (least_source (g t c))
  whole =
      ap (λ (h : ℕ → ℕ → ℕ → Option ℕ). least_source (h t c)) (sym (put_back t c u (f t c u) f ∙ written_as_found t c u f))
      ∙ least_added g t c u (f t c u) (none_left t c u f) low high

  by : (p q : Option ℕ) → is_some p ≡ true → least_source (f t c) ≡ lesser_of p q → is_same_prio p (least_source (f t c)) ≡ false → least ≡ q
  by None q some whole other = absurd (false≢true some)
  by (Some p) None some whole other = absurd (true≢false (sym (equal_test p p refl) ∙ sym (ap (is_same_prio (Some p)) whole) ∙ other))
  by (Some p) (Some q) some whole other =
      let apart : (p == lesser p (Some q)) ≡ false = sym (ap (is_same_prio (Some p)) whole) ∙ other in
      let rest : lesser p (Some q) ≡ q = grind (arith, nat_tests, apart) in
      e ∙ whole ∙ ap (λ n. Some n) rest

-- ---- the least so far

-- ---- the least of each thread in each cluster

-- none contributes, so there is no least
pub least_of_none : (f : ℕ → Option ℕ) → ((u : ℕ) → f u ≡ None) → least_source f ≡ None
unfolding least_source
least_of_none f none = ap (λ (g : ℕ → Option ℕ). least_of g 1 64) (λ i u. none u i) ∙ by 1 64 where
  by : (a n : ℕ) → least_of (λ u. None) a n ≡ None
  by a zero = refl
  by a (suc n) = by (a + 1) n

pub least_nowhere : (xs now : Shares) (t c : ℕ) → xs ≡ now → 4 ≤ c → None ≡ least_source (found now t c)
least_nowhere xs now t c same more = sym (least_of_none (found now t c) (λ u. sym (found_nowhere now t c u more)))

-- the others to a thread in a cluster are as before
elsewhere : (t c u : ℕ) (s : Option ℕ) (f : ℕ → ℕ → ℕ → Option ℕ) (v d : ℕ) → ((t == v) && (c == d)) ≡ false → with_found t c u s f v d ≡ f v d
elsewhere t c u s f v d other = λ i w. by (t == v) (c == d) w other i where
  by : (a b : Bool) (w : ℕ) → (a && b) ≡ false → cond (a && (b && (u == w))) s (f v d w) ≡ f v d w
  by true true w other = absurd (true≢false other)
  by true false w other = refl
  by false b w other = refl

pub least_written : (xs new least next : Shares) (t c u at : ℕ) (s p : Option ℕ) → AreLeast xs least → length new ≡ 16384 → found new ≡ with_found t c u s (found xs) → at < 256 → at ≡ row_at t c → is_row t c ≡ true → next ≡ set least at p → p ≡ least_source (with_found t c u s (found xs) t c) → AreLeast new next
least_written xs new least next t c u at s p are size written within place row put is = record {
  cells_each = size;
  rows_each = ap (λ (ys : Shares). length ys) put ∙ length-set least at p ∙ are.rows_each;
  is_least = λ v d inside. ap (λ (ys : Shares). nth None ys (row_of v d)) put ∙ by v d inside ((t == v) && (c == d)) refl ∙ ap (λ (f : ℕ → ℕ → ℕ → Option ℕ). least_source (f v d)) (sym written);
} where
  here : row_of t c ≡ suc at
  here = omega (arith, place)

  same : (v d : ℕ) → t ≡ v → c ≡ d → nth None (set least at p) (row_of v d) ≡ least_source (with_found t c u s (found xs) v d)
  same v d e f =
      ap (λ n. nth None (set least at p) (row_of n d)) (sym e) ∙ ap (λ n. nth None (set least at p) (row_of t n)) (sym f)
      ∙ ap (nth None (set least at p)) here ∙ get_or-set_same least at p None (omega (arith, are.rows_each, within)) ∙ is
      ∙ ap (λ n. least_source (with_found t c u s (found xs) n c)) e ∙ ap (λ n. least_source (with_found t c u s (found xs) v n)) f

  apart : (v d : ℕ) → is_row v d ≡ true → ((t == v) && (c == d)) ≡ false → row_of v d ≢ suc at
  apart v d inside other e =
      let are = same_row t c v d (row_within t c row) (row_within v d inside) (e ∙ sym here) in
      true≢false (sym (both (t == v) (c == d) (equal_test t v (sym are.0)) (equal_test c d (sym are.1))) ∙ other)

  by : (v d : ℕ) → is_row v d ≡ true → (b : Bool) → ((t == v) && (c == d)) ≡ b → nth None (set least at p) (row_of v d) ≡ least_source (with_found t c u s (found xs) v d)
  by v d inside true e = same v d (same_number t v (and_front (t == v) (c == d) e)) (same_number c d (and_back (t == v) (c == d) e))
  by v d inside false other =
      nth-with_other None p least (suc at) (row_of v d) (apart v d inside other)
      ∙ are.is_least v d inside
      ∙ ap (λ (f : ℕ → Option ℕ). least_source f) (sym (elsewhere t c u s (found xs) v d other))

pub least_of_nones : (cells least : Shares) → cells ≡ nones 16384 → least ≡ nones 256 → AreLeast cells least
least_of_nones cells least e f = record {
  cells_each = ap (λ (ys : Shares). length ys) e ∙ length_nones 16384;
  rows_each = ap (λ (ys : Shares). length ys) f ∙ length_nones 256;
  is_least = λ t c row. ap (λ (ys : Shares). nth None ys (row_of t c)) f ∙ nth_nones 256 (row_of t c) ∙ sym (least_of_none (found cells t c) (λ u. ap (λ (ys : Shares). found ys t c u) e ∙ found_nones 16384 t c u));
}

-- ---- who contributes to whom

-- what was noted in the set of a row
pub record IsNotedAt (old new : List IndexSet) (row index : ℕ) (there : Bool) : Type 0 where
  pub size : length new ≡ length old
  pub here : (i : ℕ) → is_in (get_or new row no_indices) i ≡ cond (index == i) there (is_in (get_or old row no_indices) i)
  pub others : (r : ℕ) → r ≢ row → get_or new r no_indices ≡ get_or old r no_indices

some_of : (b : Bool) (s x : Option ℕ) → is_some (cond b s x) ≡ cond b (is_some s) (is_some x)
some_of true s x = refl
some_of false s x = refl

and_swapped : (a b : Bool) → (a && b) ≡ (b && a)
and_swapped true true = refl
and_swapped true false = refl
and_swapped false true = refl
and_swapped false false = refl

other_row : (t c v d : ℕ) → IsRow t c → IsRow v d → ((t == v) && (c == d)) ≡ false → row_at v d ≢ row_at t c
other_row t c v d row inside other e =
    let are = same_row t c v d row inside (ap (λ n. n + 1) e) in
    true≢false (sym (both (t == v) (c == d) (equal_test t v (sym are.0)) (equal_test c d (sym are.1))) ∙ other)

pub indexed_written : (xs new : Shares) (sources targets sources' targets' : List IndexSet) (t c u at to : ℕ) (s : Option ℕ) → AreIndexed xs sources targets → found new ≡ with_found t c u s (found xs) → is_row t c ≡ true → is_row u c ≡ true → at ≡ row_at t c → to ≡ row_at u c → IsNotedAt sources sources' at u (is_some s) → IsNotedAt targets targets' to t (is_some s) → AreIndexed new sources' targets'
indexed_written xs new sources targets sources' targets' t c u at to s are written row from place goal in_sources in_targets = record {
  sources_each = in_sources.size ∙ are.sources_each;
  targets_each = in_targets.size ∙ are.targets_each;
  are_sources = λ v d w inside. by_source v d w inside ((t == v) && (c == d)) refl ∙ ap (λ (f : ℕ → ℕ → ℕ → Option ℕ). is_some (f v d w)) (sym written);
  are_targets = λ v d w inside. by_target v d w inside ((u == w) && (c == d)) refl ∙ ap (λ (f : ℕ → ℕ → ℕ → Option ℕ). is_some (f v d w)) (sym written);
} where
  here_source : (w : ℕ) → is_in (set_at sources' t c) w ≡ is_some (with_found t c u s (found xs) t c w)
  here_source w =
      ap (λ n. is_in (get_or sources' n no_indices) w) (sym place)
      ∙ in_sources.here w
      ∙ ap (λ n. cond (u == w) (is_some s) (is_in (get_or sources n no_indices) w)) place
      ∙ ap (cond (u == w) (is_some s)) (are.are_sources t c w row)
      ∙ sym (some_of (u == w) s (found xs t c w))
      ∙ ap (λ b. is_some (cond (b && (u == w)) s (found xs t c w))) (sym (equal_test c c refl))
      ∙ ap (λ b. is_some (cond (b && ((c == c) && (u == w))) s (found xs t c w))) (sym (equal_test t t refl))

  by_source : (v d w : ℕ) → is_row v d ≡ true → (b : Bool) → ((t == v) && (c == d)) ≡ b → is_in (set_at sources' v d) w ≡ is_some (with_found t c u s (found xs) v d w)
  by_source v d w inside true e =
      let one = same_number t v (and_front (t == v) (c == d) e) in
      let two = same_number c d (and_back (t == v) (c == d) e) in
      ap (λ n. is_in (set_at sources' n d) w) (sym one) ∙ ap (λ n. is_in (set_at sources' t n) w) (sym two)
      ∙ here_source w
      ∙ ap (λ n. is_some (with_found t c u s (found xs) t n w)) two ∙ ap (λ n. is_some (with_found t c u s (found xs) n d w)) one
  by_source v d w inside false other =
      ap (λ set. is_in set w) (in_sources.others (row_at v d) (λ e. other_row t c v d (row_within t c row) (row_within v d inside) other (e ∙ place)))
      ∙ are.are_sources v d w inside
      ∙ ap (λ (f : ℕ → Option ℕ). is_some (f w)) (sym (elsewhere t c u s (found xs) v d other))

  here_target : (v : ℕ) → is_in (set_at targets' u c) v ≡ is_some (with_found t c u s (found xs) v c u)
  here_target v =
      ap (λ n. is_in (get_or targets' n no_indices) v) (sym goal)
      ∙ in_targets.here v
      ∙ ap (λ n. cond (t == v) (is_some s) (is_in (get_or targets n no_indices) v)) goal
      ∙ ap (cond (t == v) (is_some s)) (are.are_targets v c u from)
      ∙ sym (some_of (t == v) s (found xs v c u))
      ∙ ap (λ b. is_some (cond b s (found xs v c u))) (sym (with_true (t == v)))
      ∙ ap (λ b. is_some (cond ((t == v) && b) s (found xs v c u))) (sym (both (c == c) (u == u) (equal_test c c refl) (equal_test u u refl)))
    where
      with_true : (b : Bool) → (b && true) ≡ b
      with_true true = refl
      with_true false = refl

  by_target : (v d w : ℕ) → is_row w d ≡ true → (b : Bool) → ((u == w) && (c == d)) ≡ b → is_in (set_at targets' w d) v ≡ is_some (with_found t c u s (found xs) v d w)
  by_target v d w inside true e =
      let one = same_number u w (and_front (u == w) (c == d) e) in
      let two = same_number c d (and_back (u == w) (c == d) e) in
      ap (λ n. is_in (set_at targets' n d) v) (sym one) ∙ ap (λ n. is_in (set_at targets' u n) v) (sym two)
      ∙ here_target v
      ∙ ap (λ n. is_some (with_found t c u s (found xs) v n u)) two ∙ ap (λ n. is_some (with_found t c u s (found xs) v d n)) one
  by_target v d w inside false other =
      ap (λ set. is_in set v) (in_targets.others (row_at w d) (λ e. other_row u c w d (row_within u c from) (row_within w d inside) other (e ∙ goal)))
      ∙ are.are_targets v d w inside
      ∙ ap (λ b. is_some (cond b s (found xs v d w))) (sym (ap (λ b. (t == v) && b) (and_swapped (c == d) (u == w) ∙ other) ∙ and_false (t == v)))

pub indexed_none : (cells : Shares) (sources targets : List IndexSet) → cells ≡ nones 16384 → length sources ≡ 256 → ((r i : ℕ) → is_in (get_or sources r no_indices) i ≡ false) → length targets ≡ 256 → ((r i : ℕ) → is_in (get_or targets r no_indices) i ≡ false) → AreIndexed cells sources targets
indexed_none cells sources targets e size none size2 none2 = record {
  sources_each = size;
  targets_each = size2;
  are_sources = λ t c u row. none (row_at t c) u ∙ sym (nothing t c u);
  are_targets = λ t c u row. none2 (row_at u c) t ∙ sym (nothing t c u);
} where
  nothing : (t c u : ℕ) → is_some (found cells t c u) ≡ false
  nothing t c u = ap (λ o. is_some o) (ap (λ (ys : Shares). found ys t c u) e ∙ found_nones 16384 t c u)

-- the set of a row is read
pub set_there : (sets : List IndexSet) (at t c : ℕ) (r : IndexSet) → length sets ≡ 256 → at < 256 → at ≡ row_at t c → r ≡ get_or sets at r → r ≡ set_at sets t c
set_there sets at t c r size within place is = get_or_read_under sets at 256 r no_indices is within (sym size) ∙ ap (λ n. get_or sets n no_indices) place

-- what one set has, noted in it or not
pub noted_in : (index : ℕ) (set with : IndexSet) → ((i : ℕ) → is_in with i ≡ ((index == i) || is_in set i)) → (i : ℕ) → is_in with i ≡ cond (index == i) true (is_in set i)
noted_in index set with is i = is i ∙ by (index == i) (is_in set i) where
  by : (a b : Bool) → (a || b) ≡ cond a true b
  by true b = refl
  by false b = refl

pub noted_out : (index : ℕ) (set with : IndexSet) → ((i : ℕ) → is_in with i ≡ (not (index == i) && is_in set i)) → (i : ℕ) → is_in with i ≡ cond (index == i) false (is_in set i)
noted_out index set with is i = is i ∙ by (index == i) (is_in set i) where
  by : (a b : Bool) → (not a && b) ≡ cond a false b
  by true b = refl
  by false b = refl

pub row_noted : (sets new : List IndexSet) (row index : ℕ) (there : Bool) (was now : IndexSet) → row < length sets → was ≡ get_or sets row was → ((i : ℕ) → is_in now i ≡ cond (index == i) there (is_in was i)) → new ≡ set sets row now → IsNotedAt sets new row index there
row_noted sets new row index there was now within is noted put = record {
  size = ap (λ (ys : List IndexSet). length ys) put ∙ length-set sets row now;
  here = λ i. ap (λ (ys : List IndexSet). is_in (get_or ys row no_indices) i) put ∙ ap (λ x. is_in x i) (get_or-set_same sets row now no_indices within) ∙ noted i ∙ ap (λ x. cond (index == i) there (is_in x i)) (get_or_read_under sets row (length sets) was no_indices is within refl);
  others = λ r other. ap (λ (ys : List IndexSet). get_or ys r no_indices) put ∙ get_or-set_other sets row r now no_indices other;
}

-- sets of no index
pub none_replicated : (sets : List IndexSet) (n : ℕ) (none : IndexSet) → sets ≡ replicate n none → ((i : ℕ) → is_in none i ≡ false) → (r i : ℕ) → is_in (get_or sets r no_indices) i ≡ false
none_replicated sets n none e all r i = ap (λ (ys : List IndexSet). is_in (get_or ys r no_indices) i) e ∙ ⊎_elim (λ less. ap (λ set. is_in set i) (get_or-replicate n r none no_indices less) ∙ all i) (λ more. ap (λ set. is_in set i) (get_or_past (replicate n none) r no_indices (rw (length-replicate {A = IndexSet} n none) more)) ∙ none_in 0 refl i) (cases_lt r n)

pub none_of : (o : Option ℕ) → is_some o ≡ false → o ≡ None
none_of None e = refl
none_of (Some x) e = absurd (true≢false e)

-- who contributes nothing contributes nothing where another is left out
pub none_but : (t c u : ℕ) (f : ℕ → ℕ → ℕ → Option ℕ) (w : ℕ) → is_some (f t c w) ≡ false → with_found t c u None f t c w ≡ None
none_but t c u f w none = by (is_same t c u t c w) where
  by : (b : Bool) → cond b None (f t c w) ≡ None
  by true = refl
  by false = none_of (f t c w) none

-- ---- the least of those in a set

-- what those in a set have
abbrev among : IndexSet → (ℕ → Option ℕ) → ℕ → Option ℕ
among set f u = cond (is_in set u) (f u) None

-- this one and those that are left in the set have the least of all
abbrev pub IsComparing : (ℕ → Option ℕ) → IndexSet → Option ℕ → Type 0
IsComparing f rest best = lesser_of best (least_source (among rest f)) ≡ least_source f

pub comparing_starts : (f : ℕ → Option ℕ) (set : IndexSet) → ((u : ℕ) → is_in set u ≡ false → f u ≡ None) → IsComparing f set None
comparing_starts f set none = ap least_source (λ i u. by u (is_in set u) refl i) where
  by : (u : ℕ) (b : Bool) → is_in set u ≡ b → cond b (f u) None ≡ f u
  by u true e = refl
  by u false e = sym (none u e)

pub comparing_goes_on : (f : ℕ → Option ℕ) (rest next : IndexSet) (v : ℕ) (best more one : Option ℕ) → IsTaken rest v next → one ≡ f v → more ≡ lesser_of best one → IsComparing f rest best → IsComparing f next more
unfolding least_source
comparing_goes_on f rest next v best more one is at e so_far =
    ap (λ o. lesser_of o (least_source (among next f))) (e ∙ ap (lesser_of best) at)
    ∙ lesser_assoc best (f v) (least_source (among next f))
    ∙ ap (lesser_of best) (sym (least_with (among next f) v 1 64 (f v) gone is.low (omega (arith, is.high))) ∙ ap (λ (g : ℕ → Option ℕ). least_of g 1 64) (λ i w. sym (all w (v == w) refl) i))
    ∙ so_far
  where
    gone : among next f v ≡ None
    gone = ap (λ b. cond b (f v) None) (is.rest v ∙ ap (λ b. not b && is_in rest v) (equal_test v v refl))

    all : (w : ℕ) (b : Bool) → (v == w) ≡ b → among rest f w ≡ cond (v == w) (f v) (among next f w)
    all w true e =
        let same = same_number v w e in
        ap (λ n. among rest f n) (sym same) ∙ ap (λ b. cond b (f v) None) is.there ∙ sym (ap (λ b. cond b (f v) (among next f w)) e)
    all w false e = ap (λ b. cond b (f w) None) (sym (is.rest w ∙ ap (λ b. not b && is_in rest w) e)) ∙ sym (ap (λ b. cond b (f v) (among next f w)) e)

pub comparing_ends : (f : ℕ → Option ℕ) (rest : IndexSet) (best : Option ℕ) → ((u : ℕ) → is_in rest u ≡ false) → IsComparing f rest best → best ≡ least_source f
comparing_ends f rest best none so_far =
    sym (ap (lesser_of best) (least_of_none (among rest f) (λ u. ap (λ b. cond b (f u) None) (none u))) ∙ lesser_none best) ∙ so_far

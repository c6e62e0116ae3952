-- Who helps whom: a thread is helped by one processor at most, by the least of those that are offered for it, and by one where there are any.
use Rattle.std.proofs.Common.{◌≡◌, ℕ, zero, suc, ◌<◌, ◌≤◌, Bool, true, false, cond, ◌&&◌, ◌||◌, ◌==◌, not, Option, Some, None, ⊎_elim, arith, refl, ap, subst, sym, ◌∙◌}
use Rattle.std.proofs.lemmas.Bool.{false≢true, cases_lt}
use Rattle.rk_model.specs.Scheduling.Chains.{end_of, end_on}
use Rattle.rk_model.specs.Scheduling.Helping.{Scene, is_for, sits_below, is_seated, end_in, offer, offer_of, offered, is_taken, helped_by, helped_in}
use Rattle.std.specs.Bool.{if◌then◌else◌}
use Rattle.rk_model.proofs.BooleanLemmas.{equal_test, same_number, either}
use Rattle.rk_model.proofs.ChainLemmas.{end_agrees}

-- What an offer of a thread says: it spins, and what it offers for is the end of its chain, ready, and on no processor.
pub record IsOffer (x : Scene) (u e : ℕ) : Type 0 where
  pub spins : x.spins u ≡ true
  pub end : end_in x u ≡ e
  pub ready : x.ready e ≡ true
  pub apart : is_seated x e ≡ false

pub offer_says : (x : Scene) (u e : ℕ) → offer x u ≡ Some e → IsOffer x u e
unfolding offer
offer_says x u e h = by (x.spins u) (x.ready (end_in x u)) (is_seated x (end_in x u)) refl refl refl h where
  by : (a b d : Bool) → x.spins u ≡ a → x.ready (end_in x u) ≡ b → is_seated x (end_in x u) ≡ d → cond (a && (b && not d)) (Some (end_in x u)) None ≡ Some e → IsOffer x u e
  by true true false spins ready apart h =
      let same : end_in x u ≡ e = cc in
      record { spins = spins; end = same; ready = subst (λ v. x.ready v ≡ true) same ready; apart = subst (λ v. is_seated x v ≡ false) same apart }
  by true true true spins ready apart h = let no : ⊥ = cc in absurd no
  by true false d spins ready apart h = let no : ⊥ = cc in absurd no
  by false b d spins ready apart h = let no : ⊥ = cc in absurd no

pub offer_is : (x : Scene) (u e : ℕ) → IsOffer x u e → offer x u ≡ Some e
unfolding offer
offer_is x u e is =
    let ready : x.ready (end_in x u) ≡ true = ap x.ready is.end ∙ is.ready in
    let apart : is_seated x (end_in x u) ≡ false = ap (is_seated x) is.end ∙ is.apart in
    rw (is.spins, ready, apart) (ap (λ v. Some v) is.end)

is_for_it : (t : ℕ) (o : Option ℕ) → is_for t o ≡ true → o ≡ Some t
is_for_it t None h = absurd (false≢true h)
is_for_it t (Some e) h = ap (λ v. Some v) (same_number e t h)

for_it : (t : ℕ) (o : Option ℕ) → o ≡ Some t → is_for t o ≡ true
for_it t o h = ap (is_for t) h ∙ equal_test t t refl

-- ---- whether a lesser processor is offered for a thread

-- a processor below a number that is offered for a thread
abbrev pub OfferedBelow : Scene → ℕ → ℕ → Type 0
OfferedBelow x t p = (q : ℕ) × ((q < p) × (offered x q ≡ Some t))

pub taken_below : (x : Scene) (t p : ℕ) → is_taken x t p ≡ true → OfferedBelow x t p
taken_below x t zero h = absurd (false≢true h)
taken_below x t (suc p) h =
    ⊎_elim
    (λ here. let low : p < suc p = omega arith in (p, (low, is_for_it t (offered x p) here)))
    (λ below. let r = taken_below x t p below in let low : r.0 < suc p = omega (arith, r.1.0) in (r.0, (low, r.1.1)))
    (either (is_for t (offered x p)) (is_taken x t p) h)

pub not_taken : (x : Scene) (t p q : ℕ) → is_taken x t p ≡ false → q < p → offered x q ≡ Some t → ⊥
not_taken x t zero q none low h = omega (arith, low)
not_taken x t (suc p) q none low h = by (λ f less. not_taken x t p q f less h) (is_for t (offered x p)) (is_taken x t p) refl refl none where
  at_last : is_for t (offered x p) ≡ false → q ≡ p → ⊥
  at_last e same = false≢true (sym e ∙ for_it t (offered x p) (ap (offered x) (sym same) ∙ h))

  by : (is_taken x t p ≡ false → q < p → ⊥) → (a b : Bool) → is_for t (offered x p) ≡ a → is_taken x t p ≡ b → (a || b) ≡ false → ⊥
  by rest true b e f none = false≢true (sym none)
  by rest false true e f none = false≢true (sym none)
  by rest false false e f none = ⊎_elim (λ less. rest f less) (λ more. at_last e (omega (arith, low, more))) (cases_lt q p)

-- ---- whom a processor helps

pub helped_says : (x : Scene) (p e : ℕ) → helped_in x p ≡ Some e → (offered x p ≡ Some e) × (is_taken x e p ≡ false)
unfolding helped_in
helped_says x p e h = by (offered x p) refl h where
  tests : (u : ℕ) (b : Bool) → is_taken x u p ≡ b → cond b None (Some u) ≡ Some e → (u ≡ e) × (is_taken x e p ≡ false)
  tests u true is h = let no : ⊥ = cc in absurd no
  tests u false is h = let same : u ≡ e = cc in (same, subst (λ v. is_taken x v p ≡ false) same is)

  by : (o : Option ℕ) → offered x p ≡ o → helped_by x p o ≡ Some e → (offered x p ≡ Some e) × (is_taken x e p ≡ false)
  by None is h = let no : ⊥ = cc in absurd no
  by (Some u) is h = let r = tests u (is_taken x u p) refl h in (is ∙ ap (λ v. Some v) r.0, r.1)

pub helped_is : (x : Scene) (p e : ℕ) → offered x p ≡ Some e → is_taken x e p ≡ false → helped_in x p ≡ Some e
unfolding helped_in
helped_is x p e offers free = ap (helped_by x p) offers ∙ ap (λ b. cond b None (Some e)) free

-- The processor that helps a thread is no greater than any that is offered for it,
pub helped_least : (x : Scene) (p q e : ℕ) → helped_in x p ≡ Some e → offered x q ≡ Some e → p ≤ q
helped_least x p q e h offers = ⊎_elim (λ less. absurd (not_taken x e p q (helped_says x p e h).1 less offers)) (λ more. more) (cases_lt q p)

-- so there is one at most,
pub helped_once : (x : Scene) (p q e : ℕ) → helped_in x p ≡ Some e → helped_in x q ≡ Some e → p ≡ q
helped_once x p q e h i = omega (arith, helped_least x p q e h (helped_says x q e i).0, helped_least x q p e i (helped_says x p e h).0)

-- and where some processor is offered for a thread, one helps it.
pub helper_found : (x : Scene) (p e : ℕ) → offered x p ≡ Some e → (q : ℕ) × ((q ≤ p) × (helped_in x q ≡ Some e))
helper_found x p e offers = found (suc p) p (omega arith) offers where
  found : (n p : ℕ) → p < n → offered x p ≡ Some e → (q : ℕ) × ((q ≤ p) × (helped_in x q ≡ Some e))
  found zero p low offers = absurd (omega (arith, low))
  found (suc n) p low offers = by (is_taken x e p) refl (λ q less. found n q (omega (arith, less, low))) where
    by : (b : Bool) → is_taken x e p ≡ b → ((q : ℕ) → q < p → offered x q ≡ Some e → (r : ℕ) × ((r ≤ q) × (helped_in x r ≡ Some e))) → (q : ℕ) × ((q ≤ p) × (helped_in x q ≡ Some e))
    by false free rest = let low : p ≤ p = omega arith in (p, (low, helped_is x p e offers free))
    by true taken rest =
        let below = taken_below x e p taken in
        let r = rest below.0 below.1.0 below.1.1 in
        let less : r.0 ≤ p = omega (arith, r.1.0, below.1.0) in
        (r.0, (less, r.1.1))

-- who is helped is on no processor
pub helped_apart : (x : Scene) (p e : ℕ) → helped_in x p ≡ Some e → is_seated x e ≡ false
helped_apart x p e h = by (x.cpu p) refl (helped_says x p e h).0 where
  by : (o : Option ℕ) → x.cpu p ≡ o → offered x p ≡ Some e → is_seated x e ≡ false
  by None is offers = let no : ⊥ = cc in absurd no
  by (Some u) is offers = (offer_says x u e (ap (offer_of x) (sym is) ∙ offers)).apart

-- ---- a set of threads that no wait ties to others

-- the thread of a processor, if it is one of a set
abbrev pub cut_to : (ℕ → Bool) → Option ℕ → Option ℕ
cut_to inside None = None
cut_to inside (Some u) = if inside u then Some u else None

-- What is known of a set of threads is that of a whole: no thread of the set waits on one outside, and none outside on one of the set; those of the set wait, spin and are ready alike; and the processors that are known have their threads.
pub record IsCut (inside : ℕ → Bool) (whole known : Scene) : Type 0 where
  pub threads : known.threads ≡ whole.threads
  pub apart : (u v : ℕ) → whole.on u ≡ Some v → inside v ≡ inside u
  pub on : (u : ℕ) → inside u ≡ true → known.on u ≡ whole.on u
  pub spins : (u : ℕ) → inside u ≡ true → known.spins u ≡ whole.spins u
  pub ready : (u : ℕ) → inside u ≡ true → known.ready u ≡ whole.ready u
  pub cpu : (p : ℕ) → known.cpu p ≡ cut_to inside (whole.cpu p)

-- the end of a chain is on the side where it begins
end_inside : (inside : ℕ → Bool) (step : ℕ → Option ℕ) → ((u v : ℕ) → step u ≡ Some v → inside v ≡ inside u) → (n u : ℕ) → inside (end_of step n u) ≡ inside u
end_inside inside step apart zero u = refl
end_inside inside step apart (suc n) u = on (step u) refl (end_inside inside step apart n) where
  on : (next : Option ℕ) → step u ≡ next → ((v : ℕ) → inside (end_of step n v) ≡ inside v) → inside (end_on u (end_of step n) next) ≡ inside u
  on None e rest = refl
  on (Some v) e rest = rest v ∙ apart u v e

end_known : (inside : ℕ → Bool) (x y : Scene) → IsCut inside x y → (u : ℕ) → inside u ≡ true → end_in y u ≡ end_in x u
end_known inside x y cut u here =
    ap (λ n. end_of y.on n u) cut.threads
    ∙ end_agrees (λ t. inside t ≡ true) x.on y.on (λ u v here is. cut.apart u v is ∙ here) cut.on x.threads u here

-- who of them sits on a processor does so for the whole
sits_known : (inside : ℕ → Bool) (x y : Scene) → IsCut inside x y → (t p : ℕ) → inside t ≡ true → sits_below y t p ≡ sits_below x t p
sits_known inside x y cut t zero here = refl
sits_known inside x y cut t (suc p) here = ap (λ b. b || sits_below y t p) one ∙ ap (λ b. is_for t (x.cpu p) || b) (sits_known inside x y cut t p here) where
  other : (u : ℕ) → inside u ≡ false → (b : Bool) → (u == t) ≡ b → false ≡ b
  other u out true is = absurd (false≢true (sym out ∙ ap inside (same_number u t is) ∙ here))
  other u out false is = refl

  side : (u : ℕ) (b : Bool) → inside u ≡ b → is_for t (cond b (Some u) None) ≡ is_for t (Some u)
  side u true is = refl
  side u false is = other u is (u == t) refl

  cut_one : (o : Option ℕ) → is_for t (cut_to inside o) ≡ is_for t o
  cut_one None = refl
  cut_one (Some u) = side u (inside u) refl

  one : is_for t (y.cpu p) ≡ is_for t (x.cpu p)
  one = ap (is_for t) (cut.cpu p) ∙ cut_one (x.cpu p)

seated_known : (inside : ℕ → Bool) (x y : Scene) → IsCut inside x y → (t : ℕ) → inside t ≡ true → is_seated y t ≡ is_seated x t
unfolding is_seated
seated_known inside x y cut t here = sits_known inside x y cut t 8 here

offer_known : (inside : ℕ → Bool) (x y : Scene) → IsCut inside x y → (u : ℕ) → inside u ≡ true → offer y u ≡ offer x u
unfolding offer
offer_known inside x y cut u here =
    let end = end_known inside x y cut u here in
    let there : inside (end_in x u) ≡ true = end_inside inside x.on cut.apart x.threads u ∙ here in
    let ready : y.ready (end_in y u) ≡ x.ready (end_in x u) = ap y.ready end ∙ cut.ready (end_in x u) there in
    let seated : is_seated y (end_in y u) ≡ is_seated x (end_in x u) = ap (is_seated y) end ∙ seated_known inside x y cut (end_in x u) there in
    ap (λ b. cond (b && (y.ready (end_in y u) && not (is_seated y (end_in y u)))) (Some (end_in y u)) None) (cut.spins u here)
    ∙ ap (λ b. cond (x.spins u && (b && not (is_seated y (end_in y u)))) (Some (end_in y u)) None) ready
    ∙ ap (λ b. cond (x.spins u && (x.ready (end_in x u) && not b)) (Some (end_in y u)) None) seated
    ∙ ap (λ e. cond (x.spins u && (x.ready (end_in x u) && not (is_seated x (end_in x u)))) (Some e) None) end

-- what a thread outside offers for is outside
offer_outside : (inside : ℕ → Bool) (x y : Scene) → IsCut inside x y → (u e : ℕ) → inside u ≡ false → offer x u ≡ Some e → inside e ≡ false
offer_outside inside x y cut u e out offers = ap inside (sym (offer_says x u e offers).end) ∙ end_inside inside x.on cut.apart x.threads u ∙ out

for_known : (inside : ℕ → Bool) (x y : Scene) → IsCut inside x y → (t p : ℕ) → inside t ≡ true → is_for t (offered y p) ≡ is_for t (offered x p)
for_known inside x y cut t p here = ap (λ o. is_for t (offer_of y o)) (cut.cpu p) ∙ by (x.cpu p) where
  none : (u : ℕ) → inside u ≡ false → (b : Bool) → is_for t (offer x u) ≡ b → false ≡ b
  none u out true is = absurd (false≢true (sym (offer_outside inside x y cut u t out (is_for_it t (offer x u) is)) ∙ here))
  none u out false is = refl

  side : (u : ℕ) (b : Bool) → inside u ≡ b → is_for t (offer_of y (cond b (Some u) None)) ≡ is_for t (offer x u)
  side u true is = ap (is_for t) (offer_known inside x y cut u is)
  side u false is = none u is (is_for t (offer x u)) refl

  by : (o : Option ℕ) → is_for t (offer_of y (cut_to inside o)) ≡ is_for t (offer_of x o)
  by None = refl
  by (Some u) = side u (inside u) refl

taken_known : (inside : ℕ → Bool) (x y : Scene) → IsCut inside x y → (t p : ℕ) → inside t ≡ true → is_taken y t p ≡ is_taken x t p
taken_known inside x y cut t zero here = refl
taken_known inside x y cut t (suc p) here =
    ap (λ b. b || is_taken y t p) (for_known inside x y cut t p here) ∙ ap (λ b. is_for t (offered x p) || b) (taken_known inside x y cut t p here)

-- Whom a processor helps is decided by the threads of such a set alone, where its own thread is of the set.
pub helped_known : (inside : ℕ → Bool) (x y : Scene) → IsCut inside x y → (p u : ℕ) → x.cpu p ≡ Some u → inside u ≡ true → helped_in y p ≡ helped_in x p
unfolding helped_in
helped_known inside x y cut p u has here = by (offer x u) refl where
  mine : y.cpu p ≡ Some u
  mine = cut.cpu p ∙ ap (cut_to inside) has ∙ ap (λ b. cond b (Some u) None) here

  both : (o : Option ℕ) → offer x u ≡ o → helped_by y p o ≡ helped_by x p o
  both None is = refl
  both (Some e) is =
      let there : inside e ≡ true = ap inside (sym (offer_says x u e is).end) ∙ end_inside inside x.on cut.apart x.threads u ∙ here in
      ap (λ b. cond b None (Some e)) (taken_known inside x y cut e p there)

  by : (o : Option ℕ) → offer x u ≡ o → helped_by y p (offered y p) ≡ helped_by x p (offered x p)
  by o is =
      ap (λ c. helped_by y p (offer_of y c)) mine ∙ ap (helped_by y p) (offer_known inside x y cut u here)
      ∙ both (offer x u) refl ∙ ap (λ c. helped_by x p (offer_of x c)) (sym has)

-- one whose own thread is outside, or that has none, isn't known to help
pub helped_unknown : (inside : ℕ → Bool) (x y : Scene) → IsCut inside x y → (p : ℕ) → cut_to inside (x.cpu p) ≡ None → helped_in y p ≡ None
unfolding helped_in
helped_unknown inside x y cut p none = ap (λ c. helped_by y p (offer_of y c)) (cut.cpu p ∙ none)

-- A thread that sits on none of so many processors isn't that of one of them.
pub not_seated : (x : Scene) (t n p : ℕ) → sits_below x t n ≡ false → p < n → x.cpu p ≡ Some t → ⊥
not_seated x t zero p none low h = omega (arith, low)
not_seated x t (suc n) p none low h = by (λ f less. not_seated x t n p f less h) (is_for t (x.cpu n)) (sits_below x t n) refl refl none where
  at_last : is_for t (x.cpu n) ≡ false → p ≡ n → ⊥
  at_last e same = false≢true (sym e ∙ for_it t (x.cpu n) (ap x.cpu (sym same) ∙ h))

  by : (sits_below x t n ≡ false → p < n → ⊥) → (a b : Bool) → is_for t (x.cpu n) ≡ a → sits_below x t n ≡ b → (a || b) ≡ false → ⊥
  by rest true b e f none = false≢true (sym none)
  by rest false true e f none = false≢true (sym none)
  by rest false false e f none = ⊎_elim (λ less. rest f less) (λ more. at_last e (omega (arith, low, more))) (cases_lt p n)

-- A thread that is that of none of so many processors sits on none.
pub nowhere_seated : (x : Scene) (t n : ℕ) → ((p : ℕ) → p < n → x.cpu p ≡ Some t → ⊥) → sits_below x t n ≡ false
nowhere_seated x t zero none = refl
nowhere_seated x t (suc n) none = by (is_for t (x.cpu n)) refl (nowhere_seated x t n (λ p less h. none p (omega (arith, less)) h)) where
  by : (a : Bool) → is_for t (x.cpu n) ≡ a → sits_below x t n ≡ false → (a || sits_below x t n) ≡ false
  by true e rest = absurd (none n (omega arith) (is_for_it t (x.cpu n) e))
  by false e rest = rest

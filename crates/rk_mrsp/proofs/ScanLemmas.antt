-- What is found step by step: the end of a chain, and whether one of some processors has a thread, or is offered for it.
use Rattle.std.proofs.Common.{◌≡◌, ℕ, zero, suc, ◌+◌, ◌-◌, ◌<◌, ◌≤◌, List, [], ◌∷◌, ◌++◌, Bool, true, false, ◌||◌, ◌==◌, ⊎_elim, Option, Some, None, length, drop, arith, refl, sym, ap, ◌∙◌}
use Rattle.std.specs.Bool.{if◌then◌else◌}
use Rattle.std.proofs.lemmas.Bool.{false≢true, cases_lt}
use Rattle.std.proofs.lemmas.List.{append-nil}
use Rattle.std.proofs.Math.ListN.{drop_of_length-le}
use Rattle.std.proofs.lemmas.Bool.Decides.{nat_tests}
use Rattle.rk_model.specs.Scheduling.Chains.{end_of, end_on}
use Rattle.rk_model.specs.Scheduling.Helping.{Scene, is_for, sits_below, is_seated, offer_of, offered, is_taken, helped_in}
use Rattle.rk_model.proofs.BooleanLemmas.{or_front, or_back, same_number}
use Rattle.rk_model.proofs.HelpingLemmas.{helped_says}
use Rattle.rk_mrsp.specs.declared.seats.Seat.{Seat}
use Rattle.rk_mrsp.specs.Scenes.{cpu_in, host_on, hosts_of}

-- what a walk to the end of a chain does next, where i of n threads are behind it
pub end_next : (step : ℕ → Option ℕ) (u i n : ℕ) → i < n → end_of step (n - i) u ≡ end_on u (end_of step (n - (i + 1))) (step u)
end_next step u i n more = by (n - (i + 1)) (n - i) (omega arith) where
  by : (m left : ℕ) → left ≡ suc m → end_of step left u ≡ end_on u (end_of step m) (step u)
  by m left e = rw e refl

-- ---- of the first processors

-- one has the thread, so one of more has it
pub sits_at : (x : Scene) (t p n : ℕ) → p < n → is_for t (x.cpu p) ≡ true → sits_below x t n ≡ true
sits_at x t p zero low h = absurd (omega (arith, low))
sits_at x t p (suc n) low h =
    ⊎_elim (λ less. or_back (is_for t (x.cpu n)) (sits_at x t p n less h)) (λ more. let same : p ≡ n = omega (arith, low, more) in or_front (sits_below x t n) (ap (λ q. is_for t (x.cpu q)) (sym same) ∙ h)) (cases_lt p n)

-- none of so many has it, nor the next, so none of one more has it
pub sits_next : (x : Scene) (t p : ℕ) → sits_below x t p ≡ false → is_for t (x.cpu p) ≡ false → sits_below x t (p + 1) ≡ false
sits_next x t p none h = let e : p + 1 ≡ suc p = omega arith in rw (e, h) none

pub seated_at : (x : Scene) (t p : ℕ) → p < 8 → is_for t (x.cpu p) ≡ true → true ≡ is_seated x t
unfolding is_seated
seated_at x t p low h = sym (sits_at x t p 8 low h)

pub seated_nowhere : (x : Scene) (t p : ℕ) → 8 ≤ p → p ≤ 8 → sits_below x t p ≡ false → false ≡ is_seated x t
unfolding is_seated
seated_nowhere x t p low high h = let e : p ≡ 8 = omega (arith, low, high) in sym (ap (sits_below x t) (sym e) ∙ h)

-- the same of offers
pub taken_at : (x : Scene) (t p n : ℕ) → p < n → is_for t (offered x p) ≡ true → is_taken x t n ≡ true
taken_at x t p zero low h = absurd (omega (arith, low))
taken_at x t p (suc n) low h =
    ⊎_elim (λ less. or_back (is_for t (offered x n)) (taken_at x t p n less h)) (λ more. let same : p ≡ n = omega (arith, low, more) in or_front (is_taken x t n) (ap (λ q. is_for t (offered x q)) (sym same) ∙ h)) (cases_lt p n)

pub taken_next : (x : Scene) (t p : ℕ) → is_taken x t p ≡ false → is_for t (offered x p) ≡ false → is_taken x t (p + 1) ≡ false
taken_next x t p none h = let e : p + 1 ≡ suc p = omega arith in rw (e, h) none

-- ---- the pairs of a processor and the thread that it helps

-- what helps none is in no pair
host_none : (x : Scene) (seats : List Seat) (p : ℕ) → helped_in x p ≡ None → cpu_in (hosts_of x seats) p ≡ None
host_none x [] p h = refl
host_none x (seat ∷ seats) p h = by (seat.cpu == p) refl (helped_in x seat.cpu) refl (host_none x seats p h) where
  never : (t : ℕ) → (seat.cpu == p) ≡ true → helped_in x seat.cpu ≡ Some t → ⊥
  never t e is = let no : None ≡ Some t = sym h ∙ ap (helped_in x) (sym (same_number seat.cpu p e)) ∙ is in let f : ⊥ = cc in f

  by : (b : Bool) → (seat.cpu == p) ≡ b → (o : Option ℕ) → helped_in x seat.cpu ≡ o → cpu_in (hosts_of x seats) p ≡ None → cpu_in (host_on seat.cpu o ++ hosts_of x seats) p ≡ None
  by b e None is rest = rest
  by true e (Some t) is rest = absurd (never t e is)
  by false e (Some t) is rest = rw e rest

-- what helps one and is among the processors is in its pair
host_some : (x : Scene) (seats : List Seat) (p t : ℕ) → helped_in x p ≡ Some t → (u : ℕ) → cpu_in seats p ≡ Some u → cpu_in (hosts_of x seats) p ≡ Some t
host_some x [] p t h u at = let no : ⊥ = cc in absurd no
host_some x (seat ∷ seats) p t h u at = by (seat.cpu == p) refl (helped_in x seat.cpu) refl (host_some x seats p t h u) at where
  here : (seat.cpu == p) ≡ true → helped_in x seat.cpu ≡ Some t
  here e = ap (helped_in x) (same_number seat.cpu p e) ∙ h

  by : (b : Bool) → (seat.cpu == p) ≡ b → (o : Option ℕ) → helped_in x seat.cpu ≡ o → (cpu_in seats p ≡ Some u → cpu_in (hosts_of x seats) p ≡ Some t) → (if b then Some seat.thread else cpu_in seats p) ≡ Some u → cpu_in (host_on seat.cpu o ++ hosts_of x seats) p ≡ Some t
  by true e None is rest at = let no : None ≡ Some t = sym is ∙ here e in let f : ⊥ = cc in absurd f
  by true e (Some v) is rest at = rw e (sym is ∙ here e)
  by false e None is rest at = rest at
  by false e (Some v) is rest at = rw e (rest at)

-- Each processor is in the pairs with the thread that it helps, and in none where it helps none.
pub hosts_say : (x : Scene) (seats : List Seat) (p : ℕ) → x.cpu p ≡ cpu_in seats p → cpu_in (hosts_of x seats) p ≡ helped_in x p
hosts_say x seats p is = by (helped_in x p) refl where
  found : (t : ℕ) → helped_in x p ≡ Some t → (o : Option ℕ) → x.cpu p ≡ o → cpu_in (hosts_of x seats) p ≡ Some t
  found t h None at = let no : None ≡ Some t = ap (offer_of x) (sym at) ∙ (helped_says x p t h).0 in let f : ⊥ = cc in absurd f
  found t h (Some u) at = host_some x seats p t h u (sym is ∙ at)

  by : (o : Option ℕ) → helped_in x p ≡ o → cpu_in (hosts_of x seats) p ≡ helped_in x p
  by None h = host_none x seats p h ∙ sym h
  by (Some t) h = found t h (x.cpu p) refl ∙ sym h

-- when all processors have been gone through, their pairs are written
pub all_hosts : (x : Scene) (out seats : List Seat) (i : ℕ) → length seats ≤ i → out ++ hosts_of x (drop i seats) ≡ hosts_of x seats → out ≡ hosts_of x seats
all_hosts x out seats i past told = sym (append-nil out) ∙ ap (λ left. out ++ hosts_of x left) (sym (drop_of_length-le seats past)) ∙ told

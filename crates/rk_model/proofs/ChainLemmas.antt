-- Chains, by any function that gives each thread the next: which of them still end after it has changed, and how long they are.
use Rattle.std.proofs.Common.{◌≡◌, ◌≢◌, ℕ, zero, suc, ◌+◌, ◌-◌, ◌<◌, ◌≤◌, ◌∷◌, Bool, true, false, cond, ◌==◌, ◌||◌, ◌⊎◌, inl, inr, Option, Some, None, length, arith, refl, ap, subst, sym, ◌∙◌}
use Rattle.std.proofs.lemmas.Bool.{true≢false, false≢true}
use Rattle.rk_model.specs.Lists.{has, times}
use Rattle.rk_model.specs.Scheduling.Chains.{chain, chain_on, ends_by, ends_on, end_of, end_on, reaches, Ends}
use Rattle.rk_model.proofs.BooleanLemmas.{equal_test, same_number, either}
use Rattle.rk_model.proofs.CountLemmas.{times_none, length_within}

-- what a walk along a chain does next, where i of n threads are behind it
pub chain_next : (step : ℕ → Option ℕ) (u i n : ℕ) → i < n → chain step (n - i) u ≡ u ∷ chain_on (chain step (n - (i + 1))) (step u)
chain_next step u i n more = by (n - (i + 1)) (n - i) (omega arith) where
  by : (m left : ℕ) → left ≡ suc m → chain step left u ≡ u ∷ chain_on (chain step m) (step u)
  by m left e = rw e refl

-- where a chain has ended, room for one more thread changes nothing
pub chain_steady : (step : ℕ → Option ℕ) (n u : ℕ) → ends_by step n u ≡ true → chain step (suc n) u ≡ chain step n u
chain_steady step zero u ends = absurd (false≢true ends)
chain_steady step (suc n) u ends = ap (λ rest. u ∷ rest) (on (chain_steady step n) (step u) ends) where
  on : ((v : ℕ) → ends_by step n v ≡ true → chain step (suc n) v ≡ chain step n v) → (next : Option ℕ) → ends_on (ends_by step n) next ≡ true → chain_on (chain step (suc n)) next ≡ chain_on (chain step n) next
  on steady None ends = refl
  on steady (Some v) ends = steady v ends

-- a chain that ends within n threads ends within one more
pub ends_more : (step : ℕ → Option ℕ) (n u : ℕ) → ends_by step n u ≡ true → ends_by step (suc n) u ≡ true
ends_more step zero u ends = absurd (false≢true ends)
ends_more step (suc n) u ends = on (ends_more step n) (step u) ends where
  on : ((v : ℕ) → ends_by step n v ≡ true → ends_by step (suc n) v ≡ true) → (next : Option ℕ) → ends_on (ends_by step n) next ≡ true → ends_on (ends_by step (suc n)) next ≡ true
  on more None ends = refl
  on more (Some v) ends = more v ends

-- The chain of u ends, and is no longer than the chain of v.
pub record IsWithin (step : ℕ → Option ℕ) (n u v : ℕ) : Type 0 where
  pub ends : ends_by step n u ≡ true
  pub shorter : length (chain step n u) ≤ length (chain step n v)

-- a thread that a chain reaches has a chain that ends where that one does, and is no longer
pub within : (step : ℕ → Option ℕ) (n u v : ℕ) → ends_by step n v ≡ true → reaches step n v u ≡ true → IsWithin step n u v
within step zero u v ends met = absurd (false≢true ends)
within step (suc n) u v ends met = by (λ w. within step n u w) (v == u) refl met where
  further : (w : ℕ) → step v ≡ Some w → IsWithin step n u w → IsWithin step (suc n) u v
  further w e inner =
      let a : length (chain step (suc n) u) ≡ length (chain step n u) = ap length (chain_steady step n u inner.ends) in
      let b : length (chain step (suc n) v) ≡ suc (length (chain step n w)) = rw e refl in
      record { ends = ends_more step n u inner.ends; shorter = omega (arith, a, b, inner.shorter) }

  on : ((w : ℕ) → ends_by step n w ≡ true → reaches step n w u ≡ true → IsWithin step n u w) → (next : Option ℕ) → step v ≡ next → ends_on (ends_by step n) next ≡ true → has (chain_on (chain step n) next) u ≡ true → IsWithin step (suc n) u v
  on inner None e ends met = absurd (false≢true met)
  on inner (Some w) e ends met = further w e (inner w ends met)

  by : ((w : ℕ) → ends_by step n w ≡ true → reaches step n w u ≡ true → IsWithin step n u w) → (b : Bool) → (v == u) ≡ b → (b || has (chain_on (chain step n) (step v)) u) ≡ true → IsWithin step (suc n) u v
  by inner true e met =
      let same : u ≡ v = sym (same_number v u e) in
      record { ends = rw same ends; shorter = rw same (omega arith) }
  by inner false e met = on inner (step v) refl ends met

-- A chain that ends doesn't come back to the thread where it begins.
pub no_return : (step : ℕ → Option ℕ) (n u v : ℕ) → step u ≡ Some v → ends_by step n v ≡ true → reaches step n v u ≡ false
no_return step n u v e ends = by (reaches step n v u) refl where
  longer : IsWithin step n u v → ⊥
  longer inner =
      let s : length (chain step n u) ≡ suc (length (chain step n v)) = ap length (sym (chain_steady step n u inner.ends)) ∙ rw e refl in
      omega (arith, s, inner.shorter)

  by : (b : Bool) → reaches step n v u ≡ b → reaches step n v u ≡ false
  by true met = absurd (longer (within step n u v ends met))
  by false met = met

-- all threads but one step as before
abbrev pub AllBut : ℕ → (ℕ → Option ℕ) → (ℕ → Option ℕ) → Type 0
AllBut u step now = (w : ℕ) → w ≢ u → now w ≡ step w

apart : (w u : ℕ) → (w == u) ≡ false → w ≢ u
apart w u other same = true≢false (sym (equal_test w u same) ∙ other)

-- a chain that doesn't reach u ends as before where only u steps otherwise
pub keeps_end : (step now : ℕ → Option ℕ) (u : ℕ) → AllBut u step now → (n w : ℕ) → reaches step n w u ≡ false → ends_by step n w ≡ true → ends_by now n w ≡ true
keeps_end step now u same zero w unmet ends = absurd (false≢true ends)
keeps_end step now u same (suc n) w unmet ends = by (keeps_end step now u same n) (w == u) refl unmet where
  on : ((x : ℕ) → reaches step n x u ≡ false → ends_by step n x ≡ true → ends_by now n x ≡ true) → (next : Option ℕ) → has (chain_on (chain step n) next) u ≡ false → ends_on (ends_by step n) next ≡ true → ends_on (ends_by now n) next ≡ true
  on keeps None unmet ends = refl
  on keeps (Some x) unmet ends = keeps x unmet ends

  by : ((x : ℕ) → reaches step n x u ≡ false → ends_by step n x ≡ true → ends_by now n x ≡ true) → (b : Bool) → (w == u) ≡ b → (b || has (chain_on (chain step n) (step w)) u) ≡ false → ends_by now (suc n) w ≡ true
  by keeps true e unmet = absurd (true≢false unmet)
  by keeps false e unmet = rw (same w (apart w u e)) (on keeps (step w) unmet ends)

-- the chain of a thread ends where that of the thread ends to which it steps
ends_from : (step : ℕ → Option ℕ) (u : ℕ) (next : Option ℕ) → step u ≡ next → ((v : ℕ) → next ≡ Some v → Ends step v) → Ends step u
ends_from step u None e rest = (1, rw e refl)
ends_from step u (Some v) e rest = let ends = rest v refl in (suc ends.0, rw e ends.1)

-- every chain ends where only u steps otherwise and its own chain ends
ends_obtained : (step now : ℕ → Option ℕ) (u : ℕ) → AllBut u step now → Ends now u → (n w : ℕ) → ends_by step n w ≡ true → Ends now w
ends_obtained step now u same this zero w ends = absurd (false≢true ends)
ends_obtained step now u same this (suc n) w ends = by (ends_obtained step now u same this n) (w == u) refl where
  by : ((x : ℕ) → ends_by step n x ≡ true → Ends now x) → (b : Bool) → (w == u) ≡ b → Ends now w
  by rest true e = let at : w ≡ u = same_number w u e in rw at this
  by rest false e = ends_from now w (step w) (same w (apart w u e)) (λ x at. rest x (rw at at ends))

-- Where a thread begins to wait for one whose chain doesn't reach it, and the others step as before, every chain still ends.
pub every_end_obtained : (step now : ℕ → Option ℕ) (n u v : ℕ) → now u ≡ Some v → AllBut u step now → ends_by step n v ≡ true → reaches step n v u ≡ false → ((w : ℕ) → Ends step w) → (w : ℕ) → Ends now w
every_end_obtained step now n u v e same ends unmet every w =
    let this : Ends now u = (suc n, rw e (keeps_end step now u same n v unmet ends)) in
    ends_obtained step now u same this (every w).0 w (every w).1

-- a thread steps as before, or to none, or to h
abbrev pub Handed : (ℕ → Option ℕ) → (ℕ → Option ℕ) → ℕ → ℕ → Type 0
Handed step now h w = (now w ≡ step w) ⊎ (now w ≡ None) ⊎ (now w ≡ Some h)

ends_handed : (step now : ℕ → Option ℕ) (h : ℕ) → Ends now h → ((w : ℕ) → Handed step now h w) → (n w : ℕ) → ends_by step n w ≡ true → Ends now w
ends_handed step now h this how zero w ends = absurd (false≢true ends)
ends_handed step now h this how (suc n) w ends = by (ends_handed step now h this how n) (how w) where
  by : ((x : ℕ) → ends_by step n x ≡ true → Ends now x) → Handed step now h w → Ends now w
  by rest (inl same) = ends_from now w (step w) same (λ x at. rest x (rw at at ends))
  by rest (inr (inl stops)) = (1, rw stops refl)
  by rest (inr (inr there)) = (suc this.0, rw there this.1)

-- Where each thread steps as before, or to none, or to one that steps to none, every chain still ends.
pub every_end_handed : (step now : ℕ → Option ℕ) (h : ℕ) → now h ≡ None → ((w : ℕ) → Handed step now h w) → ((w : ℕ) → Ends step w) → (w : ℕ) → Ends now w
every_end_handed step now h stops how every w = ends_handed step now h (1, rw stops refl) how (every w).0 w (every w).1

-- the threads of a set step only to threads of it
abbrev pub StaysIn : (ℕ → Type 0) → (ℕ → Option ℕ) → Type 0
StaysIn P step = (u v : ℕ) → P u → step u ≡ Some v → P v

-- a chain that begins in such a set reaches threads of it alone
reached_in : (P : ℕ → Type 0) (step : ℕ → Option ℕ) → StaysIn P step → (n u t : ℕ) → P u → reaches step n u t ≡ true → P t
reached_in P step stays zero u t here met = absurd (false≢true met)
reached_in P step stays (suc n) u t here met = by (λ v. reached_in P step stays n v t) (either (u == t) (has (chain_on (chain step n) (step u)) t) met) where
  on : ((v : ℕ) → P v → reaches step n v t ≡ true → P t) → (next : Option ℕ) → step u ≡ next → has (chain_on (chain step n) next) t ≡ true → P t
  on rest None e met = absurd (false≢true met)
  on rest (Some v) e met = rest v (stays u v here e) met

  by : ((v : ℕ) → P v → reaches step n v t ≡ true → P t) → ((u == t) ≡ true) ⊎ (has (chain_on (chain step n) (step u)) t ≡ true) → P t
  by rest (inl e) = subst P (same_number u t e) here
  by rest (inr met) = on rest (step u) refl met

-- a thread stands at most once in a chain that ends
pub times_once : (step : ℕ → Option ℕ) (n u t : ℕ) → ends_by step n u ≡ true → times t (chain step n u) ≤ 1
times_once step zero u t ends = absurd (false≢true ends)
times_once step (suc n) u t ends = on (λ v. times_once step n v t) (step u) refl ends (u == t) refl where
  on : ((v : ℕ) → ends_by step n v ≡ true → times t (chain step n v) ≤ 1) → (next : Option ℕ) → step u ≡ next → ends_on (ends_by step n) next ≡ true → (b : Bool) → (u == t) ≡ b → cond b 1 0 + times t (chain_on (chain step n) next) ≤ 1
  on rest None e ends true at = omega arith
  on rest None e ends false at = omega arith
  on rest (Some v) e ends false at = omega (arith, rest v ends)
  on rest (Some v) e ends true at =
      let unmet : reaches step n v t ≡ false = subst (λ x. reaches step n v x ≡ false) (same_number u t at) (no_return step n u v e ends) in
      omega (arith, times_none t (chain step n v) unmet)

-- a chain that ends within n threads ends within as many as it has
ends_by_length : (step : ℕ → Option ℕ) (n m u : ℕ) → ends_by step n u ≡ true → length (chain step n u) ≤ m → ends_by step m u ≡ true
ends_by_length step zero m u ends few = absurd (false≢true ends)
ends_by_length step (suc n) zero u ends few = absurd (none few) where
  none : suc (length (chain_on (chain step n) (step u))) ≤ 0 → ⊥
  none few = omega (arith, few)
ends_by_length step (suc n) (suc m) u ends few = on (λ v. ends_by_length step n m v) (step u) ends (omega (arith, few)) where
  on : ((v : ℕ) → ends_by step n v ≡ true → length (chain step n v) ≤ m → ends_by step m v ≡ true) → (next : Option ℕ) → ends_on (ends_by step n) next ≡ true → length (chain_on (chain step n) next) ≤ m → ends_on (ends_by step m) next ≡ true
  on rest None ends few = refl
  on rest (Some v) ends few = rest v ends few

-- A chain that ends, of one of the threads 1 to m, which step only to each other, ends within m threads.
pub ends_within : (step : ℕ → Option ℕ) (m u : ℕ) → StaysIn (λ t. (1 ≤ t) × (t ≤ m)) step → (1 ≤ u) × (u ≤ m) → Ends step u → ends_by step m u ≡ true
ends_within step m u stays here ends = ends_by_length step ends.0 m u ends.1 few where
  few : length (chain step ends.0 u) ≤ m
  few = length_within m (chain step ends.0 u) (λ t. times_once step ends.0 u t ends.1) (λ t. reached_in (λ t. (1 ≤ t) × (t ≤ m)) step stays ends.0 u t here)

-- two steps are the same for the threads of a set
abbrev pub AgreesOn : (ℕ → Type 0) → (ℕ → Option ℕ) → (ℕ → Option ℕ) → Type 0
AgreesOn P step other = (u : ℕ) → P u → other u ≡ step u

-- A chain that stays in a set is the same by two steps that agree on the set.
pub chain_agrees : (P : ℕ → Type 0) (step other : ℕ → Option ℕ) → StaysIn P step → AgreesOn P step other → (n u : ℕ) → P u → chain other n u ≡ chain step n u
chain_agrees P step other stays agrees zero u here = refl
chain_agrees P step other stays agrees (suc n) u here = rw (agrees u here) (ap (λ rest. u ∷ rest) (on (chain_agrees P step other stays agrees n) (step u) refl)) where
  on : ((v : ℕ) → P v → chain other n v ≡ chain step n v) → (next : Option ℕ) → step u ≡ next → chain_on (chain other n) next ≡ chain_on (chain step n) next
  on rest None e = refl
  on rest (Some v) e = rest v (stays u v here e)

-- so is its end
pub end_agrees : (P : ℕ → Type 0) (step other : ℕ → Option ℕ) → StaysIn P step → AgreesOn P step other → (n u : ℕ) → P u → end_of other n u ≡ end_of step n u
end_agrees P step other stays agrees zero u here = refl
end_agrees P step other stays agrees (suc n) u here = rw (agrees u here) (on (end_agrees P step other stays agrees n) (step u) refl) where
  on : ((v : ℕ) → P v → end_of other n v ≡ end_of step n v) → (next : Option ℕ) → step u ≡ next → end_on u (end_of other n) next ≡ end_on u (end_of step n) next
  on rest None e = refl
  on rest (Some v) e = rest v (stays u v here e)

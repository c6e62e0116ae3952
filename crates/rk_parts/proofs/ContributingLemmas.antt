-- Contributions as they are made anew, step by step: who is touched, who is stale, and what is written.
use Rattle.std.proofs.Common.{◌≡◌, ◌≢◌, ℕ, zero, suc, ◌+◌, ◌-◌, ◌<◌, ◌≤◌, List, [], ◌∷◌, Bool, true, false, cond, ◌&&◌, ◌||◌, ◌==◌, not, ◌⊎◌, Option, Some, None, length, map, drop, set, get_or, nat_le, arith, refl, sym, ap, ◌∙◌, subst, ⊎_elim, inl, inr}
use Rattle.std.proofs.lemmas.List.{get_or-set_same, get_or-set_other}
use Rattle.std.proofs.lemmas.Bool.{false≢true, cases_lt}
use Rattle.std.proofs.lemmas.Bool.Decides.{nat_tests}
use Rattle.rk_model.specs.declared.state.Wait.{Wait}
use Rattle.rk_model.specs.IndexSets.{IsTaken}
use Rattle.rk_model.specs.declared.index_set.IndexSet.{IndexSet}
use Rattle.rk_model.specs.Lists.{has, nth}
use Rattle.rk_model.specs.Scheduling.Chains.{chain, chain_on, reaches}
use Rattle.rk_model.proofs.BooleanLemmas.{equal_test, same_number, either, neither_front, neither_back}
use Rattle.rk_model.proofs.ChainLemmas.{chain_next}
use Rattle.rk_parts.specs.declared.bearing.Bearing.{Bearing}
use Rattle.rk_parts.specs.declared.holdings.Holding.{Holding}
use Rattle.rk_parts.specs.declared.parts.ClusterPart.{ClusterPart}
use Rattle.rk_parts.specs.Contributing.{flat, waits_for, BearsAsBorne, IsFresh, Lives, AreAsElsewhere, AsElsewhere, IsHeldAsNoted}
use Rattle.rk_parts.specs.Contributions.{bears, bore, borrower_of, ceiling_by, contributed, flagged, home_of, is_home, own_by, reach_to, reached_by, step_by, IsApart, IsOne}
use Rattle.std.specs.List.{slice_index_or}
use Rattle.rk_model.specs.Scheduling.Priorities.{if_some}
use Rattle.rk_parts.specs.Held.{HasNoCeiling}
use Rattle.rk_parts.specs.Holdings.{first_one, holder, holdings, noted_holdings}
use Rattle.rk_parts.specs.Noted.{no_part, part_at, share_at, AreLent, NoneElsewhere}
use Rattle.rk_agg.specs.Shares.{found, with_found}
use Rattle.rk_parts.specs.Threads.{Threads, unlent, StandAsNoted}
use Rattle.rk_parts.proofs.StandingLemmas.{bearings_say}
use Rattle.rk_parts.proofs.MarkLemmas.{left_at}
use Rattle.rk_parts.proofs.PutLemmas.{part_is}
use Rattle.rk_parts.proofs.ContributionLemmas.{TellsTouched, bears_as_borne, contributes_still, flat_bears, flat_holdings, flat_length, flat_number, none_bears, reach_is, elsewhere_more, elsewhere_part, none_elsewhere}

-- ---- flags that are raised one after another

-- flags of which some were raised before
pub record AreRaised (before flags : IndexSet) : Type 0 where
  pub kept : (t : ℕ) → flagged flags t ≡ false → flagged before t ≡ false

pub raised_one : (before flags next : IndexSet) (u : ℕ) → ((t : ℕ) → flagged next t ≡ ((u == t) || flagged flags t)) → AreRaised before flags → AreRaised before next
raised_one before flags next u raised are = record {
  kept = λ t low. are.kept t (neither_back (u == t) (flagged flags t) (sym (raised t) ∙ low));
}

pub raised_more : (before flags next : IndexSet) → ((t : ℕ) → flagged next t ≡ false → flagged flags t ≡ false) → AreRaised before flags → AreRaised before next
raised_more before flags next kept are = record { kept = λ t low. are.kept t (kept t low) }

-- ---- marked threads

-- the flags of marked threads, up to a place
pub record IsTouching (marked : List ℕ) (i : ℕ) (before flags : IndexSet) : Type 0 where
  pub are : AreRaised before flags
  pub rest : (t : ℕ) → flagged flags t ≡ false → has (drop i marked) t ≡ false → has marked t ≡ false

pub touching_one : (marked : List ℕ) (i u : ℕ) (before flags next : IndexSet) → i < length marked → u ≡ get_or marked i u → ((t : ℕ) → flagged next t ≡ ((u == t) || flagged flags t)) → IsTouching marked i before flags → IsTouching marked (i + 1) before next
touching_one marked i u before flags next within at raised is = record {
  are = raised_one before flags next u raised is.are;
  rest = λ t low none. (let un = sym (raised t) ∙ low in is.rest t (neither_back (u == t) (flagged flags t) un) (left_at marked i u t within at ∙ ap (λ b. b || has (drop (i + 1) marked) t) (neither_front (u == t) (flagged flags t) un) ∙ none));
}

pub touched_all : (threads : Threads) (marked : List ℕ) (i : ℕ) (before flags : IndexSet) → drop i marked ≡ [] → StandAsNoted marked threads → IsTouching marked i before flags → (part : ClusterPart) → part.threads ≡ threads → (t : ℕ) → flagged flags t ≡ false → BearsAsBorne part t
touched_all threads marked i before flags none noted is part same t low =
    subst (λ (ts : Threads). BearsAsBorne (record part { threads = ts }) t) (sym same)
    (sym (bearings_say threads.places t) ∙ noted.borne t (is.rest t low (ap (λ us. has us t) none)))

-- the same in part after part
pub record IsTouchingParts (parts : List ClusterPart) (i : ℕ) (before flags : IndexSet) : Type 0 where
  pub are : AreRaised before flags
  pub rest : (at t : ℕ) → at < i → flagged flags t ≡ false → BearsAsBorne (part_at parts at) t

pub touching_part : (parts : List ClusterPart) (i : ℕ) (part : ClusterPart) (before flags next : IndexSet) → i < length parts → part ≡ get_or parts i part → ((t : ℕ) → flagged next t ≡ false → flagged flags t ≡ false) → ((t : ℕ) → flagged next t ≡ false → BearsAsBorne part t) → IsTouchingParts parts i before flags → IsTouchingParts parts (i + 1) before next
touching_part parts i part before flags next within at kept here is = record {
  are = raised_more before flags next kept is.are;
  rest = λ j t less low. by j t (j == i) refl less low;
} where
  by : (j t : ℕ) (b : Bool) → (j == i) ≡ b → j < i + 1 → flagged next t ≡ false → BearsAsBorne (part_at parts j) t
  by j t true e less low =
      let same : i ≡ j = sym (same_number j i e) in
      subst (λ k. BearsAsBorne (part_at parts k) t) same (subst (λ (p : ClusterPart). BearsAsBorne p t) (at ∙ part_is parts i part within) (here t low))
  by j t false e less low = is.rest j t (grind (arith, nat_tests, e, less)) (kept t low)

pub touched_parts : (parts : List ClusterPart) (i : ℕ) (before flags : IndexSet) → length parts ≤ i → IsTouchingParts parts i before flags → (t : ℕ) → flagged flags t ≡ false → bears parts t ≡ bore parts t
touched_parts parts i before flags more is t low = bears_as_borne parts t (λ at less. is.rest at t (omega (arith, less, more)) low)

-- ---- changed holdings

-- the flags of those of the first threads that wait for a semaphore
pub record IsTouchingWaiters (parts : List ClusterPart) (index i : ℕ) (before flags : IndexSet) : Type 0 where
  pub are : AreRaised before flags
  pub rest : (t : ℕ) → t ≤ i → flagged flags t ≡ false → waits_for (bears parts t).wait index ≡ false

pub waiters_none : (parts : List ClusterPart) (index : ℕ) (flags : IndexSet) → IsTouchingWaiters parts index 0 flags flags
waiters_none parts index flags = record {
  are = record { kept = λ t low. low };
  rest = λ t low un. by t low;
} where
  by : (t : ℕ) → t ≤ 0 → waits_for (bears parts t).wait index ≡ false
  by zero low = refl
  by (suc t) low = absurd (never low) where
    never : suc t ≤ 0 → ⊥
    never h = omega (arith, h)

pub waiters_flagged : (parts : List ClusterPart) (index i u : ℕ) (before flags next : IndexSet) → u ≡ i + 1 → ((t : ℕ) → flagged next t ≡ ((u == t) || flagged flags t)) → IsTouchingWaiters parts index i before flags → IsTouchingWaiters parts index (i + 1) before next
waiters_flagged parts index i u before flags next at raised is = record {
  are = raised_one before flags next u raised is.are;
  rest = λ t less low. (let un = sym (raised t) ∙ low in let other = neither_front (u == t) (flagged flags t) un in is.rest t (grind (arith, nat_tests, at, other, less)) (neither_back (u == t) (flagged flags t) un));
}

pub waiters_passed : (parts : List ClusterPart) (index i u : ℕ) (before flags : IndexSet) → u ≡ i + 1 → waits_for (bears parts u).wait index ≡ false → IsTouchingWaiters parts index i before flags → IsTouchingWaiters parts index (i + 1) before flags
waiters_passed parts index i u before flags at none is = record {
  are = is.are;
  rest = λ t less low. by t (t == u) refl less low;
} where
  by : (t : ℕ) (b : Bool) → (t == u) ≡ b → t ≤ i + 1 → flagged flags t ≡ false → waits_for (bears parts t).wait index ≡ false
  by t true e less low = subst (λ v. waits_for (bears parts v).wait index ≡ false) (sym (same_number t u e)) none
  by t false e less low = is.rest t (grind (arith, nat_tests, at, e, less)) low

pub waiters_all : (parts : List ClusterPart) (index i : ℕ) (before flags : IndexSet) → 64 ≤ i → IsTouchingWaiters parts index i before flags → (t : ℕ) → flagged flags t ≡ false → waits_for (bears parts t).wait index ≡ false
waiters_all parts index i before flags more is zero low = refl
waiters_all parts index i before flags more is (suc j) low = ⊎_elim (λ less. is.rest (suc j) (omega (arith, less, more)) low) (λ past. ap (λ (b : Bearing). waits_for b.wait index) (none_bears parts j past)) (cases_lt j 64)

-- who neither owned nor owns it, and doesn't wait for it where it lends or lent, is apart
pub apart_from : (was now : Option Holding) (i t : ℕ) (wait : Option Wait) → ((c : ℕ) → ceiling_by t c was ≡ None) → ((c : ℕ) → ceiling_by t c now ≡ None) → (waits_for wait i ≡ false) ⊎ (borrower_of now ≡ borrower_of was) → IsApart was now i t wait
apart_from was now i t wait before after either = record {
  ceiling = λ c. after c ∙ sym (before c);
  step = λ spins is. ⊎_elim (λ no. absurd (false≢true (sym no ∙ ap (λ w. waits_for w i) is ∙ equal_test i i refl))) (λ same. same) either;
}

pub apart_same : (was now : Option Holding) (i t : ℕ) (wait : Option Wait) → now ≡ was → IsApart was now i t wait
apart_same was now i t wait e = record { ceiling = λ c. ap (ceiling_by t c) e; step = λ spins is. ap borrower_of e }

-- Who has no flag is apart from a semaphore.
abbrev AreApartFrom : List ClusterPart → ℕ → ℕ → Type 0
AreApartFrom parts i t = IsApart (holder (noted_holdings parts) i) (holder (holdings parts) i) i t (bears parts t).wait

-- the flags of those whom the first of the changed holdings of a part touch
pub record IsTouchingChanged (parts : List ClusterPart) (changed : List ℕ) (k : ℕ) (before flags : IndexSet) : Type 0 where
  pub are : AreRaised before flags
  pub rest : (t : ℕ) → flagged flags t ≡ false → (i : ℕ) → has changed i ≡ true → has (drop k changed) i ≡ false → AreApartFrom parts i t

-- the flags of those whom the changed holdings of the first parts touch
pub record IsTouchingHeld (parts : List ClusterPart) (k : ℕ) (before flags : IndexSet) : Type 0 where
  pub are : AreRaised before flags
  pub rest : (at t : ℕ) → at < k → flagged flags t ≡ false → (i : ℕ) → AreApartFrom parts i t ⊎ IsHeldAsNoted (part_at parts at) i

pub held_none : (parts : List ClusterPart) (flags : IndexSet) → IsTouchingHeld parts 0 flags flags
held_none parts flags = record {
  are = record { kept = λ t low. low };
  rest = λ at t less low. absurd (never at less);
} where
  never : (at : ℕ) → at < 0 → ⊥
  never at h = omega (arith, h)

pub held_one : (parts : List ClusterPart) (k : ℕ) (before flags next : IndexSet) → ((t : ℕ) → flagged next t ≡ false → flagged flags t ≡ false) → ((t : ℕ) → flagged next t ≡ false → (i : ℕ) → AreApartFrom parts i t ⊎ IsHeldAsNoted (part_at parts k) i) → IsTouchingHeld parts k before flags → IsTouchingHeld parts (k + 1) before next
held_one parts k before flags next kept here is = record {
  are = raised_more before flags next kept is.are;
  rest = λ at t less low i. by at t less low i (at == k) refl;
} where
  by : (at t : ℕ) → at < k + 1 → flagged next t ≡ false → (i : ℕ) → (b : Bool) → (at == k) ≡ b → AreApartFrom parts i t ⊎ IsHeldAsNoted (part_at parts at) i
  by at t less low i true e = subst (λ j. AreApartFrom parts i t ⊎ IsHeldAsNoted (part_at parts j) i) (sym (same_number at k e)) (here t low i)
  by at t less low i false e = is.rest at t (grind (arith, nat_tests, e, less)) (kept t low) i

-- a semaphore is held alike in all, or something else holds
all_alike : {P : Type 0} (parts : List ClusterPart) (i : ℕ) → ((at : ℕ) → at < length parts → P ⊎ IsHeldAsNoted (part_at parts at) i) → P ⊎ (holder (holdings parts) i ≡ holder (noted_holdings parts) i)
all_alike [] i each = inr refl
all_alike {P = P} (p ∷ ps) i each = by (each 0 (omega arith)) (all_alike ps i (λ at less. each (suc at) (omega (arith, less)))) where
  by : P ⊎ IsHeldAsNoted p i → P ⊎ (holder (holdings ps) i ≡ holder (noted_holdings ps) i) → P ⊎ (first_one (nth None p.holdings.owners i) (holder (holdings ps) i) ≡ first_one (nth None p.holdings.noted i) (holder (noted_holdings ps) i))
  by (inl a) rest = inl a
  by (inr e) (inl a) = inl a
  by (inr e) (inr f) = inr (ap (λ o. first_one o (holder (holdings ps) i)) e ∙ ap (first_one (nth None p.holdings.noted i)) f)

pub held_all : (parts : List ClusterPart) (k : ℕ) (before flags : IndexSet) → length parts ≤ k → IsTouchingHeld parts k before flags → (t : ℕ) → flagged flags t ≡ false → (i : ℕ) → AreApartFrom parts i t
held_all parts k before flags more is t low i = ⊎_elim (λ apart. apart) (λ same. apart_same (holder (noted_holdings parts) i) (holder (holdings parts) i) i t (bears parts t).wait same) (all_alike parts i (λ at less. is.rest at t (omega (arith, less, more)) low i))

-- ---- who is stale

-- the flags of the sources of a thread in the parts up to a place
pub record IsFlaggingParts (parts : List ClusterPart) (w i : ℕ) (before flags : IndexSet) : Type 0 where
  pub are : AreRaised before flags
  pub rest : (at u : ℕ) → at < i → flagged flags u ≡ false → share_at parts at w u ≡ None

pub flagging_part : (parts : List ClusterPart) (w i : ℕ) (before flags next : IndexSet) → ((t : ℕ) → flagged next t ≡ false → flagged flags t ≡ false) → ((u : ℕ) → flagged next u ≡ false → share_at parts i w u ≡ None) → IsFlaggingParts parts w i before flags → IsFlaggingParts parts w (i + 1) before next
flagging_part parts w i before flags next kept here is = record {
  are = raised_more before flags next kept is.are;
  rest = λ j u less low. by j u (j == i) refl less low;
} where
  by : (j u : ℕ) (b : Bool) → (j == i) ≡ b → j < i + 1 → flagged next u ≡ false → share_at parts j w u ≡ None
  by j u true e less low = ap (λ m. share_at parts m w u) (same_number j i e) ∙ here u low
  by j u false e less low = is.rest j u (grind (arith, nat_tests, e, less)) (kept u low)

pub sources_there : (parts : List ClusterPart) (at : ℕ) (part : ClusterPart) (w number u : ℕ) → part ≡ part_at parts at → number ≡ (part_at parts at).lined.number → found part.threads.shares w number u ≡ None → share_at parts at w u ≡ None
sources_there parts at part w number u is n none = ap (λ m. found (part_at parts at).threads.shares w m u) (sym n) ∙ ap (λ (p : ClusterPart). found p.threads.shares w number u) (sym is) ∙ none

-- what is told of threads once those were flagged that have left the rest
pub record IsFindingStale (touched : IndexSet) (parts : List ClusterPart) (rest before flags : IndexSet) : Type 0 where
  pub are : AreRaised before flags
  pub self : (u : ℕ) → flagged rest u ≡ false → flagged flags u ≡ false → flagged touched u ≡ false
  pub others : (at w u : ℕ) → at < length parts → flagged rest w ≡ false → flagged touched w ≡ true → flagged flags u ≡ false → share_at parts at w u ≡ None

pub stale_none : (touched : IndexSet) (parts : List ClusterPart) (flags : IndexSet) → IsFindingStale touched parts touched flags flags
stale_none touched parts flags = record {
  are = record { kept = λ t low. low };
  self = λ u none low. none;
  others = λ at w u less none up low. absurd (false≢true (sym none ∙ up));
}

-- who has left the rest now was taken or had left it before
pub left_now : (rest next : IndexSet) (u v : ℕ) → IsTaken rest u next → (u == v) ≡ false → flagged next v ≡ false → flagged rest v ≡ false
left_now rest next u v is other none = sym (is.rest v ∙ ap (λ b. not b && flagged rest v) other) ∙ none

pub stale_one : (touched : IndexSet) (parts : List ClusterPart) (u : ℕ) (rest less before flags mid next : IndexSet) → IsTaken rest u less → ((t : ℕ) → flagged mid t ≡ ((u == t) || flagged flags t)) → ((t : ℕ) → flagged next t ≡ false → flagged mid t ≡ false) → ((at v : ℕ) → at < length parts → flagged next v ≡ false → share_at parts at u v ≡ None) → IsFindingStale touched parts rest before flags → IsFindingStale touched parts less before next
stale_one touched parts u rest less before flags mid next taken raised kept here is = record {
  are = record { kept = λ t low. is.are.kept t (under t low) };
  self = λ v none low. (let other = neither_front (u == v) (flagged flags v) (sym (raised v) ∙ kept v low) in is.self v (left_now rest less u v taken other none) (under v low));
  others = λ p w v within none up low. by p w v (u == w) refl within none up low;
} where
  under : (t : ℕ) → flagged next t ≡ false → flagged flags t ≡ false
  under t low = neither_back (u == t) (flagged flags t) (sym (raised t) ∙ kept t low)

  by : (p w v : ℕ) (b : Bool) → (u == w) ≡ b → p < length parts → flagged less w ≡ false → flagged touched w ≡ true → flagged next v ≡ false → share_at parts p w v ≡ None
  by p w v true e within none up low = ap (λ m. share_at parts p m v) (sym (same_number u w e)) ∙ here p v within low
  by p w v false e within none up low = is.others p w v within (left_now rest less u w taken e none) up (under v low)

pub stale_all : (touched : IndexSet) (parts : List ClusterPart) (rest before flags : IndexSet) → ((u : ℕ) → flagged rest u ≡ false) → IsFindingStale touched parts rest before flags → (u : ℕ) → flagged flags u ≡ false → IsFresh touched parts u
stale_all touched parts rest before flags none is u low = record {
  self = is.self u (none u) low;
  others = λ at w less up. is.others at w u less (none w) up low;
}

-- ---- what a thread contributes

-- the flags of those that a chain reached so far, and what is left of it
pub record IsWalking (step : ℕ → Option ℕ) (from at i : ℕ) (flags : IndexSet) : Type 0 where
  pub chain : (t : ℕ) → (flagged flags t || has (chain step (64 - i) at) t) ≡ reached_by step from t

pub walk_starts : (step : ℕ → Option ℕ) (from : ℕ) (flags : IndexSet) → ((t : ℕ) → flagged flags t ≡ false) → IsWalking step from from 0 flags
unfolding reached_by
walk_starts step from flags none = record { chain = λ t. ap (λ b. b || reaches step 64 from t) (none t) }

swapped : (a f r : Bool) → ((a || f) || r) ≡ (f || (a || r))
swapped true true r = refl
swapped true false r = refl
swapped false true r = refl
swapped false false r = refl

pub walk_goes_on : (step : ℕ → Option ℕ) (from at next i : ℕ) (flags more : IndexSet) → i < 64 → step at ≡ Some next → ((t : ℕ) → flagged more t ≡ ((at == t) || flagged flags t)) → IsWalking step from at i flags → IsWalking step from next (i + 1) more
walk_goes_on step from at next i flags more less goes raised is = record {
  chain = λ t.
      ap (λ b. b || has (chain step (64 - (i + 1)) next) t) (raised t)
      ∙ swapped (at == t) (flagged flags t) (has (chain step (64 - (i + 1)) next) t)
      ∙ ap (λ o. flagged flags t || ((at == t) || has (chain_on (chain step (64 - (i + 1))) o) t)) (sym goes)
      ∙ ap (λ ts. flagged flags t || has ts t) (sym (chain_next step at i 64 less))
      ∙ is.chain t;
}

or_false : (b : Bool) → (b || false) ≡ b
or_false true = refl
or_false false = refl

pub walk_ends : (step : ℕ → Option ℕ) (from at i : ℕ) (flags more : IndexSet) → i < 64 → step at ≡ None → ((t : ℕ) → flagged more t ≡ ((at == t) || flagged flags t)) → IsWalking step from at i flags → (t : ℕ) → flagged more t ≡ reached_by step from t
walk_ends step from at i flags more less stops raised is t =
    raised t
    ∙ sym (or_false ((at == t) || flagged flags t))
    ∙ swapped (at == t) (flagged flags t) false
    ∙ ap (λ o. flagged flags t || ((at == t) || has (chain_on (chain step (64 - (i + 1))) o) t)) (sym stops)
    ∙ ap (λ ts. flagged flags t || has ts t) (sym (chain_next step at i 64 less))
    ∙ is.chain t

pub walk_past : (step : ℕ → Option ℕ) (from at i : ℕ) (flags : IndexSet) → 64 ≤ i → IsWalking step from at i flags → (t : ℕ) → flagged flags t ≡ reached_by step from t
walk_past step from at i flags more is t =
    let none : 64 - i ≡ 0 = omega (arith, more) in
    sym (or_false (flagged flags t)) ∙ (rw none at (is.chain t))

-- ---- contributions are written

-- what is contributed in one cluster leaves the others alone
other_cluster : (t c u : ℕ) (p : Option ℕ) (f : ℕ → ℕ → ℕ → Option ℕ) (v d w : ℕ) → d ≢ c → with_found t c u p f v d w ≡ f v d w
other_cluster t c u p f v d w other = by (t == v) (c == d) refl where
  by : (a b : Bool) → (c == d) ≡ b → cond (a && (b && (u == w))) p (f v d w) ≡ f v d w
  by a true e = absurd (other (sym (same_number c d e)))
  by true false e = refl
  by false false e = refl

-- what stands once those were lent to that have left the rest
pub record IsRelending (old now : Threads) (number source : ℕ) (home : Option ℕ) (own : ℕ) (flags rest : IndexSet) : Type 0 where
  pub same : unlent now ≡ unlent old
  pub elsewhere : (t d w : ℕ) → d ≢ number → found now.shares t d w ≡ found old.shares t d w
  pub told : (t w : ℕ) → found now.shares t number w ≡ cond ((w == source) && not (flagged rest t)) (reach_to home own flags number t) (found old.shares t number w)

pub relending_none : (old : Threads) (number source : ℕ) (home : Option ℕ) (own : ℕ) (flags rest : IndexSet) → ((t : ℕ) → flagged rest t ≡ false → (found old.shares t number source ≡ None) × ((is_home number home && flagged flags t) ≡ false)) → IsRelending old old number source home own flags rest
relending_none old number source home own flags rest others = record {
  same = refl;
  elsewhere = λ t d w other. refl;
  told = λ t w. by t w (w == source) refl (flagged rest t) refl;
} where
  by : (t w : ℕ) (a : Bool) → (w == source) ≡ a → (b : Bool) → flagged rest t ≡ b → found old.shares t number w ≡ cond ((w == source) && not (flagged rest t)) (reach_to home own flags number t) (found old.shares t number w)
  by t w false e b f = sym (ap (λ a. cond (a && not (flagged rest t)) (reach_to home own flags number t) (found old.shares t number w)) e)
  by t w true e true f = sym (ap (λ a. cond (a && not (flagged rest t)) (reach_to home own flags number t) (found old.shares t number w)) e ∙ ap (λ b. cond (not b) (reach_to home own flags number t) (found old.shares t number w)) f)
  by t w true e false f =
      ap (λ v. found old.shares t number v) (same_number w source e)
      ∙ (others t f).0
      ∙ sym (ap (λ a. cond (a && not (flagged rest t)) (reach_to home own flags number t) (found old.shares t number w)) e ∙ ap (λ b. cond (not b) (reach_to home own flags number t) (found old.shares t number w)) f ∙ ap (λ b. cond b (Some own) None) (others t f).1)

pub relending_one : (old now : Threads) (threads : Threads) (number source : ℕ) (home : Option ℕ) (own : ℕ) (flags rest less : IndexSet) (at thread : ℕ) (prio : Option ℕ) → IsTaken rest at less → thread ≡ at → prio ≡ reach_to home own flags number thread → unlent threads ≡ unlent now → found threads.shares ≡ with_found thread number source prio (found now.shares) → IsRelending old now number source home own flags rest → IsRelending old threads number source home own flags less
relending_one old now threads number source home own flags rest less at thread prio taken at_is is rest_same shares so_far = record {
  same = rest_same ∙ so_far.same;
  elsewhere = λ t d w other. ap (λ f. f t d w) shares ∙ other_cluster thread number source prio (found now.shares) t d w other ∙ so_far.elsewhere t d w other;
  told = λ t w. ap (λ f. f t number w) shares ∙ by t w (thread == t) refl (source == w) refl ∙ sym (turn t w);
} where
  -- what is looked for, with the thread and the source as the write has them
  turn : (t w : ℕ) → cond ((w == source) && not (flagged less t)) (reach_to home own flags number t) (found old.shares t number w) ≡ cond ((source == w) && not (flagged less t)) (reach_to home own flags number t) (found old.shares t number w)
  turn t w = (let e : (w == source) ≡ (source == w) = grind (arith, nat_tests) in ap (λ b. cond (b && not (flagged less t)) (reach_to home own flags number t) (found old.shares t number w)) e)

  before : (t w : ℕ) → found now.shares t number w ≡ cond ((source == w) && not (flagged rest t)) (reach_to home own flags number t) (found old.shares t number w)
  before t w = so_far.told t w ∙ (let e : (w == source) ≡ (source == w) = grind (arith, nat_tests) in ap (λ b. cond (b && not (flagged rest t)) (reach_to home own flags number t) (found old.shares t number w)) e)

  both : (b : Bool) → ((number == number) && b) ≡ b
  both b = ap (λ a. a && b) (equal_test number number refl)

  left : (t : ℕ) → (thread == t) ≡ true → flagged less t ≡ false
  left t e = taken.rest t ∙ ap (λ b. not b && flagged rest t) (ap (λ n. n == t) (sym at_is) ∙ e)

  kept : (t : ℕ) → (thread == t) ≡ false → flagged less t ≡ flagged rest t
  kept t e = taken.rest t ∙ ap (λ b. not b && flagged rest t) (ap (λ n. n == t) (sym at_is) ∙ e)

  by : (t w : ℕ) → (a : Bool) → (thread == t) ≡ a → (b : Bool) → (source == w) ≡ b → cond (a && ((number == number) && b)) prio (found now.shares t number w) ≡ cond (b && not (flagged less t)) (reach_to home own flags number t) (found old.shares t number w)
  by t w true e true f =
      ap (λ b. cond b prio (found now.shares t number w)) (both true)
      ∙ is ∙ ap (reach_to home own flags number) (same_number thread t e)
      ∙ ap (λ b. cond (not b) (reach_to home own flags number t) (found old.shares t number w)) (sym (left t e))
  by t w true e false f =
      ap (λ b. cond b prio (found now.shares t number w)) (both false)
      ∙ before t w
      ∙ ap (λ b. cond (b && not (flagged rest t)) (reach_to home own flags number t) (found old.shares t number w)) f
  by t w false e b f =
      before t w
      ∙ ap (λ a. cond (a && not (flagged rest t)) (reach_to home own flags number t) (found old.shares t number w)) f
      ∙ ap (λ a. cond (b && not a) (reach_to home own flags number t) (found old.shares t number w)) (sym (kept t e))

pub relending_all : (old now : Threads) (number source : ℕ) (home : Option ℕ) (own : ℕ) (flags rest : IndexSet) → ((t : ℕ) → flagged rest t ≡ false) → IsRelending old now number source home own flags rest → (t w : ℕ) → found now.shares t number w ≡ cond (w == source) (reach_to home own flags number t) (found old.shares t number w)
relending_all old now number source home own flags rest none is t w =
    is.told t w ∙ ap (λ b. cond ((w == source) && not b) (reach_to home own flags number t) (found old.shares t number w)) (none t) ∙ ap (λ b. cond b (reach_to home own flags number t) (found old.shares t number w)) (and_true (w == source))
  where
    and_true : (b : Bool) → (b && true) ≡ b
    and_true true = refl
    and_true false = refl

-- the same in part after part
pub record IsRelendingParts (old now : List ClusterPart) (source : ℕ) (home : Option ℕ) (own : ℕ) (flags : IndexSet) (i : ℕ) : Type 0 where
  pub same : map flat now ≡ map flat old
  pub elsewhere : AreAsElsewhere old now
  pub told : (at t w : ℕ) → at < i → at < length old → IsOne t → share_at now at t w ≡ cond (w == source) (reach_to home own flags (part_at old at).lined.number t) (share_at old at t w)
  pub rest : (at : ℕ) → i ≤ at → part_at now at ≡ part_at old at

pub flat_set : (parts : List ClusterPart) (at : ℕ) (part : ClusterPart) → flat part ≡ flat (part_at parts at) → map flat (set parts at part) ≡ map flat parts
flat_set [] at part e = refl
flat_set (p ∷ ps) zero part e = ap (λ (q : ClusterPart). q ∷ map flat ps) e
flat_set (p ∷ ps) (suc at) part e = ap (λ (qs : List ClusterPart). flat p ∷ qs) (flat_set ps at part e)

pub relending_part : (old now : List ClusterPart) (part next : ClusterPart) (source : ℕ) (home : Option ℕ) (own : ℕ) (flags : IndexSet) (i : ℕ) → i < length now → part ≡ part_at now i → flat next ≡ flat part → ((t w : ℕ) → IsOne t → found next.threads.shares t part.lined.number w ≡ cond (w == source) (reach_to home own flags part.lined.number t) (found part.threads.shares t part.lined.number w)) → AsElsewhere part next → IsRelendingParts old now source home own flags i → IsRelendingParts old (set now i next) source home own flags (i + 1)
relending_part old now part next source home own flags i within is flats lends apart so_far = record {
  elsewhere = elsewhere_part old now part next i within was apart so_far.elsewhere;
  same = flat_set now i next (flats ∙ ap (λ (p : ClusterPart). flat p) here) ∙ so_far.same;
  told = λ at t w less less2 one. by at t w (at == i) refl less less2 one;
  rest = λ at more. part_other at (λ e. (omega (arith, e, more))) ∙ so_far.rest at (omega (arith, more));
} where
  here : part ≡ part_at now i
  here = is

  was : part ≡ part_at old i
  was = here ∙ so_far.rest i (omega arith)

  part_here : part_at (set now i next) i ≡ next
  part_here = get_or-set_same now i next no_part within

  part_other : (at : ℕ) → at ≢ i → part_at (set now i next) at ≡ part_at now at
  part_other at other = get_or-set_other now i at next no_part (λ e. other e)

  number : next.lined.number ≡ part.lined.number
  number = ap (λ (p : ClusterPart). p.lined.number) flats

  by : (at t w : ℕ) (b : Bool) → (at == i) ≡ b → at < i + 1 → at < length old → IsOne t → share_at (set now i next) at t w ≡ cond (w == source) (reach_to home own flags (part_at old at).lined.number t) (share_at old at t w)
  by at t w true e less less2 one =
      let same : i ≡ at = sym (same_number at i e) in
      subst (λ j. share_at (set now i next) j t w ≡ cond (w == source) (reach_to home own flags (part_at old j).lined.number t) (share_at old j t w)) same
      (ap (λ (p : ClusterPart). found p.threads.shares t p.lined.number w) part_here
      ∙ ap (λ n. found next.threads.shares t n w) number
      ∙ lends t w one
      ∙ ap (λ (p : ClusterPart). cond (w == source) (reach_to home own flags p.lined.number t) (found p.threads.shares t p.lined.number w)) was)
  by at t w false e less less2 one =
      ap (λ (p : ClusterPart). found p.threads.shares t p.lined.number w) (part_other at (λ q. (let no : ⊥ = grind (arith, nat_tests, e, q) in absurd no)))
      ∙ so_far.told at t w (grind (arith, nat_tests, e, less)) less2 one

-- a thread contributes anew
pub remade : (old now : List ClusterPart) (source : ℕ) (home : Option ℕ) (own : ℕ) (flags : IndexSet) → home ≡ home_of (bears old source) → own ≡ own_by (bears old) (holder (holdings old)) source → ((t : ℕ) → flagged flags t ≡ reached_by (step_by (bears old) (holder (holdings old))) source t) →
    ((at t w : ℕ) → at < length old → IsOne t → share_at now at t w ≡ cond (w == source) (reach_to home own flags (part_at old at).lined.number t) (share_at old at t w)) →
    (at t w : ℕ) → at < length old → IsOne t → share_at now at t w ≡ cond (w == source) (contributed (bears old) (holder (holdings old)) t (part_at old at).lined.number source) (share_at old at t w)
remade old now source home own flags at_home is met told at t w less one =
    told at t w less one
    ∙ ap (λ p. cond (w == source) p (share_at old at t w)) (reach_is (bears old) (holder (holdings old)) source (part_at old at).lined.number t home own flags at_home is met)

-- those contribute anew that have left the rest
pub record IsRemaking (old now : List ClusterPart) (rest : IndexSet) : Type 0 where
  pub same : map flat now ≡ map flat old
  pub elsewhere : AreAsElsewhere old now
  pub told : (at t u : ℕ) → at < length old → IsOne t → IsOne u → flagged rest u ≡ false → share_at now at t u ≡ contributed (bears old) (holder (holdings old)) t (part_at old at).lined.number u

pub remaking_none : (old : List ClusterPart) (rest : IndexSet) → ((at t u : ℕ) → at < length old → IsOne t → IsOne u → flagged rest u ≡ false → share_at old at t u ≡ contributed (bears old) (holder (holdings old)) t (part_at old at).lined.number u) → IsRemaking old old rest
remaking_none old rest same = record {
  same = refl;
  elsewhere = λ at less t d u other. refl;
  told = same;
}

pub remaking_one : (old now next : List ClusterPart) (rest left : IndexSet) (at u : ℕ) → IsTaken rest at left → u ≡ at → map flat next ≡ map flat now → ((at t w : ℕ) → at < length now → IsOne t → share_at next at t w ≡ cond (w == u) (contributed (bears now) (holder (holdings now)) t (part_at now at).lined.number u) (share_at now at t w)) → AreAsElsewhere now next → IsRemaking old now rest → IsRemaking old next left
remaking_one old now next rest left at u taken at_is flats remade apart is = record {
  same = flats ∙ is.same;
  elsewhere = elsewhere_more old now next is.same is.elsewhere apart;
  told = λ p t w less one other none. by p t w (w == u) refl less one other none;
} where
  size : (p : ℕ) → p < length old → p < length now
  size p less = rw (flat_length old now is.same) less

  by : (p t w : ℕ) (b : Bool) → (w == u) ≡ b → p < length old → IsOne t → IsOne w → flagged left w ≡ false → share_at next p t w ≡ contributed (bears old) (holder (holdings old)) t (part_at old p).lined.number w
  by p t w true e less one other none =
      remade p t w (size p less) one
      ∙ ap (λ b. cond b (contributed (bears now) (holder (holdings now)) t (part_at now p).lined.number u) (share_at now p t w)) e
      ∙ ap (λ n. contributed (bears now) (holder (holdings now)) t n u) (flat_number old now p is.same)
      ∙ ap (λ (f : ℕ → Bearing). contributed f (holder (holdings now)) t (part_at old p).lined.number u) (flat_bears old now is.same)
      ∙ ap (λ (hs : List (List (Option Holding))). contributed (bears old) (holder hs) t (part_at old p).lined.number u) (flat_holdings old now is.same)
      ∙ ap (contributed (bears old) (holder (holdings old)) t (part_at old p).lined.number) (sym (same_number w u e))
  by p t w false e less one other none =
      let apart : (at == w) ≡ false = (let turn : (u == w) ≡ (w == u) = grind (arith, nat_tests) in ap (λ n. n == w) (sym at_is) ∙ turn ∙ e) in
      remade p t w (size p less) one
      ∙ ap (λ b. cond b (contributed (bears now) (holder (holdings now)) t (part_at now p).lined.number u) (share_at now p t w)) e
      ∙ is.told p t w less one other (left_now rest left at w taken apart none)

pub remaking_all : (old now : List ClusterPart) (rest : IndexSet) → ((u : ℕ) → flagged rest u ≡ false) → NoneElsewhere old → IsRemaking old now rest → AreLent (bears old) (holder (holdings old)) now
remaking_all old now rest gone none is = record {
  own = λ at t u less one other.
      is.told at t u (rw (flat_length old now is.same) at less) one other (gone u)
      ∙ ap (λ n. contributed (bears old) (holder (holdings old)) t n u) (sym (flat_number old now at is.same));
  elsewhere = none_elsewhere old now is.same is.elsewhere none;
}

-- ---- ceilings

-- a semaphore without a ceiling raises nobody
pub no_ceiling_raises : (holding : Option Holding) (t c : ℕ) → HasNoCeiling holding → ceiling_by t c holding ≡ None
no_ceiling_raises None t c none = refl
no_ceiling_raises (Some h) t c none = by (h.owner == t) where
  by : (b : Bool) → cond b (if_some (slice_index_or h.ceilings c 0)) None ≡ None
  by true = ap if_some (none c)
  by false = refl

-- what isn't in the set has no ceiling in the parts in front, and so none in all, if it has none in those that are left
abbrev pub IsCapping : List ClusterPart → List ClusterPart → IndexSet → Type 0
IsCapping parts left capped = (i : ℕ) → flagged capped i ≡ false → HasNoCeiling (holder (holdings left) i) → HasNoCeiling (holder (holdings parts) i)

first_without : (one rest : Option Holding) → HasNoCeiling one → HasNoCeiling rest → HasNoCeiling (first_one one rest)
first_without None rest a b = b
first_without (Some h) rest a b = a

pub capping_part : (parts left : List ClusterPart) (part : ClusterPart) (capped here next : IndexSet) → ((i : ℕ) → flagged next i ≡ (flagged here i || flagged capped i)) → ((i : ℕ) → flagged here i ≡ false → HasNoCeiling (nth None part.holdings.owners i)) → IsCapping parts (part ∷ left) capped → IsCapping parts left next
capping_part parts left part capped here next all own so_far i low rest =
    let neither = sym (all i) ∙ low in
    so_far i (neither_back (flagged here i) (flagged capped i) neither) (first_without (nth None part.holdings.owners i) (holder (holdings left) i) (own i (neither_front (flagged here i) (flagged capped i) neither)) rest)

-- who isn't stale contributes as the threads are already
pub fresh_same : (touched stale : IndexSet) (parts : List ClusterPart) → TellsTouched touched parts → AreLent (bore parts) (holder (noted_holdings parts)) parts → Lives parts → ((u : ℕ) → flagged stale u ≡ false → IsFresh touched parts u) → (at t u : ℕ) → at < length parts → IsOne t → IsOne u → flagged stale u ≡ false → share_at parts at t u ≡ contributed (bears parts) (holder (holdings parts)) t (part_at parts at).lined.number u
fresh_same touched stale parts tells lent lives fresh at t u less one other low =
    lent.own at t u less one other ∙ sym (contributes_still touched parts tells lent lives u other (fresh u low) t (part_at parts at).lined.number)

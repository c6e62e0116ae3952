-- Who holds a semaphore: after a change that leaves holdings alone, and after its owner was noted.
use Rattle.std.proofs.Common.{◌≡◌, ◌≢◌, ℕ, zero, suc, ◌+◌, ◌-◌, ◌<◌, ◌≤◌, List, [], ◌∷◌, ◌++◌, Bool, true, false, cond, ◌==◌, Option, Some, None, length, map, take, slice_get, replicate, ltb, arith, refl, sym, ap, ◌∙◌, get_or, set, subst, length-set, ◌||◌, not}
use Rattle.std.specs.Prelude.{IfSome, IsTrue, ◌↔◌}
use Rattle.std.specs.List.{slice_set, AllByRecursion}
use Rattle.std.proofs.lemmas.Bool.Decides.{nat_tests}
use Rattle.std.proofs.lemmas.List.{get_or_past, take_more_set}
use Rattle.rk_model.specs.Lists.{nth, has, with_nth}
use Rattle.rk_model.specs.State.{SemaphoreState, no_semaphore}
use Rattle.rk_model.specs.Directives.Objects.{has_begun}
use Rattle.rk_model.specs.declared.state.Thread.{Thread}
use Rattle.rk_model.proofs.IndexLemmas.{nth-with_same, nth-with_other, nth-with_holds}
use Rattle.std.proofs.lemmas.Bool.{true≢false}
use Rattle.rk_model.proofs.BooleanLemmas.{equal_test, same_number, or_front, or_back}
use Rattle.rk_parts.specs.declared.parts.ClusterPart.{ClusterPart}
use Rattle.rk_parts.specs.Holdings.{first_one, holder, holding_of, holdings, no_holdings, own, with_owner, AreHeld, IsNotedIn}
use Rattle.rk_parts.specs.Joined.{lives_in, present_of, threads_of, thread_lent}
use Rattle.rk_parts.specs.Lent.{found_in, layout, account_in, stored_in, NotesOwner}
use Rattle.rk_parts.specs.declared.holdings.Holding.{Holding}
use Rattle.rk_model.specs.IndexSets.{is_in}
use Rattle.rk_model.specs.declared.index_set.IndexSet.{IndexSet}
use Rattle.rk_parts.specs.Held.{Held, HasNoCeiling, RaiseNone, RaisesNone, AreHeldKept}
use Rattle.rk_parts.specs.Noted.{settled_part, bare}
use Rattle.rk_groups.proofs.FoundLemmas.{found_here, found_later}
use Rattle.rk_parts.proofs.HeldLemmas.{lives_found}
use Rattle.rk_parts.proofs.MarkLemmas.{all_noted, none_marked, nth_replicate, set_is, unmarked}
use Rattle.rk_parts.specs.Threads.{AreApart}
use Rattle.rk_parts.proofs.MappedPartLemmas.{mapped_kept, LeavesThreads, threads_mapped, clusters_mapped, found_mapped}
use Rattle.rk_parts.proofs.PutLemmas.{thread_held, length_threads, lives_within}

-- ---- holdings that are left alone

-- settling leaves them alone
pub holdings_settled : (last : List ℕ) (mid new : List ClusterPart) → map bare new ≡ map (settled_part last) mid → holdings new ≡ holdings mid
holdings_settled last mid new done =
    sym (mapped_kept (λ (p : ClusterPart). p.holdings.owners) bare (λ p. refl) new)
    ∙ ap (λ (ps : List ClusterPart). holdings ps) done
    ∙ mapped_kept (λ (p : ClusterPart). p.holdings.owners) (settled_part last) (λ p. refl) mid

-- who holds a semaphore is its owner still, where holdings and owners are as before
pub held_kept : (old new : List (List (Option Holding))) (semaphores now : List SemaphoreState) → new ≡ old → ((i : ℕ) → holding_of (nth no_semaphore now i) ≡ holding_of (nth no_semaphore semaphores i)) → AreHeld old semaphores → AreHeld new now
held_kept old new semaphores now same owners held = λ i. ap (λ hs. holder hs i) same ∙ held i ∙ sym (owners i)

-- ---- an owner is noted

leaves : (i : ℕ) (owner : Option Holding) → LeavesThreads (with_owner i owner)
leaves i owner = record { threads = λ p. refl; lined = λ p. refl; timers = λ p. refl }

-- who holds another semaphore does so still
holder_else : (i j : ℕ) (owner : Option Holding) (parts : List ClusterPart) → j ≢ i → holder (holdings (map (with_owner i owner) parts)) j ≡ holder (holdings parts) j
holder_else i j owner [] other = refl
holder_else i j owner (p ∷ ps) other =
    ap (λ o. first_one o (holder (holdings (map (with_owner i owner) ps)) j)) (nth-with_other None (own p owner) p.holdings.owners i j other)
    ∙ ap (first_one (nth None p.holdings.owners j)) (holder_else i j owner ps other)

-- none holds one that has no owner
holder_none : (i : ℕ) (parts : List ClusterPart) → AllByRecursion (IsNotedIn i None) parts → holder (holdings parts) i ≡ None
holder_none i [] noted = refl
holder_none i (p ∷ ps) noted = ap (λ o. first_one o (holder (holdings ps) i)) noted.0 ∙ holder_none i ps noted.1

-- and its owner one that has
holder_some : (i at : ℕ) (h : Holding) (parts : List ClusterPart) → AllByRecursion (IsNotedIn i (Some h)) parts → found_in parts h.owner ≡ Some at → holder (holdings parts) i ≡ Some h
holder_some i at h [] noted found = absurd (cc)
holder_some i zero h (p ∷ ps) noted found =
    ap (λ o. first_one o (holder (holdings ps) i)) (noted.0 ∙ ap (λ b. cond b (Some h) None) (found_here (lives_in p h.owner) (found_in ps h.owner) found))
holder_some i (suc at) h (p ∷ ps) noted found =
    let later = found_later (lives_in p h.owner) (found_in ps h.owner) at found in
    ap (λ o. first_one o (holder (holdings ps) i)) (noted.0 ∙ ap (λ b. cond b (Some h) None) later.here_not) ∙ holder_some i at h ps noted.1 later.there

-- the place of a thread that lives
found_living : (parts : List ClusterPart) (t : ℕ) → has_begun (thread_lent parts t).life ≡ true → (at : ℕ) × (found_in parts t ≡ Some at)
found_living parts t lives =
    let w = lives_within (threads_of parts) t lives in
    let size = length_threads parts in
    let f = lives_found parts t (ap (λ (x : Thread). has_begun x.life) (sym (thread_held parts t (omega (arith, w.0)) (omega (arith, w.1, size)))) ∙ lives) in
    (f.at, f.found)

-- the holder of a semaphore whose owner was noted
noted_holder : (i : ℕ) (owner : Option Holding) (parts : List ClusterPart) → AllByRecursion (IsNotedIn i owner) (map (with_owner i owner) parts) → IfSome owner (λ (h : Holding). has_begun (thread_lent parts h.owner).life ≡ true) → holder (holdings (map (with_owner i owner) parts)) i ≡ owner
noted_holder i None parts noted lives = holder_none i (map (with_owner i None) parts) noted
noted_holder i (Some h) parts noted lives =
    let f = found_living parts h.owner lives in
    holder_some i f.0 h (map (with_owner i (Some h)) parts) noted (found_mapped (with_owner i (Some h)) (leaves i (Some h)) parts h.owner ∙ f.1)

-- Parts in each of which the owner of a semaphore was noted.
pub notes : (i : ℕ) (owner : Option Holding) (parts : List ClusterPart) → AllByRecursion (IsNotedIn i owner) (map (with_owner i owner) parts) → IfSome owner (λ (h : Holding). has_begun (thread_lent parts h.owner).life ≡ true) → NotesOwner parts i owner (map (with_owner i owner) parts)
notes i owner parts noted lives = record {
  threads = threads_mapped change (leaves i owner) parts;
  clusters = λ n counts. clusters_mapped change (leaves i owner) counts parts n;
  present = first parts;
  kept = λ n. record { layouts = mapped_kept layout change (λ p. refl) parts n; stored = mapped_kept stored_in change (λ p. refl) parts n; accounts = mapped_kept account_in change (λ p. refl) parts n };
  held = λ j. by j (j == i) refl;
  there = noted;
} where
  change : ClusterPart → ClusterPart
  change = with_owner i owner

  first : (parts : List ClusterPart) → present_of (map change parts) ≡ present_of parts
  first [] = refl
  first (p ∷ ps) = refl

  by : (j : ℕ) (b : Bool) → (j == i) ≡ b → holder (holdings (map change parts)) j ≡ cond b owner (holder (holdings parts) j)
  by j true e = let same : j ≡ i = grind (arith, nat_tests, e) in ap (holder (holdings (map change parts))) same ∙ noted_holder i owner parts noted lives
  by j false e = holder_else i j owner parts (λ q. grind (arith, nat_tests, e, q))

-- none is held at the opening
none_raises : (n i : ℕ) → RaisesNone (nth None (replicate n None) i)
none_raises n zero = tt
none_raises zero (suc i) = tt
none_raises (suc n) (suc zero) = tt
none_raises (suc n) (suc (suc i)) = none_raises n (suc i)

none_capped : (n i : ℕ) → HasNoCeiling (nth None (replicate n None) i)
none_capped n i = subst HasNoCeiling (sym (nth_replicate None n i)) tt

pub none_held : (owners noted : List (Option Holding)) (changed : List ℕ) (capped : IndexSet) → owners ≡ replicate 64 None → noted ≡ replicate 64 None → changed ≡ [] → AreHeldKept changed capped false (record { owners = owners; noted = noted })
none_held owners noted changed capped a b none = rw (a, b, none) (record { owners_each = refl; noted_each = refl; apart = none_marked; as_noted = λ t h. refl; uncapped = λ i out. none_capped 64 i; plain = λ e. record { now = none_raises 64; before = none_raises 64 } })

pub held_opened : (owners noted : List (Option Holding)) → owners ≡ replicate 64 None → noted ≡ replicate 64 None → (let h : Held = record { owners = owners; noted = noted } in h) ≡ no_holdings
held_opened owners noted a b = λ i. record { owners = a i; noted = b i }

-- past the end nothing stands
pub none_past : (xs : List (Option Holding)) (i : ℕ) → 1 ≤ i → false ≡ ltb (i - 1) (length xs) → nth None xs i ≡ None
none_past xs zero low past = refl
none_past xs (suc i) low past = (let same : suc i - 1 ≡ i = omega arith in get_or_past xs i None (more (rw same at past))) where
  more : false ≡ ltb i (length xs) → length xs ≤ i
  more h = grind (arith, nat_tests, h)

-- ---- whether one may raise a priority

-- none does where one that doesn't was written
pub plain_written : (owners noted now : List (Option Holding)) (raised next : Bool) (i : ℕ) (holding : Option Holding) → 1 ≤ i → now ≡ slice_set owners (i - 1) holding → (next ≡ false → raised ≡ false) → (next ≡ false → RaisesNone holding) → (raised ≡ false → RaiseNone (record { owners = owners; noted = noted })) → next ≡ false → RaiseNone (record { owners = now; noted = noted })
plain_written owners noted now raised next i holding low put kept none were off = record {
  now = λ j. subst (λ (xs : List (Option Holding)). RaisesNone (nth None xs j)) (sym (put ∙ set_is owners i i holding refl low)) (nth-with_holds RaisesNone None holding owners i j (none off) ((were (kept off)).now j));
  before = (were (kept off)).before;
}

-- ---- which changed

-- one more was written, which is among the changed ones then
pub kept_written : (owners noted now : List (Option Holding)) (changed next : List ℕ) (capped caps : IndexSet) (may raised : Bool) (i : ℕ) (holding : Option Holding) → 1 ≤ i → i ≤ 64 → now ≡ slice_set owners (i - 1) holding → AreApart next → ((j : ℕ) → has next j ≡ ((i == j) || has changed j)) → (is_in caps i ≡ false → HasNoCeiling holding) → ((j : ℕ) → j ≢ i → is_in caps j ≡ is_in capped j) → (raised ≡ false → may ≡ false) → (raised ≡ false → RaisesNone holding) → AreHeldKept changed capped may (record { owners = owners; noted = noted }) → AreHeldKept next caps raised (record { owners = now; noted = noted })
kept_written owners noted now changed next capped caps may raised i holding low high put apart marks here others kept none were = record {
  owners_each = ap (λ (xs : List (Option Holding)). length xs) put ∙ length-set owners (i - 1) holding ∙ were.owners_each;
  noted_each = were.noted_each;
  apart = apart;
  as_noted = λ j out. (let other = unmarked changed next i j marks out in
      ap (λ (xs : List (Option Holding)). nth None xs j) (put ∙ set_is owners i i holding refl low)
      ∙ nth-with_other None holding owners i j other.0
      ∙ were.as_noted j other.1);
  uncapped = λ j out. caps_at j out (j == i) refl;
  plain = plain_written owners noted now may raised i holding low put kept none were.plain;
} where
  written : (j : ℕ) → nth None now j ≡ nth None (with_nth owners i holding) j
  written j = ap (λ (xs : List (Option Holding)). nth None xs j) (put ∙ set_is owners i i holding refl low)

  caps_at : (j : ℕ) → is_in caps j ≡ false → (b : Bool) → (j == i) ≡ b → HasNoCeiling (nth None now j)
  caps_at j out true e =
      let same : i ≡ j = sym (same_number j i e) in
      let size = were.owners_each in
      subst (λ n. HasNoCeiling (nth None now n)) same (subst HasNoCeiling (sym (written i ∙ nth-with_same None holding owners i (omega (arith, low)) (omega (arith, high, size)))) (here (ap (is_in caps) same ∙ out)))
  caps_at j out false e =
      let other : j ≢ i = λ q. (let no : ⊥ = grind (arith, nat_tests, e, q) in absurd no) in
      subst HasNoCeiling (sym (written j ∙ nth-with_other None holding owners i j other)) (were.uncapped j (sym (others j other) ∙ out))

pub nothing_changed : (owners noted : List (Option Holding)) (changed : List ℕ) (capped : IndexSet) (may : Bool) → changed ≡ [] → AreHeldKept changed capped may (record { owners = owners; noted = noted }) → owners ≡ noted
nothing_changed owners noted changed capped may none kept = sym (all_noted None owners changed noted kept.owners_each kept.noted_each none kept.as_noted)

pub is_none : (b : Bool) (xs : List ℕ) → (IsTrue b ↔ (xs ≡ [])) → not b ≡ false → xs ≡ []
is_none true xs is e = is.0 refl
is_none false xs is e = absurd (true≢false e)

-- the item of a place is among the changed ones
pub listed_within : (changed : List ℕ) (k : ℕ) → k < length changed → AreApart changed → (1 ≤ get_or changed k 0) × (get_or changed k 0 ≤ 64)
listed_within changed k less apart = apart.within (get_or changed k 0) (there changed k less) where
  there : (xs : List ℕ) (k : ℕ) → k < length xs → has xs (get_or xs k 0) ≡ true
  there [] k less = absurd (none k less) where
    none : (k : ℕ) → k < 0 → ⊥
    none k h = omega (arith, h)
  there (x ∷ xs) zero less = or_front (has xs x) (equal_test x x refl)
  there (x ∷ xs) (suc k) less = or_back (x == get_or xs k 0) (there xs k (omega (arith, less)))

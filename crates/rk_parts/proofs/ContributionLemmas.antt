-- What threads contribute to each other's priorities: by whom it stays the same after a change, and how the others are made to contribute anew.
use Rattle.std.proofs.Common.{◌≡◌, ℕ, zero, suc, ◌+◌, ◌<◌, ◌≤◌, List, [], ◌∷◌, Bool, true, false, cond, ◌&&◌, ◌==◌, Option, Some, None, is_some, length, map, get_or, arith, refl, sym, ap, ◌∙◌, ⊎_elim, set, subst, ◌≢◌}
use Rattle.std.specs.Bool.{if◌then◌else◌}
use Rattle.std.proofs.lemmas.List.{get_or_past, length-map, get_or-set_same, get_or-set_other}
use Rattle.std.proofs.lemmas.Bool.Decides.{nat_tests}
use Rattle.std.proofs.lemmas.Bool.{false≢true, cases_lt}
use Rattle.rk_model.specs.declared.state.Wait.{Wait}
use Rattle.rk_model.specs.declared.state.Wait.TheVariants.{ForTime, ForEvents, AtBarrier, ForPeriod, ForSemaphore}
use Rattle.rk_model.specs.declared.index_set.IndexSet.{IndexSet}
use Rattle.rk_model.proofs.IndexSetLemmas.{in_within}
use Rattle.rk_model.specs.Lists.{has, nth}
use Rattle.rk_model.specs.Queues.{lesser}
use Rattle.rk_model.specs.State.{no_thread}
use Rattle.rk_model.specs.Directives.Objects.{has_begun}
use Rattle.rk_model.specs.Scheduling.Chains.{chain, chain_on, reaches}
use Rattle.rk_model.specs.Scheduling.Priorities.{least_of}
use Rattle.rk_model.proofs.BooleanLemmas.{equal_test, or_front, or_back, same_number}
use Rattle.rk_groups.specs.GroupObjects.{listed}
use Rattle.rk_groups.proofs.ListedLemmas.{get_or-listed, length-listed, same_listed}
use Rattle.rk_parts.specs.declared.bearing.Bearing.{Bearing}
use Rattle.rk_parts.specs.declared.holdings.Holding.{Holding}
use Rattle.rk_parts.specs.declared.parts.ClusterPart.{ClusterPart}
use Rattle.rk_parts.specs.Contributing.{flat, BearsAsBorne, IsFresh, Lives, AreAsElsewhere, AsElsewhere}
use Rattle.rk_parts.specs.Contributions.{bears, bore, bore_in, borne_of, borrower_by, ceiling_by, contributed, flagged, home_of, is_home, least_ceiling, own_by, reach_to, reached_by, step_by, IsApart, IsOne}
use Rattle.rk_parts.specs.Holdings.{holder, holdings, noted_holdings}
use Rattle.rk_parts.specs.Joined.{placed_in, lives_in, held, threads_of}
use Rattle.rk_parts.specs.Noted.{no_part, part_at, AreLent, NoneElsewhere}
use Rattle.rk_parts.specs.Threads.{bearing, no_bearing}
use Rattle.rk_parts.proofs.MappedPartLemmas.{mapped_kept}
use Rattle.rk_parts.proofs.PutLemmas.{thread_held, length_threads}

-- ---- chains

-- a chain none of whose threads steps otherwise is the same
pub chain_same : (step now : ℕ → Option ℕ) (n u : ℕ) → ((w : ℕ) → reaches step n u w ≡ true → now w ≡ step w) → chain now n u ≡ chain step n u
chain_same step now zero u same = refl
chain_same step now (suc n) u same = rw (same u (or_front (has (chain_on (chain step n) (step u)) u) (equal_test u u refl))) (ap (λ rest. u ∷ rest) (on (chain_same step now n) (step u) (λ w met. same w (or_back (u == w) met)))) where
  on : ((v : ℕ) → ((w : ℕ) → reaches step n v w ≡ true → now w ≡ step w) → chain now n v ≡ chain step n v) → (next : Option ℕ) → ((w : ℕ) → has (chain_on (chain step n) next) w ≡ true → now w ≡ step w) → chain_on (chain now n) next ≡ chain_on (chain step n) next
  on more None rest = refl
  on more (Some v) rest = more v rest

-- ---- who contributes as before

-- What a thread contributes is as before where its own priority is, and each thread that its chain reached steps as before.
pub contributed_same : (bear bear' : ℕ → Bearing) (hold hold' : ℕ → Option Holding) (u : ℕ) → bear' u ≡ bear u → ((i c : ℕ) → ceiling_by u c (hold' i) ≡ ceiling_by u c (hold i)) → (has_begun (bear u).life ≡ true → (w : ℕ) → reached_by (step_by bear hold) u w ≡ true → step_by bear' hold' w ≡ step_by bear hold w) → (t c : ℕ) → contributed bear' hold' t c u ≡ contributed bear hold t c u
unfolding contributed reached_by least_ceiling
contributed_same bear bear' hold hold' u self ceilings steps t c = by (has_begun (bear u).life) refl where
  dead : (bear : ℕ → Bearing) (hold : ℕ → Option Holding) → has_begun (bear u).life ≡ false → cond (has_begun (bear u).life && (((bear u).home == c) && reaches (step_by bear hold) 64 u t)) (Some (own_by bear hold u)) None ≡ None
  dead bear hold e = rw e refl

  chains : has_begun (bear u).life ≡ true → reaches (step_by bear' hold') 64 u t ≡ reaches (step_by bear hold) 64 u t
  chains lives = ap (λ ts. has ts t) (chain_same (step_by bear hold) (step_by bear' hold') 64 u (steps lives))

  now : ℕ → Option ℕ
  now i = ceiling_by u (bear u).home (hold' i)

  was : ℕ → Option ℕ
  was i = ceiling_by u (bear u).home (hold i)

  least : now ≡ was
  least = λ j i. ceilings i (bear u).home j

  owns : own_by bear' hold' u ≡ own_by bear hold u
  owns =
      ap (λ (b : Bearing). lesser b.base (least_of (λ i. ceiling_by u b.home (hold' i)) 1 64)) self
      ∙ ap (λ (f : ℕ → Option ℕ). lesser (bear u).base (least_of f 1 64)) least

  by : (b : Bool) → has_begun (bear u).life ≡ b → cond (has_begun (bear' u).life && (((bear' u).home == c) && reaches (step_by bear' hold') 64 u t)) (Some (own_by bear' hold' u)) None ≡ cond (has_begun (bear u).life && (((bear u).home == c) && reaches (step_by bear hold) 64 u t)) (Some (own_by bear hold u)) None
  by false e = dead bear' hold' (ap (λ (b : Bearing). has_begun b.life) self ∙ e) ∙ sym (dead bear hold e)
  by true e =
      ap (λ (b : Bearing). cond (has_begun b.life && ((b.home == c) && reaches (step_by bear' hold') 64 u t)) (Some (own_by bear' hold' u)) None) self
      ∙ ap (λ b. cond (has_begun (bear u).life && (((bear u).home == c) && b)) (Some (own_by bear' hold' u)) None) (chains e)
      ∙ ap (λ p. cond (has_begun (bear u).life && (((bear u).home == c) && reaches (step_by bear hold) 64 u t)) (Some p) None) owns

-- a thread that lives contributes to each thread that its chain reaches, in its home
contributes_to : (bear : ℕ → Bearing) (hold : ℕ → Option Holding) (t c u : ℕ) → has_begun (bear u).life ≡ true → c ≡ (bear u).home → reached_by (step_by bear hold) u t ≡ true → is_some (contributed bear hold t c u) ≡ true
unfolding contributed
contributes_to bear hold t c u lives home met = rw (lives, equal_test (bear u).home c (sym home), met) refl

-- the chain of one that contributed to no touched thread reached none
pub untouched_chain : (touched : IndexSet) (parts : List ClusterPart) (u : ℕ) → IsOne u → IsFresh touched parts u → AreLent (bore parts) (holder (noted_holdings parts)) parts → Lives parts → has_begun (bore parts u).life ≡ true → (w : ℕ) → reached_by (step_by (bore parts) (holder (noted_holdings parts))) u w ≡ true → flagged touched w ≡ false
untouched_chain touched parts u one fresh lent lives alive w met = by (flagged touched w) refl (lives u alive) where
  by : (b : Bool) → flagged touched w ≡ b → (at : ℕ) × ((at < length parts) × ((part_at parts at).lined.number ≡ (bore parts u).home)) → flagged touched w ≡ false
  by false e home = e
  by true e home =
      let some = contributes_to (bore parts) (holder (noted_holdings parts)) w (part_at parts home.0).lined.number u alive home.1.1 met in
      let none : contributed (bore parts) (holder (noted_holdings parts)) w (part_at parts home.0).lined.number u ≡ None = sym (lent.own home.0 w u home.1.0 (in_within touched w e) one) ∙ fresh.others home.0 w home.1.0 e in
      absurd (false≢true (sym (ap (λ o. is_some o) none) ∙ some))

-- what steps as before
step_same : (bear bear' : Bearing) (hold hold' : ℕ → Option Holding) (w : ℕ) → bear' ≡ bear → ((i : ℕ) → IsApart (hold i) (hold' i) i w bear'.wait) → borrower_by hold' bear'.wait ≡ borrower_by hold bear.wait
step_same bear bear' hold hold' w same apart = by bear'.wait refl ∙ ap (λ (b : Bearing). borrower_by hold b.wait) same where
  by : (wait : Option Wait) → bear'.wait ≡ wait → borrower_by hold' bear'.wait ≡ borrower_by hold bear'.wait
  by None e = rw e refl
  by (Some ForTime) e = rw e refl
  by (Some (ForEvents set all)) e = rw e refl
  by (Some (AtBarrier i)) e = rw e refl
  by (Some (ForPeriod i)) e = rw e refl
  by (Some (ForSemaphore i spins)) e = ap (borrower_by hold') e ∙ (apart i).step spins e ∙ sym (ap (borrower_by hold) e)

-- Who is touched, as far as flags tell: the others bear what they bore, and changed holdings don't touch them.
pub record TellsTouched (touched : IndexSet) (parts : List ClusterPart) : Type 0 where
  pub bear : (t : ℕ) → flagged touched t ≡ false → bears parts t ≡ bore parts t
  pub hold : (t : ℕ) → flagged touched t ≡ false → (i : ℕ) → IsApart (holder (noted_holdings parts) i) (holder (holdings parts) i) i t (bears parts t).wait

-- Who contributed to no touched thread, and isn't touched, contributes as before.
pub contributes_still : (touched : IndexSet) (parts : List ClusterPart) → TellsTouched touched parts → AreLent (bore parts) (holder (noted_holdings parts)) parts → Lives parts → (u : ℕ) → IsOne u → IsFresh touched parts u → (t c : ℕ) → contributed (bears parts) (holder (holdings parts)) t c u ≡ contributed (bore parts) (holder (noted_holdings parts)) t c u
contributes_still touched parts tells lent lives u one fresh =
    contributed_same (bore parts) (bears parts) (holder (noted_holdings parts)) (holder (holdings parts)) u
    (tells.bear u fresh.self)
    (λ i c. (tells.hold u fresh.self i).ceiling c)
    (λ alive w met. (let low = untouched_chain touched parts u one fresh lent lives alive w met in step_same (bore parts w) (bears parts w) (holder (noted_holdings parts)) (holder (holdings parts)) w (tells.bear w low) (tells.hold w low)))

-- ---- what threads bear and bore

pub bears_held : (parts : List ClusterPart) (t : ℕ) → IsOne t → bears parts t ≡ bearing (held parts t)
bears_held parts t one = ap bearing (thread_held parts t one.0 one.1)

pub bore_held : (parts : List ClusterPart) (t : ℕ) → IsOne t → bore parts t ≡ bore_in parts t
unfolding borne_of
bore_held parts zero one = absurd (omega (arith, one.0))
bore_held parts (suc i) one = let e : 1 + i ≡ suc i = omega arith in get_or-listed (bore_in parts) 1 64 i no_bearing (omega (arith, one.1)) ∙ ap (bore_in parts) e

-- of a number that is no thread's nothing is borne
pub none_bears : (parts : List ClusterPart) (i : ℕ) → 64 ≤ i → bears parts (suc i) ≡ no_bearing
none_bears parts i more = ap bearing (get_or_past (threads_of parts) i no_thread (rw length_threads more))

none_bore : (parts : List ClusterPart) (i : ℕ) → 64 ≤ i → bore parts (suc i) ≡ no_bearing
unfolding borne_of
none_bore parts i more = get_or_past (listed (bore_in parts) 1 64) i no_bearing (rw length-listed more)

-- a thread that bears in each part what it bore there bears what it bore
pub bears_as_borne : (parts : List ClusterPart) (t : ℕ) → ((at : ℕ) → at < length parts → BearsAsBorne (part_at parts at) t) → bears parts t ≡ bore parts t
bears_as_borne parts zero all = zero_bore parts where
  zero_bore : (parts : List ClusterPart) → no_bearing ≡ bore parts 0
  zero_bore parts = refl
bears_as_borne parts (suc i) all = ⊎_elim (λ less. (let one : IsOne (suc i) = (omega arith, omega (arith, less)) in bears_held parts (suc i) one ∙ same parts (suc i) all ∙ sym (bore_held parts (suc i) one))) (λ more. none_bears parts i more ∙ sym (none_bore parts i more)) (cases_lt i 64) where
  same : (parts : List ClusterPart) (t : ℕ) → ((at : ℕ) → at < length parts → BearsAsBorne (part_at parts at) t) → bearing (held parts t) ≡ bore_in parts t
  same [] t all = refl
  same (p ∷ ps) t all = by (same ps t (λ at less. all (suc at) (omega (arith, less)))) (all 0 (omega arith)) where
    by : bearing (held ps t) ≡ bore_in ps t → bearing (placed_in p t) ≡ nth no_bearing p.threads.borne t → bearing (cond (has_begun (placed_in p t).life) (placed_in p t) (held ps t)) ≡ cond (has_begun (nth no_bearing p.threads.borne t).life) (nth no_bearing p.threads.borne t) (bore_in ps t)
    by rest here = pull (has_begun (placed_in p t).life) ∙ ap (λ (b : Bearing). cond (has_begun b.life) b (bearing (held ps t))) here ∙ ap (λ b. cond (has_begun (nth no_bearing p.threads.borne t).life) (nth no_bearing p.threads.borne t) b) rest where
      pull : (b : Bool) → bearing (cond b (placed_in p t) (held ps t)) ≡ cond b (bearing (placed_in p t)) (bearing (held ps t))
      pull true = refl
      pull false = refl

-- ---- parts that are the same but for contributions

pub flat_kept : {X : Type 0} (f : ClusterPart → X) → ((p : ClusterPart) → f (flat p) ≡ f p) → (old new : List ClusterPart) → map flat new ≡ map flat old → map f new ≡ map f old
flat_kept f same old new e = sym (mapped_kept f flat same new) ∙ ap (λ (ps : List ClusterPart). map f ps) e ∙ mapped_kept f flat same old

pub flat_length : (old new : List ClusterPart) → map flat new ≡ map flat old → length new ≡ length old
flat_length old new e = sym (length-map new flat) ∙ ap (λ (ps : List ClusterPart). length ps) e ∙ length-map old flat

flat_at : (parts : List ClusterPart) (at : ℕ) → get_or (map flat parts) at no_part ≡ flat (part_at parts at)
flat_at [] at = refl
flat_at (p ∷ ps) zero = refl
flat_at (p ∷ ps) (suc at) = flat_at ps at

pub flat_part : {X : Type 0} (f : ClusterPart → X) → ((p : ClusterPart) → f (flat p) ≡ f p) → (old new : List ClusterPart) (at : ℕ) → map flat new ≡ map flat old → f (part_at new at) ≡ f (part_at old at)
flat_part f same old new at e = sym (same (part_at new at)) ∙ ap f (sym (flat_at new at) ∙ ap (λ (ps : List ClusterPart). get_or ps at no_part) e ∙ flat_at old at) ∙ same (part_at old at)

pub flat_number : (old new : List ClusterPart) (at : ℕ) → map flat new ≡ map flat old → (part_at new at).lined.number ≡ (part_at old at).lined.number
flat_number old new at e = flat_part (λ (p : ClusterPart). p.lined.number) (λ p. refl) old new at e

-- in other clusters than their own they have what they had, one change after another,
pub elsewhere_more : (old now next : List ClusterPart) → map flat now ≡ map flat old → AreAsElsewhere old now → AreAsElsewhere now next → AreAsElsewhere old next
elsewhere_more old now next e first second = λ at less t d u other. second at (rw (flat_length old now e) less) t d u (λ q. other (q ∙ flat_number old now at e)) ∙ first at less t d u other

-- and so nothing, where they had nothing
pub none_elsewhere : (old now : List ClusterPart) → map flat now ≡ map flat old → AreAsElsewhere old now → NoneElsewhere old → NoneElsewhere now
none_elsewhere old now e same none at t d u less other =
    let there : at < length old = rw (flat_length old now e) at less in
    let apart : d ≢ (part_at old at).lined.number = λ q. other (q ∙ sym (flat_number old now at e)) in
    same at there t d u apart ∙ none at t d u there apart

-- one part after another
pub elsewhere_part : (old now : List ClusterPart) (part next : ClusterPart) (i : ℕ) → i < length now → part ≡ part_at old i → AsElsewhere part next → AreAsElsewhere old now → AreAsElsewhere old (set now i next)
elsewhere_part old now part next i within was apart so_far at less = by (at == i) refl where
  by : (b : Bool) → (at == i) ≡ b → AsElsewhere (part_at old at) (part_at (set now i next) at)
  by true e =
      let same : i ≡ at = sym (same_number at i e) in
      let here : part_at (set now i next) i ≡ next = get_or-set_same now i next no_part within in
      subst (λ j. AsElsewhere (part_at old j) (part_at (set now i next) j)) same
      (subst (λ (p : ClusterPart). AsElsewhere p (part_at (set now i next) i)) was (subst (λ (q : ClusterPart). AsElsewhere part q) (sym here) apart))
  by false e = subst (λ (q : ClusterPart). AsElsewhere (part_at old at) q) (sym (get_or-set_other now i at next no_part (λ q. (let no : ⊥ = grind (arith, nat_tests, e, q) in absurd no)))) (so_far at less)

held_flat : (parts : List ClusterPart) (t : ℕ) → held (map flat parts) t ≡ held parts t
held_flat [] t = refl
held_flat (p ∷ ps) t = ap (λ x. if lives_in p t then placed_in p t else x) (held_flat ps t)

pub flat_threads : (old new : List ClusterPart) → map flat new ≡ map flat old → threads_of new ≡ threads_of old
unfolding threads_of
flat_threads old new e = same_listed (held new) (held old) 1 64 (λ t. sym (held_flat new t) ∙ ap (λ (ps : List ClusterPart). held ps t) e ∙ held_flat old t)

pub flat_bears : (old new : List ClusterPart) → map flat new ≡ map flat old → bears new ≡ bears old
flat_bears old new e = λ i t. bearing (nth no_thread (flat_threads old new e i) t)

pub flat_holdings : (old new : List ClusterPart) → map flat new ≡ map flat old → holdings new ≡ holdings old
flat_holdings old new e = flat_kept (λ (p : ClusterPart). p.holdings.owners) (λ p. refl) old new e

-- ---- contributions made anew

-- a thread contributes what its reach tells
pub reach_is : (bear : ℕ → Bearing) (hold : ℕ → Option Holding) (u c t : ℕ) (home : Option ℕ) (own : ℕ) (flags : IndexSet) → home ≡ home_of (bear u) → own ≡ own_by bear hold u → ((t : ℕ) → flagged flags t ≡ reached_by (step_by bear hold) u t) → reach_to home own flags c t ≡ contributed bear hold t c u
unfolding contributed
reach_is bear hold u c t home own flags at is met = rw (at, is, met t) (by (has_begun (bear u).life)) where
  by : (b : Bool) → cond (is_home c (cond b (Some (bear u).home) None) && reached_by (step_by bear hold) u t) (Some (own_by bear hold u)) None ≡ cond (b && (((bear u).home == c) && reached_by (step_by bear hold) u t)) (Some (own_by bear hold u)) None
  by true = refl
  by false = refl

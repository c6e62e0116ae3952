-- Contributions where nobody lends a priority and no ceiling is held: each thread contributes its base priority to itself, in its home.
use Rattle.std.proofs.Common.{◌≡◌, ◌≢◌, ℕ, zero, suc, ◌+◌, ◌<◌, ◌≤◌, List, [], ◌∷◌, Bool, true, false, cond, ◌&&◌, ◌||◌, ◌==◌, Option, Some, None, length, map, set, arith, refl, sym, ap, ◌∙◌, subst}
use Rattle.std.specs.List.{slice_index_or}
use Rattle.std.proofs.lemmas.List.{get_or-set_other, get_or-set_same}
use Rattle.std.proofs.lemmas.Bool.{false≢true, true≢false}
use Rattle.std.proofs.lemmas.Bool.Decides.{nat_tests}
use Rattle.rk_model.specs.declared.state.Wait.{Wait}
use Rattle.rk_model.specs.declared.state.Wait.TheVariants.{ForTime, ForEvents, AtBarrier, ForPeriod, ForSemaphore}
use Rattle.rk_model.specs.Lists.{has, nth}
use Rattle.rk_model.specs.Queues.{lesser}
use Rattle.rk_model.specs.Directives.Objects.{has_begun}
use Rattle.rk_model.specs.Scheduling.Chains.{chain, chain_on, reaches}
use Rattle.rk_model.specs.Scheduling.Priorities.{if_some}
use Rattle.rk_model.proofs.BooleanLemmas.{equal_test, same_number}
use Rattle.rk_agg.specs.Shares.{least_source}
use Rattle.rk_agg.proofs.ShareLemmas.{least_of_none}
use Rattle.rk_parts.specs.declared.bearing.Bearing.{Bearing}
use Rattle.rk_parts.specs.declared.holdings.Holding.{Holding}
use Rattle.rk_parts.specs.declared.parts.ClusterPart.{ClusterPart}
use Rattle.rk_parts.specs.Contributing.{bears_at, bore_at, flat, AreAlone, AreAsElsewhere, AreHomed, AreHomes, AsElsewhere}
use Rattle.rk_parts.specs.Contributions.{bears, bore, bore_in, borrower_by, borrower_of, ceiling_by, contributed, least_ceiling, own_by, reached_by, step_by, IsOne}
use Rattle.rk_parts.specs.Held.{RaisesNone, RaiseNone}
use Rattle.rk_parts.specs.Holdings.{first_one, holder, holdings, noted_holdings}
use Rattle.rk_parts.specs.Joined.{placed_in, held}
use Rattle.rk_parts.specs.Noted.{no_part, part_at, share_at, AreLent}
use Rattle.rk_parts.specs.Threads.{alone, alone_to, bearing, no_bearing}
use Rattle.rk_parts.proofs.ContributingLemmas.{flat_set}
use Rattle.rk_parts.proofs.ContributionLemmas.{bears_held, bore_held, elsewhere_part, flat_length, flat_number, none_elsewhere}

-- ---- holdings that raise no priority

no_borrower : (h : Option Holding) → RaisesNone h → borrower_of h ≡ None
no_borrower None plain = refl
no_borrower (Some h) plain = ap (λ b. cond b (Some h.owner) None) plain.protocol

no_ceiling : (t c : ℕ) (h : Option Holding) → RaisesNone h → ceiling_by t c h ≡ None
no_ceiling t c None plain = refl
no_ceiling t c (Some h) plain = by (h.owner == t) (plain.ceilings c) where
  by : (b : Bool) → slice_index_or h.ceilings c 0 ≡ 0 → cond b (if_some (slice_index_or h.ceilings c 0)) None ≡ None
  by true e = ap if_some e
  by false e = refl

-- the holder of a semaphore, in parts whose first has one that raises none
pub plain_first : (h other : Option Holding) → RaisesNone h → RaisesNone other → RaisesNone (first_one h other)
plain_first None other a b = b
plain_first (Some h) other a b = a

-- the holdings of the parts so far raise no priority
abbrev pub AreRaisingNone : List ClusterPart → Type 0
AreRaisingNone parts = (i : ℕ) → RaisesNone (holder (holdings parts) i) × RaisesNone (holder (noted_holdings parts) i)

pub plain_part : (part : ClusterPart) (left : List ClusterPart) → RaiseNone part.holdings → AreRaisingNone left → AreRaisingNone (part ∷ left)
plain_part part left here rest i = (plain_first (nth None part.holdings.owners i) (holder (holdings left) i) (here.now i) (rest i).0, plain_first (nth None part.holdings.noted i) (holder (noted_holdings left) i) (here.before i) (rest i).1)

-- ---- what is contributed

none_lends : (bear : ℕ → Bearing) (hold : ℕ → Option Holding) → ((i : ℕ) → RaisesNone (hold i)) → (u : ℕ) → step_by bear hold u ≡ None
none_lends bear hold plain u = by (bear u).wait where
  by : (w : Option Wait) → borrower_by hold w ≡ None
  by None = refl
  by (Some ForTime) = refl
  by (Some (ForEvents set all)) = refl
  by (Some (AtBarrier i)) = refl
  by (Some (ForPeriod i)) = refl
  by (Some (ForSemaphore i spins)) = no_borrower (hold i) (plain i)

-- a chain that goes on nowhere reaches its first thread alone
reaches_self : (step : ℕ → Option ℕ) (n u t : ℕ) → step u ≡ None → reaches step (suc n) u t ≡ (u == t)
reaches_self step n u t e = ap (λ o. (u == t) || has (chain_on (chain step n) o) t) e ∙ or_none (u == t) where
  or_none : (b : Bool) → (b || false) ≡ b
  or_none true = refl
  or_none false = refl

-- Where semaphores are held so that they raise no priority, a thread contributes to itself alone.
pub contributed_alone : (bear : ℕ → Bearing) (hold : ℕ → Option Holding) → ((i : ℕ) → RaisesNone (hold i)) → (t c u : ℕ) → contributed bear hold t c u ≡ alone_to bear t c u
unfolding contributed reached_by least_ceiling least_source
contributed_alone bear hold plain t c u =
    ap (λ b. cond (has_begun (bear u).life && (((bear u).home == c) && b)) (Some (own_by bear hold u)) None) (reaches_self (step_by bear hold) 63 u t (none_lends bear hold plain u))
    ∙ ap (λ o. cond (has_begun (bear u).life && (((bear u).home == c) && (u == t))) (Some (lesser (bear u).base o)) None) least
    ∙ by (t == u) refl
  where
    least : least_source (λ i. ceiling_by u (bear u).home (hold i)) ≡ None
    least = least_of_none (λ i. ceiling_by u (bear u).home (hold i)) (λ i. no_ceiling u (bear u).home (hold i) (plain i))

    -- both in one form
    self : (a b : Bool) (p : ℕ) → cond (a && (b && true)) (Some p) None ≡ cond (a && b) (Some p) None
    self true true p = refl
    self true false p = refl
    self false b p = refl

    other : (a b : Bool) (p : ℕ) → cond (a && (b && false)) (Some p) None ≡ None
    other true true p = refl
    other true false p = refl
    other false b p = refl

    by : (b : Bool) → (t == u) ≡ b → cond (has_begun (bear u).life && (((bear u).home == c) && (u == t))) (Some (bear u).base) None ≡ cond b (alone (bear t) c) None
    by true e =
        let same : t ≡ u = same_number t u e in
        ap (λ b. cond (has_begun (bear u).life && (((bear u).home == c) && b)) (Some (bear u).base) None) (equal_test u t (sym same))
        ∙ self (has_begun (bear u).life) ((bear u).home == c) (bear u).base
        ∙ ap (λ v. alone (bear v) c) (sym same)
    by false e =
        let apart : (u == t) ≡ false = grind (arith, nat_tests, e) in
        ap (λ b. cond (has_begun (bear u).life && (((bear u).home == c) && b)) (Some (bear u).base) None) apart
        ∙ other (has_begun (bear u).life) ((bear u).home == c) (bear u).base

-- ---- in which part a thread lives

-- what a thread bears in the first of these parts in which it lives
first_by : (ClusterPart → ℕ → Bearing) → List ClusterPart → ℕ → Bearing
first_by bear [] t = no_bearing
first_by bear (p ∷ ps) t = cond (has_begun (bear p t).life) (bear p t) (first_by bear ps t)

record IsFirst (bear : ClusterPart → ℕ → Bearing) (parts : List ClusterPart) (t : ℕ) : Type 0 where
  at : ℕ
  within : at < length parts
  is : first_by bear parts t ≡ bear (part_at parts at) t

found_first : (bear : ClusterPart → ℕ → Bearing) (parts : List ClusterPart) (t : ℕ) → has_begun (first_by bear parts t).life ≡ true → IsFirst bear parts t
unfolding first_by
found_first bear [] t lives = absurd (false≢true lives)
found_first bear (p ∷ ps) t lives = by (has_begun (bear p t).life) refl lives (found_first bear ps t) where
  by : (b : Bool) → has_begun (bear p t).life ≡ b → has_begun (cond b (bear p t) (first_by bear ps t)).life ≡ true → (has_begun (first_by bear ps t).life ≡ true → IsFirst bear ps t) → IsFirst bear (p ∷ ps) t
  by true e lives more = record { at = 0; within = omega arith; is = ap (λ b. cond b (bear p t) (first_by bear ps t)) e }
  by false e lives more = let f = more lives in record { at = suc f.at; within = omega (arith, f.within); is = ap (λ b. cond b (bear p t) (first_by bear ps t)) e ∙ f.is }

dead_first : (bear : ClusterPart → ℕ → Bearing) (parts : List ClusterPart) (t at : ℕ) → has_begun (first_by bear parts t).life ≡ false → at < length parts → has_begun (bear (part_at parts at) t).life ≡ false
unfolding first_by
dead_first bear [] t at dead within = absurd (none at within) where
  none : (at : ℕ) → at < 0 → ⊥
  none at h = omega (arith, h)
dead_first bear (p ∷ ps) t at dead within = by (has_begun (bear p t).life) refl dead (dead_first bear ps t) at within where
  by : (b : Bool) → has_begun (bear p t).life ≡ b → has_begun (cond b (bear p t) (first_by bear ps t)).life ≡ false → ((at : ℕ) → has_begun (first_by bear ps t).life ≡ false → at < length ps → has_begun (bear (part_at ps at) t).life ≡ false) → (at : ℕ) → at < length (p ∷ ps) → has_begun (bear (part_at (p ∷ ps) at) t).life ≡ false
  by true e dead more at within = absurd (true≢false (sym e ∙ dead))
  by false e dead more zero within = e
  by false e dead more (suc at) within = more at dead (omega (arith, within))

dead_alone : (b : Bearing) (c : ℕ) → has_begun b.life ≡ false → alone b c ≡ None
dead_alone b c dead = ap (λ a. cond (a && (b.home == c)) (Some b.base) None) dead

away_alone : (b : Bearing) (c : ℕ) → (b.home == c) ≡ false → alone b c ≡ None
away_alone b c away = by (has_begun b.life) (b.home == c) away where
  by : (x y : Bool) → y ≡ false → cond (x && y) (Some b.base) None ≡ None
  by true y e = ap (λ z. cond z (Some b.base) None) e
  by false y e = refl

-- In the cluster of a part, a thread contributes to itself what it does by what it bears in this part.
alone_first : (bear : ClusterPart → ℕ → Bearing) (parts : List ClusterPart) → ((i j : ℕ) → i < length parts → j < length parts → (part_at parts i).lined.number ≡ (part_at parts j).lined.number → i ≡ j) → AreHomed bear parts → (at t : ℕ) → at < length parts → alone (first_by bear parts t) (part_at parts at).lined.number ≡ alone (bear (part_at parts at) t) (part_at parts at).lined.number
alone_first bear parts apart homed at t within = by (has_begun (first_by bear parts t).life) refl where
  n : ℕ
  n = (part_at parts at).lined.number

  here : ℕ → Bearing
  here i = bear (part_at parts i) t

  away : (first : Bearing) → has_begun first.life ≡ true → (f : ℕ) → f < length parts → first ≡ here f → has_begun (here at).life ≡ false → (b : Bool) → (first.home == n) ≡ b → alone first n ≡ None
  away first lives f inside is dead false e = away_alone first n e
  away first lives f inside is dead true e =
      let alive : has_begun (here f).life ≡ true = ap (λ (b : Bearing). has_begun b.life) (sym is) ∙ lives in
      let number : (part_at parts f).lined.number ≡ n = sym (homed.home f t alive) ∙ ap (λ (b : Bearing). b.home) (sym is) ∙ same_number first.home n e in
      let same : f ≡ at = apart f at inside within number in
      absurd (true≢false (sym alive ∙ ap (λ i. has_begun (here i).life) same ∙ dead))

  alive_first : has_begun (first_by bear parts t).life ≡ true → IsFirst bear parts t → (b : Bool) → has_begun (here at).life ≡ b → alone (first_by bear parts t) n ≡ alone (here at) n
  alive_first lives f true e =
      let alive : has_begun (here f.at).life ≡ true = ap (λ (b : Bearing). has_begun b.life) (sym f.is) ∙ lives in
      ap (λ b. alone b n) f.is ∙ ap (λ i. alone (here i) n) (homed.once f.at at t alive e)
  alive_first lives f false e = away (first_by bear parts t) lives f.at f.within f.is e ((first_by bear parts t).home == n) refl ∙ sym (dead_alone (here at) n e)

  by : (b : Bool) → has_begun (first_by bear parts t).life ≡ b → alone (first_by bear parts t) n ≡ alone (here at) n
  by true e = alive_first e (found_first bear parts t e) (has_begun (here at).life) refl
  by false e = dead_alone (first_by bear parts t) n e ∙ sym (dead_alone (here at) n (dead_first bear parts t at e within))

bore_first : (parts : List ClusterPart) (t : ℕ) → bore_in parts t ≡ first_by bore_at parts t
unfolding first_by
bore_first [] t = refl
bore_first (p ∷ ps) t = ap (λ b. cond (has_begun (bore_at p t).life) (bore_at p t) b) (bore_first ps t)

bears_first : (parts : List ClusterPart) (t : ℕ) → bearing (held parts t) ≡ first_by bears_at parts t
unfolding first_by
bears_first [] t = refl
bears_first (p ∷ ps) t = pull (has_begun (placed_in p t).life) ∙ ap (λ b. cond (has_begun (bears_at p t).life) (bears_at p t) b) (bears_first ps t) where
  pull : (b : Bool) → bearing (cond b (placed_in p t) (held ps t)) ≡ cond b (bears_at p t) (bearing (held ps t))
  pull true = refl
  pull false = refl

alone_bore : (parts : List ClusterPart) → AreHomes parts → (at t : ℕ) → at < length parts → IsOne t → alone (bore parts t) (part_at parts at).lined.number ≡ alone (bore_at (part_at parts at) t) (part_at parts at).lined.number
alone_bore parts homes at t within one = ap (λ b. alone b (part_at parts at).lined.number) (bore_held parts t one ∙ bore_first parts t) ∙ alone_first bore_at parts homes.apart homes.before at t within

alone_bears : (parts : List ClusterPart) → AreHomes parts → (at t : ℕ) → at < length parts → IsOne t → alone (bears parts t) (part_at parts at).lined.number ≡ alone (bears_at (part_at parts at) t) (part_at parts at).lined.number
alone_bears parts homes at t within one = ap (λ b. alone b (part_at parts at).lined.number) (bears_held parts t one ∙ bears_first parts t) ∙ alone_first bears_at parts homes.apart homes.now at t within

-- ---- part by part

-- what a part has before its threads contribute anew
pub alone_before : (parts : List ClusterPart) (at : ℕ) → AreRaisingNone parts → AreLent (bore parts) (holder (noted_holdings parts)) parts → AreHomes parts → at < length parts → AreAlone (bore_at (part_at parts at)) (part_at parts at)
alone_before parts at raise lent homes within t u one other =
    lent.own at t u within one other
    ∙ contributed_alone (bore parts) (holder (noted_holdings parts)) (λ i. (raise i).1) t (part_at parts at).lined.number u
    ∙ ap (λ o. cond (t == u) o None) (alone_bore parts homes at t within one)

-- the threads of the parts up to a place contribute as they are
pub record AreContributing (old now : List ClusterPart) (i : ℕ) : Type 0 where
  pub same : map flat now ≡ map flat old
  pub told : (at : ℕ) → at < i → at < length old → AreAlone (bears_at (part_at old at)) (part_at now at)
  pub elsewhere : AreAsElsewhere old now
  pub rest : (at : ℕ) → i ≤ at → part_at now at ≡ part_at old at

pub contributing_none : (old : List ClusterPart) → AreContributing old old 0
contributing_none old = record { same = refl; told = λ at less. absurd (never at less); elsewhere = λ at less t d u other. refl; rest = λ at more. refl } where
  never : (at : ℕ) → at < 0 → ⊥
  never at h = omega (arith, h)

pub contributing_part : (old now : List ClusterPart) (part next : ClusterPart) (i : ℕ) → i < length now → part ≡ part_at now i → flat next ≡ flat part → AreAlone (bears_at part) next → AsElsewhere part next → AreContributing old now i → AreContributing old (set now i next) (i + 1)
contributing_part old now part next i within is flats lends apart so_far = record {
  same = flat_set now i next (flats ∙ ap (λ (p : ClusterPart). flat p) is) ∙ so_far.same;
  told = λ at less inside. by at (at == i) refl less inside;
  elsewhere = elsewhere_part old now part next i within was apart so_far.elsewhere;
  rest = λ at more. part_other at (λ e. (omega (arith, e, more))) ∙ so_far.rest at (omega (arith, more));
} where
  was : part ≡ part_at old i
  was = is ∙ so_far.rest i (omega arith)

  part_here : part_at (set now i next) i ≡ next
  part_here = get_or-set_same now i next no_part within

  part_other : (at : ℕ) → at ≢ i → part_at (set now i next) at ≡ part_at now at
  part_other at other = get_or-set_other now i at next no_part (λ e. other e)

  by : (at : ℕ) (b : Bool) → (at == i) ≡ b → at < i + 1 → at < length old → AreAlone (bears_at (part_at old at)) (part_at (set now i next) at)
  by at true e less inside =
      let same : i ≡ at = sym (same_number at i e) in
      subst (λ j. AreAlone (bears_at (part_at old j)) (part_at (set now i next) j)) same
      (subst (λ (p : ClusterPart). AreAlone (bears_at p) (part_at (set now i next) i)) was (subst (λ (q : ClusterPart). AreAlone (bears_at part) q) (sym part_here) lends))
  by at false e less inside =
      let other : at ≢ i = λ q. (let no : ⊥ = grind (arith, nat_tests, e, q) in absurd no) in
      subst (λ (q : ClusterPart). AreAlone (bears_at (part_at old at)) q) (sym (part_other at other)) (so_far.told at (grind (arith, nat_tests, e, less)) inside)

pub alone_here : (old now : List ClusterPart) (part : ClusterPart) (i : ℕ) → i < length old → part ≡ part_at now i → AreRaisingNone old → AreLent (bore old) (holder (noted_holdings old)) old → AreHomes old → AreContributing old now i → AreAlone (bore_at part) part
alone_here old now part i within is raise lent homes so_far =
    subst (λ (p : ClusterPart). AreAlone (bore_at p) p) (sym (is ∙ so_far.rest i (omega arith))) (alone_before old i raise lent homes within)

-- all do
pub contributing_all : (old now : List ClusterPart) (i : ℕ) → length old ≤ i → AreRaisingNone old → AreLent (bore old) (holder (noted_holdings old)) old → AreHomes old → AreContributing old now i → AreLent (bears old) (holder (holdings old)) now
contributing_all old now i more raise lent homes is = record {
  own = λ at t u less one other. own at t u (rw (flat_length old now is.same) at less) one other;
  elsewhere = none_elsewhere old now is.same is.elsewhere lent.elsewhere;
} where
  own : (at t u : ℕ) → at < length old → IsOne t → IsOne u → share_at now at t u ≡ contributed (bears old) (holder (holdings old)) t (part_at now at).lined.number u
  own at t u less one other =
      let number : (part_at now at).lined.number ≡ (part_at old at).lined.number = flat_number old now at is.same in
      is.told at (omega (arith, less, more)) less t u one other
      ∙ ap (λ o. cond (t == u) o None) (subst (λ n. alone (bears_at (part_at old at) t) n ≡ alone (bears old t) n) (sym number) (sym (alone_bears old homes at t less one)))
      ∙ sym (contributed_alone (bears old) (holder (holdings old)) (λ j. (raise j).0) t (part_at now at).lined.number u)

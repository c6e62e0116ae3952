-- Who has a priority in each state that a legal history leads to, and how periods agree with their creators.
use Rattle.std.proofs.Common.{◌≡◌, ℕ, zero, suc, ◌+◌, ◌<◌, ◌≤◌, List, [], ◌∷◌, Bool, true, false, cond, ◌==◌, ◌&&◌, ◌||◌, min, Option, Some, None, length, arith, refl, sym, ap, ◌∙◌, ⊎_elim}
use Rattle.std.proofs.lemmas.Bool.{cases_eq, false≢true}
use Rattle.std.proofs.lemmas.Bool.Decides.{nat_tests}
use Rattle.rk_model.specs.declared.semaphore.Protocol.{Protocol}
use Rattle.rk_model.specs.declared.state.Wait.{Wait}
use Rattle.rk_model.specs.declared.state.Wait.TheVariants.{ForTime, ForEvents, AtBarrier, ForPeriod, ForSemaphore}
use Rattle.rk_model.specs.Lists.{has, nth}
use Rattle.rk_model.specs.Queues.{lesser}
use Rattle.rk_model.specs.State.{Plain, SemaphoreState, no_semaphore, thread_at, period_at}
use Rattle.rk_model.specs.Directives.Objects.{has_begun}
use Rattle.rk_model.specs.Directives.Periods.{is_awaited}
use Rattle.rk_model.specs.Scheduling.Chains.{borrower_awaited, chain, chain_on, lends, lends_to}
use Rattle.rk_model.specs.Scheduling.Priorities.{contribution, is_behind, least_of, lesser_of, own, prio}
use Rattle.rk_model.proofs.BooleanLemmas.{equal_test}
use Rattle.rk_directives.specs.Sound.{IsSound}
use Rattle.rk_directives.specs.SoundPeriods.{awaits, IsAwaitedBy}
use Rattle.rk_parts.proofs.PutLemmas.{lives_within}
use Rattle.rk_kernel.specs.SchedulingLaws.{BringsNothing, DeadIndicesBringNothing, HasHomePriority, LiveThreadsHavePriorities, HasItsCreator, PeriodsAndCreatorsAgree}
use Rattle.rk_kernel.proofs.BearingLemmas.{least_none, prio_least}
use Rattle.rk_kernel.proofs.HistoryLemmas.{sound_after}

-- ---- where no task lives

-- who borrows owns a semaphore
owner_of : (b : Bool) (owner : Option ℕ) (t : ℕ) → cond b owner None ≡ Some t → owner ≡ Some t
owner_of true owner t is = is
owner_of false owner t is = let no : ⊥ = cc in absurd no

borrower_owns : (semaphores : List SemaphoreState) (wait : Option Wait) (t : ℕ) → borrower_awaited semaphores wait ≡ Some t → (i : ℕ) × ((nth no_semaphore semaphores i).owner ≡ Some t)
borrower_owns semaphores None t is = let no : ⊥ = cc in absurd no
borrower_owns semaphores (Some ForTime) t is = let no : ⊥ = cc in absurd no
borrower_owns semaphores (Some (ForEvents set all)) t is = let no : ⊥ = cc in absurd no
borrower_owns semaphores (Some (AtBarrier i)) t is = let no : ⊥ = cc in absurd no
borrower_owns semaphores (Some (ForPeriod i)) t is = let no : ⊥ = cc in absurd no
borrower_owns semaphores (Some (ForSemaphore i spins)) t is = (i, owner_of (lends (nth no_semaphore semaphores i).protocol) (nth no_semaphore semaphores i).owner t is)

-- so it lives
lent_lives : (k : Plain) (v t : ℕ) → IsSound k → lends_to k v ≡ Some t → has_begun (thread_at k t).life ≡ true
lent_lives k v t sound is = let found = borrower_owns k.semaphores (thread_at k v).wait t is in sound.chained.owners found.0 t found.1

-- and no other thread's chain reaches an index where no task lives
not_reached : (k : Plain) (n v t : ℕ) → IsSound k → has_begun (thread_at k t).life ≡ false → (v ≡ t → ⊥) → has (chain (lends_to k) n v) t ≡ false
not_reached k zero v t sound dead other = refl
not_reached k (suc n) v t sound dead other =
    let apart : (v == t) ≡ false = grind (arith, nat_tests, other) in
    ap (λ b. b || has (chain_on (chain (lends_to k) n) (lends_to k v)) t) apart ∙ on (lends_to k v) refl (λ w. not_reached k n w t sound dead) where
      on : (o : Option ℕ) → lends_to k v ≡ o → ((w : ℕ) → (w ≡ t → ⊥) → has (chain (lends_to k) n w) t ≡ false) → has (chain_on (chain (lends_to k) n) o) t ≡ false
      on None is more = refl
      on (Some w) is more = more w (λ same. false≢true (sym dead ∙ ap (λ u. has_begun (thread_at k u).life) (sym same) ∙ lent_lives k v w sound is))

none_behind : (a b : Bool) (p : ℕ) → cond (a && (b && false)) (Some p) None ≡ None
none_behind true true p = refl
none_behind true false p = refl
none_behind false b p = refl

dead_contributes : (k : Plain) (u c t : ℕ) → has_begun (thread_at k t).life ≡ false → contribution k u c t ≡ None
unfolding contribution is_behind
dead_contributes k u c t dead = rw dead refl

others_contribute : (k : Plain) (t c u : ℕ) → IsSound k → has_begun (thread_at k t).life ≡ false → (u ≡ t → ⊥) → contribution k t c u ≡ None
unfolding contribution is_behind
others_contribute k t c u sound dead other =
    ap (λ b. cond (has_begun (thread_at k u).life && (((thread_at k u).home == c) && b)) (Some (own k u)) None) (not_reached k (length k.threads) u t sound dead other)
    ∙ none_behind (has_begun (thread_at k u).life) ((thread_at k u).home == c) (own k u)

brings_nothing : (k : Plain) (t : ℕ) → IsSound k → has_begun (thread_at k t).life ≡ false → BringsNothing k t
brings_nothing k t sound dead = record {
  contributes = λ u c. dead_contributes k u c t dead;
  prio = λ c. prio_least k t c ∙ least_none (contribution k t c) 1 (length k.threads) (λ u. ⊎_elim (λ same. rw same (dead_contributes k t c t dead)) (λ other. others_contribute k t c u sound dead other) (cases_eq u t));
}

pub dead_bring_nothing : DeadIndicesBringNothing
dead_bring_nothing s xs is legal t dead = brings_nothing _ t (sound_after s xs is legal) dead

-- ---- where a task lives

lesser_first : (p : ℕ) (o : Option ℕ) → lesser p o ≤ p
lesser_first p None = omega arith
lesser_first p (Some q) = omega arith

-- a priority that isn't more than another, if it is one
record AtMost (o : Option ℕ) (q : ℕ) : Type 0 where
  level : ℕ
  there : o ≡ Some level
  most : level ≤ q

lesser_most : (o rest : Option ℕ) (q : ℕ) → AtMost rest q → AtMost (lesser_of o rest) q
lesser_most None rest q most = most
lesser_most (Some p) rest q most = record {
  level = min p most.level;
  there = ap (λ r. Some (lesser p r)) most.there;
  most = omega (arith, most.most);
}

-- the least of some priorities is at most each of them
least_most : (f : ℕ → Option ℕ) (a n i q : ℕ) → a ≤ i → i < a + n → f i ≡ Some q → AtMost (least_of f a n) q
least_most f a zero i q low high is = absurd (omega (arith, low, high))
least_most f a (suc n) i q low high is = ⊎_elim here (λ other. lesser_most (f a) (least_of f (a + 1) n) q (least_most f (a + 1) n i q (omega (arith, low, other)) (omega (arith, high)) is)) (cases_eq a i) where
  here : a ≡ i → AtMost (least_of f a (suc n)) q
  here same = record {
    level = lesser q (least_of f (a + 1) n);
    there = ap (λ o. lesser_of o (least_of f (a + 1) n)) (ap f same ∙ is);
    most = lesser_first q (least_of f (a + 1) n);
  }

own_most : (k : Plain) (t : ℕ) → own k t ≤ (thread_at k t).base
unfolding own
own_most k t = lesser_first (thread_at k t).base _

behind_itself : (k : Plain) (t n : ℕ) → length k.threads ≡ suc n → has_begun (thread_at k t).life ≡ true → contribution k t (thread_at k t).home t ≡ Some (own k t)
unfolding contribution is_behind
behind_itself k t n size lives =
    let home = equal_test (thread_at k t).home (thread_at k t).home refl in
    let self = equal_test t t refl in
    rw (lives, home, size, self) refl

has_priority : (k : Plain) (t : ℕ) → IsSound k → has_begun (thread_at k t).life ≡ true → HasHomePriority k t
has_priority k t sound lives =
    let within = lives_within k.threads t lives in
    let least = least_most (contribution k t (thread_at k t).home) 1 (length k.threads) t (own k t) (omega (arith, within.0)) (omega (arith, within.1)) (behind_itself k t 63 sound.places lives) in
    record { level = least.level; there = prio_least k t (thread_at k t).home ∙ least.there; most = omega (arith, least.most, own_most k t) }

pub live_have_priorities : LiveThreadsHavePriorities
live_have_priorities s xs is legal t lives = has_priority _ t (sound_after s xs is legal) lives

-- ---- periods

has_its_creator : (k : Plain) (i : ℕ) → IsSound k → (period_at k i).live ≡ true → HasItsCreator k i
has_its_creator k i sound lives = record {
  lives = (sound.periods.each i).created lives;
  waits = (sound.periods.each i).awaited;
  awaited = λ is. (sound.periods.waits (period_at k i).creator i is).awaited;
  timed = (sound.periods.each i).timed;
}

pub periods_agree : PeriodsAndCreatorsAgree
periods_agree s xs is legal = record {
  creators = λ i lives. has_its_creator _ i (sound_after s xs is legal) lives;
  own = λ t i waits. (sound_after s xs is legal).periods.waits t i waits;
}

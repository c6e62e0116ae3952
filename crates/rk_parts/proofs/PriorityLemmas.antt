-- The priority of a thread in a state is the least of what is contributed to it in the parts that stand for the state.
use Rattle.std.proofs.Common.{◌≡◌, ℕ, zero, suc, ◌+◌, ◌<◌, ◌≤◌, List, Bool, true, false, cond, ◌&&◌, ◌==◌, Option, Some, None, length, arith, refl, sym, ap, ◌∙◌}
use Rattle.rk_model.specs.declared.scenario.Scenario.{Scenario}
use Rattle.rk_model.specs.declared.state.Wait.{Wait}
use Rattle.rk_model.specs.declared.state.Wait.TheVariants.{ForTime, ForEvents, AtBarrier, ForPeriod, ForSemaphore}
use Rattle.rk_model.specs.Lists.{nth}
use Rattle.rk_model.specs.Names.{Table}
use Rattle.rk_model.specs.Queues.{lesser}
use Rattle.rk_model.specs.State.{SemaphoreState, no_semaphore}
use Rattle.rk_model.specs.Directives.Objects.{has_begun}
use Rattle.rk_model.specs.Scheduling.Chains.{borrower, borrower_awaited, lends, lends_to, reaches}
use Rattle.rk_model.specs.Scheduling.Priorities.{ceiling_held, ceiling_in, contribution, is_behind, is_one, least_of, own, prio}
use Rattle.rk_agg.specs.Shares.{found, least_source}
use Rattle.rk_groups.specs.declared.group.GroupPart.{GroupPart}
use Rattle.rk_groups.specs.GroupObjects.{semaphore_held, semaphores_of}
use Rattle.rk_groups.proofs.ListedLemmas.{length-listed}
use Rattle.rk_parts.specs.declared.holdings.Holding.{Holding}
use Rattle.rk_parts.specs.declared.parts.ClusterPart.{ClusterPart}
use Rattle.rk_parts.specs.Contributions.{bears, borrower_by, borrower_of, ceiling_by, contributed, least_ceiling, own_by, reached_by, step_by}
use Rattle.rk_parts.specs.Holdings.{held_by, holder, holding_of, holdings, AreHeld}
use Rattle.rk_parts.specs.Joined.{joined, threads_of}
use Rattle.rk_parts.specs.Noted.{part_at, AreLent, ArePriorities}
use Rattle.rk_parts.proofs.PutLemmas.{length_threads}

-- ---- how a semaphore is held is all that its owner and its waiters see

-- the thread to which priorities are lent
borrower_held : (sem : SemaphoreState) → borrower_of (holding_of sem) ≡ borrower sem
borrower_held sem = by sem.owner where
  by : (owner : Option ℕ) → borrower_of (held_by sem owner) ≡ cond (lends sem.protocol) owner None
  by None = none (lends sem.protocol) where
    none : (b : Bool) → ◌≡◌ {A = Option ℕ} None (cond b None None)
    none true = refl
    none false = refl
  by (Some t) = refl

-- the ceiling that a thread holds
ceiling_is : (t c : ℕ) (sem : SemaphoreState) → ceiling_by t c (holding_of sem) ≡ ceiling_held t c sem
ceiling_is t c sem = by sem.owner where
  by : (owner : Option ℕ) → ceiling_by t c (held_by sem owner) ≡ cond (is_one t owner) (ceiling_in c sem) None
  by None = refl
  by (Some u) = refl

-- whom a thread that waits lends its priority
step_held : (held : ℕ → Option Holding) (semaphores : List SemaphoreState) → ((i : ℕ) → held i ≡ holding_of (nth no_semaphore semaphores i)) → (wait : Option Wait) → borrower_by held wait ≡ borrower_awaited semaphores wait
step_held held semaphores same None = refl
step_held held semaphores same (Some ForTime) = refl
step_held held semaphores same (Some (ForEvents set all)) = refl
step_held held semaphores same (Some (AtBarrier i)) = refl
step_held held semaphores same (Some (ForPeriod i)) = refl
step_held held semaphores same (Some (ForSemaphore i spins)) = ap borrower_of (same i) ∙ borrower_held (nth no_semaphore semaphores i)

length_semaphores : (groups : List GroupPart) → length (semaphores_of groups) ≡ 64
unfolding semaphores_of
length_semaphores groups = length-listed (semaphore_held groups) 1 64

-- ---- what threads contribute

steps_are : (s : Scenario) (table : Table) (groups : List GroupPart) (parts : List ClusterPart) → AreHeld (holdings parts) (semaphores_of groups) → step_by (bears parts) (holder (holdings parts)) ≡ lends_to (joined s table parts groups)
steps_are s table groups parts held = λ i u. step_held (holder (holdings parts)) (semaphores_of groups) held (bears parts u).wait i

own_is : (s : Scenario) (table : Table) (groups : List GroupPart) (parts : List ClusterPart) → AreHeld (holdings parts) (semaphores_of groups) → (u : ℕ) → own_by (bears parts) (holder (holdings parts)) u ≡ own (joined s table parts groups) u
unfolding own least_ceiling
own_is s table groups parts held u =
    ap (λ (f : ℕ → Option ℕ). lesser (bears parts u).base (least_of f 1 64)) same
    ∙ ap (λ n. lesser (bears parts u).base (least_of raised 1 n)) (sym (length_semaphores groups))
  where
    kept : ℕ → Option ℕ
    kept i = ceiling_by u (bears parts u).home (holder (holdings parts) i)

    raised : ℕ → Option ℕ
    raised i = ceiling_held u (bears parts u).home (nth no_semaphore (semaphores_of groups) i)

    same : kept ≡ raised
    same = λ j i. (ap (ceiling_by u (bears parts u).home) (held i) ∙ ceiling_is u (bears parts u).home (nth no_semaphore (semaphores_of groups) i)) j

-- what a thread contributes in a state is what it contributes by what threads bear and by who holds which semaphore
pub contribution_is : (s : Scenario) (table : Table) (groups : List GroupPart) (parts : List ClusterPart) → AreHeld (holdings parts) (semaphores_of groups) → (t c u : ℕ) → contributed (bears parts) (holder (holdings parts)) t c u ≡ contribution (joined s table parts groups) t c u
unfolding contributed contribution is_behind reached_by
contribution_is s table groups parts held t c u =
    ap (λ (step : ℕ → Option ℕ). cond (has_begun (bears parts u).life && (((bears parts u).home == c) && reaches step 64 u t)) (Some (own_by (bears parts) (holder (holdings parts)) u)) None) (steps_are s table groups parts held)
    ∙ ap (λ n. cond (has_begun (bears parts u).life && (((bears parts u).home == c) && reaches (lends_to (joined s table parts groups)) n u t)) (Some (own_by (bears parts) (holder (holdings parts)) u)) None) (sym (length_threads parts))
    ∙ ap (λ p. cond (has_begun (bears parts u).life && (((bears parts u).home == c) && reaches (lends_to (joined s table parts groups)) (length (threads_of parts)) u t)) (Some p) None) (own_is s table groups parts held u)

same_least : (f g : ℕ → Option ℕ) (a n : ℕ) → ((i : ℕ) → a ≤ i → i < a + n → f i ≡ g i) → least_of f a n ≡ least_of g a n
same_least f g a zero same = refl
same_least f g a (suc n) same = rw (same a (omega arith) (omega arith), same_least f g (a + 1) n (λ i low high. same i (omega (arith, low)) (omega (arith, high)))) refl

-- The priorities of a state are the least of the contributions of the parts that stand for it.
pub priorities_are : (s : Scenario) (table : Table) (groups : List GroupPart) (parts : List ClusterPart) → AreHeld (holdings parts) (semaphores_of groups) → AreLent (bears parts) (holder (holdings parts)) parts → ArePriorities (joined s table parts groups) parts
unfolding prio least_source
priorities_are s table groups parts held lent at t less one =
    let c = (part_at parts at).lined.number in
    same_least (found (part_at parts at).threads.shares t c) (contribution (joined s table parts groups) t c) 1 64 (λ u low high. lent.own at t u less one (low, omega (arith, high)) ∙ contribution_is s table groups parts held t c u)
    ∙ ap (least_of (contribution (joined s table parts groups) t c) 1) (sym (length_threads parts))

-- How threads stand, and their priorities, depend on what the threads bear and on the semaphores alone.
use Rattle.std.proofs.Common.{◌≡◌, ℕ, zero, suc, ◌+◌, List, Bool, ◌&&◌, ◌||◌, ◌==◌, not, cond, Option, Some, None, length, refl, ap, sym, ◌∙◌}
use Rattle.rk_model.specs.declared.settling.Standing.{Standing}
use Rattle.rk_model.specs.declared.state.Thread.{Thread}
use Rattle.rk_model.specs.Lists.{nth}
use Rattle.rk_model.specs.Queues.{lesser}
use Rattle.rk_model.specs.State.{Plain, SemaphoreState, no_semaphore, no_thread, thread_at, put_thread}
use Rattle.rk_model.specs.Directives.Objects.{has_begun}
use Rattle.rk_model.specs.Scheduling.Chains.{borrower_awaited, lends_to, reaches}
use Rattle.rk_model.specs.Scheduling.Priorities.{ceiling_held, contribution, home_prio, is_behind, is_eligible, is_no_wait, is_spinning, is_started, least_of, lesser_of, or_least_urgent, own, prio, standing, standings, standings_from, urgency}
use Rattle.rk_model.proofs.IndexLemmas.{nth-with_kept, length-with_nth}
use Rattle.rk_parts.specs.declared.bearing.Bearing.{Bearing}
use Rattle.rk_parts.specs.Threads.{bearing}

-- the least of none is none
pub least_none : (f : ℕ → Option ℕ) (a n : ℕ) → ((u : ℕ) → f u ≡ None) → least_of f a n ≡ None
least_none f a zero none = refl
least_none f a (suc n) none = ap (λ o. lesser_of o (least_of f (a + 1) n)) (none a) ∙ least_none f (a + 1) n none

-- a priority is the least of what is contributed to it
pub prio_least : (k : Plain) (t c : ℕ) → prio k t c ≡ least_of (contribution k t c) 1 (length k.threads)
unfolding prio
prio_least k t c = refl

-- Two states have the same semaphores, and as many threads, which bear the same.
pub record BearAlike (k n : Plain) : Type 0 where
  pub threads : length n.threads ≡ length k.threads
  pub semaphores : n.semaphores ≡ k.semaphores
  pub bears : (u : ℕ) → bearing (thread_at n u) ≡ bearing (thread_at k u)

-- what threads contribute is the same then,
contribution_alike : (k n : Plain) (t c u : ℕ) → BearAlike k n → contribution n t c u ≡ contribution k t c u
unfolding contribution is_behind own
contribution_alike k n t c u alike = λ i.
    cond
    (has_begun (alike.bears u i).life && (((alike.bears u i).home == c) && reaches (λ v. borrower_awaited (alike.semaphores i) (alike.bears v i).wait) (alike.threads i) u t))
    (Some (lesser (alike.bears u i).base (least_of (λ j. ceiling_held u (alike.bears u i).home (nth no_semaphore (alike.semaphores i) j)) 1 (length (alike.semaphores i)))))
    None

-- and so are their priorities
pub prio_alike : (k n : Plain) (t c : ℕ) → BearAlike k n → prio n t c ≡ prio k t c
unfolding prio
prio_alike k n t c alike = λ i. least_of (λ u. contribution_alike k n t c u alike i) 1 (alike.threads i)

pub urgency_alike : (k n : Plain) (c t : ℕ) → BearAlike k n → urgency n c t ≡ urgency k c t
unfolding urgency
urgency_alike k n c t alike = ap or_least_urgent (prio_alike k n t c alike)

home_prio_alike : (k n : Plain) (t : ℕ) → BearAlike k n → home_prio n t ≡ home_prio k t
unfolding home_prio
home_prio_alike k n t alike = ap or_least_urgent (prio_alike k n t (thread_at n t).home alike ∙ ap (λ (b : Bearing). prio k t b.home) (alike.bears t))

eligible_alike : (k n : Plain) (t : ℕ) → BearAlike k n → is_eligible n t ≡ is_eligible k t
unfolding is_eligible
eligible_alike k n t alike = ap (λ (b : Bearing). is_started b.life && not b.suspended && (is_no_wait b.wait || is_spinning b.wait)) (alike.bears t)

standing_alike : (k n : Plain) (t : ℕ) → BearAlike k n → standing n t ≡ standing k t
unfolding standing
standing_alike k n t alike = λ i. record {
  cluster = cond (eligible_alike k n t alike i) (Some (alike.bears t i).home) None;
  prio = home_prio_alike k n t alike i;
}

from_alike : (k n : Plain) (t m : ℕ) → BearAlike k n → standings_from n t m ≡ standings_from k t m
from_alike k n t zero alike = refl
from_alike k n t (suc m) alike = rw (standing_alike k n t alike, from_alike k n (t + 1) m alike) refl

-- Threads stand alike.
pub standings_alike : (k n : Plain) → BearAlike k n → standings n ≡ standings k
standings_alike k n alike = from_alike k n 1 (length n.threads) alike ∙ ap (standings_from k 1) alike.threads

-- where a thread is put that bears what the one before it bore, all bear the same
pub put_alike : (k : Plain) (t : ℕ) (thread : Thread) → bearing thread ≡ bearing (thread_at k t) → BearAlike k (put_thread k t thread)
put_alike k t thread same = record {
  threads = length-with_nth thread k.threads t;
  semaphores = refl;
  bears = λ u. nth-with_kept bearing no_thread thread k.threads t u same;
}

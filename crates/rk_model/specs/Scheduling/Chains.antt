-- Chains of waits: a thread, the one on which it waits, and so on. A chain goes by any function that gives each thread the next, or none.
use Rattle.std.specs.Prelude.{ℕ, zero, suc, ◌≡◌, List, [], ◌∷◌, Bool, true, false, Option, Some, None, if◌then◌else◌}
use Rattle.rk_model.specs.declared.state.Wait.{Wait}
use Rattle.rk_model.specs.declared.state.Wait.TheVariants.{ForTime, ForEvents, AtBarrier, ForPeriod, ForSemaphore}
use Rattle.rk_model.specs.declared.semaphore.Protocol.{Protocol}
use Rattle.rk_model.specs.declared.semaphore.Protocol.TheVariants.{NoProtocol, Inherit, Ceiling, Mrsp}
use Rattle.rk_model.specs.Lists.{has, nth}
use Rattle.rk_model.specs.State.{Plain, SemaphoreState, no_semaphore, thread_at}

-- what follows a thread in its chain: the rest from the thread to which it steps, or nothing
abbrev pub chain_on : (ℕ → List ℕ) → Option ℕ → List ℕ
chain_on rest None = []
chain_on rest (Some next) = rest next

-- the chain of a thread: the thread, the one to which it steps, and so on, up to n threads
abbrev pub chain : (ℕ → Option ℕ) → ℕ → ℕ → List ℕ
chain step zero thread = []
chain step (suc n) thread = thread ∷ chain_on (chain step n) (step thread)

-- whether the chain of a thread that steps like this ends: it steps to none, or to a thread whose chain ends
abbrev pub ends_on : (ℕ → Bool) → Option ℕ → Bool
ends_on rest None = true
ends_on rest (Some next) = rest next

-- whether the chain of a thread ends within n threads
abbrev pub ends_by : (ℕ → Option ℕ) → ℕ → ℕ → Bool
ends_by step zero thread = false
ends_by step (suc n) thread = ends_on (ends_by step n) (step thread)

-- the end of the chain of a thread that steps like this: the thread itself, or the end from the thread to which it steps
abbrev pub end_on : ℕ → (ℕ → ℕ) → Option ℕ → ℕ
end_on thread rest None = thread
end_on thread rest (Some next) = rest next

-- the end of the chain of a thread: the thread that it reaches in n steps, or earlier the one that steps to none
abbrev pub end_of : (ℕ → Option ℕ) → ℕ → ℕ → ℕ
end_of step zero thread = thread
end_of step (suc n) thread = end_on thread (end_of step n) (step thread)

-- whether the chain of a thread, up to n threads, reaches a thread
abbrev pub reaches : (ℕ → Option ℕ) → ℕ → ℕ → ℕ → Bool
reaches step n thread other = has (chain step n thread) other

-- The chain of a thread ends: it does within some number of threads.
abbrev pub Ends : (ℕ → Option ℕ) → ℕ → Type 0
Ends step thread = (n : ℕ) × (ends_by step n thread ≡ true)

-- the owner of the semaphore for which a thread waits that waits for this, if there is one
abbrev pub owner_awaited : List SemaphoreState → Option Wait → Option ℕ
owner_awaited semaphores None = None
owner_awaited semaphores (Some ForTime) = None
owner_awaited semaphores (Some (ForEvents set all)) = None
owner_awaited semaphores (Some (AtBarrier i)) = None
owner_awaited semaphores (Some (ForPeriod i)) = None
owner_awaited semaphores (Some (ForSemaphore i spins)) = (nth no_semaphore semaphores i).owner

-- The thread on which a thread waits: the owner of the semaphore for which it waits, if there is one.
abbrev pub waits_on : Plain → ℕ → Option ℕ
waits_on k u = owner_awaited k.semaphores (thread_at k u).wait

-- whether those that wait for a semaphore with this protocol lend its owner their priorities
abbrev pub lends : Protocol → Bool
lends NoProtocol = false
lends Inherit = true
lends Ceiling = false
lends Mrsp = true

-- the thread to which those lend their priorities that wait for a semaphore: its owner, if there is one and its protocol says so
abbrev pub borrower : SemaphoreState → Option ℕ
borrower sem = if lends sem.protocol then sem.owner else None

-- the thread to which one lends its priority that waits for this, if there is one
abbrev pub borrower_awaited : List SemaphoreState → Option Wait → Option ℕ
borrower_awaited semaphores None = None
borrower_awaited semaphores (Some ForTime) = None
borrower_awaited semaphores (Some (ForEvents set all)) = None
borrower_awaited semaphores (Some (AtBarrier i)) = None
borrower_awaited semaphores (Some (ForPeriod i)) = None
borrower_awaited semaphores (Some (ForSemaphore i spins)) = borrower (nth no_semaphore semaphores i)

-- The thread to which a thread lends its priority: the one on which it waits, where it does so through inheritance or MrsP.
abbrev pub lends_to : Plain → ℕ → Option ℕ
lends_to k u = borrower_awaited k.semaphores (thread_at k u).wait

-- Chains of waits as parts of clusters tell them: by what their threads wait for, and who of them holds it.
use Rattle.std.specs.Prelude.{ℕ, List, Option, Some, None}
use Rattle.rk_model.specs.declared.state.Wait.{Wait}
use Rattle.rk_model.specs.declared.state.Wait.TheVariants.{ForTime, ForEvents, AtBarrier, ForPeriod, ForSemaphore}
use Rattle.rk_parts.specs.declared.holdings.Holding.{Holding}
use Rattle.rk_parts.specs.declared.parts.ClusterPart.{ClusterPart}
use Rattle.rk_parts.specs.Holdings.{holder, holdings}
use Rattle.rk_parts.specs.Joined.{thread_lent}

-- the owner of what is held so, if it is held
abbrev pub owner_of : Option Holding → Option ℕ
owner_of None = None
owner_of (Some h) = Some h.owner

-- the thread that holds the semaphore for which one waits that waits for this, if one does
abbrev pub holder_awaited : List (List (Option Holding)) → Option Wait → Option ℕ
holder_awaited held None = None
holder_awaited held (Some ForTime) = None
holder_awaited held (Some (ForEvents set all)) = None
holder_awaited held (Some (AtBarrier i)) = None
holder_awaited held (Some (ForPeriod i)) = None
holder_awaited held (Some (ForSemaphore i spins)) = owner_of (holder held i)

-- The thread on which a thread waits: the one that holds the semaphore for which it waits, if one does.
abbrev pub waits_on_holder : List ClusterPart → ℕ → Option ℕ
waits_on_holder parts t = holder_awaited (holdings parts) (thread_lent parts t).wait

-- Helping: a scheduled thread that spins offers its processor for the end of its chain, where that could run and no processor has it.
use Rattle.std.specs.Prelude.{ℕ, zero, suc, Bool, false, ◌&&◌, ◌||◌, not, Option, Some, None, ◌==◌, length, if◌then◌else◌}
use Rattle.rk_model.specs.declared.limits.TheConstants.{MOST_PROCESSORS}
use Rattle.rk_model.specs.State.{Plain, thread_at}
use Rattle.rk_model.specs.Scheduling.Priorities.{is_no_wait, is_eligible, spins}
use Rattle.rk_model.specs.Scheduling.Chains.{end_of, waits_on}
use Rattle.rk_model.specs.Scheduling.Seats.{cpu_at}

-- What decides who is helped: how many threads there are, the thread on which each waits, which of them spin, which could run, being eligible and waiting for nothing, and the thread that each processor has.
pub record Scene : Type 0 where
  pub threads : ℕ
  pub on : ℕ → Option ℕ
  pub spins : ℕ → Bool
  pub ready : ℕ → Bool
  pub cpu : ℕ → Option ℕ

-- whether something that is or isn't there is a thread
abbrev pub is_for : ℕ → Option ℕ → Bool
is_for t None = false
is_for t (Some e) = e == t

-- whether one of the first p processors has a thread
abbrev pub sits_below : Scene → ℕ → ℕ → Bool
sits_below x t zero = false
sits_below x t (suc p) = is_for t (x.cpu p) || sits_below x t p

-- whether a processor has a thread
unfoldable pub is_seated : Scene → ℕ → Bool
is_seated x t = sits_below x t MOST_PROCESSORS

-- the end of the chain of a thread
abbrev pub end_in : Scene → ℕ → ℕ
end_in x u = end_of x.on x.threads u

-- What a processor's thread offers its processor for: the end of its chain, where the thread spins, and the end is ready and on no processor.
unfoldable pub offer : Scene → ℕ → Option ℕ
offer x u = if x.spins u && (x.ready (end_in x u) && not (is_seated x (end_in x u))) then Some (end_in x u) else None

abbrev pub offer_of : Scene → Option ℕ → Option ℕ
offer_of x None = None
offer_of x (Some u) = offer x u

-- what a processor is offered for
abbrev pub offered : Scene → ℕ → Option ℕ
offered x p = offer_of x (x.cpu p)

-- whether one of the first p processors is offered for a thread
abbrev pub is_taken : Scene → ℕ → ℕ → Bool
is_taken x t zero = false
is_taken x t (suc p) = is_for t (offered x p) || is_taken x t p

-- what a processor runs that is offered for this
abbrev pub helped_by : Scene → ℕ → Option ℕ → Option ℕ
helped_by x p None = None
helped_by x p (Some e) = if is_taken x e p then None else Some e

-- The thread that a processor helps: it is offered for it, and no lesser processor is.
unfoldable pub helped_in : Scene → ℕ → Option ℕ
helped_in x p = helped_by x p (offered x p)

-- ---- of a state

-- whether a thread could run: it is eligible and waits for nothing
unfoldable pub could_run : Plain → ℕ → Bool
could_run k t = is_eligible k t && is_no_wait (thread_at k t).wait

abbrev pub scene : Plain → Scene
scene k = record { threads = length k.threads; on = waits_on k; spins = spins k; ready = could_run k; cpu = cpu_at k }

-- The thread that a processor helps, if it helps one: its own thread spins, and this is the end of its chain.
abbrev pub helped : Plain → ℕ → Option ℕ
helped k p = helped_in (scene k) p

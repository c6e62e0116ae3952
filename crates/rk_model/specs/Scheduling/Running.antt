-- What a processor runs, and whether it has a directive.
use Rattle.std.specs.Prelude.{ℕ, zero, suc, ◌+◌, Bool, false, ◌||◌, Option, Some, None, ◌==◌, is_none, if◌then◌else◌}
use Rattle.rk_model.specs.declared.entry.View.{View}
use Rattle.rk_model.specs.declared.entry.View.TheVariants.{Idle, Spins, Runs}
use Rattle.rk_model.specs.declared.entry.Why.{Why}
use Rattle.rk_model.specs.declared.entry.Why.TheVariants.{Idle as NoThread, Spins as ItSpins, Computes}
use Rattle.rk_model.specs.State.{Plain, thread_at}
use Rattle.rk_model.specs.Scheduling.Helping.{helped}
use Rattle.rk_model.specs.Scheduling.Priorities.{spins}
use Rattle.rk_model.specs.Scheduling.Seats.{cpu_count, cpu_at}

-- what a processor with this thread does, which helps the other, if it helps one
abbrev pub view_of : Plain → Option ℕ → Option ℕ → View
view_of k None other = Idle
view_of k (Some t) None = if spins k t then Spins t else Runs t
view_of k (Some t) (Some e) = Runs e

-- What a processor does: it is idle without a thread; it runs the thread that it helps, if it helps one; else it spins where its thread spins, and otherwise runs its thread.
abbrev pub running : Plain → ℕ → View
running k p = view_of k (cpu_at k p) (helped k p)

-- the thread that runs and whose next action is a directive or the return from one
abbrev pub ready : Plain → View → Option ℕ
ready k Idle = None
ready k (Spins t) = None
ready k (Runs t) = if (thread_at k t).left == 0 then Some t else None

-- the thread that has a directive on a processor
abbrev pub caller : Plain → ℕ → Option ℕ
caller k p = ready k (running k p)

-- why a processor that does this has no directive
abbrev pub why_of : View → Why
why_of Idle = NoThread
why_of (Spins t) = ItSpins
why_of (Runs t) = Computes

-- a processor where it has a directive, and else the other
abbrev pub first_of : Option ℕ → ℕ → Option ℕ → Option ℕ
first_of None p other = other
first_of (Some t) p other = Some p

-- the least of n processors, from p on, that has a directive
abbrev pub least_from : Plain → ℕ → ℕ → Option ℕ
least_from k p zero = None
least_from k p (suc n) = first_of (caller k p) p (least_from k (p + 1) n)

-- The lowest-numbered processor that has a directive.
abbrev pub least : Plain → Option ℕ
least k = least_from k 0 (cpu_count k)

-- The kernel is quiet where no processor has a directive.
abbrev pub is_quiet : Plain → Bool
is_quiet k = is_none (least k)

abbrev pub is_run_of : ℕ → View → Bool
is_run_of t Idle = false
is_run_of t (Spins u) = false
is_run_of t (Runs u) = u == t

-- whether one of n processors, from p on, runs a thread
abbrev pub runs_from : Plain → ℕ → ℕ → ℕ → Bool
runs_from k t p zero = false
runs_from k t p (suc n) = is_run_of t (running k p) || runs_from k t (p + 1) n

-- whether a thread runs on some processor
unfoldable pub runs_somewhere : Plain → ℕ → Bool
runs_somewhere k t = runs_from k t 0 (cpu_count k)

-- A tick of the clock: work is charged, and the timers that are due fire.
use Rattle.std.specs.Prelude.{ℕ, zero, suc, ◌+◌, ◌-◌, List, [], ◌∷◌, ◌==◌, length, if◌then◌else◌}
use Rattle.rk_model.specs.declared.scenario.Scenario.{Scenario}
use Rattle.rk_model.specs.declared.state.Thread.{Thread}
use Rattle.rk_model.specs.declared.state.Armed.{Armed}
use Rattle.rk_model.specs.declared.state.Armer.{Armer}
use Rattle.rk_model.specs.declared.state.Armer.TheVariants.{Thread as OfThread, Period as OfPeriod}
use Rattle.rk_model.specs.State.{Plain, thread_at, cluster_at}
use Rattle.rk_model.specs.Scheduling.Settling.{settle}
use Rattle.rk_model.specs.Scheduling.Running.{runs_somewhere}
use Rattle.rk_model.specs.Scheduling.Timers.{due_at, take_due}
use Rattle.rk_model.specs.Directives.Outcomes.{gone_on}
use Rattle.rk_model.specs.Directives.Waits.{end_wait, reply_at_timer}
use Rattle.rk_model.specs.Directives.Periods.{end_passed}

-- A thread that runs through a tick: where it computes, its work left falls by one and its count of computed ticks rises by one, and with no work left it goes on to its next line.
abbrev pub charged : Scenario → Thread → Thread
charged s thread =
    if thread.left == 0 then thread
    else (if thread.left == 1 then record (gone_on s thread) { computed = thread.computed + 1 }
    else record thread { left = thread.left - 1; computed = thread.computed + 1 })

-- a thread after a tick: charged where it runs
unfoldable pub ticked : Plain → ℕ → Thread → Thread
ticked k t thread = if runs_somewhere k t then charged k.scenario thread else thread

-- the threads after a tick of the state k, from the index t on
abbrev pub charge_from : Plain → ℕ → List Thread → List Thread
charge_from k t [] = []
charge_from k t (thread ∷ threads) = ticked k t thread ∷ charge_from k (t + 1) threads

-- the state in which a tick has passed, and no timer has fired yet
abbrev pub pass : Plain → Plain
pass k = record k { present = k.present + 1; threads = charge_from k 1 k.threads }

-- the state in which a timer of this one has fired: the wait of its thread has ended, or the end of its period has passed
abbrev pub rung : Plain → Armer → Plain
rung k (OfThread t) = end_wait k t (reply_at_timer (thread_at k t).wait)
rung k (OfPeriod i) = end_passed k i

-- the state in which the first timer of a cluster that is due now is taken out and has fired
abbrev pub expire : Plain → ℕ → Armer → Plain
expire k c who = rung (take_due k c) who

-- the same, settled
abbrev pub fire : Plain → ℕ → Armed → Plain
fire k c timer = settle k (expire k c timer.who) []

-- timers of a cluster that are due now fire in their order, with a settling after each
abbrev pub fire_each : Plain → ℕ → List Armed → Plain
fire_each k c [] = k
fire_each k c (timer ∷ timers) = fire_each (fire k c timer) c timers

-- all timers of a cluster that are due now fire
abbrev pub fire_cluster : Plain → ℕ → Plain
fire_cluster k c = fire_each k c (due_at k.present (cluster_at k c).timers)

-- all timers of n clusters, from a number on, that are due now fire, cluster by cluster
abbrev pub fire_from : Plain → ℕ → ℕ → Plain
fire_from k c zero = k
fire_from k c (suc n) = fire_from (fire_cluster k c) (c + 1) n

-- all timers that are due now fire
abbrev pub fire_all : Plain → Plain
fire_all k = fire_from k 0 (length k.clusters)

-- A tick charges each thread that runs and computes, and adds one to the present tick. Then the timers that are due fire, cluster by cluster in rising number and in the order of arming, with a settling after each.
abbrev pub tick : Plain → Plain
tick k = fire_all (pass k)

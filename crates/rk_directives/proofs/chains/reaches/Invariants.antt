use Rattle.std.proofs.Common.{◌≡◌, ◌-◌, length}
use Rattle.rk_model.specs.Scheduling.Chains.{reaches}
use Rattle.rk_parts.specs.Joined.{threads_of}
use Rattle.rk_parts.specs.HeldChains.{waits_on_holder}
use Rattle.rk_directives.proofs.chains.reaches.Given as goal

abbrev pub invariant-loop-step : goal.invariant-loop-step
invariant-loop-step l = reaches (waits_on_holder l.clusters) (length (threads_of l.clusters) - l._step) l.at l.to ≡ reaches (waits_on_holder l.clusters) (length (threads_of l.clusters)) l.fn.from l.to

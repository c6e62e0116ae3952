use Rattle.std.proofs.Common.{◌≡◌, ◌-◌, length}
use Rattle.rk_model.specs.Scheduling.Chains.{end_of}
use Rattle.rk_mrsp.specs.Scenes.{step_in}
use Rattle.rk_mrsp.proofs.chains.end.Given as goal

abbrev pub invariant-loop-step : goal.invariant-loop-step
invariant-loop-step l = end_of (step_in l.chains) (length l.chains - l._step) l.at ≡ end_of (step_in l.chains) (length l.chains) l.fn.from

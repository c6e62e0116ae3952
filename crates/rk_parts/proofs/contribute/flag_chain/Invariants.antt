use Rattle.rk_parts.proofs.ContributingLemmas.{IsWalking}
use Rattle.rk_parts.specs.Contributions.{bears, step_by}
use Rattle.rk_parts.specs.Holdings.{holder, holdings}
use Rattle.rk_parts.proofs.contribute.flag_chain.Given as goal

abbrev pub invariant-loop-step : goal.invariant-loop-step
invariant-loop-step l = IsWalking (step_by (bears l.clusters) (holder (holdings l.clusters))) l.fn.from l.at l._step l.flags

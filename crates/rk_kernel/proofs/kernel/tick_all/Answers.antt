use Rattle.rk_parts.specs.Joined.{plain_of}
use Rattle.rk_kernel.proofs.StepLemmas.{tick_manned}
use Rattle.rk_kernel.proofs.RunnerLaws.{run_once}
use Rattle.rk_kernel.proofs.kernel.tick_all.Goals as goal

pub tick_core-requires-clause-once : goal.tick_core-requires-clause-once
tick_core-requires-clause-once c = run_once (plain_of c.parts.inside.all) c.parts.invariant.0.sound c.parts.invariant.1

pub invariant_of-parts : goal.invariant_of-parts
invariant_of-parts c = (
  c.tick_core.ensures.ready,
  tick_manned (plain_of c.parts.inside.all) (plain_of c.tick_core.new.all) c.tick_core.result c.parts.invariant.0.sound c.parts.invariant.1 c.tick_core.ensures.step,
)

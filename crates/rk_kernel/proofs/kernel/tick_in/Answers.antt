use Rattle.std.proofs.Common.{ap, ◌∙◌}
use Rattle.rk_model.specs.Scheduling.Running.{least}
use Rattle.rk_parts.specs.Joined.{plain_of}
use Rattle.rk_kernel.proofs.StepLemmas.{tick_manned}
use Rattle.rk_kernel.proofs.RunnerLaws.{run_once}
use Rattle.rk_kernel.proofs.kernel.tick_in.Goals as goal

pub tick_quiet-requires-clause-once : goal.tick_quiet-requires-clause-once
tick_quiet-requires-clause-once c = run_once (plain_of c.parts.inside.all) c.parts.invariant.0.sound c.parts.invariant.1

pub invariant_of-parts : goal.invariant_of-parts
invariant_of-parts c = (
  c.tick_quiet.ensures.ready,
  tick_manned (plain_of c.parts.inside.all) (plain_of c.tick_quiet.new.all) c.tick_quiet.result c.parts.invariant.0.sound c.parts.invariant.1 c.tick_quiet.ensures.step,
)

pub tick_quiet-requires-clause-quiet : goal.tick_quiet-requires-clause-quiet
tick_quiet-requires-clause-quiet c = ap least c.parts.view_is ∙ c.requires

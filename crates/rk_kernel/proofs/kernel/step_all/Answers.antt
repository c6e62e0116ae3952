use Rattle.rk_parts.specs.Joined.{plain_of}
use Rattle.rk_kernel.proofs.StepLemmas.{step_manned, step_refused}
use Rattle.rk_kernel.proofs.kernel.step_all.Goals as goal

pub invariant_of-parts : goal.invariant_of-parts
invariant_of-parts c = (
  c.step_core.ensures.ready,
  step_manned (plain_of c.parts.inside.all) (plain_of c.step_core.new.all) c.args.cpu c.step_core.result c.parts.invariant.0.sound c.parts.invariant.1 c.step_core.ensures.step,
)

pub returns-clause-refused : goal.returns-clause-refused
returns-clause-refused c =
    rw (← c.parts.view_is) (step_refused (plain_of c.parts.inside.all) (plain_of c.step_core.new.all) c.args.cpu c.step_core.result c.parts.invariant.0.sound c.parts.invariant.1 c.step_core.ensures.step)

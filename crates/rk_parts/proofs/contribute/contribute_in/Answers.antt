use Rattle.std.proofs.Common.{ap, ◌∙◌}
use Rattle.rk_parts.specs.declared.parts.ClusterPart.{ClusterPart}
use Rattle.rk_parts.specs.Threads.{Threads}
use Rattle.rk_parts.proofs.contribute.contribute_in.Goals as goal

pub returns-clause-flat : goal.returns-clause-flat
returns-clause-flat c = ap (λ (ts : Threads). (let p : ClusterPart = record c.args.part.now { threads = ts } in p)) c.lend_alone.ensures.rest

pub returns-clause-elsewhere : goal.returns-clause-elsewhere
returns-clause-elsewhere c = λ t d w other. c.lend_alone.ensures.elsewhere t d w (λ e. other (e ∙ c.number-number.ensures.value))

use Rattle.std.proofs.Common.{sym, ap, ◌∙◌}
use Rattle.rk_model.specs.Scheduling.Running.{why_of}
use Rattle.rk_parts.proofs.processors.why_not.Goals as goal

pub returns-in-Idle : goal.returns-in-Idle
returns-in-Idle c = λ s table groups laid. ap why_of (sym c.in-Idle.is ∙ c.view_on.ensures s table groups laid)

pub returns-in-Spins : goal.returns-in-Spins
returns-in-Spins c = λ s table groups laid. ap why_of (sym c.in-Spins.is ∙ c.view_on.ensures s table groups laid)

pub returns-in-Runs : goal.returns-in-Runs
returns-in-Runs c = λ s table groups laid. ap why_of (sym c.in-Runs.is ∙ c.view_on.ensures s table groups laid)

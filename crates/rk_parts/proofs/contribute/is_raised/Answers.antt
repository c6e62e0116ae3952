use Rattle.std.proofs.Common.{ap, ◌∙◌}
use Rattle.rk_parts.specs.Contributions.{flagged}
use Rattle.rk_parts.proofs.contribute.is_raised.Goals as goal

pub returns : goal.returns
returns c = c.contains.ensures ∙ ap (flagged c.args.flags.now) c.at.ensures.value

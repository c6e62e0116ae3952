use Rattle.std.proofs.Common.{◌∙◌}
use Rattle.rk_scenario.proofs.NumberLemmas.{target_from}
use Rattle.rk_scenario.proofs.operands.is_target.Goals as goal

pub returns-else-number-eq0 : goal.returns-else-number-eq0
returns-else-number-eq0 c = c.may_be_target.ensures ∙ target_from c.args.earlier.now c.args.number c.line_at.result c.if-number-eq0.false c.line_at.ensures

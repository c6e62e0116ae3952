use Rattle.std.proofs.Common.{◌∙◌}
use Rattle.rk_model.proofs.BooleanLemmas.{any_has}
use Rattle.rk_parts.proofs.holdings.is_listed.Goals as goal

pub returns : goal.returns
returns c = c.contains.ensures.value ∙ any_has c.args.indices.now c.args.index

use Rattle.std.proofs.Common.{◌∙◌, sym}
use Rattle.rk_model.proofs.KeyLemmas.{without_none}
use Rattle.rk_line.proofs.LineLemmas.{key}
use Rattle.rk_cluster.proofs.moves.take_out.Goals as goal

pub returns-else-contains : goal.returns-else-contains
returns-else-contains c = sym (without_none key c.args.thread c.args.line.now (sym c.contains.ensures ∙ c.if-contains.false))

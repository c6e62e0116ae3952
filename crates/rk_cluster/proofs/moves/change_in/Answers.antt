use Rattle.std.proofs.Common.{◌∙◌, sym}
use Rattle.rk_line.proofs.LineLemmas.{with_prio_none}
use Rattle.rk_cluster.proofs.moves.change_in.Goals as goal

pub returns-else-contains : goal.returns-else-contains
returns-else-contains c = sym (with_prio_none c.args.thread c.args.prio c.args.line.now (sym c.contains.ensures ∙ c.if-contains.false))

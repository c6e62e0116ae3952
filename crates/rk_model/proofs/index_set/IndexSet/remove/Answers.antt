use Rattle.std.proofs.Common.{◌-◌, arith}
use Rattle.rk_model.proofs.IndexSetLemmas.{removed}
use Rattle.rk_model.proofs.index_set.IndexSet.remove.Goals as goal

pub returns : goal.returns
returns c = removed c.args.self.now.marks c.without-self.result c.args.index (c.args.index - 1) (omega (arith, c.requires.low)) c.requires.high c.without-self.ensures.gone c.without-self.ensures.others

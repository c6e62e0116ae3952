use Rattle.std.proofs.Common.{◌-◌, arith}
use Rattle.rk_model.proofs.IndexSetLemmas.{inserted}
use Rattle.rk_model.proofs.index_set.IndexSet.insert.Goals as goal

pub returns : goal.returns
returns c = inserted c.args.self.now.marks c.with-self.result c.args.index (c.args.index - 1) (omega (arith, c.requires.low)) c.requires.high c.with-self.ensures.there c.with-self.ensures.others

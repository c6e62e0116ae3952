use Rattle.std.proofs.Common.{arith}
use Rattle.std.proofs.lemmas.Bool.Decides.{nat_tests}
use Rattle.rk_model.proofs.IndexSetLemmas.{none_in, taken}
use Rattle.rk_model.proofs.index_set.IndexSet.take_least.Goals as goal

pub returns-then-self-eq0-clause-none : goal.returns-then-self-eq0-clause-none
returns-then-self-eq0-clause-none c = none_in c.args.self.now.marks (omega (arith, c.if-self-eq0.true))

pub returns-clause-some : goal.returns-clause-some
returns-clause-some c = taken c.args.self.now.marks c.without-self.result c.least-at.result c.least-at.ensures.within c.least-at.ensures.there c.without-self.ensures.less c.without-self.ensures.gone c.without-self.ensures.others

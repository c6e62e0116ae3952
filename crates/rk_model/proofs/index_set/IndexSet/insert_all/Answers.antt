use Rattle.rk_model.proofs.IndexSetLemmas.{inserted_all}
use Rattle.rk_model.proofs.index_set.IndexSet.insert_all.Goals as goal

pub returns : goal.returns
returns c = inserted_all c.args.self.now.marks c.args.other.marks

use Rattle.rk_agg.proofs.ShareLemmas.{row_noted}
use Rattle.rk_agg.proofs.aggregates.note.Goals as goal

pub returns-clause-size : goal.returns-clause-size
returns-clause-size c = (row_noted c.args.sets.now c.set.new.self c.args.row c.args.index c.args.there c.at.result c.noted-set.result c.requires c.at.ensures c.noted-set.ensures c.set.ensures).size

pub returns-clause-row : goal.returns-clause-row
returns-clause-row c = (row_noted c.args.sets.now c.set.new.self c.args.row c.args.index c.args.there c.at.result c.noted-set.result c.requires c.at.ensures c.noted-set.ensures c.set.ensures).here

pub returns-clause-others : goal.returns-clause-others
returns-clause-others c = (row_noted c.args.sets.now c.set.new.self c.args.row c.args.index c.args.there c.at.result c.noted-set.result c.requires c.at.ensures c.noted-set.ensures c.set.ensures).others

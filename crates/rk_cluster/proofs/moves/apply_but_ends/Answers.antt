use Rattle.rk_cluster.proofs.RegisterPassLemmas.{fall_on, fallen}
use Rattle.rk_cluster.proofs.moves.apply_but_ends.Goals as goal

pub falling-preserved : goal.falling-preserved
falling-preserved c =
    (fall_on c.args.marks c.falling.rest c.without-rest.result c.falling.done c.greatest-at.result c.new.result c.args.changes.now c.index-changes-at.result c.args.line.now c.falling.line c.apply_but_end.new.line c.requires.marked c.falling.invariant c.requires.size c.greatest-at.ensures.within c.greatest-at.ensures.there c.greatest-at.ensures.none c.without-rest.ensures.gone c.without-rest.ensures.others c.new.ensures c.index-changes-at.is c.apply_but_end.ensures).0

pub returns : goal.returns
returns c = fallen c.args.marks c.falling.rest c.falling.done c.args.changes.now c.args.line.now c.falling.line c.requires.size c.requires.marked c.falling.invariant c.falling-test.false

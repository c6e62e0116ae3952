use Rattle.rk_cluster.proofs.RegisterPassLemmas.{rising, rising_out, rise_on, risen}
use Rattle.rk_cluster.proofs.moves.append_ends.Goals as goal

pub rising-init : goal.rising-init
rising-init c = rising c.args.marks c.args.changes.now c.args.line.now c.requires.out

pub append_end-requires : goal.append_end-requires
append_end-requires c = rising_out c.args.marks c.rising.rest c.rising.done c.least-at.result c.new.result c.args.changes.now c.index-changes-at.result c.args.line.now c.rising.line c.rising.invariant c.requires.size c.least-at.ensures.within c.least-at.ensures.there c.new.ensures c.index-changes-at.is

pub rising-preserved : goal.rising-preserved
rising-preserved c =
    (rise_on c.args.marks c.rising.rest c.without-rest.result c.rising.done c.least-at.result c.new.result c.args.changes.now c.index-changes-at.result c.args.line.now c.rising.line c.append_end.new.line c.requires.marked c.rising.invariant c.requires.size c.least-at.ensures.within c.least-at.ensures.there c.least-at.ensures.none c.without-rest.ensures.gone c.without-rest.ensures.others c.new.ensures c.index-changes-at.is c.append_end.ensures).0

pub returns : goal.returns
returns c = risen c.args.marks c.rising.rest c.rising.done c.args.changes.now c.args.line.now c.rising.line c.requires.marked c.rising.invariant c.rising-test.false

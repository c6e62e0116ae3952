use Rattle.std.proofs.Common.{arith, refl, ◌∙◌, get_or, length-set}
use Rattle.rk_parts.proofs.AloneLemmas.{alone_here, contributing_all, contributing_none, contributing_part}
use Rattle.rk_parts.proofs.PutLemmas.{part_is}
use Rattle.rk_parts.proofs.contribute.contribute_alone.Goals as goal

pub loop-at-init : goal.loop-at-init
loop-at-init c = record { so_far = contributing_none c.args.clusters.now; size = refl }

pub contribute_in-requires : goal.contribute_in-requires
contribute_in-requires c = (let size = c.loop-at.invariant.size in alone_here c.args.clusters.now c.loop-at.clusters (get_or c.loop-at.clusters c.loop-at.at c.index-clusters-at.result) c.loop-at.at (omega (arith, size)) (part_is c.loop-at.clusters c.loop-at.at c.index-clusters-at.result (omega arith)) c.requires.raise c.requires.lent c.requires.homes c.loop-at.invariant.so_far)

pub loop-at-preserved : goal.loop-at-preserved
loop-at-preserved c = record {
  so_far = contributing_part c.args.clusters.now c.loop-at.clusters (get_or c.loop-at.clusters c.loop-at.at c.index-clusters-at.result) c.contribute_in.new.part c.loop-at.at (omega arith) (part_is c.loop-at.clusters c.loop-at.at c.index-clusters-at.result (omega arith)) c.contribute_in.ensures.flat c.contribute_in.ensures.alone c.contribute_in.ensures.elsewhere c.loop-at.invariant.so_far;
  size = length-set c.loop-at.clusters c.loop-at.at c.contribute_in.new.part ∙ c.loop-at.invariant.size;
}

pub returns-clause-flat : goal.returns-clause-flat
returns-clause-flat c = c.loop-at.invariant.so_far.same

pub returns-clause-lent : goal.returns-clause-lent
returns-clause-lent c = (let size = c.loop-at.invariant.size in contributing_all c.args.clusters.now c.loop-at.clusters c.loop-at.at (omega (arith, size)) c.requires.raise c.requires.lent c.requires.homes c.loop-at.invariant.so_far)

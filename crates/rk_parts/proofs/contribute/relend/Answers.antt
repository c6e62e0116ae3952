use Rattle.std.proofs.Common.{arith, refl, ◌∙◌, get_or, length-set}
use Rattle.rk_parts.proofs.ContributingLemmas.{relending_part}
use Rattle.rk_parts.proofs.PutLemmas.{part_is}
use Rattle.rk_parts.proofs.contribute.relend.Goals as goal

pub loop-at-init : goal.loop-at-init
loop-at-init c = record { so_far = record { same = refl; elsewhere = λ at less t d u other. refl; told = λ at t w less less2 one. absurd (omega (arith, less)); rest = λ at more. refl }; size = refl }

pub loop-at-preserved : goal.loop-at-preserved
loop-at-preserved c = record {
  so_far = relending_part c.args.clusters.now c.loop-at.clusters (get_or c.loop-at.clusters c.loop-at.at c.index-clusters-at.result) c.relend_in.new.part c.args.source c.args.home c.args.own c.args.flags.now c.loop-at.at (omega arith) (part_is c.loop-at.clusters c.loop-at.at c.index-clusters-at.result (omega arith)) c.relend_in.ensures.flat c.relend_in.ensures.shares c.relend_in.ensures.elsewhere c.loop-at.invariant.so_far;
  size = length-set c.loop-at.clusters c.loop-at.at c.relend_in.new.part ∙ c.loop-at.invariant.size;
}

pub returns-clause-flat : goal.returns-clause-flat
returns-clause-flat c = c.loop-at.invariant.so_far.same

pub returns-clause-shares : goal.returns-clause-shares
returns-clause-shares c = λ at t w less one. (let size = c.loop-at.invariant.size in c.loop-at.invariant.so_far.told at t w (omega (arith, less, size)) less one)

pub returns-clause-elsewhere : goal.returns-clause-elsewhere
returns-clause-elsewhere c = c.loop-at.invariant.so_far.elsewhere

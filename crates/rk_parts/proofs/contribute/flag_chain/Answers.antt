use Rattle.std.proofs.Common.{arith, sym, ◌∙◌}
use Rattle.rk_parts.proofs.ContributingLemmas.{walk_starts, walk_goes_on, walk_ends, walk_past}
use Rattle.rk_parts.specs.Contributions.{bears, step_by}
use Rattle.rk_parts.specs.Holdings.{holder, holdings}
use Rattle.rk_parts.proofs.contribute.flag_chain.Goals as goal

pub loop-step-init : goal.loop-step-init
loop-step-init c = walk_starts (step_by (bears c.args.clusters.now) (holder (holdings c.args.clusters.now))) c.args.from c.args.flags.now c.requires

pub loop-step-preserved : goal.loop-step-preserved
loop-step-preserved c = walk_goes_on (step_by (bears c.args.clusters.now) (holder (holdings c.args.clusters.now))) c.args.from c.loop-step.at c.in-Some.next c.loop-step._step c.loop-step.flags c.raise.new.flags (omega arith) (sym c.lends_to.ensures ∙ c.in-Some.is) c.raise.ensures c.loop-step.invariant

pub returns-in-None : goal.returns-in-None
returns-in-None c = walk_ends (step_by (bears c.args.clusters.now) (holder (holdings c.args.clusters.now))) c.args.from c.loop-step.at c.loop-step._step c.loop-step.flags c.raise.new.flags (omega arith) (sym c.lends_to.ensures ∙ c.in-None.is) c.raise.ensures c.loop-step.invariant

pub returns : goal.returns
returns c = walk_past (step_by (bears c.args.clusters.now) (holder (holdings c.args.clusters.now))) c.args.from c.loop-step.at c.loop-step._step c.loop-step.flags (omega arith) c.loop-step.invariant

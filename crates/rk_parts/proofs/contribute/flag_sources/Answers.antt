use Rattle.std.proofs.Common.{arith, ap, sym, ◌∙◌, get_or}
use Rattle.rk_agg.specs.Shares.{found}
use Rattle.rk_agg.proofs.ShareLemmas.{none_of}
use Rattle.rk_model.proofs.BooleanLemmas.{neither_front, neither_back}
use Rattle.rk_parts.specs.Contributions.{flagged}
use Rattle.rk_parts.proofs.ContributingLemmas.{flagging_part, sources_there}
use Rattle.rk_parts.specs.declared.parts.ClusterPart.{ClusterPart}
use Rattle.rk_parts.proofs.PutLemmas.{part_is}
use Rattle.rk_parts.proofs.contribute.flag_sources.Goals as goal

pub loop-at-init : goal.loop-at-init
loop-at-init c = record { are = record { kept = λ t low. low }; rest = λ at u less low. absurd (omega (arith, less)) }

pub loop-at-preserved : goal.loop-at-preserved
loop-at-preserved c = flagging_part c.args.clusters.now c.args.thread c.loop-at.at c.args.stale.now c.loop-at.stale c.insert_all.new.self (λ t low. neither_back (flagged c.sources.result t) (flagged c.loop-at.stale t) (sym (c.insert_all.ensures t) ∙ low)) (λ u low. sources_there c.args.clusters.now c.loop-at.at (get_or c.args.clusters.now c.loop-at.at c.index-clusters-at-in-loop-at.result) c.args.thread c.number-number.result u (part_is c.args.clusters.now c.loop-at.at c.index-clusters-at-in-loop-at.result (omega arith)) (c.number-number.ensures.value ∙ ap (λ (p : ClusterPart). p.lined.number) (part_is c.args.clusters.now c.loop-at.at c.index-clusters-at.result (omega arith))) (none_of (found (get_or c.args.clusters.now c.loop-at.at c.index-clusters-at-in-loop-at.result).threads.shares c.args.thread c.number-number.result u) (sym (c.sources.ensures u) ∙ neither_front (flagged c.sources.result u) (flagged c.loop-at.stale u) (sym (c.insert_all.ensures u) ∙ low)))) c.loop-at.invariant

pub returns-clause-kept : goal.returns-clause-kept
returns-clause-kept c = c.loop-at.invariant.are.kept

pub returns-clause-all : goal.returns-clause-all
returns-clause-all c = λ at u less low. c.loop-at.invariant.rest at u (omega (arith, less)) low

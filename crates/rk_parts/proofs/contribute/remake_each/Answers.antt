use Rattle.rk_parts.proofs.ContributingLemmas.{remaking_none, remaking_one, remaking_all}
use Rattle.rk_parts.proofs.contribute.remake_each.Goals as goal

pub remaking-init : goal.remaking-init
remaking-init c = remaking_none c.args.clusters.now c.args.stale.now c.requires.same

pub remaking-preserved : goal.remaking-preserved
remaking-preserved c = remaking_one c.args.clusters.now c.remaking.clusters c.remake.new.clusters c.remaking.rest c.take_least.new.self c.in-Some.at c.new.result c.in-Some.ensures.some c.new.ensures c.remake.ensures.flat c.remake.ensures.shares c.remake.ensures.elsewhere c.remaking.invariant

pub returns-clause-flat : goal.returns-clause-flat
returns-clause-flat c = c.remaking.invariant.same

pub returns-clause-shares : goal.returns-clause-shares
returns-clause-shares c = remaking_all c.args.clusters.now c.remaking.clusters c.remaking.rest c.in_default.ensures.none c.requires.elsewhere c.remaking.invariant

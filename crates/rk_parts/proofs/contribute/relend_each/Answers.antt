use Rattle.rk_parts.proofs.ContributingLemmas.{relending_none, relending_one, relending_all}
use Rattle.rk_parts.proofs.contribute.relend_each.Goals as goal

pub lending-init : goal.lending-init
lending-init c = relending_none c.args.threads.now c.args.cluster c.args.source c.args.home c.args.own c.args.flags.now c.old_and_new-rest.result c.old_and_new-rest.ensures

pub lending-preserved : goal.lending-preserved
lending-preserved c = relending_one c.args.threads.now c.lending.threads c.lend.new.self c.args.cluster c.args.source c.args.home c.args.own c.args.flags.now c.lending.rest c.take_least.new.self c.in-Some.at c.new-thread.result c.reach_to-prio.result c.in-Some.ensures.some c.new-thread.ensures c.reach_to-prio.ensures c.lend.ensures.rest c.lend.ensures.shares c.lending.invariant

pub returns-clause-rest : goal.returns-clause-rest
returns-clause-rest c = c.lending.invariant.same

pub returns-clause-shares : goal.returns-clause-shares
returns-clause-shares c = λ t w one. relending_all c.args.threads.now c.lending.threads c.args.cluster c.args.source c.args.home c.args.own c.args.flags.now c.lending.rest c.in_default.ensures.none c.lending.invariant t w

pub returns-clause-elsewhere : goal.returns-clause-elsewhere
returns-clause-elsewhere c = c.lending.invariant.elsewhere

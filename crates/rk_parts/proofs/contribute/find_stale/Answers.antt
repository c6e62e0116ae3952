use Rattle.std.proofs.Common.{◌∙◌, ap}
use Rattle.rk_parts.proofs.ContributingLemmas.{stale_none, stale_one, stale_all}
use Rattle.rk_parts.proofs.contribute.find_stale.Goals as goal

pub finding-init : goal.finding-init
finding-init c = stale_none c.args.touched.now c.args.clusters.now c.args.stale.now

pub finding-preserved : goal.finding-preserved
finding-preserved c = stale_one c.args.touched.now c.args.clusters.now c.new-thread.result c.finding.rest c.take_least.new.self c.args.stale.now c.finding.stale c.raise.new.flags c.flag_sources.new.stale (rw c.new-thread.ensures c.in-Some.ensures.some) c.raise.ensures c.flag_sources.ensures.kept c.flag_sources.ensures.all c.finding.invariant

pub returns : goal.returns
returns c = stale_all c.args.touched.now c.args.clusters.now c.finding.rest c.args.stale.now c.finding.stale c.in_default.ensures.none c.finding.invariant

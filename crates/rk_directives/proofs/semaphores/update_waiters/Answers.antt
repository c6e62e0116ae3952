use Rattle.std.proofs.Common.{arith, ap, sym, subst, ◌∙◌}
use Rattle.rk_model.specs.State.{SemaphoreState}
use Rattle.rk_parts.specs.Contributions.{IsOne}
use Rattle.rk_directives.specs.Does.{lent_both}
use Rattle.rk_directives.proofs.DirectiveLemmas.PresentPriorityLemmas.{updating_starts, updating_next, updating_stops, updating_ends, updating_waits}
use Rattle.rk_directives.proofs.semaphores.update_waiters.Goals as goal

pub loop-at-init : goal.loop-at-init
loop-at-init c = updating_starts (lent_both c.args.clusters.now c.args.groups.now) c.args.groups.now c.args.index

pub reorder-requires-clause-live : goal.reorder-requires-clause-live
reorder-requires-clause-live c = ap (λ (x : SemaphoreState). x.live) c.loop-at.invariant.dating.same ∙ c.requires.live

pub reorder-requires-clause-waits : goal.reorder-requires-clause-waits
reorder-requires-clause-waits c = updating_waits (lent_both c.args.clusters.now c.args.groups.now) c.loop-at.at c.args.groups.now c.loop-at.groups c.args.index c.in-Some.thread c.waiter.result c.waiter.ensures c.in-Some.is

pub loop-at-preserved : goal.loop-at-preserved
loop-at-preserved c = updating_next (lent_both c.args.clusters.now c.args.groups.now) c.loop-at.at c.args.groups.now c.loop-at.groups c.reorder.new.groups c.args.index c.in-Some.thread c.prio_at_home-prio.result c.requires.low c.requires.high c.loop-at.invariant (sym c.waiter.ensures ∙ c.in-Some.is) (c.prio_at_home-prio.ensures ∙ c.requires.prios c.in-Some.thread (subst IsOne c.at-index.ensures.value (c.at-index.ensures.low, c.at-index.ensures.high))) c.reorder.ensures

pub returns-in-None : goal.returns-in-None
returns-in-None c = updating_stops (lent_both c.args.clusters.now c.args.groups.now) c.loop-at.at c.args.groups.now c.loop-at.groups c.args.index c.loop-at.invariant (sym c.waiter.ensures ∙ c.in-None.is)

pub returns : goal.returns
returns c = updating_ends (lent_both c.args.clusters.now c.args.groups.now) c.loop-at.at c.args.groups.now c.loop-at.groups c.args.index c.loop-at.invariant (omega (arith, c.requires.few, c.loop-at-test.false))

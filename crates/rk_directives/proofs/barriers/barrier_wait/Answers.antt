use Rattle.std.proofs.Common.{ap, sym, subst, ◌∙◌}
use Rattle.rk_model.specs.Lists.{has}
use Rattle.rk_model.specs.Directives.Barriers.{is_full}
use Rattle.rk_groups.specs.Groups.{PutsBarrier, waited_at}
use Rattle.rk_groups.specs.GroupObjects.{barrier_lent}
use Rattle.rk_directives.proofs.DirectiveLemmas.LentBarriersLemmas.{free_absent, woken_live, waits_there, waits_full, waits_none, was_full, was_not_full}
use Rattle.rk_directives.proofs.barriers.barrier_wait.Goals as goal

pub wait-requires-clause-absent : goal.wait-requires-clause-absent
wait-requires-clause-absent c =
    let queue = c.requires.queue c.in-Some.index (sym c.barrier_named.ensures.found ∙ c.in-Some.is) in
    ap (has (barrier_lent c.args.groups.now c.in-Some.index).arrivals) c.caller_of-by.ensures.thread ∙ free_absent c.args.clusters.now c.args.groups.now c.in-Some.index c.args.caller queue c.requires.free

pub wake_all-requires : goal.wake_all-requires
wake_all-requires c =
    let queue = c.requires.queue c.in-Some.index (sym c.barrier_named.ensures.found ∙ c.in-Some.is) in
    woken_live c.args.clusters.now c.args.groups.now c.in-Some.index _ queue (c.wakes_of.ensures ∙ c.wait.ensures.woken)

pub returns-in-None : goal.returns-in-None
returns-in-None c = λ s. waits_none s c.args.clusters.now c.args.groups.now c.args.caller c.args.ticks c.args.id (sym c.barrier_named.ensures.found ∙ c.in-None.is)

-- the caller waits where it isn't full
pub returns-in-Waits : goal.returns-in-Waits
returns-in-Waits c = λ s.
    let groups = c.args.groups.now in
    let i = c.in-Some.index in
    let puts : PutsBarrier groups i (waited_at c.args.caller (barrier_lent groups i)) c.wait.new.groups = subst (λ t. PutsBarrier groups i (waited_at t (barrier_lent groups i)) c.wait.new.groups) c.caller_of-by.ensures.thread c.wait.ensures.barrier in
    waits_there s c.args.clusters.now c.start_limited.new.clusters groups c.wait.new.groups c.args.caller i c.args.ticks c.args.id (sym c.barrier_named.ensures.found ∙ c.in-Some.is)
    (was_not_full (is_full (barrier_lent groups i)) c.wait.result c.wait.ensures.reply c.in-Waits.is) puts c.start_limited.ensures

-- else all waits there end
pub returns-in_default : goal.returns-in_default
returns-in_default c = λ s.
    let groups = c.args.groups.now in
    let i = c.in-Some.index in
    let found = sym c.barrier_named.ensures.found ∙ c.in-Some.is in
    let puts : PutsBarrier groups i (waited_at c.args.caller (barrier_lent groups i)) c.wait.new.groups = subst (λ t. PutsBarrier groups i (waited_at t (barrier_lent groups i)) c.wait.new.groups) c.caller_of-by.ensures.thread c.wait.ensures.barrier in
    waits_full s c.args.clusters.now c.wake_all.new.clusters groups c.wait.new.groups c.args.caller i c.args.ticks c.args.id _ _ c.in-Some.ensures.low c.in-Some.ensures.high (c.requires.queue i found) found
    (was_full (is_full (barrier_lent groups i)) c.wait.result c.wait.ensures.reply c.in_default.not-Waits) c.done.ensures puts (c.wakes_of.ensures ∙ c.wait.ensures.woken) c.wake_all.ensures

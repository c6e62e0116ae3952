use Rattle.std.proofs.Common.{◌≡◌, ◌+◌, false, refl, sym, ap, ◌∙◌}
use Rattle.rk_model.specs.Directives.Semaphores.{owns}
use Rattle.rk_model.specs.Scheduling.Priorities.{is_one}
use Rattle.rk_groups.specs.GroupObjects.{semaphore_lent, semaphores_of}
use Rattle.rk_groups.proofs.SemaphoreGroupLemmas.{owner_test, obtained_from, obtained_past}
use Rattle.rk_groups.proofs.semaphores.has_obtained.Goals as goal

pub loop-at-preserved : goal.loop-at-preserved
loop-at-preserved c =
    let at = c.loop-at.at in
    let t = c.args.thread in
    let other : owns t (semaphore_lent c.args.groups.now (at + 1)) ≡ false =
    sym (ap (is_one t) c.owner.ensures) ∙ sym (owner_test _ t c.owner.result (λ u. refl)) ∙ sym c.eq.ensures ∙ c.if-eq.false in
    (rw other at (sym (obtained_from (semaphores_of c.args.groups.now) at t) ∙ c.loop-at.invariant))

pub returns : goal.returns
returns c = sym (obtained_past c.args.groups.now c.loop-at.at c.args.thread c.loop-at-test.false) ∙ c.loop-at.invariant

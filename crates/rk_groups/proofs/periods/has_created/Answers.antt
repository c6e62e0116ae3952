use Rattle.std.proofs.Common.{◌≡◌, ◌+◌, ◌==◌, true, false, sym, ap, ◌∙◌}
use Rattle.rk_groups.specs.GroupObjects.{period_lent, periods_of}
use Rattle.rk_groups.proofs.PeriodGroupLemmas.{created_from, created_past}
use Rattle.rk_groups.proofs.periods.has_created.Goals as goal
use Rattle.rk_groups.proofs.periods.has_created.Goals.{else-is_live-via-then-is_live+else-eq, else-is_live-via-else-is_live}

pub loop-at-preserved : goal.loop-at-preserved
loop-at-preserved c =
    let periods = periods_of c.args.groups.now in
    let at = c.loop-at.at in
    let t = c.args.thread in
    let next = period_lent c.args.groups.now (at + 1) in
    let step = sym (created_from periods at t) ∙ c.loop-at.invariant in
    elim c.else-is_live.branch [
      | else-is_live-via-then-is_live+else-eq w ↦
          let other : (next.creator == t) ≡ false = sym (w.eq.ensures ∙ ap (λ n. n == t) w.creator.ensures) ∙ w.if-eq.false in
          let lives : next.live ≡ true = sym c.is_live.ensures ∙ w.if-is_live.true in
          (rw (lives, other) at step)
      | else-is_live-via-else-is_live w ↦
          let dead : next.live ≡ false = sym c.is_live.ensures ∙ w.if-is_live.false in
          (rw dead at step)
    ]

pub returns : goal.returns
returns c = sym (created_past c.args.groups.now c.loop-at.at c.args.thread c.loop-at-test.false) ∙ c.loop-at.invariant

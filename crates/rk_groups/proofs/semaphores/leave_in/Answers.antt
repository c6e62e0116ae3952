use Rattle.std.proofs.Common.{sym, ◌∙◌}
use Rattle.rk_model.specs.State.{no_semaphore}
use Rattle.rk_places.specs.Stores.{stored_at}
use Rattle.rk_groups.proofs.SemaphoreGroupLemmas.{left_absent, left_none, left_still}
use Rattle.rk_groups.proofs.semaphores.leave_in.Goals.{else-is_live-via-then-is_live+else-waits_at, else-is_live-via-else-is_live}
use Rattle.rk_groups.proofs.semaphores.leave_in.Goals as goal

pub returns-else-is_live : goal.returns-else-is_live
returns-else-is_live c =
    let store = c.args.semaphores.now in
    let x = stored_at no_semaphore store c.args.index in
    let t = c.args.thread in
    left_still store c.args.index t (elim c.else-is_live.branch [
      | else-is_live-via-then-is_live+else-waits_at w ↦ left_absent t x w.waits_at.ensures.queue (sym w.waits_at.ensures.value ∙ w.if-waits_at.false)
      | else-is_live-via-else-is_live w ↦ left_none t x (c.is_live.ensures.vacant w.if-is_live.false)
    ])

use Rattle.std.proofs.Common.{◌≡◌, false}
use Rattle.rk_model.specs.Scheduling.Helping.{is_taken}
use Rattle.rk_mrsp.specs.Scenes.{scene_in}
use Rattle.rk_mrsp.proofs.hosting.is_taken.Given as goal

abbrev pub invariant-loop-lesser : goal.invariant-loop-lesser
invariant-loop-lesser l = is_taken (scene_in l.chains l.cpus) l.thread l.lesser ≡ false

use Rattle.std.proofs.Common.{◌≡◌, ◌≤◌, false}
use Rattle.rk_model.specs.Scheduling.Helping.{sits_below}
use Rattle.rk_mrsp.specs.Scenes.{scene_in}
use Rattle.rk_mrsp.proofs.hosting.is_seated.Given as goal

abbrev pub invariant-loop-cpu : goal.invariant-loop-cpu
invariant-loop-cpu l = record {
  high : l.cpu ≤ 8;
  none : sits_below (scene_in l.chains l.cpus) l.thread l.cpu ≡ false;
}

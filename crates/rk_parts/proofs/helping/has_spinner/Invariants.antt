use Rattle.std.proofs.Common.{◌≡◌, ◌≤◌, false}
use Rattle.rk_parts.specs.Hosted.{scene_lent, spins_below}
use Rattle.rk_parts.proofs.helping.has_spinner.Given as goal

abbrev pub invariant-loop-cpu : goal.invariant-loop-cpu
invariant-loop-cpu l = record {
  high : l.cpu ≤ 8;
  none : spins_below (scene_lent l.clusters) l.cpu ≡ false;
}

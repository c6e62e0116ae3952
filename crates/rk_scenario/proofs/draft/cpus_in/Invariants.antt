use Rattle.std.proofs.Common.{◌≡◌, ◌+◌, drop}
use Rattle.rk_model.specs.Text.Scenarios.{cpus_in}
use Rattle.rk_scenario.proofs.draft.cpus_in.Given as goal

abbrev pub invariant-loop-count : goal.invariant-loop-count
invariant-loop-count l = l.cpus + cpus_in (drop l.count-index l.clusters) ≡ cpus_in l.clusters

use Rattle.std.proofs.Common.{◌≡◌, ◌+◌, drop}
use Rattle.rk_model.specs.Text.Scenarios.{cpus_in}
use Rattle.rk_parts.proofs.processors.count_cpus.Given as goal

abbrev pub invariant-loop-cpus : goal.invariant-loop-cpus
invariant-loop-cpus l = l.count + cpus_in (drop l.cpus-index l.cpus-items) ≡ cpus_in l.scenario.clusters

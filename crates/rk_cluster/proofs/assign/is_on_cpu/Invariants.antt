use Rattle.std.proofs.Common.{◌≡◌, drop}
use Rattle.rk_model.specs.Scheduling.ReadyQueues.{has_cpu}
use Rattle.rk_cluster.proofs.assign.is_on_cpu.Given as goal

abbrev pub invariant-loop-cpu : goal.invariant-loop-cpu
invariant-loop-cpu l = has_cpu (drop l.cpu-index l.cpus) l.thread ≡ has_cpu l.cpus l.thread

use Rattle.std.proofs.Common.{drop, ◌++◌}
use Rattle.std.specs.Option.{option_to_list}
use Rattle.rk_cluster.specs.Registers.{change_at}
use Rattle.rk_parts.specs.ClusterRegisters.{register}
use Rattle.rk_parts.specs.Threads.{standings_by}
use Rattle.rk_parts.proofs.RegisterFillLemmas.{IsFilling}
use Rattle.rk_parts.proofs.settle.fill_register.Given as goal

abbrev pub invariant-loop-thread : goal.invariant-loop-thread
invariant-loop-thread l = IsFilling (register l.threads.stood (standings_by l.threads.shares l.threads.places) (option_to_list l.last) l.cluster) (drop l.thread-index l.marked ++ option_to_list l.last) (change_at l.out)

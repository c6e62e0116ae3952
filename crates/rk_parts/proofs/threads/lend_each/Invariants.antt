use Rattle.std.proofs.Common.{◌≡◌, take}
use Rattle.rk_agg.specs.Shares.{found}
use Rattle.rk_parts.specs.Threads.{bearing_at, with_alone}
use Rattle.rk_parts.proofs.threads.lend_each.Given as goal

abbrev pub invariant-loop-thread : goal.invariant-loop-thread
invariant-loop-thread l = found l.shares ≡ with_alone (take l.thread-index l.marked) (bearing_at l.places) l.cluster (found l.fn.shares)

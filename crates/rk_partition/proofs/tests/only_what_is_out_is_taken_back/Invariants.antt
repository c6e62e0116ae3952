use Rattle.std.proofs.Common.{◌≡◌}
use Rattle.rk_partition.proofs.tests.only_what_is_out_is_taken_back.Given as goal

abbrev pub invariant-loop-address : goal.invariant-loop-address
invariant-loop-address g l = l.store.group ≡ 0

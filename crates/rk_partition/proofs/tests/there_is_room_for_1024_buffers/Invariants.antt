use Rattle.std.proofs.Common.{◌≡◌}
use Rattle.rk_partition.proofs.tests.there_is_room_for_1024_buffers.Given as goal

abbrev pub invariant-loop-taken : goal.invariant-loop-taken
invariant-loop-taken g l = l.store.group ≡ 1

abbrev pub invariant-loop-given : goal.invariant-loop-given
invariant-loop-given g l = l.store.group ≡ 1

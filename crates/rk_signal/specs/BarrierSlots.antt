-- What the code has of a barrier, as the definitions see it.
use Rattle.std.specs.Prelude.{true, false, Option, Some, None}
use Rattle.rk_model.specs.Queues.{Queue}
use Rattle.rk_signal.specs.declared.slot.Barrier.{Barrier}
use Rattle.rk_signal.specs.Barriers.{Stored}

-- the place of a barrier, if there is one, and of a queue
abbrev pub stored_by : Option Barrier → Queue → Stored
stored_by None queue = record { live = false; automatic = false; most = 0; queue = queue }
stored_by (Some barrier) queue = record { live = true; automatic = barrier.automatic; most = barrier.most; queue = queue }

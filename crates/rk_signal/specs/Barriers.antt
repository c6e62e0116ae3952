-- What the directives of the barrier manager do to the barriers of a group.
use Rattle.std.specs.Prelude.{ℕ, ◌≡◌, ◌+◌, Bool, true, false, ◌&&◌, List, [], length, nat_le, if◌then◌else◌}
use Rattle.rk_model.specs.declared.entry.Reply.{Reply}
use Rattle.rk_model.specs.declared.status.Status.TheVariants.{Successful, Waits}
use Rattle.rk_model.specs.declared.waiting.Caller.{Caller}
use Rattle.rk_model.specs.declared.waiting.Order.TheVariants.{Fifo}
use Rattle.rk_model.specs.declared.waiting.Wake.{Wake}
use Rattle.rk_model.specs.Queues.{Queue, empty, waiter_of, entered, left_by, ended}

-- A place for a barrier: whether a barrier lives there, whether it is automatic, at how many waiters it is released then, and the queue of the threads that wait at it.
pub record Stored : Type 0 where
  pub live : Bool
  pub automatic : Bool
  pub most : ℕ
  pub queue : Queue

-- the place where no barrier lives
abbrev pub no_stored : Stored
no_stored = record { live = false; automatic = false; most = 0; queue = empty Fifo }

-- the place of a barrier at which none waits
abbrev pub barrier : Bool → ℕ → Stored
barrier automatic most = record { live = true; automatic = automatic; most = most; queue = empty Fifo }

-- Where no barrier lives, none waits.
abbrev pub IsStored : Stored → Type 0
IsStored stored = stored.live ≡ false → stored ≡ no_stored

-- the place with one more waiter
abbrev pub with_waiter : Caller → Stored → Stored
with_waiter by stored = record stored { queue = entered (waiter_of by) stored.queue }

-- the place without a thread that waits there
abbrev pub without_waiter : ℕ → Stored → Stored
without_waiter thread stored = record stored { queue = left_by thread stored.queue }

-- the place at which none waits any more
abbrev pub emptied : Stored → Stored
emptied stored = record stored { queue = empty Fifo }

-- whether one more waiter releases the barrier: it is automatic, and the waiters and this one are enough
abbrev pub is_filled : Stored → Bool
is_filled stored = stored.automatic && nat_le stored.most (length stored.queue.arrivals + 1)

-- the answer of a directive that is done, with an out number
abbrev pub successful : ℕ → Reply
successful out = record { status = Successful; out = out }

-- the answer of a directive that waits
abbrev pub waits : Reply
waits = record { status = Waits; out = 0 }

-- rtems_barrier_wait: where the caller releases the barrier, none waits any more; else the caller waits
abbrev pub waited : Caller → Stored → Stored
waited by stored = if is_filled stored then emptied stored else with_waiter by stored

-- and where it releases the barrier, all waits end with Successful,
abbrev pub woken_by_wait : Stored → List Wake
woken_by_wait stored = if is_filled stored then ended Successful stored.queue.arrivals else []

-- and it goes on itself.
abbrev pub reply_to_wait : Stored → Reply
reply_to_wait stored = if is_filled stored then successful 0 else waits

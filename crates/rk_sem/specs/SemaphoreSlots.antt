-- What the code has of a semaphore, as the definitions see it.
use Rattle.std.specs.Prelude.{ℕ, ◌≡◌, ◌<◌, true, false, Option, Some, None}
use Rattle.rk_model.specs.Queues.{Queue, waits_in}
use Rattle.rk_model.specs.State.{SemaphoreState, no_semaphore}
use Rattle.rk_model.specs.Directives.Semaphores.{is_binary, is_owned, owns}
use Rattle.rk_sem.specs.declared.slot.Semaphore.{Semaphore}

-- the place of a semaphore and of the queue of those that wait for it
abbrev pub place_with : Semaphore → Queue → SemaphoreState
place_with sem queue =
    record {
      live = true;
      kind = sem.kind;
      protocol = sem.protocol;
      ceilings = sem.ceilings;
      count = sem.count;
      owner = sem.owner;
      nesting = sem.nesting;
      queue = queue;
    }

-- the place of a semaphore, if there is one, and of a queue
abbrev pub stored_by : Option Semaphore → Queue → SemaphoreState
stored_by None queue = record no_semaphore { queue = queue }
stored_by (Some sem) queue = place_with sem queue

-- What holds of each place: where no semaphore lives, none waits; only a binary one has an owner; its owner has obtained it at least once, and doesn't wait for it.
pub record IsStored (stored : SemaphoreState) : Type 0 where
  pub vacant : stored.live ≡ false → stored ≡ no_semaphore
  pub binary : is_owned stored ≡ true → is_binary stored.kind ≡ true
  pub nests : is_owned stored ≡ true → 0 < stored.nesting
  pub apart : (t : ℕ) → owns t stored ≡ true → waits_in stored.queue t ≡ false

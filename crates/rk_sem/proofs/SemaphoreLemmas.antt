-- What holds of each place for a semaphore, and that each change of its queue keeps it.
use Rattle.std.proofs.Common.{◌≡◌, ℕ, List, [], ◌∷◌, ◌++◌, Bool, true, false, ◌==◌, Option, Some, None, arith, refl, sym, ◌∙◌, subst}
use Rattle.std.proofs.lemmas.Bool.{false≢true}
use Rattle.std.proofs.lemmas.Bool.Decides.{nat_tests}
use Rattle.rk_model.specs.declared.waiting.Caller.{Caller}
use Rattle.rk_model.specs.declared.waiting.Waiter.{Waiter}
use Rattle.rk_model.specs.Lists.{has}
use Rattle.rk_model.specs.Queues.{Queue, threads, without, waits_in, waiter_of, entered, left_by, reordered, first_of, served_by, served_if, served}
use Rattle.rk_model.specs.Directives.Semaphores.{owns}
use Rattle.rk_model.specs.Scheduling.Priorities.{is_one}
use Rattle.rk_queue.proofs.QueueLemmas.{gone, still, has-entered, threads-with_prio}
use Rattle.rk_sem.specs.declared.slot.Semaphore.{Semaphore}
use Rattle.rk_sem.specs.SemaphoreSlots.{IsStored, stored_by}

-- Who doesn't wait doesn't wait once another has left,
still_absent : (t u : ℕ) (waiters : List Waiter) → has (threads waiters) t ≡ false → has (threads (without u waiters)) t ≡ false
still_absent t u waiters absent = by (t == u) refl where
  by : (b : Bool) → (t == u) ≡ b → has (threads (without u waiters)) t ≡ false
  by true is = let same : t ≡ u = grind (arith, nat_tests, is) in rw same (gone u waiters)
  by false is = still t u waiters is ∙ absent

-- nor once another has come.
absent_entered : (t : ℕ) (waiters : List Waiter) (waiter : Waiter) → has (threads waiters) t ≡ false → (waiter.thread == t) ≡ false → has (threads (waiters ++ waiter ∷ [])) t ≡ false
absent_entered t waiters waiter absent other = has-entered t waiters waiter ∙ rw (absent, other) refl

-- An owner isn't a thread that doesn't own it.
not_owner : (t u : ℕ) (owner : Option ℕ) → is_one t owner ≡ true → is_one u owner ≡ false → (u == t) ≡ false
not_owner t u None owns_it not_it = absurd (false≢true owns_it)
not_owner t u (Some v) owns_it not_it = grind (arith, nat_tests, owns_it, not_it)

-- A place is still as it has to be with another queue in which its owner doesn't wait.
kept : (stored : Option Semaphore) (queue next : Queue) → IsStored (stored_by stored queue) → (stored_by stored queue).live ≡ true → ((t : ℕ) → owns t (stored_by stored queue) ≡ true → waits_in queue t ≡ false → waits_in next t ≡ false) → IsStored (stored_by stored next)
kept None queue next is live absent = absurd (false≢true live)
kept (Some sem) queue next is live absent =
    record {
      vacant = λ h. absurd (false≢true (sym h));
      binary = is.binary;
      nests = is.nests;
      apart = λ t owns_it. absent t owns_it (is.apart t owns_it);
    }

-- It is with one more waiter, which doesn't own it,
pub entered_kept : (stored : Option Semaphore) (queue next : Queue) (by : Caller) → IsStored (stored_by stored queue) → (stored_by stored queue).live ≡ true → owns by.thread (stored_by stored queue) ≡ false → next ≡ entered (waiter_of by) queue → IsStored (stored_by stored next)
entered_kept stored queue next by is live other then_is =
    kept stored queue next is live (λ t owns_it absent. rw then_is (absent_entered t queue.arrivals (waiter_of by) absent (not_owner t by.thread (stored_by stored queue).owner owns_it other)))

-- with one less,
pub left_kept : (stored : Option Semaphore) (queue next : Queue) (u : ℕ) → IsStored (stored_by stored queue) → (stored_by stored queue).live ≡ true → next ≡ left_by u queue → IsStored (stored_by stored next)
left_kept stored queue next u is live then_is =
    kept stored queue next is live (λ t owns_it absent. rw then_is (still_absent t u queue.arrivals absent))

served_is : (queue next : Queue) (u : ℕ) → Some u ≡ first_of queue → next ≡ served queue → next ≡ served_by u queue
served_is queue next u first then_is = subst (λ found. next ≡ served_if found queue) (sym first) then_is

pub served_kept : (stored : Option Semaphore) (queue next : Queue) (u : ℕ) → IsStored (stored_by stored queue) → (stored_by stored queue).live ≡ true → Some u ≡ first_of queue → next ≡ served queue → IsStored (stored_by stored next)
served_kept stored queue next u is live first then_is =
    kept stored queue next is live (λ t owns_it absent. rw (served_is queue next u first then_is) (still_absent t u queue.arrivals absent))

-- and with another priority of one.
pub reordered_kept : (stored : Option Semaphore) (queue next : Queue) (u prio : ℕ) → IsStored (stored_by stored queue) → (stored_by stored queue).live ≡ true → next ≡ reordered u prio queue → IsStored (stored_by stored next)
reordered_kept stored queue next u prio is live then_is =
    kept stored queue next is live (λ t owns_it absent. rw (then_is, threads-with_prio u prio queue.arrivals) absent)

-- Who is served waits no longer.
pub served_gone : (stored : Option Semaphore) (queue next : Queue) (u : ℕ) → Some u ≡ first_of queue → next ≡ served queue → waits_in (stored_by stored next).queue u ≡ false
served_gone None queue next u first then_is = rw (served_is queue next u first then_is) (gone u queue.arrivals)
served_gone (Some sem) queue next u first then_is = rw (served_is queue next u first then_is) (gone u queue.arrivals)

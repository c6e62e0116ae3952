-- The barriers of lent groups, and what a change of one of them does.
use Rattle.std.proofs.Common.{◌≡◌, ℕ, zero, suc, ◌+◌, ◌<◌, ◌≤◌, List, [], ◌∷◌, ◌++◌, Bool, true, false, cond, ◌==◌, ◌&&◌, not, Some, None, length, subst, arith, refl, sym, ap, ◌∙◌, get_or, set, ◌⊎◌, inl, inr}
use Rattle.std.proofs.lemmas.Bool.{false≢true, cases_lt}
use Rattle.std.proofs.lemmas.Bool.Decides.{nat_tests}
use Rattle.std.proofs.lemmas.List.{get_or_past}
use Rattle.std.specs.Prelude.{nat_le}
use Rattle.rk_model.specs.Directives.Waits.{OfBarrier}
use Rattle.rk_model.specs.declared.status.Status.{Status}
use Rattle.rk_model.specs.declared.status.Status.TheVariants.{Successful}
use Rattle.rk_model.specs.declared.waiting.Caller.{Caller}
use Rattle.rk_model.specs.declared.waiting.Wake.{Wake}
use Rattle.rk_model.specs.Lists.{has, nth, with_nth}
use Rattle.rk_model.specs.State.{BarrierState, no_semaphore, no_barrier, no_partition, no_period}
use Rattle.rk_model.specs.Directives.Barriers.{is_full}
use Rattle.rk_model.specs.Directives.Waits.{without}
use Rattle.rk_model.proofs.IndexLemmas.{nth-with_other, nth-with_same}
use Rattle.rk_queue.proofs.QueueLemmas.{threads-append, length-threads}
use Rattle.rk_model.specs.declared.waiting.Waiter.{Waiter}
use Rattle.rk_model.specs.Queues.{threads, waits_in, waiter_of, ended, without as without_thread}
use Rattle.rk_places.specs.Stores.{Store, IsOfGroup, IsStoreOf, stored_at, put_at}
use Rattle.rk_signal.specs.Barriers.{Stored, no_stored, emptied, with_waiter, without_waiter, is_filled, waited, woken_by_wait, reply_to_wait}
use Rattle.rk_groups.specs.declared.group.GroupPart.{GroupPart}
use Rattle.rk_groups.specs.GroupObjects.{semaphore_group, semaphore_in, barrier_of, barrier_group, barrier_in, barrier_held, barriers_of, barrier_lent, partition_group, partition_in, period_group, period_in}
use Rattle.rk_groups.specs.Groups.{no_group, group_at, group_in, is_lent, wakes_in, wakes_at, PutsBarrier, Leaves, ended_waits, waited_at, woken_at, reply_at, left_at}
use Rattle.rk_groups.proofs.FoundGroupLemmas.{nth-listed, put-listed, found_number, found_inside, found_holds, nowhere_holds, never_held, holds_here, holds_there, holds_one, semaphores_same, partitions_same, periods_same, frames_same}
use Rattle.rk_groups.proofs.ListedLemmas.{get_or-any, length-listed}

-- The barrier of an index in the state that groups stand for.
pub barrier_is_held : (groups : List GroupPart) (i : ℕ) → 1 ≤ i → i ≤ 64 → barrier_lent groups i ≡ barrier_held groups i
unfolding barriers_of
barrier_is_held groups i low high = nth-listed (barrier_held groups) no_barrier i low high

-- there are 64 places for barriers
pub length_barriers : (groups : List GroupPart) → length (barriers_of groups) ≡ 64
unfolding barriers_of
length_barriers groups = length-listed (barrier_held groups) 1 64

-- ---- the group of an index

-- a group that is found has its barrier,
pub barrier_found : (groups : List GroupPart) (at i : ℕ) → group_in groups i ≡ Some at → barrier_held groups i ≡ barrier_of (stored_at no_stored (group_at groups at).barriers i)
barrier_found groups at i found = found_holds barrier_group barrier_in no_barrier groups at i found

-- and the waits that ended;
pub wakes_found : (groups : List GroupPart) (at i : ℕ) → group_in groups i ≡ Some at → wakes_at groups i ≡ (group_at groups at).wakes
wakes_found groups at i found = found_holds barrier_group wakes_in [] groups at i found

-- where none is found there is no barrier, and no wait has ended.
pub barrier_nowhere : (groups : List GroupPart) (i : ℕ) → group_in groups i ≡ None → barrier_held groups i ≡ no_barrier
barrier_nowhere groups i none = nowhere_holds barrier_group barrier_in no_barrier groups i none

pub wakes_nowhere : (groups : List GroupPart) (i : ℕ) → group_in groups i ≡ None → wakes_at groups i ≡ []
wakes_nowhere groups i none = nowhere_holds barrier_group wakes_in [] groups i none

-- a group that is lent is found, and so is that of a barrier that lives
pub never_lent : (groups : List GroupPart) (i : ℕ) → group_in groups i ≡ None → is_lent groups i ≡ true → ⊥
never_lent groups i none lent = never_held barrier_group groups i none lent

pub never_live : (groups : List GroupPart) (i : ℕ) → 1 ≤ i → i ≤ 64 → group_in groups i ≡ None → (barrier_lent groups i).live ≡ true → ⊥
never_live groups i low high none live = false≢true (sym (ap (λ (b : BarrierState). b.live) (barrier_is_held groups i low high ∙ barrier_nowhere groups i none)) ∙ live)

-- the group at a place, whatever stands for none
pub group_is : (groups : List GroupPart) (at i : ℕ) (group : GroupPart) → group_in groups i ≡ Some at → group_at groups at ≡ get_or groups at group
group_is groups at i group found = get_or-any groups at no_group group (found_inside barrier_group groups at i found)

-- the barrier of an index, where its group is found
pub stands_for : (groups : List GroupPart) (at i : ℕ) (group : GroupPart) → 1 ≤ i → i ≤ 64 → Some at ≡ group_in groups i → barrier_of (stored_at no_stored (get_or groups at group).barriers i) ≡ barrier_lent groups i
stands_for groups at i group low high found =
    sym (barrier_is_held groups i low high ∙ barrier_found groups at i (sym found) ∙ ap (λ (g : GroupPart). barrier_of (stored_at no_stored g.barriers i)) (group_is groups at i group (sym found)))

-- and the index is that of the group
pub of_group : (groups : List GroupPart) (at i : ℕ) (group : GroupPart) → 1 ≤ i → i ≤ 64 → Some at ≡ group_in groups i → IsOfGroup (get_or groups at group).barriers.group i
of_group groups at i group low high found =
    record { low = low; high = high; of = sym (found_number barrier_group groups at i (sym found)) ∙ ap (λ (g : GroupPart). g.barriers.group) (group_is groups at i group (sym found)) }

-- ---- a change of a barrier

-- a group with another place at an index, and after these waits ended
abbrev pub changed : GroupPart → ℕ → Stored → List Wake → GroupPart
changed group i x wakes = record group { barriers = put_at group.barriers i x; wakes = wakes }

wakes_here : (groups : List GroupPart) (at i : ℕ) (x : Stored) (wakes : List Wake) → group_in groups i ≡ Some at → wakes_at (set groups at (changed (group_at groups at) i x wakes)) i ≡ wakes
wakes_here groups at i x wakes found = holds_here barrier_group wakes_in [] groups at i (changed (group_at groups at) i x wakes) refl found

-- where the barriers that groups hold are those of others but for one, so are those of the state
pub barriers_put : (old new : List GroupPart) (i : ℕ) (b : BarrierState) → 1 ≤ i → ((u : ℕ) → barrier_held new u ≡ cond (u == i) b (barrier_held old u)) → barriers_of new ≡ with_nth (barriers_of old) i b
unfolding barriers_of
barriers_put old new i b low same = put-listed (barrier_held old) (barrier_held new) i b low same

-- a change of the place of an index, in its group
pub puts_barrier : (groups : List GroupPart) (at i : ℕ) (x : Stored) (wakes : List Wake) → 1 ≤ i → i ≤ 64 → group_in groups i ≡ Some at → IsStoreOf no_stored (group_at groups at).barriers → PutsBarrier groups i (barrier_of x) (set groups at (changed (group_at groups at) i x wakes))
puts_barrier groups at i x wakes low high found store =
    let group = group_at groups at in
    let next = changed group i x wakes in
    let within : i ≤ length group.barriers.places = omega (arith, high, store.count) in
    let put : barrier_in next i ≡ barrier_of x = ap barrier_of (nth-with_same no_stored x group.barriers.places i low within) in
    record {
      barriers = barriers_put groups (set groups at next) i (barrier_of x) low (holds_one barrier_group barrier_in no_barrier groups at i next (barrier_of x) refl found put (λ u other. ap barrier_of (nth-with_other no_stored x group.barriers.places i u other)));
      partitions = partitions_same groups (set groups at next) (λ u. holds_there partition_group partition_in no_partition groups at u next refl refl);
      periods = periods_same groups (set groups at next) (λ u. holds_there period_group period_in no_period groups at u next refl refl);
      semaphores = semaphores_same groups (set groups at next) (λ u. holds_there semaphore_group semaphore_in no_semaphore groups at u next refl refl);
      kept = frames_same groups at next refl;
    }

-- ---- what a group does to a barrier is what is done to the barrier that it stands for

filled_is : (x : Stored) → is_filled x ≡ is_full (barrier_of x)
filled_is x = ap (λ n. x.automatic && nat_le x.most (n + 1)) (sym (length-threads x.queue.arrivals))

pub ended_is : (status : Status) (waiters : List Waiter) → ended status waiters ≡ ended_waits status (threads waiters)
ended_is status [] = refl
ended_is status (w ∷ ws) = ap (λ (wakes : List Wake). (let wake : Wake = record { thread = w.thread; status = status; out = 0 } in wake) ∷ wakes) (ended_is status ws)

one_more_waits : (by : Caller) (x : Stored) → barrier_of (with_waiter by x) ≡ (let next : BarrierState = record (barrier_of x) { arrivals = (barrier_of x).arrivals ++ by.thread ∷ [] } in next)
one_more_waits by x = ap (λ ts. (let next : BarrierState = record (barrier_of x) { arrivals = ts } in next)) (threads-append x.queue.arrivals (waiter_of by ∷ []))

pub waited_is : (by : Caller) (x : Stored) → barrier_of (waited by x) ≡ waited_at by.thread (barrier_of x)
waited_is by x = rw (← filled_is x) (cases (is_filled x)) where
  cases : (full : Bool) → barrier_of (cond full (emptied x) (with_waiter by x)) ≡ cond full (record (barrier_of x) { arrivals = [] }) (record (barrier_of x) { arrivals = (barrier_of x).arrivals ++ by.thread ∷ [] })
  cases true = refl
  cases false = one_more_waits by x

pub woken_is : (x : Stored) → woken_by_wait x ≡ woken_at (barrier_of x)
woken_is x = rw (← filled_is x) (ap (λ wakes. cond (is_filled x) wakes []) (ended_is Successful x.queue.arrivals))

pub reply_is : (x : Stored) → reply_to_wait x ≡ reply_at (barrier_of x)
reply_is x = rw (← filled_is x) refl

threads-without : (t : ℕ) (waiters : List Waiter) → threads (without_thread t waiters) ≡ without t (threads waiters)
threads-without t [] = refl
threads-without t (w ∷ ws) = by (w.thread == t) (threads-without t ws) where
  by : (b : Bool) → threads (without_thread t ws) ≡ without t (threads ws) → threads (cond (not b) (w ∷ without_thread t ws) (without_thread t ws)) ≡ cond (not b) (w.thread ∷ without t (threads ws)) (without t (threads ws))
  by true rest = rest
  by false rest = ap (λ ts. w.thread ∷ ts) rest

-- a barrier at which none waits any more
abbrev pub without_arrivals : BarrierState → BarrierState
without_arrivals barrier = record barrier { arrivals = [] }

-- a barrier that a thread has left
abbrev pub left_by_thread : ℕ → BarrierState → BarrierState
left_by_thread t barrier = record barrier { arrivals = without t barrier.arrivals }

left_is : (t : ℕ) (x : Stored) → barrier_of (without_waiter t x) ≡ left_by_thread t (barrier_of x)
left_is t x = ap (λ ts. (let next : BarrierState = record (barrier_of x) { arrivals = ts } in next)) (threads-without t x.queue.arrivals)

-- who doesn't wait there leaves nothing behind
pub without_absent : (t : ℕ) (ts : List ℕ) → has ts t ≡ false → without t ts ≡ ts
without_absent t [] absent = refl
without_absent t (u ∷ us) absent = grind (arith, nat_tests, absent, without_absent t us)

-- an item that is put where it stands changes nothing
pub with_nth-still : {X : Type 0} (none : X) (xs : List X) (i : ℕ) → with_nth xs i (nth none xs i) ≡ xs
with_nth-still none xs zero = refl
with_nth-still none xs (suc j) = by none xs j where
  by : {X : Type 0} (none : X) (xs : List X) (j : ℕ) → set xs j (get_or xs j none) ≡ xs
  by none [] j = refl
  by none (x ∷ xs) zero = refl
  by none (x ∷ xs) (suc j) = ap (λ us. x ∷ us) (by none xs j)

-- a thread leaves a barrier at which it doesn't wait
pub leaves_nothing : (groups : List GroupPart) (i t : ℕ) → has (barrier_lent groups i).arrivals t ≡ false → Leaves groups t (Some (OfBarrier i)) groups
leaves_nothing groups i t absent =
    let still : left_by_thread t (barrier_lent groups i) ≡ barrier_lent groups i = ap (λ ts. (let next : BarrierState = record (barrier_lent groups i) { arrivals = ts } in next)) (without_absent t (barrier_lent groups i).arrivals absent) in
    record {
      barriers = sym (ap (with_nth (barriers_of groups) i) still ∙ with_nth-still no_barrier (barriers_of groups) i);
      semaphores = refl;
      partitions = refl;
      periods = refl;
      kept = refl;
    }

-- of none where its group isn't lent,
pub leaves_nowhere : (groups : List GroupPart) (i t : ℕ) → 1 ≤ i → i ≤ 64 → group_in groups i ≡ None → Leaves groups t (Some (OfBarrier i)) groups
leaves_nowhere groups i t low high none = leaves_nothing groups i t (ap (λ (b : BarrierState). has b.arrivals t) (barrier_is_held groups i low high ∙ barrier_nowhere groups i none))

-- of none where the index is none,
pub leaves_outside : (groups : List GroupPart) (i t : ℕ) → (1 ≤ i → i ≤ 64 → ⊥) → Leaves groups t (Some (OfBarrier i)) groups
leaves_outside groups zero t outside = leaves_nothing groups 0 t refl
leaves_outside groups (suc j) t outside =
    leaves_nothing groups (suc j) t (ap (λ (b : BarrierState). has b.arrivals t) (get_or_past (barriers_of groups) j no_barrier (past_them (length_barriers groups))))
  where
    past_them : length (barriers_of groups) ≡ 64 → length (barriers_of groups) ≤ j
    past_them is = by (length (barriers_of groups)) is (cases_lt j 64) where
      by : (n : ℕ) → n ≡ 64 → (j < 64) ⊎ (64 ≤ j) → n ≤ j
      by n is (inl less) = absurd (outside (omega arith) (omega (arith, less)))
      by n is (inr more) = omega (arith, is, more)

-- and of one that lives where it may or may not wait.
pub leaves_found : (groups : List GroupPart) (at i t : ℕ) → 1 ≤ i → i ≤ 64 → group_in groups i ≡ Some at → IsStoreOf no_stored (group_at groups at).barriers → Leaves groups t (Some (OfBarrier i)) (set groups at (record (group_at groups at) { barriers = left_at (group_at groups at).barriers i t }))
leaves_found groups at i t low high found store = by (waits_in (stored_at no_stored (group_at groups at).barriers i).queue t) refl where
  is : barrier_lent groups i ≡ barrier_of (stored_at no_stored (group_at groups at).barriers i)
  is = barrier_is_held groups i low high ∙ barrier_found groups at i found

  by : (b : Bool) → waits_in (stored_at no_stored (group_at groups at).barriers i).queue t ≡ b →
      Leaves groups t (Some (OfBarrier i)) (set groups at (record (group_at groups at) { barriers = cond b (put_at (group_at groups at).barriers i (without_waiter t (stored_at no_stored (group_at groups at).barriers i))) (group_at groups at).barriers }))
  by true waits =
      let x = stored_at no_stored (group_at groups at).barriers i in
      let puts = puts_barrier groups at i (without_waiter t x) (group_at groups at).wakes low high found store in
      let left : barrier_of (without_waiter t x) ≡ left_by_thread t (barrier_lent groups i) = left_is t x ∙ ap (left_by_thread t) (sym is) in
      record {
        barriers = puts.barriers ∙ ap (with_nth (barriers_of groups) i) left;
        semaphores = puts.semaphores;
        partitions = puts.partitions;
        periods = puts.periods;
        kept = puts.kept;
      }
  by false absent =
      subst (Leaves groups t (Some (OfBarrier i))) (sym (with_nth-still no_group groups (suc at)))
      (leaves_nothing groups i t (ap (λ (b : BarrierState). has b.arrivals t) is ∙ absent))

-- ---- as the code has them

as_changed : (groups : List GroupPart) (at i : ℕ) (group next : GroupPart) (x : Stored) (wakes : List Wake) → group_in groups i ≡ Some at → next ≡ changed (get_or groups at group) i x wakes → set groups at next ≡ set groups at (changed (group_at groups at) i x wakes)
as_changed groups at i group next x wakes found is = ap (set groups at) (is ∙ ap (λ (g : GroupPart). changed g i x wakes) (sym (group_is groups at i group found)))

-- the groups after a place of one of them was changed stand for the barriers with another one,
pub put_there : (groups : List GroupPart) (at i : ℕ) (group next : GroupPart) (x : Stored) (wakes : List Wake) (b : BarrierState) → 1 ≤ i → i ≤ 64 → group_in groups i ≡ Some at → IsStoreOf no_stored (group_at groups at).barriers → next ≡ changed (get_or groups at group) i x wakes → barrier_of x ≡ b → PutsBarrier groups i b (set groups at next)
put_there groups at i group next x wakes b low high found store is stands =
    subst (λ (c : BarrierState). PutsBarrier groups i c (set groups at next)) stands
    (subst (PutsBarrier groups i (barrier_of x)) (sym (as_changed groups at i group next x wakes found is)) (puts_barrier groups at i x wakes low high found store))

-- and these waits ended.
pub woken_there : (groups : List GroupPart) (at i : ℕ) (group next : GroupPart) (x : Stored) (wakes ended : List Wake) → group_in groups i ≡ Some at → next ≡ changed (get_or groups at group) i x wakes → wakes ≡ ended → wakes_at (set groups at next) i ≡ ended
woken_there groups at i group next x wakes ended found is same = ap (λ (gs : List GroupPart). wakes_at gs i) (as_changed groups at i group next x wakes found is) ∙ wakes_here groups at i x wakes found ∙ same

pub as_left : (groups : List GroupPart) (at i t : ℕ) (group : GroupPart) (barriers : Store Stored) → group_in groups i ≡ Some at → barriers ≡ left_at (get_or groups at group).barriers i t →
    set groups at (record (get_or groups at group) { barriers = barriers }) ≡ set groups at (record (group_at groups at) { barriers = left_at (group_at groups at).barriers i t })
as_left groups at i t group barriers found is =
    ap (λ (s : Store Stored). set groups at (record (get_or groups at group) { barriers = s })) is
    ∙ ap (λ (g : GroupPart). set groups at (record g { barriers = left_at g.barriers i t })) (sym (group_is groups at i group found))

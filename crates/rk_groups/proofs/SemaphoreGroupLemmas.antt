-- The semaphores of lent groups, and what a change of one of them does.
use Rattle.std.proofs.Common.{◌≡◌, ℕ, zero, suc, add-one, ◌+◌, ◌<◌, ◌≤◌, List, [], ◌∷◌, Bool, true, false, cond, ◌==◌, ◌||◌, Option, Some, None, length, drop, subst, arith, refl, sym, ap, ◌∙◌, get_or, set, ◌⊎◌, inl, inr}
use Rattle.std.specs.Option.{option_eq}
use Rattle.std.proofs.lemmas.Bool.{false≢true, cases_lt}
use Rattle.std.proofs.lemmas.List.{get_or_past}
use Rattle.rk_model.specs.Directives.Waits.{OfSemaphore}
use Rattle.rk_model.specs.declared.waiting.Waiter.{Waiter}
use Rattle.rk_model.specs.declared.waiting.Wake.{Wake}
use Rattle.rk_model.specs.Lists.{has, nth, times, with_nth}
use Rattle.rk_model.specs.Queues.{clusters, without, without_turn, turns_kept, cluster_of, waits_in, IsQueue}
use Rattle.rk_model.specs.State.{SemaphoreState, no_semaphore, no_barrier, no_partition, no_period}
use Rattle.rk_model.specs.Directives.Semaphores.{has_obtained, owns}
use Rattle.rk_model.specs.Scheduling.Priorities.{is_one}
use Rattle.rk_model.specs.Directives.Waits.{without_waiter}
use Rattle.rk_model.proofs.CountLemmas.{has_none}
use Rattle.rk_model.proofs.KeyLemmas.{without_none}
use Rattle.rk_queue.proofs.QueueLemmas.{key}
use Rattle.rk_places.specs.Stores.{Store, IsOfGroup, IsStoreOf, stored_at, put_at}
use Rattle.rk_groups.specs.declared.group.GroupPart.{GroupPart}
use Rattle.rk_groups.specs.GroupObjects.{semaphore_group, semaphore_in, semaphore_held, semaphores_of, semaphore_lent, barrier_group, barrier_in, partition_group, partition_in, period_group, period_in}
use Rattle.rk_groups.specs.Groups.{group_at, semaphores_in, holds_semaphores, wakes_in, woken_in, PutsSemaphore, Leaves, left_semaphore}
use Rattle.rk_groups.proofs.FoundGroupLemmas.{nth-listed, put-listed, found_holds, nowhere_holds, never_held, holds_here, holds_there, barriers_same, partitions_same, periods_same, frames_same}
use Rattle.rk_groups.proofs.GroupLemmas.{with_nth-still, without_absent}
use Rattle.rk_groups.proofs.GroupStoreLemmas.{found_group, found_index, found_stands, found_put}
use Rattle.rk_groups.proofs.ListedLemmas.{length-listed}

-- The semaphore of an index in the state that groups stand for.
semaphore_is_held : (groups : List GroupPart) (i : ℕ) → 1 ≤ i → i ≤ 64 → semaphore_lent groups i ≡ semaphore_held groups i
unfolding semaphores_of
semaphore_is_held groups i low high = nth-listed (semaphore_held groups) no_semaphore i low high

-- there are 64 places for semaphores
pub length_semaphores : (groups : List GroupPart) → length (semaphores_of groups) ≡ 64
unfolding semaphores_of
length_semaphores groups = length-listed (semaphore_held groups) 1 64

-- the semaphore of an index, where its group is found,
pub semaphore_stands : (groups : List GroupPart) (at i : ℕ) (group : GroupPart) → 1 ≤ i → i ≤ 64 → Some at ≡ semaphores_in groups i → semaphore_in (get_or groups at group) i ≡ semaphore_lent groups i
semaphore_stands groups at i group low high found = found_stands no_semaphore (λ (g : GroupPart). g.semaphores) groups at i group found ∙ sym (semaphore_is_held groups i low high)

-- where it isn't,
pub semaphore_nowhere : (groups : List GroupPart) (i : ℕ) → 1 ≤ i → i ≤ 64 → semaphores_in groups i ≡ None → semaphore_lent groups i ≡ no_semaphore
semaphore_nowhere groups i low high none = semaphore_is_held groups i low high ∙ nowhere_holds semaphore_group semaphore_in no_semaphore groups i none

-- and where the index is none;
pub semaphore_outside : (groups : List GroupPart) (i : ℕ) → (1 ≤ i → i ≤ 64 → ⊥) → semaphore_lent groups i ≡ no_semaphore
semaphore_outside groups zero outside = refl
semaphore_outside groups (suc j) outside = get_or_past (semaphores_of groups) j no_semaphore (past_them (length_semaphores groups)) where
  past_them : length (semaphores_of groups) ≡ 64 → length (semaphores_of groups) ≤ j
  past_them is = by (length (semaphores_of groups)) is (cases_lt j 64) where
    by : (n : ℕ) → n ≡ 64 → (j < 64) ⊎ (64 ≤ j) → n ≤ j
    by n is (inl less) = absurd (outside (omega arith) (omega (arith, less)))
    by n is (inr more) = omega (arith, is, more)

-- the index is that of the group
pub of_semaphores : (groups : List GroupPart) (at i : ℕ) (group : GroupPart) → 1 ≤ i → i ≤ 64 → Some at ≡ semaphores_in groups i → IsOfGroup (get_or groups at group).semaphores.group i
of_semaphores groups at i group low high found = found_index no_semaphore (λ (g : GroupPart). g.semaphores) groups at i group low high found

-- a group that is lent is found, and so is that of a semaphore that lives
pub never_lent : (groups : List GroupPart) (i : ℕ) → semaphores_in groups i ≡ None → holds_semaphores groups i ≡ true → ⊥
never_lent groups i none lent = never_held semaphore_group groups i none lent

pub never_live : (groups : List GroupPart) (i : ℕ) → 1 ≤ i → i ≤ 64 → semaphores_in groups i ≡ None → (semaphore_lent groups i).live ≡ true → ⊥
never_live groups i low high none live = false≢true (sym (ap (λ (s : SemaphoreState). s.live) (semaphore_nowhere groups i low high none)) ∙ live)

-- the waits that ended in the group of an index, where it is found,
pub semaphore_wakes : (groups : List GroupPart) (at i : ℕ) (group : GroupPart) → Some at ≡ semaphores_in groups i → (get_or groups at group).wakes ≡ woken_in groups i
semaphore_wakes groups at i group found =
    sym (found_holds semaphore_group wakes_in [] groups at i (sym found) ∙ ap (λ (g : GroupPart). g.wakes) (found_group no_semaphore (λ (g : GroupPart). g.semaphores) groups at i group found))

-- and where it isn't
pub wakes_nowhere : (groups : List GroupPart) (i : ℕ) → semaphores_in groups i ≡ None → woken_in groups i ≡ []
wakes_nowhere groups i none = nowhere_holds semaphore_group wakes_in [] groups i none

-- ---- a change of a semaphore

-- where the semaphores that groups hold are those of others but for one, so are those of the state
semaphores_put : (old new : List GroupPart) (i : ℕ) (s : SemaphoreState) → 1 ≤ i → ((u : ℕ) → semaphore_held new u ≡ cond (u == i) s (semaphore_held old u)) → semaphores_of new ≡ with_nth (semaphores_of old) i s
unfolding semaphores_of
semaphores_put old new i s low same = put-listed (semaphore_held old) (semaphore_held new) i s low same

-- a group with another semaphore at an index, and after these waits ended
abbrev pub changed : GroupPart → ℕ → SemaphoreState → List Wake → GroupPart
changed group i x wakes = record group { semaphores = put_at group.semaphores i x; wakes = wakes }

-- a change of the semaphore of an index, in its group
puts_semaphore : (groups : List GroupPart) (at i : ℕ) (x : SemaphoreState) (wakes : List Wake) → 1 ≤ i → i ≤ 64 → semaphores_in groups i ≡ Some at → IsStoreOf no_semaphore (group_at groups at).semaphores → PutsSemaphore groups i x (set groups at (changed (group_at groups at) i x wakes))
puts_semaphore groups at i x wakes low high found store =
    let next = changed (group_at groups at) i x wakes in
    record {
      semaphores = semaphores_put groups (set groups at next) i x low (found_put no_semaphore (λ (g : GroupPart). g.semaphores) groups at i next x low high found store refl);
      barriers = barriers_same groups (set groups at next) (λ u. holds_there barrier_group barrier_in no_barrier groups at u next refl refl);
      partitions = partitions_same groups (set groups at next) (λ u. holds_there partition_group partition_in no_partition groups at u next refl refl);
      periods = periods_same groups (set groups at next) (λ u. holds_there period_group period_in no_period groups at u next refl refl);
      kept = frames_same groups at next refl;
    }

-- the groups, as the code has them
as_changed : (groups : List GroupPart) (at i : ℕ) (group next : GroupPart) (x : SemaphoreState) (wakes : List Wake) → Some at ≡ semaphores_in groups i → next ≡ changed (get_or groups at group) i x wakes → set groups at next ≡ set groups at (changed (group_at groups at) i x wakes)
as_changed groups at i group next x wakes found is =
    ap (set groups at) (is ∙ ap (λ (g : GroupPart). changed g i x wakes) (sym (found_group no_semaphore (λ (g : GroupPart). g.semaphores) groups at i group found)))

-- the groups after a semaphore of one of them was changed stand for the semaphores with another one,
pub semaphore_put : (groups : List GroupPart) (at i : ℕ) (group next : GroupPart) (x s : SemaphoreState) (wakes : List Wake) → 1 ≤ i → i ≤ 64 → Some at ≡ semaphores_in groups i → IsStoreOf no_semaphore (group_at groups at).semaphores → next ≡ changed (get_or groups at group) i x wakes → x ≡ s →
    PutsSemaphore groups i s (set groups at next)
semaphore_put groups at i group next x s wakes low high found store is stands =
    subst (λ (y : SemaphoreState). PutsSemaphore groups i y (set groups at next)) stands
    (subst (PutsSemaphore groups i x) (sym (as_changed groups at i group next x wakes found is)) (puts_semaphore groups at i x wakes low high (sym found) store))

-- and these waits ended;
pub semaphore_woken : (groups : List GroupPart) (at i : ℕ) (group next : GroupPart) (x : SemaphoreState) (wakes ended : List Wake) → Some at ≡ semaphores_in groups i → next ≡ changed (get_or groups at group) i x wakes → wakes ≡ ended → woken_in (set groups at next) i ≡ ended
semaphore_woken groups at i group next x wakes ended found is same =
    ap (λ (gs : List GroupPart). woken_in gs i) (as_changed groups at i group next x wakes found is)
    ∙ holds_here semaphore_group wakes_in [] groups at i (changed (group_at groups at) i x wakes) refl (sym found)
    ∙ same

-- so it is where the waits that ended are those of before
pub store_put : (groups : List GroupPart) (at i : ℕ) (group : GroupPart) (store : Store SemaphoreState) (x s : SemaphoreState) → 1 ≤ i → i ≤ 64 → Some at ≡ semaphores_in groups i → IsStoreOf no_semaphore (group_at groups at).semaphores → store ≡ put_at (get_or groups at group).semaphores i x → x ≡ s →
    PutsSemaphore groups i s (set groups at (record (get_or groups at group) { semaphores = store }))
store_put groups at i group store x s low high found is_store is stands =
    semaphore_put groups at i group (record (get_or groups at group) { semaphores = store }) x s (get_or groups at group).wakes low high found is_store
    (ap (λ (st : Store SemaphoreState). (let g : GroupPart = record (get_or groups at group) { semaphores = st } in g)) is) stands

-- ---- who leaves its queue

-- a cluster that no waiter has has no turn to lose
no_turn_lost : (c : ℕ) (arrivals : List Waiter) (turns : List ℕ) → IsQueue arrivals turns → turns_kept c arrivals turns ≡ turns
no_turn_lost c arrivals turns is = by (has (clusters arrivals) c) (is.turn c) where
  by : (b : Bool) → times c turns ≡ cond b 1 0 → cond b turns (without_turn c turns) ≡ turns
  by true e = refl
  by false e = without_absent c turns (has_none c turns e)

-- who doesn't wait for a semaphore leaves nothing behind,
pub left_absent : (t : ℕ) (x : SemaphoreState) → IsQueue x.queue.arrivals x.queue.turns → waits_in x.queue t ≡ false → without_waiter t x ≡ x
left_absent t x is absent =
    let queue = x.queue in
    let same : without t queue.arrivals ≡ queue.arrivals = without_none key t queue.arrivals absent in
    let turns : turns_kept (cluster_of t queue.arrivals) (without t queue.arrivals) queue.turns ≡ queue.turns =
    ap (λ (ws : List Waiter). turns_kept (cluster_of t queue.arrivals) ws queue.turns) same ∙ no_turn_lost (cluster_of t queue.arrivals) queue.arrivals queue.turns is in
    λ k. record x { queue = record queue { arrivals = same k; turns = turns k } }

-- and none waits where there is no semaphore;
pub left_none : (t : ℕ) (x : SemaphoreState) → x ≡ no_semaphore → without_waiter t x ≡ x
left_none t x none = rw none refl

-- then the group is as before,
pub left_still : (store : Store SemaphoreState) (i t : ℕ) → without_waiter t (stored_at no_semaphore store i) ≡ stored_at no_semaphore store i → store ≡ left_semaphore store i t
left_still store i t same =
    sym (ap (λ (places : List SemaphoreState). (let st : Store SemaphoreState = record store { places = places } in st)) (ap (with_nth store.places i) same ∙ with_nth-still no_semaphore store.places i))

-- and so is the state, where there is no semaphore;
pub leaves_none : (groups : List GroupPart) (i t : ℕ) → semaphore_lent groups i ≡ no_semaphore → Leaves groups t (Some (OfSemaphore i)) groups
leaves_none groups i t none =
    record {
      barriers = refl;
      semaphores = sym (ap (with_nth (semaphores_of groups) i) (left_none t (semaphore_lent groups i) none) ∙ with_nth-still no_semaphore (semaphores_of groups) i);
      partitions = refl;
      periods = refl;
      kept = refl;
    }

-- and a thread that leaves a semaphore of a group leaves it in the state.
pub leaves_semaphore : (groups : List GroupPart) (at i t : ℕ) (group : GroupPart) (store : Store SemaphoreState) → 1 ≤ i → i ≤ 64 → Some at ≡ semaphores_in groups i → IsStoreOf no_semaphore (group_at groups at).semaphores → store ≡ left_semaphore (get_or groups at group).semaphores i t →
    Leaves groups t (Some (OfSemaphore i)) (set groups at (record (get_or groups at group) { semaphores = store }))
leaves_semaphore groups at i t group store low high found is_store is =
    let puts = store_put groups at i group store _ _ low high found is_store is (ap (without_waiter t) (semaphore_stands groups at i group low high found)) in
    record {
      barriers = puts.barriers;
      semaphores = puts.semaphores;
      partitions = puts.partitions;
      periods = puts.periods;
      kept = puts.kept;
    }

-- ---- who owns one

-- whether an owner is a thread, as the code tests it
pub owner_test : (same : ℕ → ℕ → Bool) (t : ℕ) (owner : Option ℕ) → ((u : ℕ) → same u t ≡ (u == t)) → option_eq same owner (Some t) ≡ is_one t owner
owner_test same t None alike = refl
owner_test same t (Some u) alike = alike u

-- whether a thread owns one of these semaphores, from one on
pub obtained_from : (semaphores : List SemaphoreState) (at t : ℕ) → has_obtained (drop at semaphores) t ≡ (owns t (nth no_semaphore semaphores (at + 1)) || has_obtained (drop (at + 1) semaphores) t)
obtained_from semaphores at t = rw (add-one at) (by semaphores at) where
  by : (semaphores : List SemaphoreState) (at : ℕ) → has_obtained (drop at semaphores) t ≡ (owns t (get_or semaphores at no_semaphore) || has_obtained (drop (suc at) semaphores) t)
  by [] zero = refl
  by [] (suc at) = refl
  by (s ∷ ss) zero = refl
  by (s ∷ ss) (suc at) = by ss at

-- behind the last one there is none
pub obtained_past : (groups : List GroupPart) (at t : ℕ) → 64 ≤ at → has_obtained (drop at (semaphores_of groups)) t ≡ false
obtained_past groups at t past = by (semaphores_of groups) at (length_semaphores groups) past where
  none : (semaphores : List SemaphoreState) (at : ℕ) → length semaphores ≤ at → has_obtained (drop at semaphores) t ≡ false
  none [] zero within = refl
  none [] (suc at) within = refl
  none (s ∷ ss) zero within = absurd (omega (arith, within))
  none (s ∷ ss) (suc at) within = none ss at (omega (arith, within))

  by : (semaphores : List SemaphoreState) (at : ℕ) → length semaphores ≡ 64 → 64 ≤ at → has_obtained (drop at semaphores) t ≡ false
  by semaphores at size past = none semaphores at (omega (arith, size, past))

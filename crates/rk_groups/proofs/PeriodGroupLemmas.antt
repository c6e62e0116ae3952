-- The periods of lent groups, and what a change of one of them does.
use Rattle.std.proofs.Common.{◌≡◌, ℕ, zero, suc, add-one, ◌+◌, ◌≤◌, List, [], ◌∷◌, true, false, cond, ◌==◌, ◌&&◌, ◌||◌, Some, None, length, drop, subst, arith, refl, sym, ap, ◌∙◌, get_or, set}
use Rattle.std.proofs.lemmas.Bool.{false≢true}
use Rattle.rk_model.specs.Lists.{nth, with_nth}
use Rattle.rk_model.specs.State.{PeriodState, no_semaphore, no_barrier, no_partition, no_period}
use Rattle.rk_places.specs.Stores.{Store, IsOfGroup, IsStoreOf, put_at}
use Rattle.rk_groups.specs.declared.group.GroupPart.{GroupPart}
use Rattle.rk_groups.specs.GroupObjects.{semaphore_group, semaphore_in, barrier_group, barrier_in, partition_group, partition_in, period_group, period_in, period_held, periods_of, period_lent}
use Rattle.rk_groups.specs.Groups.{group_at, periods_in, holds_periods, PutsPeriod}
use Rattle.rk_groups.proofs.FoundGroupLemmas.{nth-listed, put-listed, nowhere_holds, never_held, holds_there, semaphores_same, barriers_same, partitions_same, frames_same}
use Rattle.rk_model.specs.Directives.Tasks.{has_created}
use Rattle.rk_groups.proofs.ListedLemmas.{length-listed}
use Rattle.rk_groups.proofs.GroupStoreLemmas.{found_group, found_index, found_stands, found_put}

-- The period of an index in the state that groups stand for.
period_is_held : (groups : List GroupPart) (i : ℕ) → 1 ≤ i → i ≤ 64 → period_lent groups i ≡ period_held groups i
unfolding periods_of
period_is_held groups i low high = nth-listed (period_held groups) no_period i low high

-- there are 64 places for periods
length_periods : (groups : List GroupPart) → length (periods_of groups) ≡ 64
unfolding periods_of
length_periods groups = length-listed (period_held groups) 1 64

-- the period of an index, where its group is found,
pub period_stands : (groups : List GroupPart) (at i : ℕ) (group : GroupPart) → 1 ≤ i → i ≤ 64 → Some at ≡ periods_in groups i → period_in (get_or groups at group) i ≡ period_lent groups i
period_stands groups at i group low high found = found_stands no_period (λ (g : GroupPart). g.periods) groups at i group found ∙ sym (period_is_held groups i low high)

-- and where it isn't;
pub period_nowhere : (groups : List GroupPart) (i : ℕ) → 1 ≤ i → i ≤ 64 → periods_in groups i ≡ None → period_lent groups i ≡ no_period
period_nowhere groups i low high none = period_is_held groups i low high ∙ nowhere_holds period_group period_in no_period groups i none

-- the index is that of the group
pub of_periods : (groups : List GroupPart) (at i : ℕ) (group : GroupPart) → 1 ≤ i → i ≤ 64 → Some at ≡ periods_in groups i → IsOfGroup (get_or groups at group).periods.group i
of_periods groups at i group low high found = found_index no_period (λ (g : GroupPart). g.periods) groups at i group low high found

-- a group that is lent is found, and so is that of a period that lives
pub never_lent : (groups : List GroupPart) (i : ℕ) → periods_in groups i ≡ None → holds_periods groups i ≡ true → ⊥
never_lent groups i none lent = never_held period_group groups i none lent

pub never_live : (groups : List GroupPart) (i : ℕ) → 1 ≤ i → i ≤ 64 → periods_in groups i ≡ None → (period_lent groups i).live ≡ true → ⊥
never_live groups i low high none live = false≢true (sym (ap (λ (p : PeriodState). p.live) (period_nowhere groups i low high none)) ∙ live)

-- where the periods that groups hold are those of others but for one, so are those of the state
periods_put : (old new : List GroupPart) (i : ℕ) (p : PeriodState) → 1 ≤ i → ((u : ℕ) → period_held new u ≡ cond (u == i) p (period_held old u)) → periods_of new ≡ with_nth (periods_of old) i p
unfolding periods_of
periods_put old new i p low same = put-listed (period_held old) (period_held new) i p low same

-- a group with another period at an index
abbrev with_period : GroupPart → ℕ → PeriodState → GroupPart
with_period group i x = record group { periods = put_at group.periods i x }

puts_period : (groups : List GroupPart) (at i : ℕ) (x : PeriodState) → 1 ≤ i → i ≤ 64 → periods_in groups i ≡ Some at → IsStoreOf no_period (group_at groups at).periods → PutsPeriod groups i x (set groups at (with_period (group_at groups at) i x))
puts_period groups at i x low high found store =
    let next = with_period (group_at groups at) i x in
    record {
      periods = periods_put groups (set groups at next) i x low (found_put no_period (λ (g : GroupPart). g.periods) groups at i next x low high found store refl);
      barriers = barriers_same groups (set groups at next) (λ u. holds_there barrier_group barrier_in no_barrier groups at u next refl refl);
      partitions = partitions_same groups (set groups at next) (λ u. holds_there partition_group partition_in no_partition groups at u next refl refl);
      semaphores = semaphores_same groups (set groups at next) (λ u. holds_there semaphore_group semaphore_in no_semaphore groups at u next refl refl);
      kept = frames_same groups at next refl;
    }

-- the groups after a period of one of them was changed, as the code has them
pub period_put : (groups : List GroupPart) (at i : ℕ) (group : GroupPart) (store : Store PeriodState) (x p : PeriodState) → 1 ≤ i → i ≤ 64 → Some at ≡ periods_in groups i → IsStoreOf no_period (group_at groups at).periods → store ≡ put_at (get_or groups at group).periods i x → x ≡ p →
    PutsPeriod groups i p (set groups at (record (get_or groups at group) { periods = store }))
period_put groups at i group store x p low high found is_store is stands =
    subst (λ (y : PeriodState). PutsPeriod groups i y (set groups at (record (get_or groups at group) { periods = store }))) stands
    (subst (PutsPeriod groups i x) (sym same) (puts_period groups at i x low high (sym found) is_store))
  where
    same : set groups at (record (get_or groups at group) { periods = store }) ≡ set groups at (with_period (group_at groups at) i x)
    same =
        ap (λ (s : Store PeriodState). set groups at (record (get_or groups at group) { periods = s })) is
        ∙ ap (λ (g : GroupPart). set groups at (with_period g i x)) (sym (found_group no_period (λ (g : GroupPart). g.periods) groups at i group found))

-- ---- who created one

-- whether a thread created one of these periods, from one on
pub created_from : (periods : List PeriodState) (at t : ℕ) → has_created (drop at periods) t ≡ (((nth no_period periods (at + 1)).live && ((nth no_period periods (at + 1)).creator == t)) || has_created (drop (at + 1) periods) t)
created_from periods at t = rw (add-one at) (by periods at) where
  by : (periods : List PeriodState) (at : ℕ) → has_created (drop at periods) t ≡ (((get_or periods at no_period).live && ((get_or periods at no_period).creator == t)) || has_created (drop (suc at) periods) t)
  by [] zero = refl
  by [] (suc at) = refl
  by (p ∷ ps) zero = refl
  by (p ∷ ps) (suc at) = by ps at

-- behind the last one there is none
pub created_past : (groups : List GroupPart) (at t : ℕ) → 64 ≤ at → has_created (drop at (periods_of groups)) t ≡ false
created_past groups at t past = by (periods_of groups) at (length_periods groups) past where
  none : (periods : List PeriodState) (at : ℕ) → length periods ≤ at → has_created (drop at periods) t ≡ false
  none [] zero within = refl
  none [] (suc at) within = refl
  none (p ∷ ps) zero within = absurd (omega (arith, within))
  none (p ∷ ps) (suc at) within = none ps at (omega (arith, within))

  by : (periods : List PeriodState) (at : ℕ) → length periods ≡ 64 → 64 ≤ at → has_created (drop at periods) t ≡ false
  by periods at size past = none periods at (omega (arith, size, past))

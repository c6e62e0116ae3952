-- The lent group of an index, by a number that each group has, and what stands in it.
use Rattle.std.proofs.Common.{◌≡◌, ℕ, zero, suc, ◌+◌, ◌-◌, ◌<◌, ◌≤◌, List, [], ◌∷◌, Bool, true, false, cond, ◌==◌, ◌||◌, Some, None, length, map, arith, refl, sym, ap, ◌∙◌, set}
use Rattle.std.proofs.lemmas.Bool.{false≢true}
use Rattle.std.proofs.lemmas.Bool.Decides.{nat_tests}
use Rattle.std.proofs.Math.Nat.{div-add-mod}
use Rattle.std.proofs.Math.Seq.{map-set_same}
use Rattle.rk_model.specs.Lists.{has, nth, with_nth}
use Rattle.rk_model.proofs.BooleanLemmas.{same_number}
use Rattle.rk_places.specs.Stores.{group_of}
use Rattle.rk_groups.specs.declared.group.GroupPart.{GroupPart}
use Rattle.rk_groups.specs.GroupObjects.{held_by, listed, semaphore_held, semaphores_of, barrier_held, barriers_of, partition_held, partitions_of, period_held, periods_of}
use Rattle.rk_groups.specs.Groups.{group_at, first_of, holds, no_group, group_frame, group_frames}
use Rattle.rk_groups.proofs.FoundLemmas.{found_here, found_later, found_nowhere}
use Rattle.rk_groups.proofs.ListedLemmas.{get_or-listed, same_listed, set-listed}

-- ---- what is listed

-- what stands at an index
pub nth-listed : {X : Type 0} (f : ℕ → X) (none : X) (i : ℕ) → 1 ≤ i → i ≤ 64 → nth none (listed f 1 64) i ≡ f i
nth-listed f none zero low high = absurd (omega (arith, low))
nth-listed f none (suc j) low high = let e : 1 + j ≡ suc j = omega arith in get_or-listed f 1 64 j none (omega (arith, high)) ∙ ap f e

-- where all is as before but for one, so are the lists
pub put-listed : {X : Type 0} (old new : ℕ → X) (i : ℕ) (x : X) → 1 ≤ i → ((u : ℕ) → new u ≡ cond (u == i) x (old u)) → listed new 1 64 ≡ with_nth (listed old 1 64) i x
put-listed old new zero x low same = absurd (omega (arith, low))
put-listed old new (suc j) x low same =
    let e : 1 + j ≡ suc j = omega arith in
    set-listed old new 1 64 j x (λ u. same u ∙ ap (λ t. cond (u == t) x (old u)) (sym e))

-- ---- the group of an index

-- a group that is found has the number of the index's group
pub found_number : (number : GroupPart → ℕ) (groups : List GroupPart) (at i : ℕ) → first_of number groups i ≡ Some at → number (group_at groups at) ≡ group_of i
found_number number [] at i found = absurd (cc)
found_number number (g ∷ gs) zero i found = same_number (number g) (group_of i) (found_here (number g == group_of i) (first_of number gs i) found)
found_number number (g ∷ gs) (suc at) i found = found_number number gs at i (found_later (number g == group_of i) (first_of number gs i) at found).there

pub found_inside : (number : GroupPart → ℕ) (groups : List GroupPart) (at i : ℕ) → first_of number groups i ≡ Some at → at < length groups
found_inside number [] at i found = absurd (cc)
found_inside number (g ∷ gs) zero i found = omega arith
found_inside number (g ∷ gs) (suc at) i found = omega (arith, found_inside number gs at i (found_later (number g == group_of i) (first_of number gs i) at found).there)

-- and what stands there is held of it;
pub found_holds : {X : Type 0} (number : GroupPart → ℕ) (there : GroupPart → ℕ → X) (none : X) (groups : List GroupPart) (at i : ℕ) → first_of number groups i ≡ Some at → held_by number there none groups i ≡ there (group_at groups at) i
found_holds number there none [] at i found = absurd (cc)
found_holds number there none (g ∷ gs) zero i found = let e = found_here (number g == group_of i) (first_of number gs i) found in rw e refl
found_holds number there none (g ∷ gs) (suc at) i found =
    let later = found_later (number g == group_of i) (first_of number gs i) at found in
    rw later.here_not (found_holds number there none gs at i later.there)

-- where none is found nothing is held,
pub nowhere_holds : {X : Type 0} (number : GroupPart → ℕ) (there : GroupPart → ℕ → X) (none : X) (groups : List GroupPart) (i : ℕ) → first_of number groups i ≡ None → held_by number there none groups i ≡ none
nowhere_holds number there none [] i found = refl
nowhere_holds number there none (g ∷ gs) i found =
    let e = found_nowhere (number g == group_of i) (first_of number gs i) found in
    rw e.here_not (nowhere_holds number there none gs i e.there_not)

-- and the group isn't lent.
nowhere_lent : (number : GroupPart → ℕ) (groups : List GroupPart) (i : ℕ) → first_of number groups i ≡ None → holds number groups i ≡ false
nowhere_lent number [] i found = refl
nowhere_lent number (g ∷ gs) i found =
    let e = found_nowhere (number g == group_of i) (first_of number gs i) found in
    rw e.here_not (nowhere_lent number gs i e.there_not)

pub never_held : (number : GroupPart → ℕ) (groups : List GroupPart) (i : ℕ) → first_of number groups i ≡ None → holds number groups i ≡ true → ⊥
never_held number groups i none lent = false≢true (sym (nowhere_lent number groups i none) ∙ lent)

-- ---- a change of a group

-- what stands at an index in the group that was changed, with its number as before,
pub holds_here : {X : Type 0} (number : GroupPart → ℕ) (there : GroupPart → ℕ → X) (none : X) (groups : List GroupPart) (at i : ℕ) (next : GroupPart) → number next ≡ number (group_at groups at) → first_of number groups i ≡ Some at → held_by number there none (set groups at next) i ≡ there next i
holds_here number there none [] at i next same found = absurd (cc)
holds_here number there none (g ∷ gs) zero i next same found = let e = found_here (number g == group_of i) (first_of number gs i) found in rw (same, e) refl
holds_here number there none (g ∷ gs) (suc at) i next same found =
    let later = found_later (number g == group_of i) (first_of number gs i) at found in
    rw later.here_not (holds_here number there none gs at i next same later.there)

-- and where it has at an index what it had
pub holds_there : {X : Type 0} (number : GroupPart → ℕ) (there : GroupPart → ℕ → X) (none : X) (groups : List GroupPart) (at u : ℕ) (next : GroupPart) → number next ≡ number (group_at groups at) → there next u ≡ there (group_at groups at) u → held_by number there none (set groups at next) u ≡ held_by number there none groups u
holds_there number there none [] at u next same alike = refl
holds_there number there none (g ∷ gs) zero u next same alike = rw (same, alike) refl
holds_there number there none (g ∷ gs) (suc at) u next same alike = ap (λ x. cond (number g == group_of u) (there g u) x) (holds_there number there none gs at u next same alike)

-- where all is as before but for one index, so it is with what is held
pub holds_one : {X : Type 0} (number : GroupPart → ℕ) (there : GroupPart → ℕ → X) (none : X) (groups : List GroupPart) (at i : ℕ) (next : GroupPart) (x : X) → number next ≡ number (group_at groups at) → first_of number groups i ≡ Some at → there next i ≡ x → ((u : ℕ) → (u ≡ i → ⊥) → there next u ≡ there (group_at groups at) u) →
    (u : ℕ) → held_by number there none (set groups at next) u ≡ cond (u == i) x (held_by number there none groups u)
holds_one number there none groups at i next x same found put others u = by (u == i) refl where
  by : (b : Bool) → (u == i) ≡ b → held_by number there none (set groups at next) u ≡ cond b x (held_by number there none groups u)
  by true e = ap (held_by number there none (set groups at next)) (same_number u i e) ∙ holds_here number there none groups at i next same found ∙ put
  by false e = holds_there number there none groups at u next same (others u (λ q. grind (arith, nat_tests, e, q)))

pub frames_same : (groups : List GroupPart) (at : ℕ) (group : GroupPart) → group_frame group ≡ group_frame (group_at groups at) → group_frames (set groups at group) ≡ group_frames groups
frames_same groups at group same = map-set_same group_frame groups at group no_group same

-- where the semaphores that groups hold are the same, so are those of the state, and so it is with barriers, partitions and periods
pub semaphores_same : (old new : List GroupPart) → ((u : ℕ) → semaphore_held new u ≡ semaphore_held old u) → semaphores_of new ≡ semaphores_of old
unfolding semaphores_of
semaphores_same old new same = same_listed (semaphore_held new) (semaphore_held old) 1 64 same

pub barriers_same : (old new : List GroupPart) → ((u : ℕ) → barrier_held new u ≡ barrier_held old u) → barriers_of new ≡ barriers_of old
unfolding barriers_of
barriers_same old new same = same_listed (barrier_held new) (barrier_held old) 1 64 same

pub partitions_same : (old new : List GroupPart) → ((u : ℕ) → partition_held new u ≡ partition_held old u) → partitions_of new ≡ partitions_of old
unfolding partitions_of
partitions_same old new same = same_listed (partition_held new) (partition_held old) 1 64 same

pub periods_same : (old new : List GroupPart) → ((u : ℕ) → period_held new u ≡ period_held old u) → periods_of new ≡ periods_of old
unfolding periods_of
periods_same old new same = same_listed (period_held new) (period_held old) 1 64 same

-- ---- all groups

-- whether the group of an index is lent, by the numbers of the groups
lent_has : (number : GroupPart → ℕ) (groups : List GroupPart) (i : ℕ) → holds number groups i ≡ has (map number groups) (group_of i)
lent_has number [] i = refl
lent_has number (g ∷ gs) i = ap (λ rest. (number g == group_of i) || rest) (lent_has number gs i)

one_of_four : (n : ℕ) → n < 4 → has (0 ∷ 1 ∷ 2 ∷ 3 ∷ []) n ≡ true
one_of_four zero low = refl
one_of_four (suc zero) low = refl
one_of_four (suc (suc zero)) low = refl
one_of_four (suc (suc (suc zero))) low = refl
one_of_four (suc (suc (suc (suc n)))) low = absurd (omega (arith, low))

-- the group of each index is one of four
pub four_hold : (number : GroupPart → ℕ) (groups : List GroupPart) (i : ℕ) → map number groups ≡ 0 ∷ 1 ∷ 2 ∷ 3 ∷ [] → holds number groups i ≡ true
four_hold number groups i four =
    let split = div-add-mod (i - 1) 4 in
    let low : group_of i < 4 = omega (arith, split) in
    lent_has number groups i ∙ ap (λ ns. has ns (group_of i)) four ∙ one_of_four (group_of i) low

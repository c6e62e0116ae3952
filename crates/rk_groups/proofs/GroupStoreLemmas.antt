-- The objects of a class that lent groups have in their stores, and a change of one of them.
use Rattle.std.proofs.Common.{◌≡◌, ℕ, ◌≤◌, List, cond, ◌==◌, Some, length, arith, sym, ap, ◌∙◌, get_or, set}
use Rattle.rk_model.specs.Lists.{with_nth}
use Rattle.rk_model.proofs.IndexLemmas.{nth-with_other, nth-with_same}
use Rattle.rk_places.specs.Stores.{Store, IsOfGroup, IsStoreOf, stored_at, put_at}
use Rattle.rk_groups.specs.declared.group.GroupPart.{GroupPart}
use Rattle.rk_groups.specs.GroupObjects.{held_by}
use Rattle.rk_groups.specs.Groups.{no_group, group_at, first_of}
use Rattle.rk_groups.proofs.FoundGroupLemmas.{found_number, found_inside, found_holds, holds_one}
use Rattle.rk_groups.proofs.ListedLemmas.{get_or-any}

module _ {X : Type 0} (none : X) (store : GroupPart → Store X) where
  -- the number of a group, and what it has at an index
  abbrev number_of : GroupPart → ℕ
  number_of group = (store group).group

  abbrev there : GroupPart → ℕ → X
  there group i = stored_at none (store group) i

  -- the group at a place, whatever stands for none
  pub found_group : (groups : List GroupPart) (at i : ℕ) (group : GroupPart) → Some at ≡ first_of number_of groups i → group_at groups at ≡ get_or groups at group
  found_group groups at i group found = get_or-any groups at no_group group (found_inside number_of groups at i (sym found))

  -- where the group of an index is found, the index is that of the group,
  pub found_index : (groups : List GroupPart) (at i : ℕ) (group : GroupPart) → 1 ≤ i → i ≤ 64 → Some at ≡ first_of number_of groups i → IsOfGroup (store (get_or groups at group)).group i
  found_index groups at i group low high found =
      record { low = low; high = high; of = sym (found_number number_of groups at i (sym found)) ∙ ap (λ (g : GroupPart). (store g).group) (found_group groups at i group found) }

  -- what it has there is what the groups hold,
  pub found_stands : (groups : List GroupPart) (at i : ℕ) (group : GroupPart) → Some at ≡ first_of number_of groups i → there (get_or groups at group) i ≡ held_by number_of there none groups i
  found_stands groups at i group found =
      sym (found_holds number_of there none groups at i (sym found) ∙ ap (λ (g : GroupPart). there g i) (found_group groups at i group found))

  -- and where something else is put there, the groups hold that, and what they held at each other index
  pub found_put : (groups : List GroupPart) (at i : ℕ) (next : GroupPart) (x : X) → 1 ≤ i → i ≤ 64 → first_of number_of groups i ≡ Some at → IsStoreOf none (store (group_at groups at)) → store next ≡ put_at (store (group_at groups at)) i x →
      (u : ℕ) → held_by number_of there none (set groups at next) u ≡ cond (u == i) x (held_by number_of there none groups u)
  found_put groups at i next x low high found is put =
      let places : (store next).places ≡ with_nth (store (group_at groups at)).places i x = ap (λ (s : Store X). s.places) put in
      let within : i ≤ length (store (group_at groups at)).places = omega (arith, high, is.count) in
      holds_one number_of there none groups at i next x (ap (λ (s : Store X). s.group) put) found
      (ap (λ (s : Store X). stored_at none s i) put ∙ nth-with_same none x (store (group_at groups at)).places i low within)
      (λ u other. ap (λ (s : Store X). stored_at none s u) put ∙ nth-with_other none x (store (group_at groups at)).places i u other)

-- Sets of indices of objects.
use Rattle.std.specs.Prelude.{ℕ, zero, suc, ◌≡◌, ◌<◌, ◌≤◌, Bool, true, false, ◌&&◌, ◌==◌, not, nat_lt}
use Rattle.std.specs.Int.{bit_at}
use Rattle.rk_model.specs.declared.limits.TheConstants.{MOST_OBJECTS}
use Rattle.rk_model.specs.declared.index_set.IndexSet.{IndexSet}

-- whether an index, from 1 to 64, is in a set
unfoldable pub is_in : IndexSet → ℕ → Bool
is_in set zero = false
is_in set (suc bit) = nat_lt bit MOST_OBJECTS && (bit_at set.marks bit == 1)

-- a number that falls with each index that is taken out of a set
abbrev pub weight : IndexSet → ℕ
weight set = set.marks

-- The index was in the set, and has been taken out of it.
pub record IsTaken (old : IndexSet) (index : ℕ) (new : IndexSet) : Type 0 where
  pub low : 1 ≤ index
  pub high : index ≤ MOST_OBJECTS
  pub there : is_in old index ≡ true
  pub rest : (i : ℕ) → is_in new i ≡ (not (index == i) && is_in old i)
  pub fewer : weight new < weight old

-- Contributions to the priorities of threads, by look-up.
use Rattle.std.specs.Prelude.{ℕ, ◌≡◌, ◌+◌, ◌*◌, ◌-◌, List, Bool, true, false, ◌&&◌, ◌==◌, nat_lt, Option, Some, None, is_some, length, replicate, if◌then◌else◌}
use Rattle.rk_model.specs.declared.limits.TheConstants.{MOST_CLUSTERS, MOST_OBJECTS}
use Rattle.std.specs.List.{slice_index_or}
use Rattle.rk_model.specs.IndexSets.{is_in}
use Rattle.rk_model.specs.declared.index_set.IndexSet.{IndexSet}
use Rattle.rk_model.specs.Lists.{nth}
use Rattle.rk_model.specs.Scheduling.Priorities.{lesser_of, least_of}
use Rattle.rk_agg.specs.declared.aggregates.TheConstants.{MOST_ROWS, MOST_SHARES}

-- what each of the 64 threads contributes to each of them in each of the four clusters: 64 sources for each thread and cluster
abbrev pub Shares : Type 0
Shares = List (Option ℕ)

-- whether this is one of the 64 threads
abbrev pub is_one : ℕ → Bool
is_one t = nat_lt 0 t && nat_lt t (MOST_OBJECTS + 1)

-- whether these are a thread and a cluster
abbrev pub is_row : ℕ → ℕ → Bool
is_row t c = is_one t && nat_lt c MOST_CLUSTERS

-- where a thread and a cluster stand among all, from 0
abbrev pub row_at : ℕ → ℕ → ℕ
row_at t c = (t - 1) * MOST_CLUSTERS + c

-- the same, from 1
abbrev pub row_of : ℕ → ℕ → ℕ
row_of t c = row_at t c + 1

-- where the contribution of a thread, which comes last, to another in a cluster stands, from 1
abbrev pub cell_of : ℕ → ℕ → ℕ → ℕ
cell_of t c u = ((t - 1) * MOST_CLUSTERS + c) * MOST_OBJECTS + u

-- the priority that a thread contributes to another in a cluster, if it contributes one
unfoldable pub found : Shares → ℕ → ℕ → ℕ → Option ℕ
found xs t c u = if is_row t c && is_one u then nth None xs (cell_of t c u) else None

-- so many cells without a contribution
unfoldable pub nones : ℕ → Shares
nones n = replicate n None

-- no contributions
abbrev pub no_shares : Shares
no_shares = nones MOST_SHARES

-- whether two look-ups are the same
abbrev pub is_same : ℕ → ℕ → ℕ → ℕ → ℕ → ℕ → Bool
is_same t c u v d w = (t == v) && ((c == d) && (u == w))

-- the contributions with this one, or none, of a thread to another in a cluster, and the others as before
abbrev pub with_found : ℕ → ℕ → ℕ → Option ℕ → (ℕ → ℕ → ℕ → Option ℕ) → ℕ → ℕ → ℕ → Option ℕ
with_found t c u share before v d w = if is_same t c u v d w then share else before v d w

-- the lesser of two priorities, of which each may be none
abbrev pub lesser_prio : Option ℕ → Option ℕ → Option ℕ
lesser_prio one other = lesser_of one other

-- whether two priorities are the same, of which each may be none
abbrev pub is_same_prio : Option ℕ → Option ℕ → Bool
is_same_prio None None = true
is_same_prio None (Some q) = false
is_same_prio (Some p) None = false
is_same_prio (Some p) (Some q) = p == q

-- the least of the priorities of all threads that have one
unfoldable pub least_source : (ℕ → Option ℕ) → Option ℕ
least_source f = least_of f 1 MOST_OBJECTS

-- the set of no index
abbrev pub no_indices : IndexSet
no_indices = record { marks = 0 }

-- the set that stands for a thread in a cluster
abbrev pub set_at : List IndexSet → ℕ → ℕ → IndexSet
set_at sets t c = slice_index_or sets (row_at t c) no_indices

-- For each thread and cluster there are the set of the threads that contribute to it there, and the set of those to which it contributes there.
pub record AreIndexed (cells : Shares) (sources targets : List IndexSet) : Type 0 where
  pub sources_each : length sources ≡ MOST_ROWS
  pub targets_each : length targets ≡ MOST_ROWS
  pub are_sources : (t c u : ℕ) → is_row t c ≡ true → is_in (set_at sources t c) u ≡ is_some (found cells t c u)
  pub are_targets : (t c u : ℕ) → is_row u c ≡ true → is_in (set_at targets u c) t ≡ is_some (found cells t c u)

-- There is a cell for each contribution, and for each thread and cluster the least of the contributions.
pub record AreLeast (cells least : Shares) : Type 0 where
  pub cells_each : length cells ≡ MOST_SHARES
  pub rows_each : length least ≡ MOST_ROWS
  pub is_least : (t c : ℕ) → is_row t c ≡ true → nth None least (row_of t c) ≡ least_source (found cells t c)

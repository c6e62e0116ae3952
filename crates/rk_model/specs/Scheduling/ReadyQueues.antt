-- The ready queues of clusters, their scheduled threads, and the assignment of processors. What a thread's priority is comes as a function.
use Rattle.std.specs.Prelude.{ℕ, zero, suc, ◌+◌, List, [], ◌∷◌, ◌++◌, Bool, false, ◌||◌, not, Option, Some, None, nat_lt, nat_le, ◌==◌, map, filter, length, count_by, if◌then◌else◌}
use Rattle.std.specs.Option.{option_to_list}
use Rattle.rk_model.specs.Lists.{has}
use Rattle.rk_model.specs.State.{Plain, cluster_at}
use Rattle.rk_model.specs.Scheduling.Priorities.{urgency}

-- How many threads of its ready queue are more urgent than a thread: those in front of it whose priority is its own or less, and those behind it whose priority is less.
abbrev pub rank : (ℕ → ℕ) → List ℕ → ℕ → List ℕ → ℕ
rank key front t back = count_by (λ u. nat_le (key u) (key t)) front + count_by (λ u. nat_lt (key u) (key t)) back

-- of the threads behind a front, the first that has n more urgent ones in the whole ready queue
abbrev pub ranked_from : (ℕ → ℕ) → ℕ → List ℕ → List ℕ → Option ℕ
ranked_from key n front [] = None
ranked_from key n front (t ∷ back) = if rank key front t back == n then Some t else ranked_from key n (front ++ t ∷ []) back

-- the thread of a ready queue with exactly n more urgent ones
abbrev pub nth_urgent : (ℕ → ℕ) → ℕ → List ℕ → Option ℕ
nth_urgent key n line = ranked_from key n [] line

-- the threads of a ready queue with fewer than m more urgent ones, the most urgent first
abbrev pub most_urgent : (ℕ → ℕ) → ℕ → List ℕ → List ℕ
most_urgent key zero line = []
most_urgent key (suc m) line = most_urgent key m line ++ option_to_list (nth_urgent key m line)

-- The scheduled threads (runners) of a cluster: the threads of its ready queue with fewer more urgent ones than it has processors, the most urgent first.
abbrev pub runners : Plain → ℕ → List ℕ
runners k c = most_urgent (urgency k c) (length (cluster_at k c).cpus) (cluster_at k c).line

-- whether a processor has the thread
abbrev pub has_cpu : List (Option ℕ) → ℕ → Bool
has_cpu [] t = false
has_cpu (None ∷ cpus) t = has_cpu cpus t
has_cpu (Some u ∷ cpus) t = (u == t) || has_cpu cpus t

-- what stays on a processor: a scheduled thread
abbrev pub kept : List ℕ → Option ℕ → Option ℕ
kept running None = None
kept running (Some t) = if has running t then Some t else None

-- the free processors, in rising number, take the threads in order
abbrev pub filled : List (Option ℕ) → List ℕ → List (Option ℕ)
filled [] ts = []
filled (Some u ∷ cpus) ts = Some u ∷ filled cpus ts
filled (None ∷ cpus) [] = None ∷ filled cpus []
filled (None ∷ cpus) (t ∷ ts) = Some t ∷ filled cpus ts

-- A scheduled thread that had a processor keeps it. The other ones, the most urgent first, take the free processors in rising number.
abbrev pub assigned : List (Option ℕ) → List ℕ → List (Option ℕ)
assigned old running = filled (map (kept running) old) (filter (λ t. not (has_cpu old t)) running)

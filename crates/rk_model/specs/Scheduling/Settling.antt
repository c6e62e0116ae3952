-- Rescheduling (settling): how ready queues and processors follow a change of the state.
use Rattle.std.specs.Prelude.{ℕ, ◌+◌, List, [], ◌∷◌, ◌++◌, Bool, true, false, not, nat_lt, ◌==◌, Option, Some, None, filter, length, if◌then◌else◌}
use Rattle.std.specs.List.{range_with_len}
use Rattle.rk_model.specs.declared.settling.Standing.{Standing}
use Rattle.rk_model.specs.declared.settling.Shift.{Shift}
use Rattle.rk_model.specs.declared.settling.Shift.TheVariants.{Stay, Leave, ToEnd, ToFront}
use Rattle.rk_model.specs.Lists.{has}
use Rattle.rk_model.specs.State.{Plain, ClusterState}
use Rattle.rk_model.specs.Scheduling.Priorities.{standings, nth_standing}
use Rattle.rk_model.specs.Scheduling.ReadyQueues.{assigned, runners}

-- whether this is the number of a cluster
abbrev pub is_cluster : ℕ → Option ℕ → Bool
is_cluster c None = false
is_cluster c (Some d) = d == c

-- whether a thread that stands so belongs in the ready queue of a cluster
abbrev pub belongs : ℕ → Standing → Bool
belongs c standing = is_cluster c standing.cluster

-- What settling asks in a cluster of a thread that stood so before and stands so now. A thread that goes last yielded or had its base priority set.
-- One that doesn't belong in the ready queue leaves it. Of those that belong there, one that didn't before, one whose priority became less, and one that goes last go to the end; of the others, one whose priority became greater goes to the front.
unfoldable pub shift_of : ℕ → Standing → Standing → Bool → Shift
shift_of c before now last =
    if not (belongs c now) then Leave
    else (if not (belongs c before) then ToEnd
    else (if nat_lt now.prio before.prio then ToEnd
    else (if last then ToEnd
    else (if nat_lt before.prio now.prio then ToFront
    else Stay))))

-- the shift of each thread in a cluster, by how the threads stood before and stand now, and by those that go last
unfoldable pub shifts : List Standing → List Standing → List ℕ → ℕ → ℕ → Shift
shifts before now last c t = shift_of c (nth_standing before t) (nth_standing now t) (has last t)

abbrev pub is_stay : Shift → Bool
is_stay Stay = true
is_stay Leave = false
is_stay ToEnd = false
is_stay ToFront = false

abbrev pub is_to_end : Shift → Bool
is_to_end Stay = false
is_to_end Leave = false
is_to_end ToEnd = true
is_to_end ToFront = false

abbrev pub is_to_front : Shift → Bool
is_to_front Stay = false
is_to_front Leave = false
is_to_front ToEnd = false
is_to_front ToFront = true

-- the threads, of so many, that make such a shift, in rising index
abbrev pub making : (Shift → Bool) → (ℕ → Shift) → ℕ → List ℕ
making test shift n = filter (λ t. test (shift t)) (range_with_len 1 n)

-- A ready queue after the shifts of so many threads: those that go to the front, those that stay in their order, and those that go to the end.
abbrev pub shifted : (ℕ → Shift) → ℕ → List ℕ → List ℕ
shifted shift n line = making is_to_front shift n ++ filter (λ t. is_stay (shift t)) line ++ making is_to_end shift n

-- the clusters from a number on, whose ready queues have followed the shifts of so many threads
abbrev pub shifted_from : (ℕ → ℕ → Shift) → ℕ → ℕ → List ClusterState → List ClusterState
shifted_from shift n c [] = []
shifted_from shift n c (cluster ∷ clusters) = record cluster { line = shifted (shift c) n cluster.line } ∷ shifted_from shift n (c + 1) clusters

-- the state after a change in which the ready queues have followed it, where the threads stood like this before
abbrev pub shifted_by : List Standing → Plain → List ℕ → Plain
shifted_by stood now last = record now { clusters = shifted_from (shifts stood (standings now) last) (length now.threads) 0 now.clusters }

-- the clusters from a number on, with their processors assigned to their scheduled threads in a state
abbrev pub assigned_from : Plain → ℕ → List ClusterState → List ClusterState
assigned_from k c [] = []
assigned_from k c (cluster ∷ clusters) = record cluster { cpus = assigned cluster.cpus (runners k c) } ∷ assigned_from k (c + 1) clusters

-- the state in which the processors of each cluster are assigned to its scheduled threads
abbrev pub with_runners : Plain → Plain
with_runners k = record k { clusters = assigned_from k 0 k.clusters }

-- the state after a change, settled, where the threads stood like this before it; now has the ready queues of before
abbrev pub settle_by : List Standing → Plain → List ℕ → Plain
settle_by stood now last = with_runners (shifted_by stood now last)

-- The state after a change, settled: before is the state before the change, now is the one after it, whose ready queues are still those of before, and the threads of last yielded or had their base priority set. All ready queues follow the change, and then the processors are assigned.
abbrev pub settle : Plain → Plain → List ℕ → Plain
settle before now last = settle_by (standings before) now last

-- The threads, the clusters and the turns of queues, and queues that were changed.
use Rattle.std.proofs.Common.{length-append, ◌≡◌, ℕ, suc, ◌+◌, ◌<◌, ◌≤◌, List, [], ◌∷◌, ◌++◌, Bool, true, false, cond, not, ◌||◌, ◌==◌, length, map, ltb, arith, refl, sym, ap, ◌∙◌, subst}
use Rattle.std.specs.List.{remove, slice_set, slice_index_or}
use Rattle.std.proofs.lemmas.List.{map-append, length-map}
use Rattle.std.proofs.lemmas.Bool.{false≢true}
use Rattle.std.proofs.lemmas.Bool.Decides.{nat_tests}
use Rattle.rk_model.specs.Lists.{has, times}
use Rattle.rk_model.proofs.BooleanLemmas.{equal_test, same_number}
use Rattle.rk_model.proofs.CountLemmas.{times-append, times-has, has_times, times_none, has_none, has-append, times-filter, length_within, length_by_times}
use Rattle.rk_model.proofs.KeyLemmas.{has_position, position_at, position_within, times-without, alone_by, removed, without_none}
use Rattle.rk_model.specs.declared.waiting.Waiter.{Waiter}
use Rattle.rk_model.specs.Queues.{threads, clusters, without, cluster_of, with_prio, with_turn, without_turn, turns_kept, turns_taken, IsQueue}

-- what waiters are known by
abbrev pub key : Waiter → ℕ
key waiter = waiter.thread

pub threads-append : (xs ys : List Waiter) → threads (xs ++ ys) ≡ threads xs ++ threads ys
threads-append xs ys = map-append _ xs ys

pub clusters-append : (xs ys : List Waiter) → clusters (xs ++ ys) ≡ clusters xs ++ clusters ys
clusters-append xs ys = map-append _ xs ys

pub length-threads : (waiters : List Waiter) → length (threads waiters) ≡ length waiters
length-threads waiters = length-map waiters _

pub length-clusters : (waiters : List Waiter) → length (clusters waiters) ≡ length waiters
length-clusters waiters = length-map waiters _

-- How often a thread waits where one more waiter came,
pub times-entered : (t : ℕ) (waiters : List Waiter) (waiter : Waiter) → times t (threads (waiters ++ waiter ∷ [])) ≡ times t (threads waiters) + cond (waiter.thread == t) 1 0
times-entered t waiters waiter =
    let split : times t (threads (waiters ++ waiter ∷ [])) ≡ times t (threads waiters) + times t (threads (waiter ∷ [])) = ap (times t) (threads-append waiters (waiter ∷ [])) ∙ times-append t (threads waiters) (threads (waiter ∷ [])) in
    omega (arith, split)

-- where a thread left,
pub times-left : (u t : ℕ) (waiters : List Waiter) → times u (threads (without t waiters)) ≡ cond (not (u == t)) (times u (threads waiters)) 0
times-left u t waiters = times-without key u t waiters

-- and at most as often as before.
pub times-left-le : (u t : ℕ) (waiters : List Waiter) → times u (threads (without t waiters)) ≤ times u (threads waiters)
times-left-le u t waiters = by (not (u == t)) (times-left u t waiters) where
  by : (b : Bool) → times u (threads (without t waiters)) ≡ cond b (times u (threads waiters)) 0 → times u (threads (without t waiters)) ≤ times u (threads waiters)
  by true h = omega (arith, h)
  by false h = omega (arith, h)

-- Whether a thread waits where one more waiter came,
pub has-entered : (t : ℕ) (waiters : List Waiter) (waiter : Waiter) → has (threads (waiters ++ waiter ∷ [])) t ≡ (has (threads waiters) t || (waiter.thread == t))
has-entered t waiters waiter = ap (λ (us : List ℕ). has us t) (threads-append waiters (waiter ∷ [])) ∙ (has-append (threads waiters) (threads (waiter ∷ [])) t ∙ last (waiter.thread == t)) where
  last : (b : Bool) → (has (threads waiters) t || (b || false)) ≡ (has (threads waiters) t || b)
  last true = refl
  last false = refl

-- and of a cluster.
pub has_cluster-entered : (c : ℕ) (waiters : List Waiter) (waiter : Waiter) → has (clusters (waiters ++ waiter ∷ [])) c ≡ (has (clusters waiters) c || (waiter.cluster == c))
has_cluster-entered c waiters waiter = ap (λ (us : List ℕ). has us c) (clusters-append waiters (waiter ∷ [])) ∙ (has-append (clusters waiters) (clusters (waiter ∷ [])) c ∙ last (waiter.cluster == c)) where
  last : (b : Bool) → (has (clusters waiters) c || (b || false)) ≡ (has (clusters waiters) c || b)
  last true = refl
  last false = refl

gone_by : (t : ℕ) (waiter : Waiter) (next : List Waiter) (b : Bool) → (waiter.thread == t) ≡ b → has (threads next) t ≡ false → has (threads (cond (not b) (waiter ∷ next) next)) t ≡ false
gone_by t waiter next true h none = none
gone_by t waiter next false h none = rw h none

-- Where a thread left it doesn't wait,
pub gone : (t : ℕ) (waiters : List Waiter) → has (threads (without t waiters)) t ≡ false
gone t [] = refl
gone t (waiter ∷ waiters) = gone_by t waiter (without t waiters) (waiter.thread == t) refl (gone t waiters)

still_by : (u t : ℕ) (waiter : Waiter) (next waiters : List Waiter) (b : Bool) → (waiter.thread == t) ≡ b → (u == t) ≡ false → has (threads next) u ≡ has (threads waiters) u → has (threads (cond (not b) (waiter ∷ next) next)) u ≡ ((waiter.thread == u) || has (threads waiters) u)
still_by u t waiter next waiters true e h more =
    let other : (waiter.thread == u) ≡ false = grind (arith, nat_tests, e, h) in
    rw (other, more) refl
still_by u t waiter next waiters false e h more = rw more refl

-- and each other thread waits as before.
pub still : (u t : ℕ) (waiters : List Waiter) → (u == t) ≡ false → has (threads (without t waiters)) u ≡ has (threads waiters) u
still u t [] h = refl
still u t (waiter ∷ waiters) h = still_by u t waiter (without t waiters) waiters (waiter.thread == t) refl h (still u t waiters h)

same_thread : (b : Bool) (p : ℕ) (waiter : Waiter) → (let changed : Waiter = cond b (record waiter { prio = p }) waiter in changed.thread) ≡ waiter.thread
same_thread true p waiter = refl
same_thread false p waiter = refl

-- Another priority changes no thread,
pub threads-with_prio : (t p : ℕ) (waiters : List Waiter) → threads (with_prio t p waiters) ≡ threads waiters
threads-with_prio t p [] = refl
threads-with_prio t p (waiter ∷ waiters) = rw (same_thread (waiter.thread == t) p waiter) (ap (λ (ys : List ℕ). waiter.thread ∷ ys) (threads-with_prio t p waiters))

same_cluster : (b : Bool) (p : ℕ) (waiter : Waiter) → (let changed : Waiter = cond b (record waiter { prio = p }) waiter in changed.cluster) ≡ waiter.cluster
same_cluster true p waiter = refl
same_cluster false p waiter = refl

-- and no cluster.
pub clusters-with_prio : (t p : ℕ) (waiters : List Waiter) → clusters (with_prio t p waiters) ≡ clusters waiters
clusters-with_prio t p [] = refl
clusters-with_prio t p (waiter ∷ waiters) = rw (same_cluster (waiter.thread == t) p waiter) (ap (λ (ys : List ℕ). waiter.cluster ∷ ys) (clusters-with_prio t p waiters))

-- The clusters of the waiters:

-- that of a thread that waits
pub cluster_waits : (t : ℕ) (waiters : List Waiter) → has (threads waiters) t ≡ true → has (clusters waiters) (cluster_of t waiters) ≡ true
cluster_waits t [] h = absurd (false≢true h)
cluster_waits t (waiter ∷ waiters) h = by (waiter.thread == t) h (cluster_waits t waiters) where
  by : (b : Bool) → (b || has (threads waiters) t) ≡ true → (has (threads waiters) t ≡ true → has (clusters waiters) (cluster_of t waiters) ≡ true) → ((waiter.cluster == cond b waiter.cluster (cluster_of t waiters)) || has (clusters waiters) (cond b waiter.cluster (cluster_of t waiters))) ≡ true
  by true h more = rw (equal_test waiter.cluster waiter.cluster refl) refl
  by false h more = grind (arith, nat_tests, more h)

-- the code finds it at the thread's place
pub cluster_at : (t : ℕ) (waiters : List Waiter) (x : Waiter) → has (threads waiters) t ≡ true → (let found : Waiter = slice_index_or waiters (position_at key t waiters) x in found.cluster) ≡ cluster_of t waiters
cluster_at t [] x h = absurd (false≢true h)
cluster_at t (waiter ∷ waiters) x h = by (waiter.thread == t) h (cluster_at t waiters x) where
  by : (b : Bool) → (b || has (threads waiters) t) ≡ true → (has (threads waiters) t ≡ true → (let found : Waiter = slice_index_or waiters (position_at key t waiters) x in found.cluster) ≡ cluster_of t waiters) → (let found : Waiter = slice_index_or (waiter ∷ waiters) (cond (not b) (1 + position_at key t waiters) 0) x in found.cluster) ≡ cond b waiter.cluster (cluster_of t waiters)
  by true h more = refl
  by false h more = let step : 1 + position_at key t waiters ≡ suc (position_at key t waiters) = omega arith in rw step (more h)

-- where a thread left, waiters of each other cluster are as before
pub other_clusters : (c t : ℕ) (waiters : List Waiter) → times t (threads waiters) ≤ 1 → has (threads waiters) t ≡ true → (cluster_of t waiters == c) ≡ false → has (clusters (without t waiters)) c ≡ has (clusters waiters) c
other_clusters c t [] once h other = refl
other_clusters c t (waiter ∷ waiters) once h other = by (waiter.thread == t) refl once h other (λ few. other_clusters c t waiters few) where
  by : (b : Bool) → (waiter.thread == t) ≡ b → times t (threads (waiter ∷ waiters)) ≤ 1 → (b || has (threads waiters) t) ≡ true → (cond b waiter.cluster (cluster_of t waiters) == c) ≡ false → (times t (threads waiters) ≤ 1 → has (threads waiters) t ≡ true → (cluster_of t waiters == c) ≡ false → has (clusters (without t waiters)) c ≡ has (clusters waiters) c) → has (clusters (cond (not b) (waiter ∷ without t waiters) (without t waiters))) c ≡ ((waiter.cluster == c) || has (clusters waiters) c)
  by true e once h other more =
      rw other (ap (λ (ws : List Waiter). has (clusters ws) c) (without_none key t waiters (alone_by key t waiter waiters once e)))
  by false e once h other more =
      let few : times t (threads waiters) ≤ 1 = omega (arith, once) in
      ap (λ b. (waiter.cluster == c) || b) (more few h other)

-- The turns:

-- the turn of a cluster
abbrev pub turn_key : ℕ → ℕ
turn_key turn = turn

same_keys : (turns : List ℕ) → map turn_key turns ≡ turns
same_keys [] = refl
same_keys (turn ∷ turns) = ap (λ (rest : List ℕ). turn ∷ rest) (same_keys turns)

-- the one turn of a cluster is taken out at its place
pub turn_taken : (c : ℕ) (turns : List ℕ) → times c turns ≡ 1 → remove turns (position_at turn_key c turns) ≡ without_turn c turns
turn_taken c turns one = removed turn_key c turns (rw (same_keys turns) (omega (arith, one)))

pub turn_there : (c : ℕ) (turns : List ℕ) → times c turns ≡ 1 → position_at turn_key c turns < length turns
turn_there c turns one = position_within turn_key c turns (rw (same_keys turns) (has_times c turns (omega (arith, one))))

times-without_turn : (c d : ℕ) (turns : List ℕ) → times c (without_turn d turns) ≡ cond (not (c == d)) (times c turns) 0
times-without_turn c d turns = times-filter (λ (k : ℕ). not (k == d)) c turns

-- a cluster whose turn was taken out has none, and the others keep theirs
pub no_turn : (c : ℕ) (turns : List ℕ) → times c (without_turn c turns) ≡ 0
no_turn c turns = rw (equal_test c c refl) at (times-without_turn c c turns)

pub other_turn : (c d : ℕ) (turns : List ℕ) → (d == c) ≡ false → times c (without_turn d turns) ≡ times c turns
other_turn c d turns h = let differs : (c == d) ≡ false = grind (arith, nat_tests, h) in rw differs at (times-without_turn c d turns)

-- Queues:

-- There are at most 64 waiters,
pub queue_few : (waiters : List Waiter) (turns : List ℕ) → IsQueue waiters turns → length waiters ≤ 64
queue_few waiters turns is = rw length-threads at (length_within 64 (threads waiters) is.once is.within)

-- no more turns than waiters,
pub turns_few : (waiters : List Waiter) (turns : List ℕ) → IsQueue waiters turns → length turns ≤ length waiters
turns_few waiters turns is = rw length-clusters at (length_by_times turns (clusters waiters) no_more) where
  by : (c : ℕ) (b : Bool) → has (clusters waiters) c ≡ b → times c turns ≡ cond b 1 0 → times c turns ≤ times c (clusters waiters)
  by c true e h = omega (arith, h, times-has c (clusters waiters) e)
  by c false e h = omega (arith, h)

  no_more : (c : ℕ) → times c turns ≤ times c (clusters waiters)
  no_more c = by c (has (clusters waiters) c) refl (is.turn c)

-- a cluster has a turn exactly where a waiter is of it,
pub turn_waits : (waiters : List Waiter) (turns : List ℕ) (c : ℕ) → IsQueue waiters turns → has turns c ≡ has (clusters waiters) c
turn_waits waiters turns c is = by (has (clusters waiters) c) (is.turn c) where
  by : (b : Bool) → times c turns ≡ cond b 1 0 → has turns c ≡ b
  by true h = has_times c turns (omega (arith, h))
  by false h = has_none c turns h

-- and that of a waiter one.
pub one_turn : (waiters : List Waiter) (turns : List ℕ) (t : ℕ) → IsQueue waiters turns → has (threads waiters) t ≡ true → times (cluster_of t waiters) turns ≡ 1
one_turn waiters turns t is h = rw (cluster_waits t waiters h) at (is.turn (cluster_of t waiters))

pub queue_empty : IsQueue [] []
queue_empty = record { once = λ t. omega arith; within = λ t h. absurd (false≢true h); turn = λ c. refl }

-- A thread that comes:

pub once_entered : (waiters : List Waiter) (waiter : Waiter) → ((t : ℕ) → times t (threads waiters) ≤ 1) → has (threads waiters) waiter.thread ≡ false → (t : ℕ) → times t (threads (waiters ++ waiter ∷ [])) ≤ 1
once_entered waiters waiter once none t = by (waiter.thread == t) refl (times-entered t waiters waiter) where
  by : (b : Bool) → (waiter.thread == t) ≡ b → times t (threads (waiters ++ waiter ∷ [])) ≡ times t (threads waiters) + cond b 1 0 → times t (threads (waiters ++ waiter ∷ [])) ≤ 1
  by true e h = let absent : times t (threads waiters) ≡ 0 = subst (λ v. times v (threads waiters) ≡ 0) (same_number waiter.thread t e) (times_none waiter.thread (threads waiters) none) in omega (arith, h, absent)
  by false e h = omega (arith, h, once t)

pub within_entered : (waiters : List Waiter) (waiter : Waiter) → ((t : ℕ) → has (threads waiters) t ≡ true → (1 ≤ t) × (t ≤ 64)) → 1 ≤ waiter.thread → waiter.thread ≤ 64 → (t : ℕ) → has (threads (waiters ++ waiter ∷ [])) t ≡ true → (1 ≤ t) × (t ≤ 64)
within_entered waiters waiter within low high t h = by (waiter.thread == t) refl (has (threads waiters) t) refl (sym (has-entered t waiters waiter) ∙ h) where
  by : (b : Bool) → (waiter.thread == t) ≡ b → (before : Bool) → has (threads waiters) t ≡ before → (before || b) ≡ true → (1 ≤ t) × (t ≤ 64)
  by b e true stands h = within t stands
  by true e false stands h = subst (λ v. (1 ≤ v) × (v ≤ 64)) (same_number waiter.thread t e) (low, high)
  by false e false stands h = absurd (false≢true h)

-- there is room for it,
pub queue_room : (waiters : List Waiter) (turns : List ℕ) (waiter : Waiter) → IsQueue waiters turns → has (threads waiters) waiter.thread ≡ false → 1 ≤ waiter.thread → waiter.thread ≤ 64 → length waiters < 64
queue_room waiters turns waiter is none low high =
    let few : length (waiters ++ waiter ∷ []) ≤ 64 = rw length-threads at (length_within 64 (threads (waiters ++ waiter ∷ [])) (once_entered waiters waiter is.once none) (within_entered waiters waiter is.within low high)) in
    omega (arith, few, length-append waiters (waiter ∷ []))

-- and for a turn of its cluster,
pub turn_room : (waiters : List Waiter) (turns : List ℕ) (waiter : Waiter) → IsQueue waiters turns → has (threads waiters) waiter.thread ≡ false → 1 ≤ waiter.thread → waiter.thread ≤ 64 → length turns < 64
turn_room waiters turns waiter is none low high = omega (arith, turns_few waiters turns is, queue_room waiters turns waiter is none low high)

turn_entered_by : (c d : ℕ) (turns : List ℕ) (before : Bool) (b : Bool) → has turns d ≡ b → (same : Bool) → (d == c) ≡ same → times c turns ≡ cond before 1 0 → times c (cond b turns (turns ++ d ∷ [])) ≡ cond (before || same) 1 0
turn_entered_by c d turns before true e true is h =
    let stands : 0 < times c turns = subst (λ k. 0 < times k turns) (same_number d c is) (times-has d turns e) in
    by before stands h where
      by : (before : Bool) → 0 < times c turns → times c turns ≡ cond before 1 0 → times c turns ≡ cond (before || true) 1 0
      by true stands h = h
      by false stands h = absurd (omega (arith, stands, h))
turn_entered_by c d turns before true e false is h = by before h where
  by : (before : Bool) → times c turns ≡ cond before 1 0 → times c turns ≡ cond (before || false) 1 0
  by true h = h
  by false h = h
turn_entered_by c d turns before false e true is h =
    let absent : times c turns ≡ 0 = subst (λ k. times k turns ≡ 0) (same_number d c is) (times_none d turns e) in
    by before absent where
      by : (before : Bool) → times c turns ≡ 0 → times c (turns ++ d ∷ []) ≡ cond (before || true) 1 0
      by true absent = times-append c turns (d ∷ []) ∙ rw (is, absent) refl
      by false absent = times-append c turns (d ∷ []) ∙ rw (is, absent) refl
turn_entered_by c d turns before false e false is h = by before h where
  by : (before : Bool) → times c turns ≡ cond before 1 0 → times c (turns ++ d ∷ []) ≡ cond (before || false) 1 0
  by true h = times-append c turns (d ∷ []) ∙ rw (is, h) refl
  by false h = times-append c turns (d ∷ []) ∙ rw (is, h) refl

-- and it makes a queue.
pub queue_entered : (waiters : List Waiter) (turns : List ℕ) (waiter : Waiter) → IsQueue waiters turns → has (threads waiters) waiter.thread ≡ false → 1 ≤ waiter.thread → waiter.thread ≤ 64 → IsQueue (waiters ++ waiter ∷ []) (with_turn waiter.cluster turns)
queue_entered waiters turns waiter is none low high =
    record {
      once = once_entered waiters waiter is.once none;
      within = within_entered waiters waiter is.within low high;
      turn = λ c. turn_entered_by c waiter.cluster turns (has (clusters waiters) c) (has turns waiter.cluster) refl (waiter.cluster == c) refl (is.turn c) ∙ ap (λ b. cond b 1 0) (sym (has_cluster-entered c waiters waiter));
    }

-- A thread that leaves:

within_left : (waiters : List Waiter) (t : ℕ) → ((u : ℕ) → has (threads waiters) u ≡ true → (1 ≤ u) × (u ≤ 64)) → (u : ℕ) → has (threads (without t waiters)) u ≡ true → (1 ≤ u) × (u ≤ 64)
within_left waiters t within u h =
    let stands = times-has u (threads (without t waiters)) h in
    let before : 0 < times u (threads waiters) = omega (arith, stands, times-left-le u t waiters) in
    within u (has_times u (threads waiters) before)

turn_kept_by : (c d : ℕ) (turns : List ℕ) (waiters left : List Waiter) (b : Bool) → has (clusters left) d ≡ b → (same : Bool) → (d == c) ≡ same → times c turns ≡ cond (has (clusters waiters) c) 1 0 → times d turns ≡ 1 → ((d == c) ≡ false → has (clusters left) c ≡ has (clusters waiters) c) → times c (cond b turns (without_turn d turns)) ≡ cond (has (clusters left) c) 1 0
turn_kept_by c d turns waiters left true e true is h one others = subst (λ k. times k turns ≡ cond (has (clusters left) k) 1 0) (same_number d c is) (rw e one)
turn_kept_by c d turns waiters left false e true is h one others = subst (λ k. times k (without_turn d turns) ≡ cond (has (clusters left) k) 1 0) (same_number d c is) (rw e (no_turn d turns))
turn_kept_by c d turns waiters left true e false is h one others = rw (others is) h
turn_kept_by c d turns waiters left false e false is h one others = other_turn c d turns is ∙ rw (others is) h

pub queue_left : (waiters : List Waiter) (turns : List ℕ) (t : ℕ) → IsQueue waiters turns → has (threads waiters) t ≡ true → IsQueue (without t waiters) (turns_kept (cluster_of t waiters) (without t waiters) turns)
queue_left waiters turns t is stands =
    record {
      once = λ u. omega (arith, times-left-le u t waiters, is.once u);
      within = within_left waiters t is.within;
      turn = λ c. turn_kept_by c (cluster_of t waiters) turns waiters (without t waiters) _ refl _ refl (is.turn c) (one_turn waiters turns t is stands) (λ other. other_clusters c t waiters (is.once t) stands other);
    }

turn_taken_by : (c d : ℕ) (turns : List ℕ) (waiters left : List Waiter) (b : Bool) → has (clusters left) d ≡ b → (same : Bool) → (d == c) ≡ same → times c turns ≡ cond (has (clusters waiters) c) 1 0 → ((d == c) ≡ false → has (clusters left) c ≡ has (clusters waiters) c) → times c (cond b (without_turn d turns ++ d ∷ []) (without_turn d turns)) ≡ cond (has (clusters left) c) 1 0
turn_taken_by c d turns waiters left true e true is h others =
    subst (λ k. times k (without_turn d turns ++ d ∷ []) ≡ cond (has (clusters left) k) 1 0) (same_number d c is) (rw e (times-append d (without_turn d turns) (d ∷ []) ∙ rw (no_turn d turns, equal_test d d refl) refl))
turn_taken_by c d turns waiters left false e true is h others = subst (λ k. times k (without_turn d turns) ≡ cond (has (clusters left) k) 1 0) (same_number d c is) (rw e (no_turn d turns))
turn_taken_by c d turns waiters left true e false is h others =
    let last : times c (without_turn d turns ++ d ∷ []) ≡ times c turns = let split = times-append c (without_turn d turns) (d ∷ []) in omega (arith, rw is at split, other_turn c d turns is) in
    last ∙ rw (others is) h
turn_taken_by c d turns waiters left false e false is h others = other_turn c d turns is ∙ rw (others is) h

pub queue_served : (waiters : List Waiter) (turns : List ℕ) (t : ℕ) → IsQueue waiters turns → has (threads waiters) t ≡ true → IsQueue (without t waiters) (turns_taken (cluster_of t waiters) (without t waiters) turns)
queue_served waiters turns t is stands =
    record {
      once = λ u. omega (arith, times-left-le u t waiters, is.once u);
      within = within_left waiters t is.within;
      turn = λ c. turn_taken_by c (cluster_of t waiters) turns waiters (without t waiters) _ refl _ refl (is.turn c) (λ other. other_clusters c t waiters (is.once t) stands other);
    }

-- A thread that has another priority:

pub queue_reordered : (waiters : List Waiter) (turns : List ℕ) (t p : ℕ) → IsQueue waiters turns → IsQueue (with_prio t p waiters) turns
queue_reordered waiters turns t p is =
    record {
      once = rw (threads-with_prio t p waiters) is.once;
      within = rw (threads-with_prio t p waiters) is.within;
      turn = rw (clusters-with_prio t p waiters) is.turn;
    }

-- where a thread doesn't wait, another priority of it does nothing
with_prio_none : (t p : ℕ) (waiters : List Waiter) → has (threads waiters) t ≡ false → with_prio t p waiters ≡ waiters
with_prio_none t p [] h = refl
with_prio_none t p (waiter ∷ waiters) h = by (waiter.thread == t) h (with_prio_none t p waiters) where
  by : (b : Bool) → (b || has (threads waiters) t) ≡ false → (has (threads waiters) t ≡ false → with_prio t p waiters ≡ waiters) → cond b (record waiter { prio = p }) waiter ∷ with_prio t p waiters ≡ waiter ∷ waiters
  by true h more = absurd (false≢true (sym h))
  by false h more = ap (λ (rest : List Waiter). waiter ∷ rest) (more h)

-- where it waits once, it is changed at its place
changed : (t c p : ℕ) (waiters : List Waiter) → times t (threads waiters) ≤ 1 → c ≡ cluster_of t waiters → slice_set waiters (position_at key t waiters) (record { thread = t; cluster = c; prio = p }) ≡ with_prio t p waiters
changed t c p [] once is = refl
changed t c p (waiter ∷ waiters) once is = by (waiter.thread == t) refl once is (λ few. changed t c p waiters few) where
  by : (b : Bool) → (waiter.thread == t) ≡ b → times t (threads (waiter ∷ waiters)) ≤ 1 → c ≡ cond b waiter.cluster (cluster_of t waiters) → (times t (threads waiters) ≤ 1 → c ≡ cluster_of t waiters → slice_set waiters (position_at key t waiters) (record { thread = t; cluster = c; prio = p }) ≡ with_prio t p waiters) → slice_set (waiter ∷ waiters) (cond (not b) (1 + position_at key t waiters) 0) (record { thread = t; cluster = c; prio = p }) ≡ cond b (record waiter { prio = p }) waiter ∷ with_prio t p waiters
  by true e once is more =
      let same : t ≡ waiter.thread = sym (same_number waiter.thread t e) in
      let put : (let it : Waiter = record { thread = t; cluster = c; prio = p } in it) ≡ record waiter { prio = p } = cc in
      rw (with_prio_none t p waiters (alone_by key t waiter waiters once e)) (ap (λ (it : Waiter). it ∷ waiters) put)
  by false e once is more =
      let few : times t (threads waiters) ≤ 1 = omega (arith, once) in
      let step : 1 + position_at key t waiters ≡ suc (position_at key t waiters) = omega arith in
      rw step (ap (λ (rest : List Waiter). waiter ∷ rest) (more few is))

-- What a slice of the waiters tells: where a thread waits,
pub there : (t : ℕ) (slice waiters : List Waiter) (at : ℕ) → slice ≡ waiters → at ≡ position_at key t slice → has (threads waiters) t ≡ true → at < length waiters
there t slice waiters at e found is = rw (found, e) (position_within key t waiters is)

-- the waiters without it,
pub taken : (t : ℕ) (slice waiters next : List Waiter) (at : ℕ) → slice ≡ waiters → at ≡ position_at key t slice → times t (threads waiters) ≤ 1 → next ≡ remove waiters at → next ≡ without t waiters
taken t slice waiters next at e found once made = rw (made, found, e) (removed key t waiters once)

-- its cluster,
pub cluster_there : (t : ℕ) (slice again waiters : List Waiter) (at : ℕ) (x : Waiter) → slice ≡ waiters → again ≡ waiters → at ≡ position_at key t slice → has (threads waiters) t ≡ true → (let found : Waiter = slice_index_or again at x in found.cluster) ≡ cluster_of t waiters
cluster_there t slice again waiters at x e f found is = rw (f, found, e) (cluster_at t waiters x is)

pub cluster_found : (t : ℕ) (slice waiters : List Waiter) (at : ℕ) (x : Waiter) → slice ≡ waiters → at ≡ position_at key t slice → has (threads waiters) t ≡ true → x ≡ slice_index_or waiters at x → x.cluster ≡ cluster_of t waiters
cluster_found t slice waiters at x e found is same = ap (λ (it : Waiter). it.cluster) same ∙ cluster_there t slice waiters waiters at x e refl found is

-- and the waiters with its other priority.
pub reset : (t c p : ℕ) (slice waiters next : List Waiter) (at : ℕ) → slice ≡ waiters → at ≡ position_at key t slice → times t (threads waiters) ≤ 1 → c ≡ cluster_of t waiters → next ≡ slice_set waiters at (record { thread = t; cluster = c; prio = p }) → next ≡ with_prio t p waiters
reset t c p slice waiters next at e found once is made = rw (made, found, e) (changed t c p waiters once is)

-- where the turn of a cluster is, and the turns without it
pub turn_found : (c : ℕ) (slice turns : List ℕ) (at : ℕ) → slice ≡ turns → at ≡ position_at turn_key c slice → times c turns ≡ 1 → at < length turns
turn_found c slice turns at e found one = rw (found, e) (turn_there c turns one)

pub turn_gone : (c : ℕ) (slice turns next : List ℕ) (at : ℕ) → slice ≡ turns → at ≡ position_at turn_key c slice → times c turns ≡ 1 → next ≡ remove turns at → next ≡ without_turn c turns
turn_gone c slice turns next at e found one made = rw (made, found, e) (turn_taken c turns one)

-- whether a cluster has a turn, as the code finds it
pub has_turn_at : (c : ℕ) (turns : List ℕ) → has turns c ≡ ltb (position_at turn_key c turns) (length turns)
has_turn_at c turns = ap (λ (ts : List ℕ). has ts c) (sym (same_keys turns)) ∙ has_position turn_key c turns

-- there are fewer turns without that of a cluster
pub turn_less : (c : ℕ) (turns : List ℕ) → times c turns ≡ 1 → length (without_turn c turns) < length turns
turn_less c turns one = omega (arith, length-append (without_turn c turns) (c ∷ []), length_by_times (without_turn c turns ++ c ∷ []) turns (λ d. by d (c == d) refl (times-append d (without_turn c turns) (c ∷ [])))) where
  by : (d : ℕ) (b : Bool) → (c == d) ≡ b → times d (without_turn c turns ++ c ∷ []) ≡ times d (without_turn c turns) + (cond (c == d) 1 0 + 0) → times d (without_turn c turns ++ c ∷ []) ≤ times d turns
  by d true is split =
      let last : times d (without_turn c turns ++ c ∷ []) ≡ times d (without_turn c turns) + (1 + 0) = rw is at split in
      let none : times d (without_turn c turns) ≡ 0 = subst (λ k. times k (without_turn c turns) ≡ 0) (same_number c d is) (no_turn c turns) in
      let once : times d turns ≡ 1 = subst (λ k. times k turns ≡ 1) (same_number c d is) one in
      omega (arith, last, none, once)
  by d false is split =
      let last : times d (without_turn c turns ++ c ∷ []) ≡ times d (without_turn c turns) + (0 + 0) = rw is at split in
      omega (arith, last, other_turn d c turns is)

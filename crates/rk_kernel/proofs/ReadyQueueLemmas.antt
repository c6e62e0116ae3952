-- The shifts keep in each line exactly the eligible threads of its cluster.
use Rattle.std.proofs.Common.{◌≡◌, ℕ, zero, suc, ◌+◌, ◌<◌, ◌≤◌, List, [], ◌∷◌, ◌++◌, Bool, true, false, cond, not, ◌&&◌, ◌==◌, nat_lt, Some, None, length, ⊎_elim, arith, refl, ap, sym, ◌∙◌}
use Rattle.std.specs.List.{filter, range_with_len, slice_index_or}
use Rattle.std.proofs.lemmas.List.{get_or_past}
use Rattle.std.proofs.lemmas.Bool.{cases_lt, false≢true}
use Rattle.rk_model.specs.declared.settling.Standing.{Standing}
use Rattle.rk_model.specs.declared.settling.Shift.{Shift}
use Rattle.rk_model.specs.declared.settling.Shift.TheVariants.{Stay, Leave, ToEnd, ToFront}
use Rattle.rk_model.specs.Lists.{has, times}
use Rattle.rk_model.specs.State.{Plain, ClusterState, no_thread, no_cluster, thread_at, cluster_at}
use Rattle.rk_model.specs.Scheduling.Priorities.{is_eligible, standing, standings, nth_standing}
use Rattle.rk_model.specs.Scheduling.Settling.{is_cluster, belongs, is_stay, is_to_end, is_to_front, shift_of, shifts, making, shifted}
use Rattle.rk_model.proofs.CountLemmas.{times-append, times-filter, has_times, has_none, once_in_range}
use Rattle.rk_model.proofs.BooleanLemmas.{and_false}
use Rattle.rk_parts.proofs.StandingLemmas.{belongs_say}
use Rattle.rk_parts.specs.Noted.{LinesHold}
use Rattle.rk_directives.specs.Sound.{stands, own, IsSound, IsClusterSound, AllSound}
use Rattle.rk_kernel.proofs.CallerLemmas.{stands_eligible}

-- ---- who belongs in the ready queue of a cluster

and_true : (b : Bool) → (b && true) ≡ b
and_true true = refl
and_true false = refl

-- a thread belongs in the line of its home where it is eligible
belongs_stands : (k : Plain) (c t : ℕ) → belongs c (standing k t) ≡ stands k c t
unfolding standing stands
belongs_stands k c t = by (is_eligible k t) where
  by : (b : Bool) → is_cluster c (cond b (Some (thread_at k t).home) None) ≡ (((thread_at k t).home == c) && b)
  by true = sym (and_true ((thread_at k t).home == c))
  by false = sym (and_false ((thread_at k t).home == c))

-- and so the standings of a state say
pub noted_stands : (k : Plain) (c t : ℕ) → belongs c (nth_standing (standings k) t) ≡ stands k c t
noted_stands k c t = belongs_say k c t ∙ belongs_stands k c t

-- an eligible thread is one of the threads
eligible_within : (k : Plain) (t : ℕ) → is_eligible k t ≡ true → (0 < t) × (t ≤ length k.threads)
unfolding is_eligible
eligible_within k zero h = absurd (false≢true h)
eligible_within k (suc i) h =
    ⊎_elim
    (λ w. let low : 0 < suc i = omega arith in let high : suc i ≤ length k.threads = omega (arith, w) in (low, high))
    (λ w. let none : is_eligible k (suc i) ≡ false = rw (get_or_past k.threads i no_thread w) refl in absurd (false≢true (sym none ∙ h)))
    (cases_lt i (length k.threads))

-- each of a cluster's own threads stands among them once
pub own_once : (k : Plain) (c t : ℕ) → times t (own k c) ≡ cond (stands k c t) 1 0
own_once k c t = times-filter (stands k c) t (range_with_len 1 (length k.threads)) ∙ by k c t (stands k c t) refl where
  by : (k : Plain) (c t : ℕ) (b : Bool) → stands k c t ≡ b → cond b (times t (range_with_len 1 (length k.threads))) 0 ≡ cond b 1 0
  by k c t true e = let w = eligible_within k t (stands_eligible k c t e) in once_in_range t 1 (length k.threads) (omega (arith, w.0)) (omega (arith, w.1))
  by k c t false e = refl

has_once : (b : Bool) (t : ℕ) (line : List ℕ) → times t line ≡ cond b 1 0 → has line t ≡ b
has_once true t line once = has_times t line (omega (arith, once))
has_once false t line once = has_none t line once

-- a line with exactly the eligible threads of its cluster has exactly those that belong there
pub line_belongs : (k : Plain) (c : ℕ) (line : List ℕ) → ((t : ℕ) → times t line ≡ times t (own k c)) → (t : ℕ) → has line t ≡ belongs c (nth_standing (standings k) t)
line_belongs k c line held t = has_once (stands k c t) t line (held t ∙ own_once k c t) ∙ sym (noted_stands k c t)

-- the cluster of a number of a sound state
sound_from : (k : Plain) (c i : ℕ) (clusters : List ClusterState) → i < length clusters → AllSound k c clusters → IsClusterSound k (c + i) (slice_index_or clusters i no_cluster)
sound_from k c i [] within sound = absurd (never i within) where
  never : (i : ℕ) → i < 0 → ⊥
  never i h = omega (arith, h)
sound_from k c zero (cluster ∷ clusters) within sound =
    let e : c + 0 ≡ c = omega arith in
    rw e sound.0
sound_from k c (suc i) (cluster ∷ clusters) within sound =
    let e : c + suc i ≡ c + 1 + i = omega arith in
    rw e (sound_from k (c + 1) i clusters (omega arith) sound.1)

pub sound_at : (k : Plain) (c : ℕ) → IsSound k → c < length k.clusters → IsClusterSound k c (cluster_at k c)
sound_at k c sound within =
    let e : 0 + c ≡ c = omega arith in
    rw e at (sound_from k 0 c k.clusters within sound.clusters)

-- The ready queues of a sound state have exactly the threads that belong there.
pub sound_lines : (k : Plain) → IsSound k → LinesHold k
sound_lines k sound c t within = line_belongs k c (cluster_at k c).line (sound_at k c sound within).line t ∙ belongs_say k c t

-- ---- the line after the shifts

-- the shift, by what is asked of a thread: whether it belongs there now and before, more urgent, last, less urgent
abbrev chosen : Bool → Bool → Bool → Bool → Bool → Shift
chosen now before lt la gt = cond (not now) Leave (cond (not before) ToEnd (cond lt ToEnd (cond la ToEnd (cond gt ToFront Stay))))

-- of the three places in the new line a thread has one where it belongs there, and else none
one_place : (now before lt la gt : Bool) (n : ℕ) → (cond (is_to_front (chosen now before lt la gt)) n 0 + cond (is_stay (chosen now before lt la gt)) (cond before n 0) 0) + cond (is_to_end (chosen now before lt la gt)) n 0 ≡ cond now n 0
one_place false before lt la gt n = omega arith
one_place true false lt la gt n = omega arith
one_place true true true la gt n = omega arith
one_place true true false true gt n = omega arith
one_place true true false false true n = omega arith
one_place true true false false false n = omega arith

-- how often a thread that belongs in the ready queue of a cluster stands among so many threads
abbrev placed : List Standing → ℕ → ℕ → ℕ → ℕ
placed stood n c t = cond (belongs c (nth_standing stood t)) (times t (range_with_len 1 n)) 0

-- how often a thread stands in the line after the shifts
times-shifted : (before now : List Standing) (last : List ℕ) (n c : ℕ) (line : List ℕ) (t : ℕ) → times t line ≡ placed before n c t → times t (shifted (shifts before now last c) n line) ≡ placed now n c t
unfolding shifts shift_of
times-shifted before now last n c line t held =
    let r = range_with_len 1 n in
    let was = nth_standing before t in
    let is = nth_standing now t in
    let shift = shifts before now last c in
    let front = making is_to_front shift n in
    let stay = filter (λ u. is_stay (shift u)) line in
    let ends = making is_to_end shift n in
    let a = times-append t (front ++ stay) ends ∙ ap (λ m. m + times t ends) (times-append t front stay) in
    let f = times-filter (λ u. is_to_front (shift u)) t r in
    let s = times-filter (λ u. is_stay (shift u)) t line in
    let e = times-filter (λ u. is_to_end (shift u)) t r in
    let one = one_place (belongs c is) (belongs c was) (nat_lt is.prio was.prio) (has last t) (nat_lt was.prio is.prio) (times t r) in
    a ∙ (rw (f, s, e, held) one)

own_placed : (k : Plain) (c t : ℕ) → times t (own k c) ≡ placed (standings k) (length k.threads) c t
own_placed k c t =
    times-filter (stands k c) t (range_with_len 1 (length k.threads)) ∙ ap (λ b. cond b (times t (range_with_len 1 (length k.threads))) 0) (sym (noted_stands k c t))

-- a line with exactly the eligible threads of its cluster has exactly those after the shifts
pub line_moved : (k next : Plain) (last : List ℕ) (c : ℕ) (line : List ℕ) → length next.threads ≡ length k.threads → ((t : ℕ) → times t line ≡ times t (own k c)) →
    (t : ℕ) → times t (shifted (shifts (standings k) (standings next) last c) (length next.threads) line) ≡ times t (own next c)
line_moved k next last c line size held t =
    times-shifted (standings k) (standings next) last (length next.threads) c line t (held t ∙ own_placed k c t ∙ ap (λ n. placed (standings k) n c t) (sym size)) ∙ sym (own_placed next c t)

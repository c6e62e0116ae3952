-- Waits agree with queues and timers in each state that a legal history leads to, and chains of waits end.
use Rattle.std.proofs.Common.{◌≡◌, ℕ, zero, suc, ◌+◌, ◌≤◌, List, [], ◌∷◌, Bool, true, false, cond, ◌==◌, ◌&&◌, nat_le, Option, Some, None, arith, refl, ap, subst, ◌∙◌}
use Rattle.std.specs.List.{slice_index_or}
use Rattle.std.proofs.lemmas.Bool.{false≢true}
use Rattle.std.proofs.lemmas.Bool.Decides.{nat_tests}
use Rattle.rk_model.specs.declared.state.Thread.{Thread}
use Rattle.rk_model.specs.declared.state.Armer.TheVariants.{Thread as OfThread}
use Rattle.rk_model.specs.declared.state.Wait.{Wait}
use Rattle.rk_model.specs.declared.state.Wait.TheVariants.{ForTime, ForEvents, AtBarrier, ForPeriod, ForSemaphore}
use Rattle.rk_model.specs.Lists.{nth, times}
use Rattle.rk_model.specs.State.{Plain, ClusterState, SemaphoreState, no_cluster, no_thread, no_semaphore, thread_at, semaphore_at}
use Rattle.rk_model.specs.Directives.Waits.{OfSemaphore, object_of_wait, is_for, arrivals_in}
use Rattle.rk_model.specs.Scheduling.Chains.{ends_by, ends_on, owner_awaited, waits_on}
use Rattle.rk_model.specs.Scheduling.Timers.{times_armed}
use Rattle.rk_model.proofs.BooleanLemmas.{same_number}
use Rattle.rk_model.proofs.ChainLemmas.{times_once, ends_within}
use Rattle.rk_kernel.specs.SchedulingLaws.{timers_of, HasTies, WaitsAndQueuesAgree, Owns, OwnersLiveAndNoneWaitsForItsOwn, HasAnEnd, EveryChainOfWaitsEnds}
use Rattle.rk_directives.specs.Sound.{IsSound, AllSound, may_time_out, is_asleep}
use Rattle.rk_parts.proofs.PutLemmas.{lives_within}
use Rattle.rk_directives.proofs.TieLemmas.{stands_at}
use Rattle.rk_kernel.proofs.HistoryLemmas.{sound_after}

-- a thread has timers in its home alone, from a cluster on
one_home : (home c a b : ℕ) (waits : Bool) → a ≤ cond ((home == c) && waits) 1 0 → b ≤ cond (nat_le (c + 1) home && waits) 1 0 → a + b ≤ cond (nat_le c home && waits) 1 0
one_home home c a b waits here there = grind (arith, nat_tests, here, there)

timed_from : (k : Plain) (c t : ℕ) (clusters : List ClusterState) → AllSound k c clusters → timers_of clusters t ≤ cond (nat_le c (thread_at k t).home && may_time_out (thread_at k t).wait) 1 0
timed_from k c t [] sound = omega arith
timed_from k c t (cluster ∷ clusters) sound = one_home (thread_at k t).home c (times_armed (OfThread t) cluster.timers) (timers_of clusters t) (may_time_out (thread_at k t).wait) (sound.0.timers t) (timed_from k (c + 1) t clusters sound.1)

all_timers : (home n : ℕ) (waits : Bool) → n ≤ cond (nat_le 0 home && waits) 1 0 → n ≤ cond waits 1 0
all_timers home n waits few = grind (arith, nat_tests, few)

-- those of one cluster are among all
timers_among : (clusters : List ClusterState) (d t : ℕ) → times_armed (OfThread t) (slice_index_or clusters d no_cluster).timers ≤ timers_of clusters t
timers_among [] d t = omega arith
timers_among (cluster ∷ clusters) zero t = omega arith
timers_among (cluster ∷ clusters) (suc d) t = omega (arith, timers_among clusters d t)

-- who sleeps waits
asleep_waits : (wait : Option Wait) (n : ℕ) → n ≤ cond (may_time_out wait) 1 0 → is_asleep wait ≡ true → n ≤ 1
asleep_waits None n few asleep = omega (arith, few)
asleep_waits (Some ForTime) n few asleep = few
asleep_waits (Some (ForEvents set all)) n few asleep = few
asleep_waits (Some (AtBarrier i)) n few asleep = few
asleep_waits (Some (ForPeriod i)) n few asleep = omega (arith, few)
asleep_waits (Some (ForSemaphore i spins)) n few asleep = few

has_ties : (k : Plain) (t : ℕ) → IsSound k → HasTies k t
has_ties k t sound = record { queued = sound.tied.queued t refl; timed = few; wakes = λ asleep. omega (arith, asleep_waits (thread_at k t).wait (timers_of k.clusters t) few asleep, sound.tied.wakes t refl asleep, timers_among k.clusters (thread_at k t).home t) } where
  few : timers_of k.clusters t ≤ cond (may_time_out (thread_at k t).wait) 1 0
  few = all_timers (thread_at k t).home (timers_of k.clusters t) (may_time_out (thread_at k t).wait) (timed_from k 0 t k.clusters sound.clusters)

pub waits_agree : WaitsAndQueuesAgree
waits_agree s xs is legal t = has_ties _ t (sound_after s xs is legal)

-- ---- owners

-- a chain that steps to where it is doesn't end
no_loop : (step : ℕ → Option ℕ) (n t : ℕ) → step t ≡ Some t → ends_by step n t ≡ true → ⊥
no_loop step zero t e ends = false≢true ends
no_loop step (suc n) t e ends = no_loop step n t e (subst (λ o. ends_on (ends_by step n) o ≡ true) e ends)

-- who stands in the queue of a semaphore waits on its owner
awaits_owner : (semaphores : List SemaphoreState) (i : ℕ) (wait : Option Wait) → is_for (object_of_wait wait) (OfSemaphore i) ≡ true → owner_awaited semaphores wait ≡ (nth no_semaphore semaphores i).owner
awaits_owner semaphores i None is = absurd (false≢true is)
awaits_owner semaphores i (Some ForTime) is = absurd (false≢true is)
awaits_owner semaphores i (Some (ForEvents set all)) is = absurd (false≢true is)
awaits_owner semaphores i (Some (AtBarrier j)) is = absurd (false≢true is)
awaits_owner semaphores i (Some (ForPeriod j)) is = absurd (false≢true is)
awaits_owner semaphores i (Some (ForSemaphore j spins)) is = ap (λ n. (nth no_semaphore semaphores n).owner) (same_number j i is)

-- the owner of a semaphore lives, and waits for another thing, if for any
owns : (k : Plain) (t i : ℕ) → IsSound k → (semaphore_at k i).owner ≡ Some t → Owns k t i
owns k t i sound owner = record { lives = sound.chained.owners i t owner; apart = by (is_for (object_of_wait (thread_at k t).wait) (OfSemaphore i)) refl (sound.tied.queued t refl (OfSemaphore i)) } where
  by : (b : Bool) → is_for (object_of_wait (thread_at k t).wait) (OfSemaphore i) ≡ b → times t (arrivals_in k.barriers k.semaphores (OfSemaphore i)) ≡ cond b 1 0 → times t (arrivals_in k.barriers k.semaphores (OfSemaphore i)) ≡ 0
  by true is stands = let ends = sound.chained.ends t in absurd (no_loop (waits_on k) ends.0 t (awaits_owner k.semaphores i (thread_at k t).wait is ∙ owner) ends.1)
  by false is stands = stands

pub owners_live : OwnersLiveAndNoneWaitsForItsOwn
owners_live s xs is legal t i owner = owns _ t i (sound_after s xs is legal) owner

-- ---- chains

-- a thread that waits on another one is one of the 64, and so is that one
among : (k : Plain) (t u : ℕ) → IsSound k → waits_on k t ≡ Some u → ((1 ≤ t) × (t ≤ 64)) × ((1 ≤ u) × (u ≤ 64))
among k t u sound on = (let seat = stands_at no_thread (λ (x : Thread). awaits_one x.wait) k.threads t refl (waits (thread_at k t).wait on) in (omega (arith, seat.0), omega (arith, seat.1, sound.places)), by (thread_at k t).wait on) where
  awaits_one : Option Wait → Bool
  awaits_one None = false
  awaits_one (Some w) = true

  waits : (w : Option Wait) → owner_awaited k.semaphores w ≡ Some u → awaits_one w ≡ true
  waits None e = let no : ⊥ = cc in absurd no
  waits (Some w) e = refl

  by : (w : Option Wait) → owner_awaited k.semaphores w ≡ Some u → (1 ≤ u) × (u ≤ 64)
  by None e = let no : ⊥ = cc in absurd no
  by (Some ForTime) e = let no : ⊥ = cc in absurd no
  by (Some (ForEvents set all)) e = let no : ⊥ = cc in absurd no
  by (Some (AtBarrier j)) e = let no : ⊥ = cc in absurd no
  by (Some (ForPeriod j)) e = let no : ⊥ = cc in absurd no
  by (Some (ForSemaphore j spins)) e = let seat = lives_within k.threads u (sound.chained.owners j u e) in (omega (arith, seat.0), omega (arith, seat.1, sound.places))

-- The chain of each thread ends within as many threads as there are.
ends_soon : (k : Plain) (t : ℕ) → IsSound k → ends_by (waits_on k) 64 t ≡ true
ends_soon k t sound = by (waits_on k t) refl where
  by : (next : Option ℕ) → waits_on k t ≡ next → ends_by (waits_on k) 64 t ≡ true
  by None e = ap (ends_on (ends_by (waits_on k) 63)) e
  by (Some u) e = ends_within (waits_on k) 64 t (λ v w _ on. (among k v w sound on).1) (among k t u sound e).0 (sound.chained.ends t)

has_an_end : (k : Plain) (t : ℕ) → IsSound k → HasAnEnd k t
has_an_end k t sound = let ends = ends_soon k t sound in record { ends = ends; once = λ u. times_once (waits_on k) 64 t u ends }

pub chains_end : EveryChainOfWaitsEnds
chains_end s xs is legal t = has_an_end _ t (sound_after s xs is legal)

-- Settling after a gentle change keeps a state sound.
use Rattle.std.proofs.Common.{◌≡◌, ℕ, zero, suc, ◌+◌, ◌≤◌, get_or, List, [], ◌∷◌, length, length-append, arith, refl, ap, sym, subst, ◌∙◌}
use Rattle.rk_model.specs.declared.settling.Shift.{Shift}
use Rattle.rk_model.specs.declared.state.Armed.{Armed}
use Rattle.rk_model.specs.declared.state.Armer.TheVariants.{Thread as OfThread}
use Rattle.rk_model.specs.declared.state.Thread.{Thread}
use Rattle.rk_model.specs.Lists.{nth, times}
use Rattle.rk_model.specs.State.{Plain, SemaphoreState, BarrierState, ClusterState, no_thread, no_cluster, thread_at, period_at, cluster_at}
use Rattle.rk_model.specs.Scheduling.Timers.{times_armed}
use Rattle.rk_model.specs.Scheduling.Priorities.{is_eligible, urgency, standings}
use Rattle.rk_model.specs.Scheduling.ReadyQueues.{most_urgent}
use Rattle.rk_model.specs.Scheduling.Settling.{shifts, shifted, settle}
use Rattle.rk_model.specs.Scheduling.Seats.{all_cpus, cpu_count}
use Rattle.rk_model.proofs.AssignmentLemmas.{assigned_has, length-assigned}
use Rattle.rk_parts.specs.Settled.{settled_cluster, settled_from}
use Rattle.rk_parts.proofs.SettlingLemmas.{settle_each}
use Rattle.rk_directives.specs.Sound.{stands, own, AllSound, IsSound, KeepsLines, AllTimed, CanSettle, AreTied, but_none}
use Rattle.rk_directives.specs.SoundPeriods.{IsPeriodSound, ArePeriodsSound}
use Rattle.rk_kernel.proofs.ReadyQueueLemmas.{line_moved}

pub length-kept : (olds news : List ClusterState) → KeepsLines olds news → length news ≡ length olds
length-kept [] [] keeps = refl
length-kept [] (b ∷ news) keeps = absurd keeps
length-kept (a ∷ olds) [] keeps = absurd keeps
length-kept (a ∷ olds) (b ∷ news) keeps = omega (arith, length-kept olds news keeps.2)

-- ---- the clusters after settling

-- the clusters of a change of a state, each settled
abbrev pub each_settled : Plain → Plain → List ℕ → List ClusterState
each_settled k next last = settled_from (shifts (standings k) (standings next) last) (urgency next) (length next.threads) 0 next.clusters

pub settled_each : (k next : Plain) (last : List ℕ) → settle k next last ≡ (let n : Plain = record next { clusters = each_settled k next last } in n)
settled_each k next last = settle_each (standings k) next last

length_each : (shift : ℕ → ℕ → Shift) (key : ℕ → ℕ → ℕ) (n c : ℕ) (clusters : List ClusterState) → length (settled_from shift key n c clusters) ≡ length clusters
length_each shift key n c [] = refl
length_each shift key n c (cluster ∷ clusters) = omega (arith, length_each shift key n (c + 1) clusters)

pub length-settled : (k next : Plain) (last : List ℕ) → length (settle k next last).clusters ≡ length next.clusters
length-settled k next last =
    ap (λ (x : Plain). length x.clusters) (settled_each k next last) ∙ length_each (shifts (standings k) (standings next) last) (urgency next) (length next.threads) 0 next.clusters

cpus_each : (shift : ℕ → ℕ → Shift) (key : ℕ → ℕ → ℕ) (n c : ℕ) (clusters : List ClusterState) → length (all_cpus (settled_from shift key n c clusters)) ≡ length (all_cpus clusters)
cpus_each shift key n c [] = refl
cpus_each shift key n c (cluster ∷ clusters) =
    let a = length-assigned cluster.cpus (most_urgent (key c) (length cluster.cpus) (shifted (shift c) n cluster.line)) in
    length-append (settled_cluster (shift c) (key c) n cluster).cpus (all_cpus (settled_from shift key n (c + 1) clusters)) ∙ (rw (a, cpus_each shift key n (c + 1) clusters) refl) ∙ sym (length-append cluster.cpus (all_cpus clusters))

pub cpus-settled : (k next : Plain) (last : List ℕ) → cpu_count (settle k next last) ≡ cpu_count next
cpus-settled k next last =
    ap (λ (x : Plain). cpu_count x) (settled_each k next last) ∙ cpus_each (shifts (standings k) (standings next) last) (urgency next) (length next.threads) 0 next.clusters

cpus-kept : (olds news : List ClusterState) → KeepsLines olds news → length (all_cpus news) ≡ length (all_cpus olds)
cpus-kept [] [] keeps = refl
cpus-kept [] (b ∷ news) keeps = absurd keeps
cpus-kept (a ∷ olds) [] keeps = absurd keeps
cpus-kept (a ∷ olds) (b ∷ news) keeps = length-append b.cpus (all_cpus news) ∙ (rw (keeps.1, cpus-kept olds news keeps.2) refl) ∙ sym (length-append a.cpus (all_cpus olds))

-- ---- soundness

-- what a cluster's threads and timers are doesn't depend on the clusters
own-with_clusters : (k : Plain) (clusters : List ClusterState) (c t : ℕ) → times t (own k c) ≡ times t (own (record k { clusters = clusters }) c)
unfolding stands is_eligible
own-with_clusters k clusters c t = refl

all_sound : (k next : Plain) (last : List ℕ) (clusters : List ClusterState) (c : ℕ) (olds news : List ClusterState) → length next.threads ≡ length k.threads → AllSound k c olds → KeepsLines olds news → AllTimed next.threads c news →
    AllSound (record next { clusters = clusters }) c (settled_from (shifts (standings k) (standings next) last) (urgency next) (length next.threads) c news)
all_sound k next last clusters c [] [] size sound keeps timed = tt
all_sound k next last clusters c [] (b ∷ news) size sound keeps timed = absurd keeps
all_sound k next last clusters c (a ∷ olds) [] size sound keeps timed = absurd keeps
all_sound k next last clusters c (a ∷ olds) (b ∷ news) size sound keeps timed =
    let line = shifted (shifts (standings k) (standings next) last c) (length next.threads) b.line in (
      record {
        few_cpus = rw (length-assigned, keeps.1) sound.0.few_cpus;
        line = λ t. line_moved k next last c b.line size (λ u. rw keeps.0 (sound.0.line u)) t ∙ own-with_clusters next clusters c t;
        manned = λ t h. assigned_has (urgency next c) b.cpus (length b.cpus) line t h;
        timers = timed.0;
      },
      all_sound k next last clusters (c + 1) olds news size sound.1 keeps.2 timed.1,
    )

-- settling leaves the timers alone
pub timers-settled_from : (shift : ℕ → ℕ → Shift) (key : ℕ → ℕ → ℕ) (n c : ℕ) (clusters : List ClusterState) (i : ℕ) → (get_or (settled_from shift key n c clusters) i no_cluster).timers ≡ (get_or clusters i no_cluster).timers
timers-settled_from shift key n c [] i = refl
timers-settled_from shift key n c (cluster ∷ clusters) zero = refl
timers-settled_from shift key n c (cluster ∷ clusters) (suc i) = timers-settled_from shift key n (c + 1) clusters i

tied_settled : (shift : ℕ → ℕ → Shift) (key : ℕ → ℕ → ℕ) (n : ℕ) (barriers : List BarrierState) (semaphores : List SemaphoreState) (threads : List Thread) (clusters : List ClusterState) → AreTied barriers semaphores threads clusters but_none → AreTied barriers semaphores threads (settled_from shift key n 0 clusters) but_none
tied_settled shift key n barriers semaphores threads clusters tied = record {
  queued = tied.queued;
  wakes = λ t apart asleep. subst (λ (timers : List Armed). 1 ≤ times_armed (OfThread t) timers) (sym (timers-settled_from shift key n 0 clusters (nth no_thread threads t).home)) (tied.wakes t apart asleep);
}

-- settling leaves periods alone
periods_settled : (k next : Plain) (last : List ℕ) → ArePeriodsSound next → ArePeriodsSound (settle k next last)
periods_settled k next last sound =
    subst ArePeriodsSound (sym (settled_each k next last))
    (record {
      places = sound.places;
      each = λ i. subst (λ (timers : ℕ → List Armed). IsPeriodSound next.present (thread_at next (period_at next i).creator) timers i (period_at next i)) (λ j c. sym (same c) j) (sound.each i);
      waits = sound.waits;
    })
  where
    same : (c : ℕ) → (get_or (each_settled k next last) c no_cluster).timers ≡ (cluster_at next c).timers
    same c = timers-settled_from (shifts (standings k) (standings next) last) (urgency next) (length next.threads) 0 next.clusters c

-- A change of a sound state that can settle, settled, is sound.
pub sound_settled : (k next : Plain) (last : List ℕ) → IsSound k → CanSettle k next → IsSound (settle k next last)
sound_settled k next last sound can =
    let gentle = can.gentle in
    let same_length : length (settle k next last).clusters ≡ length k.clusters = length-settled k next last ∙ length-kept k.clusters next.clusters gentle.lines in
    record {
      places = gentle.places ∙ sound.places;
      locks = gentle.locks ∙ sound.locks;
      halls = gentle.halls ∙ sound.halls;
      pools = gentle.pools ∙ sound.pools;
      few_clusters = rw same_length sound.few_clusters;
      some_cluster = rw same_length sound.some_cluster;
      few_cpus = rw (cpus-settled, cpus-kept k.clusters next.clusters gentle.lines) sound.few_cpus;
      horizon = rw gentle.scenario sound.horizon;
      present = rw (gentle.present, gentle.scenario) sound.present;
      bodies = rw gentle.scenario sound.bodies;
      threads = rw (same_length, gentle.present, gentle.scenario) gentle.threads;
      clusters = subst (λ (x : Plain). AllSound x 0 x.clusters) (sym (settled_each k next last)) (all_sound k next last (each_settled k next last) 0 k.clusters next.clusters gentle.places sound.clusters gentle.lines gentle.timers);
      named = gentle.named;
      tied = subst (λ (x : Plain). AreTied next.barriers next.semaphores next.threads x.clusters but_none) (sym (settled_each k next last)) (tied_settled (shifts (standings k) (standings next) last) (urgency next) (length next.threads) next.barriers next.semaphores next.threads next.clusters gentle.tied);
      chained = gentle.chained;
      periods = periods_settled k next last can.periods;
    }

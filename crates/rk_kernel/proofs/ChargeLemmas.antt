-- Work that is charged, processor by processor.
use Rattle.std.proofs.Common.{◌≡◌, ℕ, zero, suc, ◌+◌, ◌<◌, ◌≤◌, List, [], ◌∷◌, Bool, true, false, cond, ◌==◌, ◌||◌, Option, Some, None, length, get_or, arith, refl, ap, subst, sym, ◌∙◌}
use Rattle.std.proofs.lemmas.Bool.{false≢true}
use Rattle.std.proofs.lemmas.Bool.Decides.{nat_tests}
use Rattle.std.proofs.lemmas.List.{ext_get_or}
use Rattle.rk_model.specs.declared.scenario.Scenario.{Scenario}
use Rattle.rk_model.specs.declared.entry.View.{View}
use Rattle.rk_model.specs.declared.entry.View.TheVariants.{Idle, Spins, Runs}
use Rattle.rk_model.specs.declared.state.Thread.{Thread}
use Rattle.rk_model.specs.Lists.{nth, with_nth}
use Rattle.rk_model.specs.State.{Plain, SemaphoreState, no_thread, no_semaphore, thread_at}
use Rattle.rk_model.specs.Scheduling.Chains.{owner_awaited}
use Rattle.rk_model.specs.Scheduling.Helping.{Scene, helped_in, scene, helped, could_run}
use Rattle.rk_model.specs.Scheduling.Priorities.{is_spinning, spins, is_eligible}
use Rattle.rk_model.specs.Scheduling.Running.{view_of, running, is_run_of, runs_from, runs_somewhere}
use Rattle.rk_model.specs.Scheduling.Seats.{cpu_at, cpu_count}
use Rattle.rk_model.specs.Directives.Objects.{has_begun}
use Rattle.rk_model.specs.Scheduling.Ticks.{charged, ticked, charge_from}
use Rattle.rk_model.proofs.IndexLemmas.{nth-with_other, nth-with_same, length-with_nth}
use Rattle.rk_parts.specs.Threads.{bearing}
use Rattle.rk_parts.specs.declared.parts.AllParts.{AllParts}
use Rattle.rk_groups.specs.GroupObjects.{semaphores_of}
use Rattle.rk_parts.specs.Holdings.{AreHeld, holdings, holding_of}
use Rattle.rk_parts.specs.Hosted.{could_run as could_run_by, scene_lent, AreHosted, ShowRunning}
use Rattle.rk_parts.specs.Whole.{AreWhole}
use Rattle.rk_parts.proofs.HoldingLemmas.{held_kept}
use Rattle.rk_parts.proofs.HostedLemmas.{scene_joined, hosted_kept}
use Rattle.rk_parts.specs.Joined.{plain_of, threads_of, thread_lent}
use Rattle.rk_parts.specs.Lent.{AreLaid, Frame, frame, layouts}
use Rattle.rk_parts.specs.Noted.{AreNoted}
use Rattle.rk_directives.specs.Does.{Untouched, untouched}
use Rattle.rk_kernel.specs.Manned.{RunOnce}
use Rattle.rk_directives.specs.Sound.{IsSound}
use Rattle.rk_kernel.proofs.CallerLemmas.{runs_started}
use Rattle.rk_kernel.proofs.TickLemmas.{charged_steady, length-charge_from}

-- a thread that is charged bears what it bore
pub bears_charged : (s : Scenario) (thread : Thread) → bearing (charged s thread) ≡ bearing thread
bears_charged s thread = charged_steady bearing s thread (λ _ _ _ _. refl)

-- a thread after the processors in front of one have been gone through: charged where one of them runs it
abbrev charged_by : Plain → ℕ → ℕ → Thread
charged_by k p t = cond (runs_from k t 0 p) (charged k.scenario (thread_at k t)) (thread_at k t)

-- what is kept while the processors in front of one are gone through
pub record IsCharged (k : Plain) (p : ℕ) (all old : AllParts) : Type 0 where
  pub places : length (threads_of all.clusters) ≡ length k.threads
  pub threads : (t : ℕ) → nth no_thread (threads_of all.clusters) t ≡ charged_by k p t
  pub rest : plain_of all ≡ (let n : Plain = record k { threads = threads_of all.clusters } in n)
  pub kept : frame all.clusters ≡ frame old.clusters
  pub held : holdings all.clusters ≡ holdings old.clusters
  pub noted : AreNoted (length old.scenario.clusters) all.clusters
  pub others : untouched all ≡ untouched old

pub none_charged : (all : AllParts) → AreNoted (length all.scenario.clusters) all.clusters → IsCharged (plain_of all) 0 all all
none_charged all noted = record { places = refl; threads = λ t. refl; rest = refl; kept = refl; held = refl; noted = noted; others = refl }

-- The parts are laid still as parts of the state.
pub laid_charged : (k : Plain) (p : ℕ) (all old : AllParts) → AreLaid old.scenario.clusters (layouts old.clusters) → IsCharged k p all old → AreLaid all.scenario.clusters (layouts all.clusters)
laid_charged k p all old laid is =
    let same : all.scenario ≡ old.scenario = ap (λ (u : Untouched). u.scenario) is.others in
    let lie : layouts all.clusters ≡ layouts old.clusters = ap (λ (f : Frame). f.layouts) is.kept in
    subst (λ (s : Scenario). AreLaid s.clusters (layouts all.clusters)) (sym same) (subst (AreLaid old.scenario.clusters) (sym lie) laid)

-- the last of some processors
or_assoc : (a b d : Bool) → (a || (b || d)) ≡ ((a || b) || d)
or_assoc true b d = refl
or_assoc false b d = refl

or_end : (a : Bool) → (a || false) ≡ a
or_end true = refl
or_end false = refl

runs_last : (k : Plain) (t p n : ℕ) → runs_from k t p (n + 1) ≡ (runs_from k t p n || is_run_of t (running k (p + n)))
runs_last k t p zero =
    let one : 0 + 1 ≡ suc 0 = omega arith in
    let here : p + 0 ≡ p = omega arith in
    ap (runs_from k t p) one ∙ or_end (is_run_of t (running k p)) ∙ ap (λ q. is_run_of t (running k q)) (sym here)
runs_last k t p (suc n) =
    let more : suc n + 1 ≡ suc (n + 1) = omega arith in
    let next : p + 1 + n ≡ p + suc n = omega arith in
    ap (runs_from k t p) more ∙ ap (λ b. is_run_of t (running k p) || b) (runs_last k t (p + 1) n)
    ∙ or_assoc (is_run_of t (running k p)) (runs_from k t (p + 1) n) (is_run_of t (running k (p + 1 + n)))
    ∙ ap (λ q. (is_run_of t (running k p) || runs_from k t (p + 1) n) || is_run_of t (running k q)) next

runs_to : (k : Plain) (t p : ℕ) → runs_from k t 0 (p + 1) ≡ (runs_from k t 0 p || is_run_of t (running k p))
runs_to k t p = let e : 0 + p ≡ p = omega arith in runs_last k t 0 p ∙ ap (λ q. runs_from k t 0 p || is_run_of t (running k q)) e

is_run : (t : ℕ) (view : View) → is_run_of t view ≡ true → view ≡ Runs t
is_run t Idle h = absurd (false≢true h)
is_run t (Spins u) h = absurd (false≢true h)
is_run t (Runs u) h = let same : u ≡ t = grind (arith, nat_tests, h) in ap (λ v. Runs v) same

-- a thread that a processor runs is run by none in front of it
none_before : (k : Plain) (p u : ℕ) → RunOnce k → running k p ≡ Runs u → (n : ℕ) → n ≤ p → runs_from k u 0 n ≡ false
none_before k p u once runs zero few = refl
none_before k p u once runs (suc n) few =
    let e : suc n ≡ n + 1 = omega arith in
    ap (runs_from k u 0) e ∙ runs_to k u n ∙ by (runs_from k u 0 n) (is_run_of u (running k n)) refl (none_before k p u once runs n (omega (arith, few)))
  where
    by : (a b : Bool) → is_run_of u (running k n) ≡ b → a ≡ false → (a || b) ≡ false
    by true b e h = h
    by false true e h = let same = once n p u (is_run u (running k n) e) runs in absurd (omega (arith, same, few))
    by false false e h = refl

-- what a processor does doesn't depend on what was charged
steady_charged : {Y : Type 0} (f : Thread → Y) (k : Plain) (p t : ℕ) → ((x : Thread) (line left computed : ℕ) → f (record x { line = line; left = left; computed = computed }) ≡ f x) → f (charged_by k p t) ≡ f (thread_at k t)
steady_charged f k p t steady = by (runs_from k t 0 p) where
  by : (b : Bool) → f (cond b (charged k.scenario (thread_at k t)) (thread_at k t)) ≡ f (thread_at k t)
  by true = charged_steady f k.scenario (thread_at k t) steady
  by false = refl

-- whether a thread could run, by what stands at its place
could_run_there : (k : Plain) (t : ℕ) → could_run k t ≡ could_run_by (thread_at k t)
unfolding could_run is_eligible
could_run_there k t = refl

-- who helps whom is the same where each thread is as before, but for its line, its work left and its count
scene_charged : (k : Plain) (ts : List Thread) → length ts ≡ length k.threads → ((t : ℕ) → (nth no_thread ts t).wait ≡ (thread_at k t).wait) → ((t : ℕ) → could_run_by (nth no_thread ts t) ≡ could_run_by (thread_at k t)) →
    scene (let n : Plain = record k { threads = ts } in n) ≡ scene k
scene_charged k ts size waits could =
    let n : Plain = record k { threads = ts } in
    let ready : (t : ℕ) → could_run n t ≡ could_run k t = λ t. could_run_there n t ∙ could t ∙ sym (could_run_there k t) in
    λ i. record { threads = size i; on = λ t. owner_awaited k.semaphores (waits t i); spins = λ t. is_spinning (waits t i); ready = λ t. ready t i; cpu = cpu_at k }

view_charged : (k n : Plain) (o other : Option ℕ) → ((t : ℕ) → spins n t ≡ spins k t) → view_of n o other ≡ view_of k o other
view_charged k n None other same = refl
view_charged k n (Some t) None same = ap (λ b. cond b (Spins t) (Runs t)) (same t)
view_charged k n (Some t) (Some e) same = refl

scene_by_charged : (k : Plain) (p : ℕ) (all old : AllParts) → IsCharged k p all old → scene (plain_of all) ≡ scene k
scene_by_charged k p all old is =
    ap scene is.rest
    ∙ scene_charged k (threads_of all.clusters) is.places
    (λ t. ap (λ (x : Thread). x.wait) (is.threads t) ∙ steady_charged (λ (x : Thread). x.wait) k p t (λ _ _ _ _. refl))
    (λ t. ap could_run_by (is.threads t) ∙ steady_charged could_run_by k p t (λ _ _ _ _. refl))

running_charged : (k : Plain) (p : ℕ) (all old : AllParts) (q : ℕ) → IsCharged k p all old → running (plain_of all) q ≡ running k q
running_charged k p all old q is =
    ap (λ (m : Plain). view_of m (cpu_at m q) (helped (plain_of all) q)) is.rest
    ∙ view_charged k (let n : Plain = record k { threads = threads_of all.clusters } in n) (cpu_at k q) (helped (plain_of all) q)
    (λ t. ap (λ (x : Thread). is_spinning x.wait) (is.threads t) ∙ steady_charged (λ (x : Thread). is_spinning x.wait) k p t (λ _ _ _ _. refl))
    ∙ ap (λ (x : Scene). view_of k (cpu_at k q) (helped_in x q)) (scene_by_charged k p all old is)

-- The parts still show what processors do.
pub show_charged : (k : Plain) (p : ℕ) (all old : AllParts) → k ≡ plain_of old → AreWhole old → AreHosted old.clusters → IsCharged k p all old → ShowRunning all.scenario all.groups all.clusters
show_charged k p all old state whole hosted is =
    let laid = laid_charged k p all old whole.laid is in
    let kept : semaphores_of all.groups ≡ semaphores_of old.groups = ap (λ (n : Plain). n.semaphores) (is.rest ∙ ap (λ (m : Plain). (let n : Plain = record m { threads = threads_of all.clusters } in n)) state) in
    let held : AreHeld (holdings all.clusters) (semaphores_of all.groups) = held_kept (holdings old.clusters) (holdings all.clusters) (semaphores_of old.groups) (semaphores_of all.groups) is.held (λ i. ap (λ (xs : List SemaphoreState). holding_of (nth no_semaphore xs i)) kept) whole.held in
    let same : scene_lent all.clusters ≡ scene_lent old.clusters =
    scene_joined all.scenario all.table.names all.groups all.clusters laid held
    ∙ scene_by_charged k p all old is ∙ ap scene state
    ∙ sym (scene_joined old.scenario old.table.names old.groups old.clusters whole.laid whole.held) in
    record { laid = laid; held = held; hosted = hosted_kept old.clusters all.clusters same (ap (λ (f : Frame). f.stored) is.kept) hosted }

-- the thread of one processor more is charged, where the processor runs one
pub one_charged : (k : Plain) (p u : ℕ) (all next old : AllParts) (thread : Thread) → RunOnce k → length k.threads ≡ 64 → IsCharged k p all old → Runs u ≡ running (plain_of all) p → 1 ≤ u → u ≤ 64 → thread ≡ charged all.scenario (nth no_thread (threads_of all.clusters) u) →
    plain_of next ≡ (let n : Plain = record (plain_of all) { threads = with_nth (threads_of all.clusters) u thread } in n) → frame next.clusters ≡ frame all.clusters → holdings next.clusters ≡ holdings all.clusters →
    AreNoted (length old.scenario.clusters) next.clusters → untouched next ≡ untouched all → IsCharged k (p + 1) next old
one_charged k p u all next old thread once size is does low high made put kept held noted others =
    let runs : running k p ≡ Runs u = sym (running_charged k p all old p is) ∙ sym does in
    let places : threads_of next.clusters ≡ with_nth (threads_of all.clusters) u thread = ap (λ (n : Plain). n.threads) put in
    let before : runs_from k u 0 p ≡ false = none_before k p u once runs p (omega arith) in
    let was : nth no_thread (threads_of all.clusters) u ≡ thread_at k u = is.threads u ∙ ap (λ b. cond b (charged k.scenario (thread_at k u)) (thread_at k u)) before in
    let same : all.scenario ≡ k.scenario = ap (λ (n : Plain). n.scenario) is.rest in
    let value : thread ≡ charged k.scenario (thread_at k u) = made ∙ ap (λ (s : Scenario). charged s (nth no_thread (threads_of all.clusters) u)) same ∙ ap (charged k.scenario) was in
    record {
      places = ap (λ (ts : List Thread). length ts) places ∙ length-with_nth thread (threads_of all.clusters) u ∙ is.places;
      threads = λ t. (
          let here : runs_from k t 0 (p + 1) ≡ (runs_from k t 0 p || (u == t)) = runs_to k t p ∙ ap (λ v. runs_from k t 0 p || is_run_of t v) runs in
          ap (λ (ts : List Thread). nth no_thread ts t) places ∙ by t (u == t) refl value places ∙ ap (λ b. cond b (charged k.scenario (thread_at k t)) (thread_at k t)) (sym here));
      rest = put ∙ ap (λ (n : Plain). (let m : Plain = record n { threads = with_nth (threads_of all.clusters) u thread } in m)) is.rest ∙ ap (λ (ts : List Thread). (let m : Plain = record k { threads = ts } in m)) (sym places);
      kept = kept ∙ is.kept;
      held = held ∙ is.held;
      noted = noted;
      others = others ∙ is.others;
    }
  where
    or_true : (a : Bool) → (a || true) ≡ true
    or_true true = refl
    or_true false = refl

    by : (t : ℕ) (b : Bool) → (u == t) ≡ b → thread ≡ charged k.scenario (thread_at k u) → threads_of next.clusters ≡ with_nth (threads_of all.clusters) u thread → nth no_thread (with_nth (threads_of all.clusters) u thread) t ≡ cond (runs_from k t 0 p || b) (charged k.scenario (thread_at k t)) (thread_at k t)
    by t true e value places =
        let same : u ≡ t = grind (arith, nat_tests, e) in
        ap (nth no_thread (with_nth (threads_of all.clusters) u thread)) (sym same)
        ∙ nth-with_same no_thread thread (threads_of all.clusters) u (omega (arith, low)) (omega (arith, high, is.places, size))
        ∙ value ∙ ap (λ v. charged k.scenario (thread_at k v)) same
        ∙ ap (λ b. cond b (charged k.scenario (thread_at k t)) (thread_at k t)) (sym (or_true (runs_from k t 0 p)))
    by t false e value places =
        nth-with_other no_thread thread (threads_of all.clusters) u t (λ q. false≢true (sym e ∙ grind (arith, nat_tests, q)))
        ∙ is.threads t ∙ ap (λ b. cond b (charged k.scenario (thread_at k t)) (thread_at k t)) (sym (or_end (runs_from k t 0 p)))

not_run : (t : ℕ) (view : View) → ((u : ℕ) → view ≡ Runs u → ⊥) → is_run_of t view ≡ false
not_run t Idle none = refl
not_run t (Spins u) none = refl
not_run t (Runs u) none = absurd (none u refl)

-- a processor that runs none changes nothing
pub none_more_charged : (k : Plain) (p : ℕ) (all old : AllParts) (view : View) → IsCharged k p all old → view ≡ running (plain_of all) p → ((u : ℕ) → view ≡ Runs u → ⊥) → IsCharged k (p + 1) all old
none_more_charged k p all old view is does none = record {
  places = is.places;
  threads = λ t. (
      let same : view ≡ running k p = does ∙ running_charged k p all old p is in
      let here : runs_from k t 0 (p + 1) ≡ runs_from k t 0 p = runs_to k t p ∙ ap (λ v. runs_from k t 0 p || is_run_of t v) (sym same) ∙ ap (λ b. runs_from k t 0 p || b) (not_run t view none) ∙ or_end (runs_from k t 0 p) in
      is.threads t ∙ ap (λ b. cond b (charged k.scenario (thread_at k t)) (thread_at k t)) (sym here));
  rest = is.rest;
  kept = is.kept;
  held = is.held;
  noted = is.noted;
  others = is.others;
}

charge_at : (k : Plain) (a : ℕ) (ts : List Thread) (i : ℕ) → i < length ts → get_or (charge_from k a ts) i no_thread ≡ ticked k (a + i) (get_or ts i no_thread)
charge_at k a [] i within = absurd (never i within) where
  never : (i : ℕ) → i < 0 → ⊥
  never i h = omega (arith, h)
charge_at k a (x ∷ xs) zero within = let e : a + 0 ≡ a = omega arith in rw e refl
charge_at k a (x ∷ xs) (suc i) within = let e : a + suc i ≡ a + 1 + i = omega arith in rw e (charge_at k (a + 1) xs i (omega (arith, within)))

-- when all processors have been gone through, all threads that run are charged
pub all_charged : (k : Plain) (p : ℕ) (all old : AllParts) → p ≡ cpu_count k → IsCharged k p all old → plain_of all ≡ (let n : Plain = record k { threads = charge_from k 1 k.threads } in n)
unfolding ticked runs_somewhere
all_charged k p all old count is =
    let same : threads_of all.clusters ≡ charge_from k 1 k.threads =
    ext_get_or no_thread (threads_of all.clusters) (charge_from k 1 k.threads) (is.places ∙ sym (length-charge_from k 1 k.threads))
    (λ i h. is.threads (suc i) ∙ ap (λ n. charged_by k n (suc i)) count ∙ sym (let e : 1 + i ≡ suc i = omega arith in charge_at k 1 k.threads i (omega (arith, h, is.places)) ∙ ap (λ t. ticked k t (get_or k.threads i no_thread)) e)) in
    is.rest ∙ ap (λ (ts : List Thread). (let n : Plain = record k { threads = ts } in n)) same

-- a thread that a processor runs hasn't been charged
pub uncharged : (k : Plain) (p u : ℕ) (all old : AllParts) → RunOnce k → IsCharged k p all old → Runs u ≡ running (plain_of all) p → nth no_thread (threads_of all.clusters) u ≡ thread_at k u
uncharged k p u all old once is does =
    let runs : running k p ≡ Runs u = sym (running_charged k p all old p is) ∙ sym does in
    is.threads u ∙ ap (λ b. cond b (charged k.scenario (thread_at k u)) (thread_at k u)) (none_before k p u once runs p (omega arith))

runner_lives : (k : Plain) (p u : ℕ) → IsSound k → running k p ≡ Runs u → has_begun (thread_at k u).life ≡ true
runner_lives k p u sound runs = ap has_begun (runs_started k p u sound runs)

-- and lives.
pub charged_lives : (k : Plain) (p u : ℕ) (all old : AllParts) → IsSound k → RunOnce k → IsCharged k p all old → Runs u ≡ running (plain_of all) p → has_begun (thread_lent all.clusters u).life ≡ true
charged_lives k p u all old sound once is does =
    ap (λ (x : Thread). has_begun x.life) (uncharged k p u all old once is does) ∙ runner_lives k p u sound (sym (running_charged k p all old p is) ∙ sym does)

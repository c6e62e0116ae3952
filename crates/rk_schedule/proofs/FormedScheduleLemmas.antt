-- Each line of the schedule of a legal history has a form of lines.
use Rattle.std.proofs.Common.{◌≡◌, ℕ, zero, suc, ◌+◌, ◌-◌, ◌<◌, ◌≤◌, ◌⊎◌, inl, inr, ⊎_elim, List, [], ◌∷◌, ◌++◌, Bool, true, false, cond, eqb, ltb, ◌&&◌, Option, Some, None, length, length-append, arith, refl, sym, ap, ◌∙◌, subst}
use Rattle.std.specs.Prelude.{◌==◌, nat_le, min, sum, IfSome}
use Rattle.std.specs.List.{AllByRecursion}
use Rattle.std.proofs.lemmas.List.{get_or_past}
use Rattle.std.proofs.lemmas.List.Sums.{sum_by-append}
use Rattle.std.proofs.lemmas.Bool.{cases_lt}
use Rattle.std.proofs.lemmas.Bool.Decides.{nat_tests}
use Rattle.rk_model.specs.declared.scenario.Scenario.{Scenario}
use Rattle.rk_model.specs.declared.scenario.Op.{Op}
use Rattle.rk_model.specs.declared.entry.Entry.{Entry}
use Rattle.rk_model.specs.declared.entry.View.{View}
use Rattle.rk_model.specs.declared.entry.View.TheVariants.{Idle, Spins, Runs}
use Rattle.rk_model.specs.declared.entry.What.{What}
use Rattle.rk_model.specs.declared.entry.What.TheVariants.{Call, Return, Tick, End}
use Rattle.rk_model.specs.declared.ids.Named.{Named}
use Rattle.rk_model.specs.declared.period.EndedJob.{EndedJob}
use Rattle.rk_model.specs.declared.period.Stats.{Stats}
use Rattle.rk_model.specs.Lists.{times}
use Rattle.rk_model.specs.Names.{Names, indices, lesser, least_named}
use Rattle.rk_model.specs.State.{Plain, ClusterState, no_thread, thread_at, barrier_at, period_at, op_at}
use Rattle.rk_model.specs.Scheduling.Helping.{helped}
use Rattle.rk_model.specs.Scheduling.Priorities.{is_started, spins}
use Rattle.rk_model.specs.Scheduling.Running.{view_of, running, caller, is_quiet}
use Rattle.rk_model.specs.Scheduling.Seats.{all_cpus, cpu_count, cpu_at}
use Rattle.rk_model.specs.Scheduling.Ticks.{tick}
use Rattle.rk_model.specs.Directives.Objects.{names_in}
use Rattle.rk_model.specs.Directives.Outcomes.{answer_of}
use Rattle.rk_model.specs.Directives.Periods.{is_awaited}
use Rattle.rk_model.specs.Directives.Waits.{OfBarrier, object_of_wait, is_for}
use Rattle.rk_model.specs.Steps.{Act, act, act_of, action, action_on, clock_at, clock_of, clock_entry, entry_of}
use Rattle.rk_model.specs.Histories.{opening, vacant, started, next_by, after, after_from, ends, IsOf, LegalFrom, Legal}
use Rattle.rk_model.specs.Statistics.{least_of, greatest_of, computed_in, elapsed_in, stats_of, ended_jobs, statistics}
use Rattle.rk_model.specs.Text.Scenarios.{IsScenario, cpus_in}
use Rattle.rk_model.specs.Text.ScheduleForms.{has_form}
use Rattle.rk_model.specs.Text.Schedules.{directive_line, tick_line, period_line, period_lines_among, period_lines_from, period_lines, lines_of_entry, entry_lines, history_lines, final_line}
use Rattle.rk_model.proofs.CountLemmas.{times-has, length_within}
use Rattle.rk_model.proofs.LimitLemmas.{limits_of}
use Rattle.rk_directives.specs.Sound.{IsSound, KeepsLines, has_action}
use Rattle.rk_directives.proofs.NamesAgreeLemmas.{first_free}
use Rattle.rk_directives.proofs.ThreadBoundsLemmas.{bounds_at}
use Rattle.rk_kernel.proofs.CallerLemmas.{seated_within, runs_within, acting_of}
use Rattle.rk_kernel.proofs.HistoryLemmas.{IsKept, kept_act, kept_opening}
use Rattle.rk_kernel.proofs.ReachedLemmas.{cpus_opening}
use Rattle.rk_kernel.proofs.SoundSettlingLemmas.{cpus-settled}
use Rattle.rk_kernel.proofs.StatisticsLaws.{statistics_shown}
use Rattle.rk_schedule.specs.ScheduleLaws.{EachLineHasAForm}
use Rattle.rk_schedule.proofs.CleanLemmas.{AreNamedBodies, named_bodies}
use Rattle.rk_schedule.proofs.FormedLineLemmas.{IsTellable, directive_formed, IsNear, tick_formed, AreFew, period_formed, header_formed, final_formed}
use Rattle.rk_schedule.proofs.NamedLemmas.{past_caller}
use Rattle.rk_schedule.proofs.OpWithinLemmas.{lines_within, inits_within, name_at}
use Rattle.rk_schedule.proofs.OutNumberLemmas.{IsWithin, Returns, AreIndicesFew, IsOpWithin, action_returns, out_low, can_stand, within_after, within_tick, within_opening}
use Rattle.rk_schedule.proofs.TogetherLemmas.{did}
use Rattle.rk_schedule.proofs.WordFormLemmas.{is_directive_at}

-- ---- the indices of a sound state are few

least_stands : (name : ℕ) (live : List Named) (index : ℕ) → least_named name live ≡ Some index → 0 < times index (indices live)
least_stands name [] index is = let no : ⊥ = cc in absurd no
least_stands name (object ∷ live) index is = by (eqb object.name.bits name) (least_named name live) refl is (least_stands name live index) where
  here : object.index ≡ index → 0 < times index (indices (object ∷ live))
  here same = let one : (object.index == index) ≡ true = grind (arith, nat_tests, same) in rw one (omega arith)

  later : 0 < times index (indices live) → 0 < times index (indices (object ∷ live))
  later some = omega (arith, some)

  lesser_one : (other : ℕ) → min object.index other ≡ index → (object.index ≡ index) ⊎ (other ≡ index)
  lesser_one other is = ⊎_elim (λ less. inl (grind (arith, is, less))) (λ more. inr (grind (arith, is, more))) (cases_lt object.index other)

  by : (found : Bool) (rest : Option ℕ) → least_named name live ≡ rest → cond found (Some (lesser object.index rest)) rest ≡ Some index → (least_named name live ≡ Some index → 0 < times index (indices live)) → 0 < times index (indices (object ∷ live))
  by true None e is more = let same : object.index ≡ index = cc (is) in here same
  by true (Some other) e is more =
      let least : min object.index other ≡ index = cc (is) in
      ⊎_elim (λ same. here same) (λ (same : other ≡ index). later (more (e ∙ ap (λ u. Some u) same))) (lesser_one other least)
  by false rest e is more = later (more (e ∙ is))

named_few : (names : Names) (index : ℕ) → times index (indices names.live) + times index names.free ≡ cond (nat_le 1 index && nat_le index 64) 1 0 → 0 < times index (indices names.live) → index ≤ 64
named_few names index split some = by (nat_le 1 index) (nat_le index 64) refl split where
  by : (low high : Bool) → nat_le index 64 ≡ high → times index (indices names.live) + times index names.free ≡ cond (low && high) 1 0 → index ≤ 64
  by low true e split = grind (arith, nat_tests, e)
  by true false e split = absurd (omega (arith, split, some))
  by false false e split = absurd (omega (arith, split, some))

-- those that wait at a barrier are different threads
waiters_few : (k : Plain) (i : ℕ) → IsSound k → length (barrier_at k i).arrivals ≤ 64
waiters_few k i sound = length_within 64 (barrier_at k i).arrivals (λ t. once t (is_for (object_of_wait (thread_at k t).wait) (OfBarrier i)) (stood t)) (λ t is. within t (times-has t (barrier_at k i).arrivals is)) where
  stood : (t : ℕ) → times t (barrier_at k i).arrivals ≡ cond (is_for (object_of_wait (thread_at k t).wait) (OfBarrier i)) 1 0
  stood t = sound.tied.queued t refl (OfBarrier i)

  once : (t : ℕ) (b : Bool) → times t (barrier_at k i).arrivals ≡ cond b 1 0 → times t (barrier_at k i).arrivals ≤ 1
  once t true e = omega (arith, e)
  once t false e = omega (arith, e)

  none : (t : ℕ) → thread_at k t ≡ no_thread → times t (barrier_at k i).arrivals ≡ 0
  none t blank = stood t ∙ (rw blank refl)

  within : (t : ℕ) → 0 < times t (barrier_at k i).arrivals → (1 ≤ t) × (t ≤ 64)
  within zero some = absurd (omega (arith, some, none 0 refl))
  within (suc j) some =
      let low : 1 ≤ suc j = omega arith in
      ⊎_elim
      (λ (few : j < length k.threads). let high : suc j ≤ 64 = omega (arith, few, sound.places) in (low, high))
      (λ (past : length k.threads ≤ j). absurd (omega (arith, some, none (suc j) (get_or_past k.threads j no_thread past))))
      (cases_lt j (length k.threads))

indices_few : (k : Plain) → IsSound k → AreIndicesFew k
indices_few k sound = record {
  free = λ class index more is. (first_free k.table _ class index more sound.named is).high;
  live = λ class name index is. named_few (names_in k class) index ((sound.named.class class).split index) (least_stands name (names_in k class).live index is);
  waiters = λ i. waiters_few k i sound;
}

-- ---- reached states

cpus_kept : (olds news : List ClusterState) → KeepsLines olds news → length (all_cpus news) ≡ length (all_cpus olds)
cpus_kept [] [] keeps = refl
cpus_kept [] (b ∷ news) keeps = absurd keeps
cpus_kept (a ∷ olds) [] keeps = absurd keeps
cpus_kept (a ∷ olds) (b ∷ news) keeps = length-append b.cpus (all_cpus news) ∙ (rw (keeps.1, cpus_kept olds news keeps.2) refl) ∙ sym (length-append a.cpus (all_cpus olds))

-- A state is of a scenario, and has its processors.
record IsOfScenario (s : Scenario) (k : Plain) : Type 0 where
  scenario : k.scenario ≡ s
  cpus : cpu_count k ≡ cpus_in s.clusters

keeps_scenario : (s : Scenario) → IsKept (IsOfScenario s)
keeps_scenario s = record {
  settled = λ k next last sound gentle is. record { scenario = gentle.scenario ∙ is.scenario; cpus = cpus-settled k next last ∙ cpus_kept k.clusters next.clusters gentle.lines ∙ is.cpus };
  passed = λ k sound is. record { scenario = is.scenario; cpus = is.cpus };
}

-- A state to which a scenario's history leads: it is sound, of the scenario, and within the limits.
record IsReached (s : Scenario) (k : Plain) : Type 0 where
  sound : IsSound k
  of : IsOfScenario s k
  within : IsWithin (length s.bodies) k

-- ---- what seats do leads to reached states

-- the next action of a thread returns what has few digits
acts_within : (s : Scenario) (k : Plain) (t : ℕ) → IsScenario s → IsReached s k → Returns (length s.bodies) (action k t)
unfolding action
acts_within s k t is reached =
    let here = subst (λ (z : Scenario). IsLine z) (sym reached.of.scenario) (lines_within s (thread_at k t).body (thread_at k t).line is) in
    action_returns (length s.bodies) k t (thread_at k t).finished refl here (indices_few k reached.sound) reached.within
  where
    IsLine : Scenario → Type 0
    IsLine z = IfSome (op_at z (thread_at k t).body (thread_at k t).line) (IsOpWithin (length s.bodies))

-- what a seat does leads to a state within the limits
abbrev AllWithin : ℕ → Option Act → Type 0
AllWithin n None = Unit {0}
AllWithin n (Some a) = IsWithin n a.next

of_processor : (s : Scenario) (k : Plain) (p : ℕ) (o : Option ℕ) → IsScenario s → IsReached s k → AllWithin (length s.bodies) (act_of k p o)
of_processor s k p None is reached = tt
of_processor s k p (Some t) is reached = within_after (length s.bodies) k t (action k t) reached.within (acts_within s k t is reached)

at_clock : (n : ℕ) (k : Plain) → IsWithin n k → AllWithin n (clock_at k)
at_clock n k within = by n k (ltb k.present k.scenario.horizon) (eqb k.present k.scenario.horizon) within where
  by : (n : ℕ) (k : Plain) (b d : Bool) → IsWithin n k → AllWithin n (cond b (Some (let a : Act = record { entry = clock_entry Tick; next = tick k } in a)) (cond d (Some (let a : Act = record { entry = clock_entry End; next = k } in a)) None))
  by n k true d within = within_tick n k within
  by n k false true within = within
  by n k false false within = tt

of_clock : (n : ℕ) (k : Plain) → IsWithin n k → AllWithin n (clock_of k)
of_clock n k within = by (is_quiet k) where
  by : (b : Bool) → AllWithin n (cond b (clock_at k) None)
  by true = at_clock n k within
  by false = tt

act_within : (s : Scenario) (k : Plain) (q : ℕ) → IsScenario s → IsReached s k → AllWithin (length s.bodies) (act k q)
act_within s k q is reached = by (eqb q 8) where
  by : (b : Bool) → AllWithin (length s.bodies) (cond b (clock_of k) (act_of k q (caller k q)))
  by true = of_clock (length s.bodies) k reached.within
  by false = of_processor s k q (caller k q) is reached

reached_next : (s : Scenario) (k : Plain) (q : ℕ) (a : Act) → IsScenario s → IsReached s k → act k q ≡ Some a → IsReached s a.next
reached_next s k q a is reached did =
    let both = kept_act (IsOfScenario s) (keeps_scenario s) k q a (reached.sound, reached.of) did in
    record { sound = both.0; of = both.1; within = subst (AllWithin (length s.bodies)) did (act_within s k q is reached) }

-- where there is no task yet
vacant_of : (s : Scenario) → IsOfScenario s (vacant s)
vacant_of s = record { scenario = refl; cpus = sym (cpus-settled (vacant s) (started s) []) ∙ cpus_opening s }

reached_opening : (s : Scenario) → IsScenario s → IsReached s (opening s)
reached_opening s is =
    let both = kept_opening (IsOfScenario s) (keeps_scenario s) s (limits_of s is) (vacant_of s) in
    record { sound = both.0; of = both.1; within = within_opening s (length s.bodies) (inits_within s is) }

-- ---- the line of an entry

-- the lines have forms, where there are so many processors
abbrev AreFormed : ℕ → List (List ℕ) → Type 0
AreFormed cpus lines = AllByRecursion (λ line. has_form cpus line ≡ true) lines

directive_at : (o : Option Op) → has_action o ≡ true → is_directive_at o ≡ true
directive_at None acts = refl
directive_at (Some op) acts = acts

-- the entry of a processor's action
tellable : (s : Scenario) (k : Plain) (p t : ℕ) → IsScenario s → IsReached s k → p < 8 → caller k p ≡ Some t → IsTellable k.scenario (entry_of k p t (answer_of (action k t)))
unfolding action
tellable s k p t is reached few calls =
    let acts = acting_of k p t reached.sound calls in
    let bounds = bounds_at k t reached.sound in
    let was = reached.within.thread t in
    let body : (thread_at k t).body < length s.bodies = was.has_body (ap is_started acts.started) in
    let same = reached.of.scenario in
    let out = out_low (length s.bodies) (action_on k t (thread_at k t).finished) (acts_within s k t is reached) in
    record {
      seat = omega (arith, few);
      task = omega (arith, acts.high);
      name = name_at k.scenario.bodies (thread_at k t).body (subst (λ (z : Scenario). AreNamedBodies z.bodies) (sym same) (named_bodies s is)) (subst (λ (z : Scenario). (thread_at k t).body < length z.bodies) (sym same) body);
      line = omega (arith, bounds.line);
      word = directive_at (op_at k.scenario (thread_at k t).body (thread_at k t).line) (bounds.acts acts.works_not);
      status = can_stand (length s.bodies) k t (thread_at k t).finished refl reached.within;
      out = omega (arith, out);
    }

-- the threads of processors have few digits
view_near : (k : Plain) (p : ℕ) → IsSound k → IsNear (running k p)
view_near k p sound = by (running k p) refl where
  spinner : (o other : Option ℕ) (t : ℕ) → view_of k o other ≡ Spins t → o ≡ Some t
  spinner None other t is = let no : ⊥ = cc in absurd no
  spinner (Some u) None t is = own (spins k u) is where
    own : (b : Bool) → cond b (Spins u) (Runs u) ≡ Spins t → Some u ≡ Some t
    own true is = let same : u ≡ t = cc (is) in ap (λ v. Some v) same
    own false is = let no : ⊥ = cc in absurd no
  spinner (Some u) (Some e) t is = let no : ⊥ = cc in absurd no

  by : (view : View) → running k p ≡ view → IsNear view
  by Idle is = tt
  by (Spins t) is = let w = seated_within k p t sound (spinner (cpu_at k p) (helped k p) t is) in omega (arith, w.1)
  by (Runs t) is = let w = runs_within k p t sound is in omega (arith, w.1)

tick_is : (s : Scenario) (k : Plain) → IsReached s k → has_form (cpus_in s.clusters) (tick_line k) ≡ true
tick_is s k reached =
    let sound = reached.sound in
    tick_formed (cpus_in s.clusters) k reached.of.cpus (omega (arith, sound.present, sound.horizon)) (λ q. view_near k q sound)

-- what a seat does has lines with forms
abbrev AreActFormed : ℕ → Plain → Option Act → Type 0
AreActFormed cpus k None = Unit {0}
AreActFormed cpus k (Some a) = AreFormed cpus (lines_of_entry k a.entry a.entry.what)

call_line : (cpus : ℕ) (k : Plain) (x : Entry) (what : What) → has_form cpus (directive_line k.scenario x) ≡ true → has_form cpus (tick_line k) ≡ true → AreFormed cpus (lines_of_entry k x what)
call_line cpus k x Call formed ticks = (formed, tt)
call_line cpus k x Return formed ticks = (formed, tt)
call_line cpus k x Tick formed ticks = (ticks, tt)
call_line cpus k x End formed ticks = tt

within_seat : (k : Plain) (p t : ℕ) → IsSound k → caller k p ≡ Some t → p < 8
within_seat k p t sound calls = ⊎_elim (λ h. omega (arith, h, sound.few_cpus)) (λ h. let no : ⊥ = cc (past_caller k p h, calls) in absurd no) (cases_lt p (cpu_count k))

processor_formed : (s : Scenario) (k : Plain) (p : ℕ) (o : Option ℕ) → caller k p ≡ o → IsScenario s → IsReached s k → AreActFormed (cpus_in s.clusters) k (act_of k p o)
processor_formed s k p None calls is reached = tt
processor_formed s k p (Some t) calls is reached =
    let x : Entry = entry_of k p t (answer_of (action k t)) in
    call_line (cpus_in s.clusters) k x x.what (directive_formed (cpus_in s.clusters) k.scenario x (tellable s k p t is reached (within_seat k p t reached.sound calls) calls)) (tick_is s k reached)

clock_at_formed : (s : Scenario) (k : Plain) → IsReached s k → AreActFormed (cpus_in s.clusters) k (clock_at k)
clock_at_formed s k reached = by k (ltb k.present k.scenario.horizon) (eqb k.present k.scenario.horizon) (tick_is s k reached) where
  by : (k : Plain) (b d : Bool) → has_form (cpus_in s.clusters) (tick_line k) ≡ true → AreActFormed (cpus_in s.clusters) k (cond b (Some (let a : Act = record { entry = clock_entry Tick; next = tick k } in a)) (cond d (Some (let a : Act = record { entry = clock_entry End; next = k } in a)) None))
  by k true d formed = (formed, tt)
  by k false true formed = tt
  by k false false formed = tt

clock_formed : (s : Scenario) (k : Plain) → IsReached s k → AreActFormed (cpus_in s.clusters) k (clock_of k)
clock_formed s k reached = by (is_quiet k) where
  by : (b : Bool) → AreActFormed (cpus_in s.clusters) k (cond b (clock_at k) None)
  by true = clock_at_formed s k reached
  by false = tt

act_formed : (s : Scenario) (k : Plain) (q : ℕ) → IsScenario s → IsReached s k → AreActFormed (cpus_in s.clusters) k (act k q)
act_formed s k q is reached = by (eqb q 8) where
  by : (b : Bool) → AreActFormed (cpus_in s.clusters) k (cond b (clock_of k) (act_of k q (caller k q)))
  by true = clock_formed s k reached
  by false = processor_formed s k q (caller k q) refl is reached

-- ---- the lines of periods

-- the least and the greatest of numbers are at most their sum
least_low : (xs : List ℕ) → least_of xs ≤ sum xs
least_low [] = omega arith
least_low (x ∷ []) = omega arith
least_low (x ∷ y ∷ ys) =
    let whole : sum (x ∷ y ∷ ys) ≡ 0 + x + sum (y ∷ ys) = sum_by-append (λ n. n) (x ∷ []) (y ∷ ys) in
    grind (arith, whole, least_low (y ∷ ys))

greatest_low : (xs : List ℕ) → greatest_of xs ≤ sum xs
greatest_low [] = omega arith
greatest_low (x ∷ xs) =
    let whole : sum (x ∷ xs) ≡ 0 + x + sum xs = sum_by-append (λ n. n) (x ∷ []) xs in
    grind (arith, whole, greatest_low xs)

-- where counts and sums are at most the most ticks that a scenario may have, and one, the eight numbers are few
jobs_few : (jobs : List EndedJob) (stats : Stats) → stats ≡ stats_of jobs → stats.count ≤ 1000001 → stats.missed ≤ 1000000 → stats.cpu_total ≤ 1000000 → stats.wall_total ≤ 1000000 → AreFew (stats_of jobs)
jobs_few jobs stats same count missed computed elapsed =
    let cpu : sum (computed_in jobs) ≤ 1000000 = subst (λ (x : Stats). x.cpu_total ≤ 1000000) same computed in
    let wall : sum (elapsed_in jobs) ≤ 1000000 = subst (λ (x : Stats). x.wall_total ≤ 1000000) same elapsed in
    let many : (stats_of jobs).count ≤ 1000001 = subst (λ (x : Stats). x.count ≤ 1000001) same count in
    let late : (stats_of jobs).missed ≤ 1000000 = subst (λ (x : Stats). x.missed ≤ 1000000) same missed in
    record {
      count = omega (arith, many);
      missed = omega (arith, late);
      cpu_least = omega (arith, cpu, least_low (computed_in jobs));
      cpu_greatest = omega (arith, cpu, greatest_low (computed_in jobs));
      cpu_total = omega (arith, cpu);
      wall_least = omega (arith, wall, least_low (elapsed_in jobs));
      wall_greatest = omega (arith, wall, greatest_low (elapsed_in jobs));
      wall_total = omega (arith, wall);
    }

one_more : (b : Bool) → cond b 1 0 ≤ 1
one_more true = omega arith
one_more false = omega arith

-- the statistics of a period that lives have few digits
period_few : (s : Scenario) (xs : List Entry) (i : ℕ) → IsScenario s → Legal s xs → IsReached s (after s xs) → (period_at (after s xs) i).live ≡ true → AreFew (statistics s xs i)
period_few s xs i is legal reached lives =
    let k = after s xs in
    let sound = reached.sound in
    let counted = (sound.periods.each i).counted in
    let used = (bounds_at k (period_at k i).creator sound).computed in
    let one = one_more (is_awaited (period_at k i).phase) in
    jobs_few (ended_jobs s xs i) (period_at k i).stats (statistics_shown s xs is legal i lives)
    (omega (arith, counted.count, one, sound.present, sound.horizon))
    (omega (arith, counted.missed, sound.present, sound.horizon))
    (omega (arith, counted.computed, used, sound.present, sound.horizon))
    (omega (arith, counted.elapsed, sound.present, sound.horizon))

among_formed : (cpus : ℕ) (k : Plain) (stats : ℕ → Stats) (index n : ℕ) → index + n ≤ 65 → ((i : ℕ) → (period_at k i).live ≡ true → AreFew (stats i)) → AreFormed cpus (period_lines_among k stats index n)
among_formed cpus k stats index zero few each = tt
among_formed cpus k stats index (suc n) few each = by (period_at k index).live refl (among_formed cpus k stats (index + 1) n (omega (arith, few)) each) where
  by : (live : Bool) → (period_at k index).live ≡ live → AreFormed cpus (period_lines_among k stats (index + 1) n) → AreFormed cpus (cond live (period_line index (stats index) ∷ []) [] ++ period_lines_among k stats (index + 1) n)
  by true lives later = (period_formed cpus index (stats index) (omega (arith, few)) (each index lives), later)
  by false lives later = later

periods_formed : (cpus : ℕ) (k : Plain) (stats : ℕ → Stats) → ((i : ℕ) → (period_at k i).live ≡ true → AreFew (stats i)) → AreFormed cpus (period_lines_from k stats 1)
unfolding period_lines_from
periods_formed cpus k stats each = among_formed cpus k stats 1 (65 - 1) (omega arith) each

-- ---- all lines

formed_both : (cpus : ℕ) (one other : List (List ℕ)) → AreFormed cpus one → AreFormed cpus other → AreFormed cpus (one ++ other)
formed_both cpus [] other formed more = more
formed_both cpus (line ∷ one) other formed more = (formed.0, formed_both cpus one other formed.1 more)

-- the state after an entry is reached
next_reached : (s : Scenario) (k : Plain) (x : Entry) → IsScenario s → IsReached s k → IsOf (act k x.seat) x → IsReached s (next_by k x)
next_reached s k x is reached of = let d = did k x of in subst (IsReached s) (sym d.next) (reached_next s k x.seat d.what is reached d.acts)

after_reached : (s : Scenario) (k : Plain) (xs : List Entry) → IsScenario s → IsReached s k → LegalFrom k xs → IsReached s (after_from k xs)
after_reached s k [] is reached legal = reached
after_reached s k (x ∷ xs) is reached legal = after_reached s (next_by k x) xs is (next_reached s k x is reached legal.0) legal.2

entry_formed : (s : Scenario) (k : Plain) (x : Entry) → IsScenario s → IsReached s k → IsOf (act k x.seat) x → AreFormed (cpus_in s.clusters) (lines_of_entry k x x.what)
entry_formed s k x is reached of =
    let d = did k x of in
    let formed = subst (AreActFormed (cpus_in s.clusters) k) d.acts (act_formed s k x.seat is reached) in
    subst (λ (y : Entry). AreFormed (cpus_in s.clusters) (lines_of_entry k y y.what)) d.entry formed

entries_formed : (s : Scenario) (k : Plain) (xs : List Entry) → IsScenario s → IsReached s k → LegalFrom k xs → AreFormed (cpus_in s.clusters) (entry_lines k xs)
entries_formed s k [] is reached legal = tt
entries_formed s k (x ∷ xs) is reached legal =
    formed_both (cpus_in s.clusters) (lines_of_entry k x x.what) (entry_lines (next_by k x) xs) (entry_formed s k x is reached legal.0)
    (entries_formed s (next_by k x) xs is (next_reached s k x is reached legal.0) legal.2)

-- Each line of a schedule has a form.
pub schedule_formed : EachLineHasAForm
schedule_formed s xs is legal =
    let cpus = cpus_in s.clusters in
    let begun = reached_opening s is in
    let reached = after_reached s (opening s) xs is begun legal in
    let limits = limits_of s is in
    formed_both cpus (history_lines s xs ++ period_lines s xs) (final_line s (ends xs) ∷ [])
    (formed_both cpus (history_lines s xs) (period_lines s xs) (header_formed cpus, entries_formed s (opening s) xs is begun legal)
    (periods_formed cpus (after s xs) (statistics s xs) (λ i lives. period_few s xs i is legal reached lives)))
    (final_formed cpus s (ends xs) (omega (arith, limits.horizon)), tt)

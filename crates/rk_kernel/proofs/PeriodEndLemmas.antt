-- The end of a period passes: its timer is taken out and armed again, and the wait of its creator ends.
use Rattle.std.proofs.Common.{◌≡◌, ◌≢◌, ℕ, ◌+◌, ◌<◌, ◌≤◌, List, [], ◌∷◌, ◌++◌, Bool, true, false, cond, not, ◌==◌, ◌&&◌, Option, None, Some, length, get_or, arith, refl, ap, sym, ◌∙◌, subst}
use Rattle.std.specs.Prelude.{IfSome}
use Rattle.std.specs.List.{slice_set}
use Rattle.std.specs.Option.{option_to_list}
use Rattle.std.proofs.lemmas.List.{set-get_or, get_or-set_same, length-set}
use Rattle.std.proofs.lemmas.Bool.{false≢true}
use Rattle.std.proofs.lemmas.Bool.Decides.{nat_tests}
use Rattle.rk_model.specs.declared.entry.Reply.{Reply}
use Rattle.rk_model.specs.declared.period.Phase.{Phase}
use Rattle.rk_model.specs.declared.period.Phase.TheVariants.{Inactive, Active, Awaited, Expired}
use Rattle.rk_model.specs.declared.state.Armed.{Armed}
use Rattle.rk_model.specs.declared.state.Armer.{Armer}
use Rattle.rk_model.specs.declared.state.Armer.TheVariants.{Thread as OfThread, Period as OfPeriod}
use Rattle.rk_model.specs.declared.state.Thread.{Thread}
use Rattle.rk_model.specs.declared.state.Wait.{Wait}
use Rattle.rk_model.specs.declared.state.Wait.TheVariants.{ForTime, ForEvents, AtBarrier, ForPeriod, ForSemaphore}
use Rattle.rk_model.specs.declared.status.Status.TheVariants.{Successful}
use Rattle.rk_model.specs.Lists.{has}
use Rattle.rk_model.specs.State.{Plain, ClusterState, PeriodState, no_thread, no_cluster, thread_at, period_at, put_period, cluster_at}
use Rattle.rk_model.specs.Scheduling.Timers.{is_same, times_armed, without_timer, due_at, is_due, without_due, take_due, cancel, with_timer}
use Rattle.rk_model.specs.Directives.Objects.{has_begun}
use Rattle.rk_model.specs.Directives.Periods.{end_of, is_awaited, fired, passed, rearmed, passed_by, end_passed}
use Rattle.rk_model.specs.Directives.Waits.{bare, end_wait, leave}
use Rattle.rk_model.proofs.BooleanLemmas.{equal_test, same_number}
use Rattle.rk_model.proofs.IndexLemmas.{nth-with_same, nth-with_other, nth-with_kept}
use Rattle.rk_parts.specs.Firing.{due_now}
use Rattle.rk_directives.specs.Sound.{IsSound, IsGentleBut, IsGentle, CanSettle, but_none, waits_in, is_waiting, may_time_out}
use Rattle.rk_directives.specs.SoundPeriods.{awaits, dues_of, length_of, IsCounted, IsPeriodSound}
use Rattle.rk_directives.proofs.ThreadBoundsLemmas.{bounds_at}
use Rattle.rk_directives.proofs.GentleChangeLemmas.{gentle_same, gentle_but, gentle_fewer, gentle_end_wait}
use Rattle.rk_directives.proofs.TieLemmas.{times-taken}
use Rattle.rk_directives.proofs.TimerLemmas.{timers_of, times-without_due}
use Rattle.rk_directives.proofs.PeriodSoundLemmas.{counted_passed, due_here, one_taken, dues-taken_other, timers_put, armed_here, armed_other, threads_armed, IsAlike, same_thread, one_changed, live_within}
use Rattle.rk_directives.proofs.DirectiveLemmas.PeriodsLemmas.{gentle_put_period, gentle_arm_period}
use Rattle.rk_parts.proofs.PutLemmas.{lives_within}

-- ---- a timer is taken out

-- to cancel the timer of one that has none changes nothing
without_none : (who : Armer) (timers : List Armed) → times_armed who timers ≡ 0 → without_timer who timers ≡ timers
without_none who [] none = refl
without_none who (timer ∷ timers) none = by (is_same timer.who who) none (without_none who timers) where
  by : (b : Bool) → cond b 1 0 + times_armed who timers ≡ 0 → (times_armed who timers ≡ 0 → without_timer who timers ≡ timers) → cond (not b) (timer ∷ without_timer who timers) (without_timer who timers) ≡ timer ∷ timers
  by true none more = absurd (omega (arith, none))
  by false none more = ap (λ ts. timer ∷ ts) (more (omega (arith, none)))

cancel_none : (k : Plain) (c : ℕ) (who : Armer) → times_armed who (cluster_at k c).timers ≡ 0 → cancel k c who ≡ k
cancel_none k c who none =
    ap (λ (ts : List Armed). record k { clusters = slice_set k.clusters c (record (cluster_at k c) { timers = ts }) }) (without_none who (cluster_at k c).timers none)
    ∙ ap (λ (cs : List ClusterState). record k { clusters = cs }) (set-get_or k.clusters c no_cluster)

-- where a thread has no timer, to end its wait cancels none
pub ended_clusters : (m : Plain) (t : ℕ) (reply : Reply) → times_armed (OfThread t) (cluster_at m (thread_at m t).home).timers ≡ 0 → (end_wait m t reply).clusters ≡ m.clusters
ended_clusters m t reply none = ap (λ (n : Plain). n.clusters) (cancel_none (leave m t) (thread_at m t).home (OfThread t) none)

pub taken_timers : (k : Plain) (c : ℕ) → c < length k.clusters → (cluster_at (take_due k c) c).timers ≡ without_due k.present (cluster_at k c).timers
taken_timers k c within = ap (λ (y : ClusterState). y.timers) (get_or-set_same k.clusters c (record (cluster_at k c) { timers = without_due k.present (cluster_at k c).timers }) no_cluster within)

-- to take out the first that is due, but for the threads of which it is
pub gentle_taken : (k : Plain) (c : ℕ) (xs : List Armed) (x : Armed) (but : ℕ → Bool) → due_now k c ≡ x ∷ xs → ((u : ℕ) → but u ≡ false → is_same x.who (OfThread u) ≡ false) → IsGentleBut k k but → IsGentleBut k (take_due k c) but
gentle_taken k c xs x but due apart gentle =
    let timers = (cluster_at k c).timers in
    gentle_fewer k k but c (without_due k.present timers) gentle (λ u. times-without_due k.present u timers) (λ u other. times-taken k.present u timers xs x (apart u other) due)

-- ---- the timer of a period is the first that is due

-- A period whose timer fires:
pub record Passes (k : Plain) (c i : ℕ) : Type 0 where
  -- it lives, and so does its creator, whose home this is
  pub live : (period_at k i).live ≡ true
  pub lives : has_begun (thread_at k (period_at k i).creator).life ≡ true
  pub home : (thread_at k (period_at k i).creator).home ≡ c
  -- its end is now, and it has no other timer there
  pub ends : end_of (period_at k i).phase ≡ Some k.present
  pub alone : dues_of (OfPeriod i) (without_due k.present (cluster_at k c).timers) ≡ []

-- a period that has an end lives
end_lives : (k : Plain) (i next_end : ℕ) → IsSound k → end_of (period_at k i).phase ≡ Some next_end → (period_at k i).live ≡ true
end_lives k i next_end sound is = by (period_at k i).live refl where
  by : (b : Bool) → (period_at k i).live ≡ b → b ≡ true
  by true e = refl
  by false e = let no : None ≡ Some next_end = sym (ap (λ (p : PeriodState). end_of p.phase) (sound.named.idle i e)) ∙ is in absurd (let wrong : ⊥ = cc in wrong)

none_left : (ds : List ℕ) → length ds + 1 ≡ 1 → ds ≡ []
none_left [] one = refl
none_left (d ∷ ds) one = absurd (omega (arith, one))

pub passes : (k : Plain) (c i : ℕ) (xs : List Armed) (x : Armed) → IsSound k → due_now k c ≡ x ∷ xs → x.who ≡ OfPeriod i → Passes k c i
passes k c i xs x sound due whose = by ((thread_at k (period_at k i).creator).home == c) refl (end_of (period_at k i).phase) refl ((sound.periods.each i).timed c) where
  timers : List Armed
  timers = (cluster_at k c).timers

  there : has (dues_of (OfPeriod i) timers) k.present ≡ true
  there = due_here k.present i timers xs x whose due

  by : (b : Bool) → ((thread_at k (period_at k i).creator).home == c) ≡ b → (o : Option ℕ) → end_of (period_at k i).phase ≡ o → dues_of (OfPeriod i) timers ≡ cond b (option_to_list o) [] → Passes k c i
  by false at o is dues = absurd (false≢true (sym (ap (λ ds. has ds k.present) dues) ∙ there))
  by true at None is dues = absurd (false≢true (sym (ap (λ ds. has ds k.present) dues) ∙ there))
  by true at (Some next_end) is dues =
      let one : has (next_end ∷ []) k.present ≡ true = ap (λ ds. has ds k.present) (sym dues) ∙ there in
      let now : next_end ≡ k.present = grind (arith, nat_tests, one) in
      let live = end_lives k i next_end sound is in
      record {
        live = live;
        lives = (sound.periods.each i).created live;
        home = same_number (thread_at k (period_at k i).creator).home c at;
        ends = is ∙ ap (λ n. Some n) now;
        alone = none_left (dues_of (OfPeriod i) (without_due k.present timers)) (one_taken k.present i timers xs x whose due ∙ ap (λ (ds : List ℕ). length ds) dues);
      }

-- its timers, where it was taken out,
gone_everywhere : (k : Plain) (c i d : ℕ) → IsSound k → c < length k.clusters → Passes k c i → dues_of (OfPeriod i) (cluster_at (take_due k c) d).timers ≡ []
gone_everywhere k c i d sound within p = ap (dues_of (OfPeriod i)) (timers_put k.clusters c d _ within) ∙ by (c == d) refl where
  by : (b : Bool) → (c == d) ≡ b → dues_of (OfPeriod i) (cond b (without_due k.present (cluster_at k c).timers) (cluster_at k d).timers) ≡ []
  by true e = p.alone
  by false e = (sound.periods.each i).timed d ∙ ap (λ h. cond (h == d) (option_to_list (end_of (period_at k i).phase)) []) p.home ∙ ap (λ b. cond b (option_to_list (end_of (period_at k i).phase)) []) e

-- and those of the others
others_stay : (k : Plain) (c i d j : ℕ) (xs : List Armed) (x : Armed) → c < length k.clusters → due_now k c ≡ x ∷ xs → x.who ≡ OfPeriod i → j ≢ i → dues_of (OfPeriod j) (cluster_at (take_due k c) d).timers ≡ dues_of (OfPeriod j) (cluster_at k d).timers
others_stay k c i d j xs x within due whose other = ap (dues_of (OfPeriod j)) (timers_put k.clusters c d _ within) ∙ by (c == d) refl where
  by : (b : Bool) → (c == d) ≡ b → dues_of (OfPeriod j) (cond b (without_due k.present (cluster_at k c).timers) (cluster_at k d).timers) ≡ dues_of (OfPeriod j) (cluster_at k d).timers
  by true e = dues-taken_other k.present i j (cluster_at k c).timers xs x other whose due ∙ ap (λ n. dues_of (OfPeriod j) (cluster_at k n).timers) (same_number c d e)
  by false e = refl

-- ---- it is armed again

-- a state in which a timer was taken out, and the period's is armed for its next end
abbrev armed_again : Plain → ℕ → ℕ → ℕ → Plain
armed_again k c i next_end = rearmed (take_due k c) i next_end

-- the period then
abbrev period_passed : Plain → ℕ → PeriodState
period_passed k i = passed k.present (thread_at k (period_at k i).creator).computed (period_at k i)

again_gentle : (k : Plain) (c i next_end : ℕ) (xs : List Armed) (x : Armed) → IsSound k → due_now k c ≡ x ∷ xs → x.who ≡ OfPeriod i → Passes k c i → IsGentle k (armed_again k c i next_end)
again_gentle k c i next_end xs x sound due whose p =
    gentle_arm_period k (put_period (take_due k c) i (period_passed k i)) but_none (thread_at k (period_at k i).creator).home i next_end
    (gentle_put_period k (take_due k c) but_none i (period_passed k i) (gentle_taken k c xs x but_none due (λ u _. ap (λ w. is_same w (OfThread u)) whose) (gentle_same k sound)) p.live p.live)

fired_idle : (now used : ℕ) (phase : Phase) → is_awaited (fired now used phase) ≡ false
fired_idle now used Inactive = refl
fired_idle now used (Active length next_end job) = refl
fired_idle now used (Awaited length next_end) = refl
fired_idle now used (Expired length next_end job postponed) = refl

-- as many clusters as before
same_count : (k : Plain) (c : ℕ) → length (take_due k c).clusters ≡ length k.clusters
same_count k c = length-set k.clusters c _

again_dues : (k : Plain) (c i next_end d : ℕ) → IsSound k → c < length k.clusters → Passes k c i → dues_of (OfPeriod i) (cluster_at (armed_again k c i next_end) d).timers ≡ cond ((thread_at k (period_at k i).creator).home == d) (next_end ∷ []) []
again_dues k c i next_end d sound within p =
    let h = (thread_at k (period_at k i).creator).home in
    let home_within : h < length (take_due k c).clusters = rw (same_count k c) (bounds_at k (period_at k i).creator sound).home in
    armed_here (take_due k c).clusters h d i next_end home_within ∙ ap (λ ds. ds ++ cond (h == d) (next_end ∷ []) []) (gone_everywhere k c i d sound within p)

again_others : (k : Plain) (c i next_end d j : ℕ) (xs : List Armed) (x : Armed) → IsSound k → c < length k.clusters → due_now k c ≡ x ∷ xs → x.who ≡ OfPeriod i → j ≢ i → dues_of (OfPeriod j) (cluster_at (armed_again k c i next_end) d).timers ≡ dues_of (OfPeriod j) (cluster_at k d).timers
again_others k c i next_end d j xs x sound within due whose other =
    let h = (thread_at k (period_at k i).creator).home in
    let home_within : h < length (take_due k c).clusters = rw (same_count k c) (bounds_at k (period_at k i).creator sound).home in
    armed_other (take_due k c).clusters h d i j next_end home_within other ∙ others_stay k c i d j xs x within due whose other

-- the period is sound then, whatever its creator waits for
again_sound : (k : Plain) (c i next_end : ℕ) (by : Thread) (timers : ℕ → List Armed) → IsSound k → c < length k.clusters → Passes k c i → end_of (period_passed k i).phase ≡ Some next_end → IsAlike (thread_at k (period_at k i).creator) by → ((d : ℕ) → timers d ≡ (cluster_at (armed_again k c i next_end) d).timers) → IsPeriodSound k.present by timers i (period_passed k i)
again_sound k c i next_end by timers sound within p ends alike same = record {
  created = λ _. alike.lives ∙ p.lives;
  awaited = λ is. absurd (false≢true (sym (fired_idle k.present (thread_at k (period_at k i).creator).computed (period_at k i).phase) ∙ is));
  timed = λ d. ap (dues_of (OfPeriod i)) (same d) ∙ again_dues k c i next_end d sound within p ∙ ap (λ h. cond (h == d) (next_end ∷ []) []) (sym alike.home) ∙ ap (λ o. cond (by.home == d) (option_to_list o) []) (sym ends);
  counted = subst (λ n. IsCounted k.present n (period_passed k i)) (sym alike.computed) (counted_passed k.present (thread_at k (period_at k i).creator).computed (period_at k i) p.ends (sound.periods.each i).counted);
}

-- ---- its creator doesn't wait for it

again_settles : (k : Plain) (c i next_end : ℕ) (xs : List Armed) (x : Armed) → IsSound k → c < length k.clusters → due_now k c ≡ x ∷ xs → x.who ≡ OfPeriod i → Passes k c i → is_awaited (period_at k i).phase ≡ false → end_of (period_passed k i).phase ≡ Some next_end → CanSettle k (armed_again k c i next_end)
again_settles k c i next_end xs x sound within due whose p idle ends =
    let w = live_within k.periods i sound.periods.places p.live in
    record {
      gentle = again_gentle k c i next_end xs x sound due whose p;
      periods = one_changed k (armed_again k c i next_end) i (period_passed k i) sound.periods (record {
        low = w.0;
        high = w.1;
        present = refl;
        periods = refl;
        threads = λ u. same_thread (thread_at k u);
        dues = λ d j other. again_others k c i next_end d j xs x sound within due whose other;
        awaited = λ j _ _. refl;
        waits = λ u j _ waits. waits;
        sound = again_sound k c i next_end (thread_at k (period_at k i).creator) (λ d. (cluster_at (armed_again k c i next_end) d).timers) sound within p ends (same_thread (thread_at k (period_at k i).creator)) (λ d. refl);
        here = λ u waits. absurd (false≢true (sym idle ∙ (sound.periods.waits u i waits).awaited));
      });
    }

-- ---- its creator waits for it

waits_for_end : (wait : Option Wait) (i : ℕ) → awaits wait ≡ Some i → (is_waiting wait ≡ true) × (may_time_out wait ≡ false)
waits_for_end None i is = let no : ⊥ = cc in absurd no
waits_for_end (Some ForTime) i is = let no : ⊥ = cc in absurd no
waits_for_end (Some (ForEvents set all)) i is = let no : ⊥ = cc in absurd no
waits_for_end (Some (AtBarrier j)) i is = let no : ⊥ = cc in absurd no
waits_for_end (Some (ForPeriod j)) i is = (refl, refl)
waits_for_end (Some (ForSemaphore j spins)) i is = let no : ⊥ = cc in absurd no

-- a thread that waits for a period has no timer
unarmed : (k : Plain) (c t i : ℕ) → IsSound k → c < length k.clusters → awaits (thread_at k t).wait ≡ Some i → times_armed (OfThread t) (cluster_at k c).timers ≡ 0
unarmed k c t i sound within is = by (waits_in k.threads c t) (rw (waits_for_end (thread_at k t).wait i is).1 (and_no ((thread_at k t).home == c))) (timers_of k c sound within t) where
  and_no : (b : Bool) → (b && false) ≡ false
  and_no true = refl
  and_no false = refl

  by : (b : Bool) → b ≡ false → times_armed (OfThread t) (cluster_at k c).timers ≤ cond b 1 0 → times_armed (OfThread t) (cluster_at k c).timers ≡ 0
  by true e few = absurd (false≢true (sym e))
  by false e few = omega (arith, few)

-- also where the period's timer was armed again
unarmed_again : (k : Plain) (c i next_end : ℕ) → IsSound k → c < length k.clusters → Passes k c i → awaits (thread_at k (period_at k i).creator).wait ≡ Some i → times_armed (OfThread (period_at k i).creator) (cluster_at (armed_again k c i next_end) (thread_at k (period_at k i).creator).home).timers ≡ 0
unarmed_again k c i next_end sound within p is =
    let t = (period_at k i).creator in
    let h = (thread_at k t).home in
    let home_within : h < length (take_due k c).clusters = rw (same_count k c) (bounds_at k t sound).home in
    let here : (cluster_at (armed_again k c i next_end) h).timers ≡ (cluster_at (take_due k c) h).timers ++ (record { who = OfPeriod i; due = next_end }) ∷ [] =
    ap (λ (y : ClusterState). y.timers) (get_or-set_same (take_due k c).clusters h (with_timer (cluster_at (take_due k c) h) (record { who = OfPeriod i; due = next_end })) no_cluster home_within) in
    let taken : (cluster_at (take_due k c) h).timers ≡ without_due k.present (cluster_at k c).timers = ap (λ d. (cluster_at (take_due k c) d).timers) p.home ∙ taken_timers k c within in
    let few = times-without_due k.present t (cluster_at k c).timers in
    let none = unarmed k c t i sound within is in
    ap (times_armed (OfThread t)) here ∙ threads_armed t i next_end (cluster_at (take_due k c) h).timers ∙ ap (times_armed (OfThread t)) taken ∙ omega (arith, few, none)

woken_settles : (k : Plain) (c i next_end : ℕ) (xs : List Armed) (x : Armed) → IsSound k → c < length k.clusters → due_now k c ≡ x ∷ xs → x.who ≡ OfPeriod i → Passes k c i → is_awaited (period_at k i).phase ≡ true → end_of (period_passed k i).phase ≡ Some next_end → CanSettle k (end_wait (armed_again k c i next_end) (period_at k i).creator (bare Successful))
woken_settles k c i next_end xs x sound within due whose p awaited ends =
    record {
      gentle = gentle_end_wait k m t (bare Successful) sound (gentle_but k m t (again_gentle k c i next_end xs x sound due whose p)) (sound.tied.queued t refl) (waits_for_end (thread_at k t).wait i waits).0;
      periods = one_changed k n i (period_passed k i) sound.periods (record {
        low = w.0;
        high = w.1;
        present = refl;
        periods = refl;
        threads = alike;
        dues = λ d j other. ap (dues_of (OfPeriod j)) (same d) ∙ again_others k c i next_end d j xs x sound within due whose other;
        awaited = λ j apart is. ap (λ (y : Thread). awaits y.wait) (other (period_at k j).creator (λ e. (
            let its : Some j ≡ Some i = sym ((sound.periods.each j).awaited is) ∙ ap (λ u. awaits (thread_at k u).wait) e ∙ waits in
            apart (let q : j ≡ i = cc in q))));
        waits = λ u j apart is. before u j is (u == t) refl;
        sound = again_sound k c i next_end (thread_at n t) (λ d. (cluster_at n d).timers) sound within p ends (alike t) same;
        here = λ u is. absurd (no_more u is (u == t) refl);
      });
    }
  where
    t : ℕ
    t = (period_at k i).creator

    m : Plain
    m = armed_again k c i next_end

    n : Plain
    n = end_wait m t (bare Successful)

    w : (0 < i) × (i ≤ 64)
    w = live_within k.periods i sound.periods.places p.live

    waits : awaits (thread_at k t).wait ≡ Some i
    waits = (sound.periods.each i).awaited awaited

    thread : Thread
    thread = record (thread_at k t) { wait = None; finished = Some (bare Successful) }

    alike : (u : ℕ) → IsAlike (thread_at k u) (thread_at n u)
    alike u = record {
      lives = nth-with_kept (λ (y : Thread). has_begun y.life) no_thread thread k.threads t u refl;
      home = nth-with_kept (λ (y : Thread). y.home) no_thread thread k.threads t u refl;
      computed = nth-with_kept (λ (y : Thread). y.computed) no_thread thread k.threads t u refl;
    }

    other : (u : ℕ) → u ≢ t → thread_at n u ≡ thread_at k u
    other u apart = nth-with_other no_thread thread k.threads t u apart

    seat : (0 < t) × (t ≤ length k.threads)
    seat = lives_within k.threads t p.lives

    here : thread_at n t ≡ thread
    here = nth-with_same no_thread thread k.threads t seat.0 seat.1

    same : (d : ℕ) → (cluster_at n d).timers ≡ (cluster_at m d).timers
    same d = ap (λ (cs : List ClusterState). (get_or cs d no_cluster).timers) (ended_clusters m t (bare Successful) (unarmed_again k c i next_end sound within p waits))

    apart_from : (u : ℕ) → (u == t) ≡ false → u ≢ t
    apart_from u e q = false≢true (sym e ∙ equal_test u t q)

    free : (u j : ℕ) → (u == t) ≡ true → awaits (thread_at n u).wait ≡ Some j → ⊥
    free u j e is = let no : None ≡ Some j = sym (ap (λ v. awaits (thread_at n v).wait) (same_number u t e) ∙ ap (λ (y : Thread). awaits y.wait) here) ∙ is in let wrong : ⊥ = cc in wrong

    before : (u j : ℕ) → awaits (thread_at n u).wait ≡ Some j → (b : Bool) → (u == t) ≡ b → awaits (thread_at k u).wait ≡ Some j
    before u j is true e = absurd (free u j e is)
    before u j is false e = sym (ap (λ (y : Thread). awaits y.wait) (other u (apart_from u e))) ∙ is

    no_more : (u : ℕ) → awaits (thread_at n u).wait ≡ Some i → (b : Bool) → (u == t) ≡ b → ⊥
    no_more u is true e = free u i e is
    no_more u is false e = apart_from u e (sym (sound.periods.waits u i (before u i is false e)).creator)

-- ---- how it stood

-- the change of a state when the end of a period passes
pub passed_settles : (k : Plain) (c i : ℕ) (xs : List Armed) (x : Armed) → IsSound k → c < length k.clusters → due_now k c ≡ x ∷ xs → x.who ≡ OfPeriod i → CanSettle k (end_passed (take_due k c) i)
passed_settles k c i xs x sound within due whose = by (period_at k i).phase refl where
  p : Passes k c i
  p = passes k c i xs x sound due whose

  used : ℕ
  used = (thread_at k (period_at k i).creator).computed

  by : (phase : Phase) → (period_at k i).phase ≡ phase → CanSettle k (passed_by (take_due k c) i phase)
  by Inactive is = let no : None ≡ Some k.present = sym (ap end_of is) ∙ p.ends in absurd (let wrong : ⊥ = cc in wrong)
  by (Active length next_end job) is = again_settles k c i (next_end + length) xs x sound within due whose p (ap is_awaited is) (ap (λ (ph : Phase). end_of (fired k.present used ph)) is)
  by (Awaited length next_end) is = woken_settles k c i (next_end + length) xs x sound within due whose p (ap is_awaited is) (ap (λ (ph : Phase). end_of (fired k.present used ph)) is)
  by (Expired length next_end job postponed) is = again_settles k c i (next_end + length) xs x sound within due whose p (ap is_awaited is) (ap (λ (ph : Phase). end_of (fired k.present used ph)) is)

pub passed_present : (m : Plain) (i : ℕ) (phase : Phase) → (passed_by m i phase).present ≡ m.present
passed_present m i Inactive = refl
passed_present m i (Active length next_end job) = refl
passed_present m i (Awaited length next_end) = refl
passed_present m i (Expired length next_end job postponed) = refl

-- a timer that isn't due comes last: the same are due
due_behind : (tick : ℕ) (timers : List Armed) (timer : Armed) → is_due tick timer ≡ false → due_at tick (timers ++ timer ∷ []) ≡ due_at tick timers
due_behind tick [] timer later = rw later refl
due_behind tick (x ∷ xs) timer later = ap (λ ds. cond (is_due tick x) (x ∷ ds) ds) (due_behind tick xs timer later)

-- an end that passes now, and the next one, which is later
later_end : (present next_end length : ℕ) → Some next_end ≡ Some present → 0 < length → (next_end + length == present) ≡ false
later_end present next_end length now some = let same : next_end ≡ present = cc in grind (arith, nat_tests, same, some)

again_left : (k : Plain) (c i next_end : ℕ) → IsSound k → c < length k.clusters → Passes k c i → (next_end == k.present) ≡ false → due_at k.present (cluster_at (armed_again k c i next_end) c).timers ≡ due_at k.present (without_due k.present (cluster_at k c).timers)
again_left k c i next_end sound within p later =
    let h = (thread_at k (period_at k i).creator).home in
    let timer : Armed = record { who = OfPeriod i; due = next_end } in
    let home_within : h < length (take_due k c).clusters = rw (same_count k c) (bounds_at k (period_at k i).creator sound).home in
    let here : (cluster_at (armed_again k c i next_end) h).timers ≡ (cluster_at (take_due k c) h).timers ++ timer ∷ [] =
    ap (λ (y : ClusterState). y.timers) (get_or-set_same (take_due k c).clusters h (with_timer (cluster_at (take_due k c) h) timer) no_cluster home_within) in
    ap (λ d. due_at k.present (cluster_at (armed_again k c i next_end) d).timers) (sym p.home)
    ∙ ap (due_at k.present) here ∙ due_behind k.present (cluster_at (take_due k c) h).timers timer later
    ∙ ap (λ d. due_at k.present (cluster_at (take_due k c) d).timers) p.home ∙ ap (due_at k.present) (taken_timers k c within)

-- when the end of a period has passed, the other timers are due
pub passed_left : (k : Plain) (c i : ℕ) (xs : List Armed) (x : Armed) → IsSound k → c < length k.clusters → due_now k c ≡ x ∷ xs → x.who ≡ OfPeriod i → due_at k.present (cluster_at (end_passed (take_due k c) i) c).timers ≡ due_at k.present (without_due k.present (cluster_at k c).timers)
passed_left k c i xs x sound within due whose = by (period_at k i).phase refl (sound.periods.each i).counted.steps where
  p : Passes k c i
  p = passes k c i xs x sound due whose

  by : (phase : Phase) → (period_at k i).phase ≡ phase → IfSome (length_of (period_at k i).phase) (λ length. 0 < length) → due_at k.present (cluster_at (passed_by (take_due k c) i phase) c).timers ≡ due_at k.present (without_due k.present (cluster_at k c).timers)
  by Inactive is steps = let no : None ≡ Some k.present = sym (ap end_of is) ∙ p.ends in absurd (let wrong : ⊥ = cc in wrong)
  by (Active length next_end job) is steps = again_left k c i (next_end + length) sound within p (later_end k.present next_end length (sym (ap end_of is) ∙ p.ends) (subst (λ (ph : Phase). IfSome (length_of ph) (λ length. 0 < length)) is steps))
  by (Awaited length next_end) is steps =
      let waits = (sound.periods.each i).awaited (ap is_awaited is) in
      ap (λ (cs : List ClusterState). due_at k.present (get_or cs c no_cluster).timers) (ended_clusters (armed_again k c i (next_end + length)) (period_at k i).creator (bare Successful) (unarmed_again k c i (next_end + length) sound within p waits))
      ∙ again_left k c i (next_end + length) sound within p (later_end k.present next_end length (sym (ap end_of is) ∙ p.ends) (subst (λ (ph : Phase). IfSome (length_of ph) (λ length. 0 < length)) is steps))
  by (Expired length next_end job postponed) is steps = again_left k c i (next_end + length) sound within p (later_end k.present next_end length (sym (ap end_of is) ∙ p.ends) (subst (λ (ph : Phase). IfSome (length_of ph) (λ length. 0 < length)) is steps))

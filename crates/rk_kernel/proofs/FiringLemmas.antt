-- Timers that are due fire one after another, and each firing keeps a state sound.
use Rattle.std.proofs.Common.{◌≡◌, ℕ, zero, suc, ◌+◌, ◌<◌, ◌≤◌, List, [], ◌∷◌, Bool, true, false, cond, eqb, Option, None, Some, length, map, get_or, arith, refl, ap, sym, ◌∙◌, subst, ⊎_elim}
use Rattle.std.specs.List.{slice_set}
use Rattle.std.proofs.lemmas.List.{set-get_or, get_or_past, ext_get_or, length-map}
use Rattle.std.proofs.lemmas.Bool.{false≢true, cases_lt}
use Rattle.std.proofs.lemmas.Bool.Decides.{nat_tests}
use Rattle.rk_model.specs.declared.entry.Reply.{Reply}
use Rattle.rk_model.specs.declared.scenario.Scenario.{Scenario}
use Rattle.rk_model.specs.declared.state.Armed.{Armed}
use Rattle.rk_model.specs.declared.state.Armer.{Armer}
use Rattle.rk_model.specs.declared.state.Armer.TheVariants.{Thread as OfThread, Period as OfPeriod}
use Rattle.rk_model.specs.declared.state.Thread.{Thread}
use Rattle.rk_model.specs.Lists.{nth}
use Rattle.rk_model.specs.State.{Plain, ClusterState, no_cluster, no_thread, thread_at, period_at, cluster_at}
use Rattle.rk_model.specs.Directives.Objects.{has_begun}
use Rattle.rk_model.specs.Scheduling.Priorities.{standings}
use Rattle.rk_parts.proofs.SettlingLemmas.{settle_each}
use Rattle.rk_model.specs.Scheduling.Timers.{is_same, times_armed, due_at, head_of, is_due, without_due, take_due}
use Rattle.rk_model.specs.Scheduling.Ticks.{rung, expire, fire, fire_each}
use Rattle.rk_model.specs.Directives.Periods.{end_passed}
use Rattle.rk_model.specs.Directives.Waits.{end_wait, reply_at_timer}
use Rattle.rk_model.specs.declared.state.Wait.{Wait}
use Rattle.rk_model.specs.declared.state.Wait.TheVariants.{ForTime, ForEvents, AtBarrier, ForPeriod, ForSemaphore}
use Rattle.rk_parts.specs.declared.parts.ClusterPart.{ClusterPart}
use Rattle.rk_groups.specs.declared.group.GroupPart.{GroupPart}
use Rattle.rk_parts.specs.declared.parts.AllParts.{AllParts}
use Rattle.rk_parts.specs.Threads.{bearing, bearings_by, standings_by}
use Rattle.rk_parts.specs.declared.holdings.Holding.{Holding}
use Rattle.rk_parts.specs.Contributing.{flat}
use Rattle.rk_parts.specs.Contributions.{bears}
use Rattle.rk_parts.specs.Holdings.{holder, holdings}
use Rattle.rk_parts.specs.Joined.{joined, placed_in, lives_in, numbered, present_of, threads_of, plain_of, thread_lent, timers_lent}
use Rattle.rk_parts.specs.Lent.{found_in, AreLaid, Layout, layout, layouts, layout_at, lives_at, Account, account_in, Stored, stored_in, Frame, frame, TakesDue}
use Rattle.rk_parts.specs.Noted.{no_part, part_at, key_of, IsKeyed, AreLent, AreNoted, settled_part, bare}
use Rattle.rk_parts.specs.Firing.{due_now, FiresFirst}
use Rattle.rk_parts.proofs.AccountLemmas.{same_account}
use Rattle.rk_parts.proofs.HeldLemmas.{held_found, found_lives, nowhere_lives}
use Rattle.rk_parts.proofs.LayoutLemmas.{Lie, lie, lives_is}
use Rattle.rk_parts.proofs.LentTimerLemmas.{numbered_found, cluster_numbered, timers_home}
use Rattle.rk_parts.proofs.SettledPartLemmas.{thread_any, same_stored}
use Rattle.rk_directives.specs.Does.{BecomesBoth, MayRing}
use Rattle.rk_kernel.specs.Ready.{IsReady}
use Rattle.rk_directives.specs.Sound.{IsSound, CanSettle, but_one, waits_in, may_time_out, is_in_call}
use Rattle.rk_directives.specs.SoundPeriods.{awaits, dues_of, KeepsPeriods}
use Rattle.rk_model.proofs.BooleanLemmas.{equal_test, and_front, and_back}
use Rattle.rk_directives.proofs.ThreadBoundsLemmas.{bounds_at}
use Rattle.rk_directives.proofs.GentleChangeLemmas.{gentle_same, gentle_but, in_call_begun, limited_waits, waits_calls, gentle_end_wait}
use Rattle.rk_directives.proofs.PeriodSoundLemmas.{fits_pass, times-dues, live_within}
use Rattle.rk_directives.proofs.PeriodsKeptLemmas.{kept_sound, keeps_then, keeps_taken, keeps_end_wait}
use Rattle.rk_kernel.proofs.PeriodEndLemmas.{taken_timers, ended_clusters, gentle_taken, passes, passed_left, passed_present, passed_settles}
use Rattle.rk_parts.proofs.PutLemmas.{lent_alike, lives_within}
use Rattle.rk_directives.proofs.KeptHoldingLemmas.{still_held}
use Rattle.rk_period.specs.Periods.{Fits}
use Rattle.rk_kernel.proofs.SoundSettlingLemmas.{timers-settled_from}
use Rattle.rk_parts.proofs.HostedLemmas.{hosted_kept, scene_stored}
use Rattle.rk_kernel.proofs.PartsSettledLemmas.{part_found, count_clusters, whole_kept, HostsAll, as_settled, AreSettled, settled}
use Rattle.rk_directives.proofs.TimerLemmas.{timers_of}

no_due : (tick : ℕ) (timers : List Armed) → due_at tick timers ≡ [] → without_due tick timers ≡ timers
no_due tick [] none = refl
no_due tick (timer ∷ timers) none = no_due_by tick timer timers (is_due tick timer) refl none (no_due tick timers) where
  no_due_by : (tick : ℕ) (timer : Armed) (timers : List Armed) (b : Bool) → is_due tick timer ≡ b → cond b (timer ∷ due_at tick timers) (due_at tick timers) ≡ [] → (due_at tick timers ≡ [] → without_due tick timers ≡ timers) → cond b timers (timer ∷ without_due tick timers) ≡ timer ∷ timers
  no_due_by tick timer timers true e none more = let no : ⊥ = cc in absurd no
  no_due_by tick timer timers false e none more = ap (λ ts. timer ∷ ts) (more none)

-- where no timer is due, to take out the first that is due changes nothing
pub take_none : (k : Plain) (c : ℕ) → due_now k c ≡ [] → take_due k c ≡ k
take_none k c none =
    let same = no_due k.present (cluster_at k c).timers none in
    ap (λ (ts : List Armed). record k { clusters = slice_set k.clusters c (record (cluster_at k c) { timers = ts }) }) same
    ∙ ap (λ (cs : List ClusterState). record k { clusters = cs }) (set-get_or k.clusters c no_cluster)

-- the timers that are due behind the first of them
rest_due : (tick : ℕ) (timers xs : List Armed) (x : Armed) → due_at tick timers ≡ x ∷ xs → due_at tick (without_due tick timers) ≡ xs
rest_due tick [] xs x due = let no : ⊥ = cc in absurd no
rest_due tick (timer ∷ timers) xs x due = by tick timer timers xs x (is_due tick timer) refl due (rest_due tick timers xs x) where
  by : (tick : ℕ) (timer : Armed) (timers xs : List Armed) (x : Armed) (b : Bool) → is_due tick timer ≡ b → cond b (timer ∷ due_at tick timers) (due_at tick timers) ≡ x ∷ xs → (due_at tick timers ≡ x ∷ xs → due_at tick (without_due tick timers) ≡ xs) → due_at tick (cond b timers (timer ∷ without_due tick timers)) ≡ xs
  by tick timer timers xs x true e due more = cc
  by tick timer timers xs x false e due more = rw e (more due)

-- of the timers of the thread whose timer fires one is gone
one_gone : (tick t : ℕ) (timers xs : List Armed) (x : Armed) → x.who ≡ OfThread t → due_at tick timers ≡ x ∷ xs → times_armed (OfThread t) (without_due tick timers) + 1 ≡ times_armed (OfThread t) timers
one_gone tick t [] xs x whose due = let no : ⊥ = cc in absurd no
one_gone tick t (timer ∷ timers) xs x whose due = by (is_due tick timer) due (one_gone tick t timers xs x whose) where
  by : (b : Bool) → cond b (timer ∷ due_at tick timers) (due_at tick timers) ≡ x ∷ xs → (due_at tick timers ≡ x ∷ xs → times_armed (OfThread t) (without_due tick timers) + 1 ≡ times_armed (OfThread t) timers) →
      times_armed (OfThread t) (cond b timers (timer ∷ without_due tick timers)) + 1 ≡ times_armed (OfThread t) (timer ∷ timers)
  by true due more =
      let same : timer ≡ x = cc in
      let test : is_same timer.who (OfThread t) ≡ true = ap (λ (y : Armed). is_same y.who (OfThread t)) same ∙ ap (λ (w : Armer). is_same w (OfThread t)) whose ∙ equal_test t t refl in
      rw test (omega arith)
  by false due more = omega (arith, more due)

-- a thread whose timer fires: it waits in that cluster, and has no other timer there
record Fires (k : Plain) (c t : ℕ) : Type 0 where
  home : (thread_at k t).home ≡ c
  waits : may_time_out (thread_at k t).wait ≡ true
  alone : times_armed (OfThread t) (without_due k.present (cluster_at k c).timers) ≡ 0

fires_by : (n m : ℕ) (b : Bool) → n + 1 ≡ m → m ≤ cond b 1 0 → (b ≡ true) × (n ≡ 0)
fires_by n m true e few = (refl, omega (arith, e, few))
fires_by n m false e few = absurd (omega (arith, e, few))

fires : (k : Plain) (c t : ℕ) (xs : List Armed) (x : Armed) → IsSound k → c < length k.clusters → due_now k c ≡ x ∷ xs → x.who ≡ OfThread t → Fires k c t
fires k c t xs x sound within due whose =
    let f = fires_by _ _ (waits_in k.threads c t) (one_gone k.present t (cluster_at k c).timers xs x whose due) (timers_of k c sound within t) in
    let at_home = and_front (eqb (thread_at k t).home c) (may_time_out (thread_at k t).wait) f.0 in
    record { home = grind (arith, nat_tests, at_home); waits = and_back (eqb (thread_at k t).home c) (may_time_out (thread_at k t).wait) f.0; alone = f.1 }

-- After the first timer that is due has fired, the same are due as without it,
fired_left : (k : Plain) (c : ℕ) (xs : List Armed) (x : Armed) (who : Armer) → x.who ≡ who → IsSound k → c < length k.clusters → due_now k c ≡ x ∷ xs → due_at k.present (cluster_at (rung (take_due k c) who) c).timers ≡ due_at k.present (without_due k.present (cluster_at k c).timers)
fired_left k c xs x (OfThread t) whose sound within due =
    let f = fires k c t xs x sound within due whose in
    let m = take_due k c in
    let none : times_armed (OfThread t) (cluster_at m (thread_at k t).home).timers ≡ 0 = ap (λ d. times_armed (OfThread t) (cluster_at m d).timers) f.home ∙ ap (times_armed (OfThread t)) (taken_timers k c within) ∙ f.alone in
    ap (λ (cs : List ClusterState). due_at k.present (get_or cs c no_cluster).timers) (ended_clusters m t (reply_at_timer (thread_at m t).wait) none) ∙ ap (due_at k.present) (taken_timers k c within)
fired_left k c xs x (OfPeriod i) whose sound within due = passed_left k c i xs x sound within due whose

-- and those are the others.
pub due_now-fire : (k : Plain) (c : ℕ) (xs : List Armed) (x : Armed) → IsSound k → c < length k.clusters → due_now k c ≡ x ∷ xs → due_now (fire k c x) c ≡ xs
due_now-fire k c xs x sound within due =
    let next = expire k c x.who in
    let settled : (cluster_at (fire k c x) c).timers ≡ (cluster_at next c).timers = ap (λ (n : Plain). (cluster_at n c).timers) (settle_each (standings k) next []) ∙ timers-settled_from _ _ (length next.threads) 0 next.clusters c in
    let present : (fire k c x).present ≡ k.present = ap (λ (n : Plain). n.present) (settle_each (standings k) next []) ∙ rung_present (take_due k c) x.who in
    ap (due_at (fire k c x).present) settled ∙ ap (λ n. due_at n (cluster_at next c).timers) present ∙ fired_left k c xs x x.who refl sound within due ∙ rest_due k.present (cluster_at k c).timers xs x due
  where
    rung_present : (m : Plain) (who : Armer) → (rung m who).present ≡ m.present
    rung_present m (OfThread t) = refl
    rung_present m (OfPeriod i) = passed_present m i (period_at m i).phase

-- what may have a limit is no wait for a period
awaits_none : (wait : Option Wait) → may_time_out wait ≡ true → awaits wait ≡ None
awaits_none None h = refl
awaits_none (Some ForTime) h = refl
awaits_none (Some (ForEvents set all)) h = refl
awaits_none (Some (AtBarrier i)) h = refl
awaits_none (Some (ForPeriod i)) h = absurd (false≢true h)
awaits_none (Some (ForSemaphore i spins)) h = refl

-- a timer of a thread that fires leaves periods alone
pub keeps_expired : (k : Plain) (c t : ℕ) (xs : List Armed) (x : Armed) → IsSound k → c < length k.clusters → due_now k c ≡ x ∷ xs → x.who ≡ OfThread t → KeepsPeriods k (expire k c (OfThread t))
keeps_expired k c t xs x sound within due whose =
    let m = take_due k c in
    let limited = (fires k c t xs x sound within due whose).waits in
    keeps_then k m (expire k c (OfThread t)) (keeps_taken k c t x xs whose due) (keeps_end_wait m t (reply_at_timer (thread_at k t).wait) (awaits_none (thread_at k t).wait limited))

-- A timer that fires changes little.
pub expire_settles : (k : Plain) (c : ℕ) (xs : List Armed) (x : Armed) → IsSound k → c < length k.clusters → due_now k c ≡ x ∷ xs → CanSettle k (expire k c x.who)
expire_settles k c xs x sound within due = by x.who refl where
  by : (who : Armer) → x.who ≡ who → CanSettle k (rung (take_due k c) who)
  by (OfPeriod i) whose = passed_settles k c i xs x sound within due whose
  by (OfThread t) whose =
      let m = take_due k c in
      let reply = reply_at_timer (thread_at k t).wait in
      let limited = (fires k c t xs x sound within due whose).waits in
      record {
        gentle = gentle_end_wait k m t reply sound
            (gentle_taken k c xs x (but_one t) due (λ u other. ap (λ w. is_same w (OfThread u)) whose ∙ grind (arith, nat_tests, other)) (gentle_but k k t (gentle_same k sound)))
            (sound.tied.queued t refl) (limited_waits (thread_at k t).wait limited);
        periods = kept_sound k (end_wait m t reply) sound.named.idle sound.periods (keeps_expired k c t xs x sound within due whose);
      }

-- the timers behind the first
abbrev pub rest_of : List Armed → List Armed
rest_of [] = []
rest_of (timer ∷ timers) = timers

head_none : (xs : List Armed) → None ≡ head_of xs → xs ≡ []
head_none [] e = refl
head_none (x ∷ xs) e = let no : ⊥ = cc in absurd no

pub head_some : (xs : List Armed) (x : Armed) → Some x ≡ head_of xs → xs ≡ x ∷ rest_of xs
head_some [] x e = let no : ⊥ = cc in absurd no
head_some (y ∷ ys) x e = let same : x ≡ y = cc in ap (λ z. z ∷ ys) (sym same)

-- no timer was due, and nothing changed
pub unchanged : (k next : Plain) (c : ℕ) → None ≡ head_of (due_now k c) → next ≡ take_due k c → next ≡ k
unchanged k next c none taken = taken ∙ take_none k c (head_none (due_now k c) none)

pub fires_none : (k next : Plain) (c : ℕ) (fired : Bool) → None ≡ head_of (due_now k c) → next ≡ take_due k c → fired ≡ false → FiresFirst c (due_now k c) k fired next
fires_none k next c fired none taken kept = subst (λ (xs : List Armed). FiresFirst c xs k fired next) (sym (head_none (due_now k c) none)) (kept, unchanged k next c none taken)

pub fires_some : (k next : Plain) (c : ℕ) (fired : Bool) (x : Armed) → Some x ≡ head_of (due_now k c) → next ≡ fire k c x → fired ≡ true → FiresFirst c (due_now k c) k fired next
fires_some k next c fired x some done so_far = subst (λ (xs : List Armed). FiresFirst c xs k fired next) (sym (head_some (due_now k c) x some)) (so_far, done)

-- the timer was taken out, and has fired
pub expired : (k taken after : Plain) (c : ℕ) (x : Armed) → taken ≡ take_due k c → after ≡ rung taken x.who → after ≡ expire k c x.who
expired k taken after c x is rings = rings ∙ ap (λ (n : Plain). rung n x.who) is

-- ---- the same of lent parts

-- the timers that are due in the part of a cluster are those of the state
pub due_lent : (all : AllParts) (c : ℕ) → IsReady all → c < length all.scenario.clusters → due_at (present_of all.clusters) (numbered [] all.clusters c).timers ≡ due_now (plain_of all) c
due_lent all c ready known =
    let found = part_found all c ready known in
    ap (λ (x : ClusterState). due_at (present_of all.clusters) x.timers)
    (numbered_found [] all.clusters c c found ∙ sym (numbered_found all.scenario.clusters all.clusters c c found) ∙ sym (cluster_numbered all.scenario.clusters all.clusters c known))

-- the thread whose timer fires lives
lives_due : (k : Plain) (c t : ℕ) (xs : List Armed) (x : Armed) → IsSound k → c < length k.clusters → due_now k c ≡ x ∷ xs → x.who ≡ OfThread t → has_begun (thread_at k t).life ≡ true
lives_due k c t xs x sound within due whose =
    let thread = thread_at k t in
    in_call_begun thread.life (is_in_call thread.wait thread.finished) (waits_calls thread.wait thread.finished (limited_waits thread.wait (fires k c t xs x sound within due whose).waits)) (bounds_at k t sound).idle

within_clusters : (all : AllParts) (c : ℕ) → c < length all.scenario.clusters → c < length (plain_of all).clusters
within_clusters all c known = omega (arith, count_clusters all, known)

-- A timer that was taken out may fire.
pub due_rings : (all : AllParts) (taken : List ClusterPart) (c : ℕ) (x : Armed) → IsReady all → c < length all.scenario.clusters → Some x ≡ head_of (due_now (plain_of all) c) → TakesDue all.clusters c taken → MayRing taken all.groups x.who
due_rings all taken c x ready known some takes = by x.who refl where
  k : Plain
  k = plain_of all

  state : joined all.scenario all.table.names taken all.groups ≡ take_due k c
  state = takes.state all.scenario all.table.names all.groups known

  same : threads_of taken ≡ k.threads
  same = ap (λ (n : Plain). n.threads) state

  thread : (t : ℕ) → thread_lent taken t ≡ thread_at k t
  thread t = ap (λ (ts : List Thread). nth no_thread ts t) same

  due : due_now k c ≡ x ∷ rest_of (due_now k c)
  due = head_some (due_now k c) x some

  laid : AreLaid all.scenario.clusters (layouts taken)
  laid = subst (AreLaid all.scenario.clusters) (sym (ap (λ (f : Frame). f.layouts) takes.kept)) ready.whole.laid

  by : (who : Armer) → x.who ≡ who → MayRing taken all.groups who
  by (OfThread t) whose = ap (λ (y : Thread). has_begun y.life) (thread t) ∙ lives_due k c t (rest_of (due_now k c)) x ready.sound (within_clusters all c known) due whose
  by (OfPeriod i) whose =
      let p = passes k c i (rest_of (due_now k c)) x ready.sound due whose in
      let t = (period_at k i).creator in
      let w = live_within k.periods i ready.sound.periods.places p.live in
      let lives = ap (λ (y : Thread). has_begun y.life) (thread t) ∙ p.lives in
      let present : present_of taken ≡ k.present = ap (λ (n : Plain). n.present) state in
      let seat = lives_within k.threads t p.lives in
      let timers : timers_lent taken t ≡ (cluster_at (take_due k c) c).timers =
      timers_home all.scenario all.table.names all.groups taken t (omega (arith, seat.0)) (omega (arith, seat.1, ready.sound.places)) laid lives
      ∙ ap (λ (n : Plain). (cluster_at n (thread_lent taken t).home).timers) state
      ∙ ap (λ (y : Thread). (cluster_at (take_due k c) y.home).timers) (thread t)
      ∙ ap (λ d. (cluster_at (take_due k c) d).timers) p.home in
      let none : dues_of (OfPeriod i) (timers_lent taken t) ≡ [] = ap (dues_of (OfPeriod i)) (timers ∙ taken_timers k c (within_clusters all c known)) ∙ p.alone in
      let fits = fits_pass k.present (thread_at k t).computed (period_at k i) (omega (arith, ready.sound.present, ready.sound.horizon)) (bounds_at k t ready.sound).computed p.ends (ready.sound.periods.each i).counted in
      record {
        low = omega (arith, w.0);
        high = w.1;
        live = p.live;
        lives = lives;
        due = p.ends ∙ ap (λ n. Some n) (sym present);
        fits = subst (λ (y : Thread). Fits (present_of taken) y.computed (period_at k i)) (sym (thread t)) (subst (λ n. Fits n (thread_at k t).computed (period_at k i)) (sym present) fits);
        unarmed = times-dues (OfPeriod i) (timers_lent taken t) ∙ ap (λ (ds : List ℕ). length ds) none;
      }

-- A timer rings in lent parts where the wait of its thread ends.
pub rings : (before after : List ClusterPart) (groups groups' : List GroupPart) (who : Armer) (t : ℕ) (thread : Thread) (reply : Reply) → who ≡ OfThread t → thread ≡ thread_lent before t → reply ≡ reply_at_timer thread.wait →
    ((s : Scenario) → BecomesBoth s (λ k. end_wait k t reply) before groups after groups') → (s : Scenario) → BecomesBoth s (λ k. rung k who) before groups after groups'
rings before after groups groups' who t thread reply whose is so_far ends s =
    let same : reply ≡ reply_at_timer (thread_lent before t).wait = so_far ∙ ap (λ (x : Thread). reply_at_timer x.wait) is in
    record {
      state = λ table laid.
          (ends s).state table laid ∙ ap (end_wait (joined s table before groups) t) same ∙ ap (rung (joined s table before groups)) (sym whose);
      kept = (ends s).kept;
      framed = (ends s).framed;
      held = (ends s).held;
    }

-- A period's timer rings where its end passes.
pub rings_end : (before after : List ClusterPart) (groups groups' : List GroupPart) (who : Armer) (i : ℕ) → who ≡ OfPeriod i → ((s : Scenario) → BecomesBoth s (λ k. end_passed k i) before groups after groups') → (s : Scenario) → BecomesBoth s (λ k. rung k who) before groups after groups'
rings_end before after groups groups' who i whose passes s = record {
  state = λ table laid. (passes s).state table laid ∙ ap (rung (joined s table before groups)) (sym whose);
  kept = (passes s).kept;
  framed = (passes s).framed;
  held = (passes s).held;
}

-- a thread that lives in a part is the one that all of them hold
held_here : (counts : List ℕ) (parts : List ClusterPart) (at t : ℕ) → Lie counts parts → lives_in (part_at parts at) t ≡ true → placed_in (part_at parts at) t ≡ thread_lent parts t
held_here counts parts at t is lives = by (found_in parts t) refl where
  by : (o : Option ℕ) → found_in parts t ≡ o → placed_in (part_at parts at) t ≡ thread_lent parts t
  by None e = absurd (false≢true (sym (nowhere_lives parts at t e) ∙ lives))
  by (Some i) e =
      let here : i ≡ at = is.once i at t (found_lives parts i t e) lives in
      ap (λ j. placed_in (part_at parts j) t) (sym here) ∙ sym (held_found parts i t e) ∙ sym (thread_any counts parts t is)

-- parts that lie as before and have the same threads have them at the same places
placed_same : (counts : List ℕ) (old new : List ClusterPart) (at t : ℕ) → AreLaid counts (layouts old) → layouts new ≡ layouts old → threads_of new ≡ threads_of old → placed_in (part_at new at) t ≡ placed_in (part_at old at) t
placed_same counts old new at t laid lies same = by (lives_in (part_at old at) t) refl where
  before : Lie counts old
  before = lie counts old laid

  after : Lie counts new
  after = lie counts new (subst (AreLaid counts) (sym lies) laid)

  alike : lives_in (part_at new at) t ≡ lives_in (part_at old at) t
  alike = sym (lives_is new at t) ∙ ap (λ (ls : List Layout). lives_at (layout_at ls at) t) lies ∙ lives_is old at t

  by : (b : Bool) → lives_in (part_at old at) t ≡ b → placed_in (part_at new at) t ≡ placed_in (part_at old at) t
  by true e = held_here counts new at t after (alike ∙ e) ∙ ap (λ (ts : List Thread). nth no_thread ts t) same ∙ sym (held_here counts old at t before e)
  by false e = after.blank at t (alike ∙ e) ∙ sym (before.blank at t e)

places_same : (counts : List ℕ) (old new : List ClusterPart) (at : ℕ) → AreLaid counts (layouts old) → layouts new ≡ layouts old → threads_of new ≡ threads_of old → (part_at new at).threads.places ≡ (part_at old at).threads.places
places_same counts old new at laid lies same = ⊎_elim inside past (cases_lt at (length old)) where
  count : length new ≡ length old
  count = sym (length-map new layout) ∙ ap (λ (ls : List Layout). length ls) lies ∙ length-map old layout

  inside : at < length old → (part_at new at).threads.places ≡ (part_at old at).threads.places
  inside less =
      let before = (lie counts old laid).size at less in
      let after = (lie counts new (subst (AreLaid counts) (sym lies) laid)).size at (omega (arith, less, count)) in
      ext_get_or no_thread (part_at new at).threads.places (part_at old at).threads.places (after ∙ sym before) (λ i h. placed_same counts old new at (suc i) laid lies same)

  past : length old ≤ at → (part_at new at).threads.places ≡ (part_at old at).threads.places
  past more = ap (λ (p : ClusterPart). p.threads.places) (get_or_past new at no_part (omega (arith, more, count)) ∙ sym (get_or_past old at no_part more))

owners_at : (parts : List ClusterPart) (at : ℕ) → get_or (holdings parts) at [] ≡ (part_at parts at).holdings.owners
owners_at [] at = refl
owners_at (p ∷ ps) zero = refl
owners_at (p ∷ ps) (suc at) = owners_at ps at

-- Parts with the same frame, threads and holdings note them as before.
noted_same : (counts : List ℕ) (old new : List ClusterPart) (count : ℕ) → AreLaid counts (layouts old) → frame new ≡ frame old → threads_of new ≡ threads_of old → holdings new ≡ holdings old → AreNoted count old → AreNoted count new
noted_same counts old new count laid kept same held noted = record {
  borne = λ at. ap (λ (x : Account). x.borne) (account at) ∙ noted.borne at ∙ ap bearings_by (sym (places at));
  held = λ at.
      ap (λ (x : Account). x.held) (account at) ∙ noted.held at
      ∙ sym (owners_at old at) ∙ ap (λ (hs : List (List (Option Holding))). get_or hs at []) (sym held) ∙ owners_at new at;
  shares = lent_alike (bears old) (bears new) (holder (holdings old)) (holder (holdings new)) old new
      (sym (length-map new stored_in) ∙ ap (λ (ss : List Stored). length ss) (ap (λ (f : Frame). f.stored) kept) ∙ length-map old stored_in)
      (λ at i. record { number = (here at i).lined.number; shares = (account at i).shares })
      (λ i t. bearing (nth no_thread (same i) t))
      (ap holder held)
      noted.shares;
  stood = λ at. ap (λ (x : Stored). x.stood) (here at) ∙ noted.stood at ∙ (λ i. standings_by (sym (account at) i).shares (sym (places at) i));
  keyed = λ at known. subst (λ (x : Stored). x.lined.number < count → IsKeyed (key_of x.stood) x.lined.line) (sym (here at)) (noted.keyed at) known;
} where
  here : (at : ℕ) → stored_in (part_at new at) ≡ stored_in (part_at old at)
  here at = same_stored old new at (ap (λ (f : Frame). f.stored) kept)

  account : (at : ℕ) → account_in (part_at new at) ≡ account_in (part_at old at)
  account at = same_account old new at (ap (λ (f : Frame). f.accounts) kept)

  places : (at : ℕ) → (part_at new at).threads.places ≡ (part_at old at).threads.places
  places at = places_same counts old new at laid (ap (λ (f : Frame). f.layouts) kept) same

-- parts that stand for the same state, with the same frame and holdings, are ready as before
pub ready_same : (all : AllParts) (new : List ClusterPart) → IsReady all → plain_of (record all { clusters = new }) ≡ plain_of all → frame new ≡ frame all.clusters → holdings new ≡ holdings all.clusters → IsReady (record all { clusters = new })
ready_same all new ready same kept held = record {
  whole = whole_kept all (record all { clusters = new }) ready.whole (ap (λ (n : Plain). n.present) same) kept held refl refl;
  sound = subst IsSound (sym same) ready.sound;
  noted = noted_same all.scenario.clusters all.clusters new (length all.scenario.clusters) ready.whole.laid kept (ap (λ (n : Plain). n.threads) same) held ready.noted;
  hosted = hosted_kept all.clusters new (scene_stored all.clusters new (ap (λ (n : Plain). n.threads) same) held (ap (λ (f : Frame). f.stored) kept)) (ap (λ (f : Frame). f.stored) kept) ready.hosted;
}

-- The first timer that is due has fired in all parts, and they have settled.
pub fired : (all : AllParts) (taken after made new : List ClusterPart) (groups : List GroupPart) (c : ℕ) (x : Armed) → IsReady all → c < length all.scenario.clusters → Some x ≡ head_of (due_now (plain_of all) c) → TakesDue all.clusters c taken → BecomesBoth all.scenario (λ k. rung k x.who) taken all.groups after groups → map flat made ≡ map flat after → AreLent (bears after) (holder (holdings after)) made → map bare new ≡ map (settled_part []) made → HostsAll new →
    AreSettled all (record all { clusters = new; groups = groups }) (expire (plain_of all) c x.who) []
fired all taken after made new groups c x ready known some takes rings flats lent done hosts =
    let k = plain_of all in
    let mid : AllParts = record all { clusters = after; groups = groups } in
    let laid : AreLaid all.scenario.clusters (layouts taken) = subst (AreLaid all.scenario.clusters) (sym (ap (λ (f : Frame). f.layouts) takes.kept)) ready.whole.laid in
    settled all mid made new (expire k c x.who) [] (as_settled all ready)
    (record {
      settles = expire_settles k c (rest_of (due_now k c)) x ready.sound (within_clusters all c known) (head_some (due_now k c) x some);
      state = expired k (plain_of (record all { clusters = taken })) (plain_of mid) c x (takes.state all.scenario all.table.names all.groups known) (rings.state all.table.names laid);
      laid = subst (AreLaid all.scenario.clusters) (sym (ap (λ (f : Frame). f.layouts) rings.kept)) laid;
      kept = ap (λ (f : Frame). f.stored) (rings.kept ∙ takes.kept);
      accounts = ap (λ (f : Frame). f.accounts) (rings.kept ∙ takes.kept);
      held = rings.held (still_held all.clusters taken all.groups all.groups takes.held (λ i. refl) ready.whole.held);
      rest = λ i. record { scenario = all.scenario; groups = rings.framed i; time = all.table.present };
    })
    flats lent done hosts

-- ---- how many are due

-- one timer fewer is due
pub fewer_due : (k next : Plain) (c : ℕ) → IsSound k → c < length k.clusters → FiresFirst c (due_now k c) k true next → (due_now k c ≡ [] → ⊥) × (length (due_now next c) < length (due_now k c)) × (fire_each next c (due_now next c) ≡ fire_each k c (due_now k c))
fewer_due k next c sound within fires = by k next c (due_now k c) refl sound within fires where
  by : (k next : Plain) (c : ℕ) (xs : List Armed) → due_now k c ≡ xs → IsSound k → c < length k.clusters → FiresFirst c xs k true next → (due_now k c ≡ [] → ⊥) × (length (due_now next c) < length (due_now k c)) × (fire_each next c (due_now next c) ≡ fire_each k c (due_now k c))
  by k next c [] e sound within fires = let no : ⊥ = cc in absurd no
  by k next c (x ∷ xs) e sound within fires =
      let left : due_now next c ≡ xs = ap (λ (n : Plain). due_now n c) fires.1 ∙ due_now-fire k c xs x sound within e in
      let some : due_now k c ≡ [] → ⊥ = λ none. let no : x ∷ xs ≡ [] = sym e ∙ none in cc in
      (some, rw (left, e) (omega arith), rw (left, e) (ap (λ (n : Plain). fire_each n c xs) fires.1))

-- where none is due any more, all have fired
pub none_due : (k next : Plain) (c : ℕ) → FiresFirst c (due_now k c) k false next → next ≡ fire_each k c (due_now k c)
none_due k next c fires = by k next c (due_now k c) fires where
  by : (k next : Plain) (c : ℕ) (xs : List Armed) → FiresFirst c xs k false next → next ≡ fire_each k c xs
  by k next c [] fires = fires.1
  by k next c (x ∷ xs) fires = let no : ⊥ = cc in absurd no

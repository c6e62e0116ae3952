-- The directives of the rate-monotonic manager are fair, and periods are sound after them.
use Rattle.std.proofs.Common.{◌≡◌, ◌≢◌, ℕ, ◌+◌, ◌-◌, ◌<◌, List, [], ◌∷◌, ◌++◌, Bool, true, false, cond, eqb, ◌==◌, ◌&&◌, Option, None, Some, length, arith, refl, sym, ap, ◌∙◌, subst}
use Rattle.std.specs.Option.{option_to_list}
use Rattle.std.proofs.lemmas.Bool.{false≢true}
use Rattle.std.proofs.lemmas.Bool.Decides.{nat_tests}
use Rattle.rk_model.specs.declared.ids.Class.TheVariants.{Period}
use Rattle.rk_model.specs.declared.period.Job.{Job}
use Rattle.rk_model.specs.declared.period.Phase.{Phase}
use Rattle.rk_model.specs.declared.period.Phase.TheVariants.{Inactive, Active, Awaited, Expired}
use Rattle.rk_model.specs.declared.scenario.Op.TheVariants.{PeriodPeriod}
use Rattle.rk_model.specs.declared.scenario.Target.{Target}
use Rattle.rk_model.specs.declared.state.Armer.TheVariants.{Period as OfPeriod}
use Rattle.rk_model.specs.declared.state.Thread.{Thread}
use Rattle.rk_model.specs.declared.state.Wait.TheVariants.{ForPeriod}
use Rattle.rk_model.specs.declared.status.Status.TheVariants.{Timeout}
use Rattle.rk_model.specs.Lists.{nth, with_nth}
use Rattle.rk_model.specs.Names.{Table, with_names, taken, given_back}
use Rattle.rk_model.specs.State.{Plain, PeriodState, objects_of, no_thread, no_period, thread_at, period_at, put_period, cluster_at}
use Rattle.rk_model.specs.Scheduling.Priorities.{is_started}
use Rattle.rk_model.specs.Scheduling.Timers.{without_timer, arm}
use Rattle.rk_model.specs.Directives.Objects.{has_begun, object_named, put_names, create_at}
use Rattle.rk_model.specs.Directives.Outcomes.{Outcome, changed, on_found}
use Rattle.rk_model.specs.Directives.Periods.{is_awaited, end_of, begun, next_begun, new_period, period_create, period_ident, asked, with_next, begins, period_period, started, with_postponed, stop, cancelled, period_cancel, without_period, period_delete}
use Rattle.rk_model.specs.Directives.Waits.{caller_at, start_wait, begin_limited}
use Rattle.rk_model.proofs.BooleanLemmas.{equal_test, same_number}
use Rattle.rk_model.proofs.IndexLemmas.{nth-with_same, nth-with_other, nth-with_kept}
use Rattle.rk_parts.specs.NamesAgree.{AreNamed}
use Rattle.rk_directives.specs.Calls.{IsActing, IsCaller}
use Rattle.rk_directives.specs.Does.{MayCall}
use Rattle.rk_period.specs.Periods.{Fits}
use Rattle.rk_parts.specs.declared.parts.AllParts.{AllParts}
use Rattle.rk_parts.specs.Joined.{plain_of, timers_lent}
use Rattle.rk_parts.specs.Whole.{AreWhole}
use Rattle.rk_parts.proofs.LentTimerLemmas.{timers_home}
use Rattle.rk_directives.specs.Refusals.{is_refused}
use Rattle.rk_directives.specs.Sound.{IsSound, IsGentleBut, IsGentle, but_none, may_time_out, is_asleep}
use Rattle.rk_directives.specs.SoundPeriods.{awaits, dues_of, IsCounted, ArePeriodsSound}
use Rattle.rk_directives.proofs.ThreadBoundsLemmas.{bounds_at}
use Rattle.rk_directives.proofs.GentleChangeLemmas.{gentle_same, gentle_fewer, gentle_start, gentle_enter}
use Rattle.rk_directives.proofs.WaitChainLemmas.{joins_unowned}
use Rattle.rk_directives.proofs.NamesAgreeLemmas.{first_free, named_begun_again, named_timed, named_dropped}
use Rattle.rk_directives.proofs.OutcomeLemmas.{op_of, IsFair, none_awaits, stays_same, stays_as, fair_refused, fair_done, fair_waiting, fair_found, fair_if, fair_create, fair_ident}
use Rattle.rk_directives.proofs.PeriodSoundLemmas.{fits_call, times-dues, counted_new, counted_next, counted_cancelled, armed_here, armed_other, cancelled_here, cancelled_other, threads_armed, threads_cancelled, either, none_sound, IsAlike, same_thread, one_changed, live_within}
use Rattle.rk_directives.proofs.PeriodsKeptLemmas.{kept_sound}
use Rattle.rk_directives.proofs.DirectiveLemmas.KeptPeriodsLemmas.{keeps_ident}
use Rattle.rk_directives.proofs.DirectiveLemmas.ObjectsLemmas.{named_lives}

-- ---- small changes of periods and their timers

-- a state with other periods, and names that agree with them
pub gentle_periods : (k m : Plain) (but : ℕ → Bool) (periods : List PeriodState) (table : Table) → IsGentleBut k m but → AreNamed table (record (objects_of m) { periods = periods }) → IsGentleBut k (record m { periods = periods; table = table }) but
gentle_periods k m but periods table gentle named = record {
  scenario = gentle.scenario;
  present = gentle.present;
  places = gentle.places;
  locks = gentle.locks;
  halls = gentle.halls;
  pools = gentle.pools;
  threads = gentle.threads;
  lines = gentle.lines;
  timers = gentle.timers;
  named = named;
  tied = gentle.tied;
  chained = gentle.chained;
}

-- to arm the timer of a period
pub gentle_arm_period : (k m : Plain) (but : ℕ → Bool) (h i due : ℕ) → IsGentleBut k m but → IsGentleBut k (arm m h (record { who = OfPeriod i; due = due })) but
gentle_arm_period k m but h i due gentle =
    let timers = (cluster_at m h).timers in
    gentle_fewer k m but h (timers ++ (record { who = OfPeriod i; due = due }) ∷ []) gentle (λ u. let same = threads_armed u i due timers in omega (arith, same)) (λ u _. let same = threads_armed u i due timers in omega (arith, same))

-- and to cancel it
gentle_stop : (k : Plain) (i : ℕ) → IsSound k → IsGentle k (stop k i)
gentle_stop k i sound =
    let h = (thread_at k (period_at k i).creator).home in
    let timers = (cluster_at k h).timers in
    gentle_fewer k k but_none h (without_timer (OfPeriod i) timers) (gentle_same k sound) (λ u. let same = threads_cancelled u i timers in omega (arith, same)) (λ u _. let same = threads_cancelled u i timers in omega (arith, same))

-- a period that lives is put back
pub gentle_put_period : (k m : Plain) (but : ℕ → Bool) (i : ℕ) (period : PeriodState) → IsGentleBut k m but → (period_at m i).live ≡ true → period.live ≡ true → IsGentleBut k (put_period m i period) but
gentle_put_period k m but i period gentle was lives = gentle_periods k m but (with_nth m.periods i period) m.table gentle (named_begun_again m.table (objects_of m) i period was lives gentle.named)

-- ---- a period on which a caller calls

-- it lives
period_lives : (k : Plain) (t : ℕ) (id : Target) (i : ℕ) → object_named k t Period id ≡ Some i → (period_at k i).live ≡ true
period_lives k t id i is = named_lives k t Period id i is

-- no thread that acts awaits its own,
pub none_awaited : (k : Plain) (i : ℕ) → IsActing k (period_at k i).creator → is_awaited (period_at k i).phase ≡ false
none_awaited k i acts = by (is_awaited (period_at k i).phase) refl where
  by : (b : Bool) → is_awaited (period_at k i).phase ≡ b → b ≡ false
  by true e = let waits : None ≡ Some i = sym (ap awaits acts.waits_not) ∙ (acts.sound.periods.each i).awaited e in let no : ⊥ = cc in absurd no
  by false e = refl

-- and so nobody awaits it
never_awaited : (k : Plain) (i t : ℕ) → IsSound k → is_awaited (period_at k i).phase ≡ false → awaits (thread_at k t).wait ≡ Some i → ⊥
never_awaited k i t sound idle waits = false≢true (sym idle ∙ (sound.periods.waits t i waits).awaited)

-- what holds of the creator holds of the caller who is it
own_call : (P : ℕ → Type 0) (k : Plain) (i t : ℕ) → ((period_at k i).creator == t) ≡ true → P (period_at k i).creator → P t
own_call P k i t own holds = subst P (same_number (period_at k i).creator t own) holds

-- the state with its next job
abbrev begun_period : Plain → ℕ → ℕ → PeriodState
begun_period k i length = next_begun length k.present (thread_at k (period_at k i).creator).computed (period_at k i)

-- a period is put that is the caller's and that nobody awaits, and its timers are due as it says
own_changes : (k n : Plain) (i : ℕ) (period : PeriodState) → IsActing k (period_at k i).creator → (period_at k i).live ≡ true → period.live ≡ true → period.creator ≡ (period_at k i).creator → is_awaited period.phase ≡ false → n.present ≡ k.present → n.periods ≡ with_nth k.periods i period → n.threads ≡ k.threads →
    ((c j : ℕ) → j ≢ i → dues_of (OfPeriod j) (cluster_at n c).timers ≡ dues_of (OfPeriod j) (cluster_at k c).timers) → ((c : ℕ) → dues_of (OfPeriod i) (cluster_at n c).timers ≡ cond ((thread_at k (period_at k i).creator).home == c) (option_to_list (end_of period.phase)) []) →
    IsCounted k.present (thread_at k (period_at k i).creator).computed period → ArePeriodsSound n
own_changes k n i period acts was lives creator idle present periods threads others dues counted =
    let w = live_within k.periods i acts.sound.periods.places was in
    let idle_was = none_awaited k i acts in
    let same : (u : ℕ) → thread_at n u ≡ thread_at k u = λ u. ap (λ (ts : List Thread). nth no_thread ts u) threads in
    let by : thread_at n period.creator ≡ thread_at k (period_at k i).creator = ap (thread_at n) creator ∙ same (period_at k i).creator in
    one_changed k n i period acts.sound.periods (record {
      low = w.0;
      high = w.1;
      present = present;
      periods = periods;
      threads = λ u. subst (λ (x : Thread). IsAlike (thread_at k u) x) (sym (same u)) (same_thread (thread_at k u));
      dues = others;
      awaited = λ j _ _. ap (λ (x : Thread). awaits x.wait) (same (period_at k j).creator);
      waits = λ u j _ is. sym (ap (λ (x : Thread). awaits x.wait) (same u)) ∙ is;
      sound = record {
        created = λ _. ap (λ (x : Thread). has_begun x.life) by ∙ ap has_begun acts.started;
        awaited = λ is. absurd (false≢true (sym idle ∙ is));
        timed = λ c. dues c ∙ ap (λ (x : Thread). cond (x.home == c) (option_to_list (end_of period.phase)) []) (sym by);
        counted = subst (λ t. IsCounted t (thread_at n period.creator).computed period) (sym present) (subst (λ (x : Thread). IsCounted k.present x.computed period) (sym by) counted);
      };
      here = λ u is. absurd (never_awaited k i u acts.sound idle_was (sym (ap (λ (x : Thread). awaits x.wait) (same u)) ∙ is));
    })

-- What a call on a period asks of its caller holds of one that acts.
pub may_call : (all : AllParts) (t i : ℕ) → AreWhole all → IsActing (plain_of all) t → MayCall all.clusters all.groups i t
may_call all t i whole acts = record {
  goes_on = none ((period_at k i).creator == t) (is_awaited (period_at k i).phase) refl refl;
  fits = λ e. subst (λ u. Fits k.present (thread_at k u).computed (period_at k i)) (sym e)
      (fits_call k.present (thread_at k (period_at k i).creator).computed (period_at k i) (omega (arith, sound.present, sound.horizon)) (bounds_at k (period_at k i).creator sound).computed (none_awaited k i (subst (IsActing k) e acts)) (sound.periods.each i).counted);
  unarmed = λ inactive. times-dues (OfPeriod i) (timers_lent all.clusters t) ∙ ap (λ (ds : List ℕ). length ds) (ap (dues_of (OfPeriod i)) home ∙ (sound.periods.each i).timed (thread_at k t).home ∙ ap (λ o. cond ((thread_at k (period_at k i).creator).home == (thread_at k t).home) (option_to_list o) []) inactive ∙ either ((thread_at k (period_at k i).creator).home == (thread_at k t).home) []);
} where
  k : Plain
  k = plain_of all

  sound : IsSound k
  sound = acts.sound

  home : timers_lent all.clusters t ≡ (cluster_at k (thread_at k t).home).timers
  home = timers_home all.scenario all.table.names all.groups all.clusters t acts.low acts.high whole.laid (ap has_begun acts.started)

  none : (own awaited : Bool) → ((period_at k i).creator == t) ≡ own → is_awaited (period_at k i).phase ≡ awaited → (own && awaited) ≡ false
  none true true own awaited = absurd (false≢true (sym (none_awaited k i (subst (IsActing k) (sym (same_number (period_at k i).creator t own)) acts)) ∙ awaited))
  none true false own awaited = refl
  none false awaited own is = refl

-- ---- period.create and period.ident

created_named : (k : Plain) (t index : ℕ) (free : List ℕ) (name : ℕ) → IsSound k → k.table.periods.free ≡ index ∷ free → AreNamed (with_names Period (taken k.table.periods index free name) k.table) (record (objects_of k) { periods = with_nth k.periods index (new_period t) })
created_named k t index free name sound is = named_timed k.table (objects_of k) index free name (new_period t) sound.named sound.periods.places is refl

pub period_create_fair : (k : Plain) (t name : ℕ) → IsCaller k t → IsFair k t (period_create k t name)
period_create_fair k t name caller = fair_create k t Period name None _ (λ index free is.
    stays_as k (put_period (put_names k Period (taken k.table.periods index free name)) index (new_period t)) t caller
    (gentle_periods k k but_none (with_nth k.periods index (new_period t)) (with_names Period (taken k.table.periods index free name) k.table) (gentle_same k caller.acts.sound) (created_named k t index free name caller.acts.sound is))
    refl)

pub period_ident_fair : (k : Plain) (t name : ℕ) → IsCaller k t → IsFair k t (period_ident k name)
period_ident_fair k t name caller = fair_ident k t Period name caller

-- ---- period.period

asked_fair : (k : Plain) (t : ℕ) (phase : Phase) → IsCaller k t → IsFair k t (asked k phase)
asked_fair k t Inactive caller = fair_refused k t _
asked_fair k t (Active length next_end job) caller = fair_done k t _ _ _ _ refl (stays_same k t caller)
asked_fair k t (Awaited length next_end) caller = fair_done k t _ _ _ _ refl (stays_same k t caller)
asked_fair k t (Expired length next_end job postponed) caller = fair_refused k t _

-- a line that may be late isn't refused by TIMEOUT
late_granted : (k : Plain) (t : ℕ) (id : Target) (length : ℕ) → op_of k t ≡ Some (PeriodPeriod id length) → eqb length 0 ≡ false → is_refused (op_of k t) 6 ≡ false
late_granted k t id length is some = rw (is, some) refl

-- the next job has begun
next_gentle : (k : Plain) (t i length : ℕ) → IsCaller k t → (period_at k i).live ≡ true → IsGentle k (with_next k t i length)
next_gentle k t i length caller lives = gentle_put_period k k but_none i _ (gentle_same k caller.acts.sound) lives lives

-- and the caller waits for its end
waits_gentle : (k : Plain) (t i length : ℕ) → IsCaller k t → (period_at k i).live ≡ true → IsGentle k (begin_limited (with_next k t i length) t (ForPeriod i) 0)
waits_gentle k t i length caller lives =
    let acts = caller.acts in
    let m = with_next k t i length in
    let b = bounds_at k t acts.sound in
    let thread : Thread = record (thread_at k t) { wait = Some (ForPeriod i) } in
    let begun = gentle_start k m t thread (next_gentle k t i length caller lives) refl (ap may_time_out acts.waits_not) (ap has_begun acts.started) (ap has_begun acts.started)
    (record { home = b.home; line = b.line; working = b.working; calling = λ _. caller.line; apart = λ w. absurd (omega (arith, w, acts.works_not)); acts = b.acts; idle = λ idle. absurd (false≢true (sym idle ∙ ap is_started acts.started)); computed = b.computed }) in
    let here = nth-with_same no_thread thread k.threads t acts.low (omega (arith, acts.high, acts.sound.places)) in
    let is : (thread_at (start_wait m t (ForPeriod i)) t).wait ≡ Some (ForPeriod i) = ap (λ (x : Thread). x.wait) here in
    gentle_enter k (start_wait m t (ForPeriod i)) (caller_at m t) (ForPeriod i) begun is tt (none_awaits k t acts) (λ asleep. absurd (false≢true (sym (ap is_asleep is) ∙ asleep))) (joins_unowned m.semaphores (start_wait m t (ForPeriod i)).threads t (Some (ForPeriod i)) refl)

begins_fair : (k : Plain) (t i length : ℕ) (id : Target) (phase : Phase) → IsCaller k t → (period_at k i).live ≡ true → op_of k t ≡ Some (PeriodPeriod id length) → eqb length 0 ≡ false → IsFair k t (begins k t i length phase)
begins_fair k t i length id Inactive caller lives op some = fair_done k t _ _ _ _ refl (stays_as k _ t caller (gentle_arm_period k (with_next k t i length) but_none (thread_at k t).home i (k.present + length) (next_gentle k t i length caller lives)) refl)
begins_fair k t i length id (Active old next_end job) caller lives op some = fair_waiting k t _ (waits_gentle k t i length caller lives)
begins_fair k t i length id (Awaited old next_end) caller lives op some = fair_waiting k t _ (waits_gentle k t i length caller lives)
begins_fair k t i length id (Expired old next_end job postponed) caller lives op some = fair_done k t Timeout _ _ _ (late_granted k t id length op some) (stays_as k _ t caller (next_gentle k t i length caller lives) refl)

pub period_period_fair : (k : Plain) (t : ℕ) (id : Target) (length : ℕ) → op_of k t ≡ Some (PeriodPeriod id length) → IsCaller k t → IsFair k t (period_period k t id length)
period_period_fair k t id length op caller = fair_found k t (object_named k t Period id) _ (λ i is. fair_if k t ((period_at k i).creator == t) _ _
    (λ _. fair_if k t (eqb length 0) _ _ (λ _. asked_fair k t (period_at k i).phase caller) (λ some. begins_fair k t i length id (period_at k i).phase caller (period_lives k t id i is) op some))
    (λ _. fair_refused k t _))

-- ---- period.cancel and period.delete

pub period_cancel_fair : (k : Plain) (t : ℕ) (id : Target) → IsCaller k t → IsFair k t (period_cancel k t id)
period_cancel_fair k t id caller = fair_found k t (object_named k t Period id) _ (λ i is. fair_if k t ((period_at k i).creator == t) _ _
    (λ _. (let lives = period_lives k t id i is in fair_done k t _ _ _ _ refl (stays_as k (cancelled k i) t caller (gentle_put_period k (stop k i) but_none i _ (gentle_stop k i caller.acts.sound) lives lives) refl)))
    (λ _. fair_refused k t _))

pub period_delete_fair : (k : Plain) (t : ℕ) (id : Target) → IsCaller k t → IsFair k t (period_delete k t id)
period_delete_fair k t id caller = fair_found k t (object_named k t Period id) _ (λ i is. fair_if k t (is_awaited (period_at k i).phase) _ _ (λ _. fair_refused k t _)
    (λ _. (let sound = caller.acts.sound in fair_done k t _ _ _ _ refl (stays_as k (without_period k i) t caller
    (gentle_periods k (stop k i) but_none (with_nth k.periods i no_period) (with_names Period (given_back k.table.periods i) k.table) (gentle_stop k i sound) (named_dropped k.table (objects_of k) i sound.named sound.periods.places (period_lives k t id i is)))
    refl))))

-- ---- periods are sound after each of them

abbrev SoundAfter : Plain → Outcome → Type 0
SoundAfter k o = ArePeriodsSound (changed k o)

sound_found : (k : Plain) (found : Option ℕ) (act : ℕ → Outcome) → ArePeriodsSound k → ((i : ℕ) → found ≡ Some i → SoundAfter k (act i)) → SoundAfter k (on_found found act)
sound_found k None act sound each = sound
sound_found k (Some i) act sound each = each i refl

sound_if : (k : Plain) (b : Bool) (x y : Outcome) → (b ≡ true → SoundAfter k x) → (b ≡ false → SoundAfter k y) → SoundAfter k (cond b x y)
sound_if k true x y held failed = held refl
sound_if k false x y held failed = failed refl

-- a created period
created_sound : (k : Plain) (t index : ℕ) (free : List ℕ) (name : ℕ) → IsCaller k t → k.table.periods.free ≡ index ∷ free → ArePeriodsSound (put_period (put_names k Period (taken k.table.periods index free name)) index (new_period t))
created_sound k t index free name caller is =
    let sound = caller.acts.sound in
    let f = first_free k.table (objects_of k) Period index free sound.named is in
    let none = sound.named.idle index f.absent in
    let idle : is_awaited (period_at k index).phase ≡ false = ap (λ (p : PeriodState). is_awaited p.phase) none in
    let dues : (c : ℕ) → dues_of (OfPeriod index) (cluster_at k c).timers ≡ [] = λ c. (sound.periods.each index).timed c ∙ ap (λ (p : PeriodState). cond ((thread_at k p.creator).home == c) (option_to_list (end_of p.phase)) []) none ∙ either ((thread_at k 0).home == c) [] in
    one_changed k (put_period (put_names k Period (taken k.table.periods index free name)) index (new_period t)) index (new_period t) sound.periods (record {
      low = f.low;
      high = f.high;
      present = refl;
      periods = refl;
      threads = λ u. same_thread (thread_at k u);
      dues = λ c j _. refl;
      awaited = λ j _ _. refl;
      waits = λ u j _ waits. waits;
      sound = record {
        created = λ _. ap has_begun caller.acts.started;
        awaited = λ no. absurd (false≢true no);
        timed = λ c. dues c ∙ sym (either ((thread_at k t).home == c) []);
        counted = counted_new k.present (thread_at k t).computed t;
      };
      here = λ u waits. absurd (never_awaited k index u sound idle waits);
    })

pub period_create_sound : (k : Plain) (t name : ℕ) → IsCaller k t → SoundAfter k (period_create k t name)
period_create_sound k t name caller = sound_if k (eqb name 0) _ _ (λ _. caller.acts.sound.periods) (λ _. by k.table.periods.free refl) where
  by : (free : List ℕ) → k.table.periods.free ≡ free → SoundAfter k (create_at k Period free name (λ index next. put_period next index (new_period t)))
  by [] e = caller.acts.sound.periods
  by (index ∷ free) e = created_sound k t index free name caller e

pub period_ident_sound : (k : Plain) (name : ℕ) → IsSound k → SoundAfter k (period_ident k name)
period_ident_sound k name sound = kept_sound k (changed k (period_ident k name)) sound.named.idle sound.periods (keeps_ident k Period name).keeps

-- the next job of an inactive period has begun, and its timer is armed
first_sound : (k : Plain) (i length : ℕ) → IsActing k (period_at k i).creator → (period_at k i).live ≡ true → (eqb length 0) ≡ false → (period_at k i).phase ≡ Inactive → ArePeriodsSound (arm (with_next k (period_at k i).creator i length) (thread_at k (period_at k i).creator).home (record { who = OfPeriod i; due = k.present + length }))
first_sound k i length acts lives some inactive =
    let by = (period_at k i).creator in
    let h = (thread_at k by).home in
    let within = (bounds_at k by acts.sound).home in
    let was = acts.sound.periods.each i in
    let idle = none_awaited k i acts in
    let more : 0 < length = grind (arith, nat_tests, some) in
    let next : (begun_period k i length).phase ≡ Active length (k.present + length) (started k.present (thread_at k by).computed) = ap (λ (ph : Phase). begun length k.present (thread_at k by).computed ph) inactive in
    own_changes k (arm (with_next k by i length) h (record { who = OfPeriod i; due = k.present + length })) i (begun_period k i length) acts lives lives refl (ap is_awaited next) refl refl refl
    (λ c j other. armed_other k.clusters h c i j (k.present + length) within other)
    (λ c. armed_here k.clusters h c i (k.present + length) within
    ∙ ap (λ ds. ds ++ cond (h == c) ((k.present + length) ∷ []) []) (was.timed c ∙ ap (λ (ph : Phase). cond (h == c) (option_to_list (end_of ph)) []) inactive ∙ either (h == c) [])
    ∙ ap (λ (ph : Phase). cond (h == c) (option_to_list (end_of ph)) []) (sym next))
    (counted_next length k.present (thread_at k by).computed (period_at k i) more idle was.counted)

-- its timers are due as before, where its end stands
end_stands : (k : Plain) (i length : ℕ) (next_end : ℕ) → ArePeriodsSound k → end_of (period_at k i).phase ≡ Some next_end → end_of (begun_period k i length).phase ≡ Some next_end → (c : ℕ) → dues_of (OfPeriod i) (cluster_at k c).timers ≡ cond ((thread_at k (period_at k i).creator).home == c) (option_to_list (end_of (begun_period k i length).phase)) []
end_stands k i length next_end sound was now c = (sound.each i).timed c ∙ ap (λ o. cond ((thread_at k (period_at k i).creator).home == c) (option_to_list o) []) (was ∙ sym now)

postponed_end : (length next_end : ℕ) (job : Job) (postponed : ℕ) (b : Bool) → end_of (cond b (Active length next_end job) (Expired length next_end job postponed)) ≡ Some next_end
postponed_end length next_end job postponed true = refl
postponed_end length next_end job postponed false = refl

postponed_idle : (length next_end : ℕ) (job : Job) (postponed : ℕ) (b : Bool) → is_awaited (cond b (Active length next_end job) (Expired length next_end job postponed)) ≡ false
postponed_idle length next_end job postponed true = refl
postponed_idle length next_end job postponed false = refl

-- a postponed job of an expired period has begun
late_sound : (k : Plain) (i length old next_end : ℕ) (job : Job) (postponed : ℕ) → IsActing k (period_at k i).creator → (period_at k i).live ≡ true → (eqb length 0) ≡ false → (period_at k i).phase ≡ Expired old next_end job postponed → ArePeriodsSound (with_next k (period_at k i).creator i length)
late_sound k i length old next_end job postponed acts lives some expired =
    let by = (period_at k i).creator in
    let used = (thread_at k by).computed in
    let was = acts.sound.periods.each i in
    let more : 0 < length = grind (arith, nat_tests, some) in
    let next : (begun_period k i length).phase ≡ with_postponed length next_end (started k.present used) (postponed - 1) = ap (λ (ph : Phase). begun length k.present used ph) expired in
    own_changes k (with_next k by i length) i (begun_period k i length) acts lives lives refl (ap is_awaited next ∙ postponed_idle length next_end (started k.present used) (postponed - 1) (postponed - 1 == 0)) refl refl refl (λ c j _. refl)
    (end_stands k i length next_end acts.sound.periods (ap end_of expired) (ap end_of next ∙ postponed_end length next_end (started k.present used) (postponed - 1) (postponed - 1 == 0)))
    (counted_next length k.present used (period_at k i) more (none_awaited k i acts) was.counted)

-- the creator waits for the end of an active period
waits_sound : (k : Plain) (i length old next_end : ℕ) (job : Job) → IsActing k (period_at k i).creator → (period_at k i).live ≡ true → (eqb length 0) ≡ false → (period_at k i).phase ≡ Active old next_end job → ArePeriodsSound (begin_limited (with_next k (period_at k i).creator i length) (period_at k i).creator (ForPeriod i) 0)
waits_sound k i length old next_end job acts lives some active =
    let sound = acts.sound in
    let by = (period_at k i).creator in
    let used = (thread_at k by).computed in
    let was = sound.periods.each i in
    let w = live_within k.periods i sound.periods.places lives in
    let more : 0 < length = grind (arith, nat_tests, some) in
    let idle_was = none_awaited k i acts in
    let next : (begun_period k i length).phase ≡ Awaited length next_end = ap (λ (ph : Phase). begun length k.present used ph) active in
    let thread : Thread = record (thread_at k by) { wait = Some (ForPeriod i) } in
    let n = begin_limited (with_next k by i length) by (ForPeriod i) 0 in
    let here : thread_at n by ≡ thread = nth-with_same no_thread thread k.threads by acts.low (omega (arith, acts.high, sound.places)) in
    let other : (u : ℕ) → u ≢ by → thread_at n u ≡ thread_at k u = λ u apart. nth-with_other no_thread thread k.threads by u apart in
    one_changed k n i (begun_period k i length) sound.periods (record {
      low = w.0;
      high = w.1;
      present = refl;
      periods = refl;
      threads = λ u. record {
        lives = nth-with_kept (λ (x : Thread). has_begun x.life) no_thread thread k.threads by u refl;
        home = nth-with_kept (λ (x : Thread). x.home) no_thread thread k.threads by u refl;
        computed = nth-with_kept (λ (x : Thread). x.computed) no_thread thread k.threads by u refl;
      };
      dues = λ c j _. refl;
      awaited = λ j apart is. ap (λ (x : Thread). awaits x.wait) (other (period_at k j).creator (λ e. (
          let waits : None ≡ Some j = sym (ap (λ (x : Thread). awaits x.wait) (ap (thread_at k) e) ∙ ap awaits acts.waits_not) ∙ (sound.periods.each j).awaited is in
          let no : ⊥ = cc in no)));
      waits = λ u j apart is. by_thread u j apart is (u == by) refl here other;
      sound = record {
        created = λ _. ap (λ (x : Thread). has_begun x.life) here ∙ ap has_begun acts.started;
        awaited = λ _. ap (λ (x : Thread). awaits x.wait) here;
        timed = λ c. end_stands k i length next_end sound.periods (ap end_of active) (ap end_of next) c ∙ ap (λ (x : Thread). cond (x.home == c) (option_to_list (end_of (begun_period k i length).phase)) []) (sym here);
        counted = subst (λ (x : Thread). IsCounted k.present x.computed (begun_period k i length)) (sym here) (counted_next length k.present used (period_at k i) more idle_was was.counted);
      };
      here = λ u is. record { creator = sym (only u is (u == by) refl other idle_was); awaited = ap is_awaited next };
    })
  where
    by_thread : (u j : ℕ) → j ≢ i → awaits (thread_at (begin_limited (with_next k (period_at k i).creator i length) (period_at k i).creator (ForPeriod i) 0) u).wait ≡ Some j → (b : Bool) → (u == (period_at k i).creator) ≡ b →
        thread_at (begin_limited (with_next k (period_at k i).creator i length) (period_at k i).creator (ForPeriod i) 0) (period_at k i).creator ≡ (let thread : Thread = record (thread_at k (period_at k i).creator) { wait = Some (ForPeriod i) } in thread) →
        ((u : ℕ) → u ≢ (period_at k i).creator → thread_at (begin_limited (with_next k (period_at k i).creator i length) (period_at k i).creator (ForPeriod i) 0) u ≡ thread_at k u) → awaits (thread_at k u).wait ≡ Some j
    by_thread u j apart is true e here other =
        let its : Some i ≡ Some j = sym (ap (λ v. awaits (thread_at (begin_limited (with_next k (period_at k i).creator i length) (period_at k i).creator (ForPeriod i) 0) v).wait) (same_number u (period_at k i).creator e) ∙ ap (λ (x : Thread). awaits x.wait) here) ∙ is in
        let same : j ≡ i = cc in
        absurd (apart same)
    by_thread u j apart is false e here other = sym (ap (λ (x : Thread). awaits x.wait) (other u (λ q. false≢true (sym e ∙ equal_test u (period_at k i).creator q)))) ∙ is

    only : (u : ℕ) → awaits (thread_at (begin_limited (with_next k (period_at k i).creator i length) (period_at k i).creator (ForPeriod i) 0) u).wait ≡ Some i → (b : Bool) → (u == (period_at k i).creator) ≡ b →
        ((u : ℕ) → u ≢ (period_at k i).creator → thread_at (begin_limited (with_next k (period_at k i).creator i length) (period_at k i).creator (ForPeriod i) 0) u ≡ thread_at k u) → is_awaited (period_at k i).phase ≡ false → u ≡ (period_at k i).creator
    only u is true e other idle = same_number u (period_at k i).creator e
    only u is false e other idle = absurd (never_awaited k i u acts.sound idle (sym (ap (λ (x : Thread). awaits x.wait) (other u (λ q. false≢true (sym e ∙ equal_test u (period_at k i).creator q)))) ∙ is))

begins_sound : (k : Plain) (i length : ℕ) (phase : Phase) → IsActing k (period_at k i).creator → (period_at k i).live ≡ true → (eqb length 0) ≡ false → (period_at k i).phase ≡ phase → SoundAfter k (begins k (period_at k i).creator i length phase)
begins_sound k i length Inactive acts lives some e = first_sound k i length acts lives some e
begins_sound k i length (Active old next_end job) acts lives some e = waits_sound k i length old next_end job acts lives some e
begins_sound k i length (Awaited old next_end) acts lives some e = let no = sym (none_awaited k i acts) ∙ ap is_awaited e in absurd (false≢true no)
begins_sound k i length (Expired old next_end job postponed) acts lives some e = late_sound k i length old next_end job postponed acts lives some e

asked_sound : (k : Plain) (phase : Phase) → ArePeriodsSound k → SoundAfter k (asked k phase)
asked_sound k Inactive sound = sound
asked_sound k (Active length next_end job) sound = sound
asked_sound k (Awaited length next_end) sound = sound
asked_sound k (Expired length next_end job postponed) sound = sound

pub period_period_sound : (k : Plain) (t : ℕ) (id : Target) (length : ℕ) → IsActing k t → SoundAfter k (period_period k t id length)
period_period_sound k t id length acts = sound_found k (object_named k t Period id) _ acts.sound.periods (λ i is. sound_if k ((period_at k i).creator == t) _ _
    (λ own. sound_if k (eqb length 0) _ _ (λ _. asked_sound k (period_at k i).phase acts.sound.periods)
    (λ some. own_call (λ u. IsActing k u → SoundAfter k (begins k u i length (period_at k i).phase)) k i t own (λ acts. begins_sound k i length (period_at k i).phase acts (period_lives k t id i is) some refl) acts))
    (λ _. acts.sound.periods))

-- a cancelled period
stopped_sound : (k : Plain) (i : ℕ) → IsActing k (period_at k i).creator → (period_at k i).live ≡ true → ArePeriodsSound (cancelled k i)
stopped_sound k i acts lives =
    let by = (period_at k i).creator in
    let h = (thread_at k by).home in
    let within = (bounds_at k by acts.sound).home in
    let was = acts.sound.periods.each i in
    own_changes k (cancelled k i) i (record (period_at k i) { phase = Inactive }) acts lives lives refl refl refl refl refl
    (λ c j other. cancelled_other k.clusters h c i j within other)
    (λ c. cancelled_here k.clusters h c i within ∙ gone c (h == c) (was.timed c) ∙ sym (either (h == c) []))
    (counted_cancelled k.present (thread_at k by).computed (period_at k i) (none_awaited k i acts) was.counted)
  where
    gone : (c : ℕ) (b : Bool) → dues_of (OfPeriod i) (cluster_at k c).timers ≡ cond b (option_to_list (end_of (period_at k i).phase)) [] → cond b [] (dues_of (OfPeriod i) (cluster_at k c).timers) ≡ []
    gone c true dues = refl
    gone c false dues = dues

pub period_cancel_sound : (k : Plain) (t : ℕ) (id : Target) → IsActing k t → SoundAfter k (period_cancel k t id)
period_cancel_sound k t id acts = sound_found k (object_named k t Period id) _ acts.sound.periods (λ i is. sound_if k ((period_at k i).creator == t) _ _
    (λ own. own_call (λ u. IsActing k u → ArePeriodsSound (cancelled k i)) k i t own (λ acts. stopped_sound k i acts (period_lives k t id i is)) acts)
    (λ _. acts.sound.periods))

-- a deleted period
dropped_sound : (k : Plain) (i : ℕ) → IsSound k → (period_at k i).live ≡ true → is_awaited (period_at k i).phase ≡ false → ArePeriodsSound (without_period k i)
dropped_sound k i sound lives idle =
    let by = (period_at k i).creator in
    let h = (thread_at k by).home in
    let within = (bounds_at k by sound).home in
    let was = sound.periods.each i in
    let w = live_within k.periods i sound.periods.places lives in
    one_changed k (without_period k i) i no_period sound.periods (record {
      low = w.0;
      high = w.1;
      present = refl;
      periods = refl;
      threads = λ u. same_thread (thread_at k u);
      dues = λ c j other. cancelled_other k.clusters h c i j within other;
      awaited = λ j _ _. refl;
      waits = λ u j _ waits. waits;
      sound = none_sound k.present (thread_at k 0) (λ c. (cluster_at (without_period k i) c).timers) i (λ c. cancelled_here k.clusters h c i within ∙ gone c (h == c) (was.timed c));
      here = λ u waits. absurd (never_awaited k i u sound idle waits);
    })
  where
    gone : (c : ℕ) (b : Bool) → dues_of (OfPeriod i) (cluster_at k c).timers ≡ cond b (option_to_list (end_of (period_at k i).phase)) [] → cond b [] (dues_of (OfPeriod i) (cluster_at k c).timers) ≡ []
    gone c true dues = refl
    gone c false dues = dues

pub period_delete_sound : (k : Plain) (t : ℕ) (id : Target) → IsSound k → SoundAfter k (period_delete k t id)
period_delete_sound k t id sound = sound_found k (object_named k t Period id) _ sound.periods (λ i is. sound_if k (is_awaited (period_at k i).phase) _ _ (λ _. sound.periods) (λ idle. dropped_sound k i sound (period_lives k t id i is) idle))

-- Periods agree with their creators and with timers, while one of them changes.
use Rattle.std.proofs.Common.{◌≡◌, ◌≢◌, ℕ, zero, suc, ◌+◌, ◌-◌, ◌<◌, ◌≤◌, List, [], ◌∷◌, ◌++◌, Bool, true, false, cond, not, nat_lt, ◌==◌, ◌||◌, Some, length, append-nil, arith, refl, sym, ap, ◌∙◌, subst, ⊎_elim}
use Rattle.std.specs.List.{slice_set, slice_index_or}
use Rattle.std.specs.Option.{option_to_list}
use Rattle.std.proofs.lemmas.Bool.{cases_lt, false≢true}
use Rattle.std.proofs.lemmas.List.{get_or_past}
use Rattle.std.proofs.lemmas.Bool.Decides.{nat_tests}
use Rattle.rk_model.specs.declared.period.Job.{Job}
use Rattle.rk_model.specs.declared.period.Phase.{Phase}
use Rattle.rk_model.specs.declared.period.Phase.TheVariants.{Inactive, Active, Awaited, Expired}
use Rattle.rk_model.specs.declared.period.Stats.{Stats}
use Rattle.rk_model.specs.declared.state.Armed.{Armed}
use Rattle.rk_model.specs.declared.state.Armer.{Armer}
use Rattle.rk_model.specs.declared.state.Armer.TheVariants.{Thread as OfThread, Period as OfPeriod}
use Rattle.rk_model.specs.declared.state.Thread.{Thread}
use Rattle.rk_model.specs.Lists.{has, nth, with_nth}
use Rattle.rk_model.specs.State.{Plain, ClusterState, PeriodState, no_cluster, no_period, thread_at, period_at, cluster_at}
use Rattle.rk_model.specs.Directives.Objects.{has_begun}
use Rattle.rk_model.specs.Directives.Periods.{postponed_of, end_of, is_awaited, ended_job, with_job, started, next_begun, new_period, passed}
use Rattle.rk_model.specs.Scheduling.Timers.{is_same, times_armed, without_timer, with_timer, is_due, due_at, without_due}
use Rattle.rk_model.proofs.BooleanLemmas.{equal_test, same_number}
use Rattle.rk_model.proofs.IndexLemmas.{nth-with_same, nth-with_other, length-with_nth}
use Rattle.rk_period.specs.Periods.{HasBegun, Fits}
use Rattle.rk_directives.specs.SoundPeriods.{awaits, dues_of, overdue, IsCounted, IsPeriodSound, IsAwaitedBy, ArePeriodsSound}

-- ---- what is counted

-- an end that is still to come
to_come : (present next_end : ℕ) → present < next_end → overdue present (Some next_end) ≡ 0
to_come present next_end before = let test : nat_lt present next_end ≡ true = grind (arith, nat_tests, before) in rw test refl

-- and one that has come
has_come : (present : ℕ) → overdue present (Some present) ≡ 1
has_come present = let test : nat_lt present present ≡ false = grind (arith, nat_tests) in rw test refl

-- nothing is counted of a new period
pub counted_new : (present used by : ℕ) → IsCounted present used (new_period by)
counted_new present used by = record {
  count = omega arith;
  missed = omega arith;
  elapsed = omega arith;
  computed = omega arith;
  job = tt;
  late = λ e. absurd (false≢true e);
  steps = tt;
}

-- nor where there is no period
pub counted_none : (present used : ℕ) → IsCounted present used no_period
counted_none present used = record {
  count = omega arith;
  missed = omega arith;
  elapsed = omega arith;
  computed = omega arith;
  job = tt;
  late = λ e. absurd (false≢true e);
  steps = tt;
}

-- a period that stands so
abbrev standing : PeriodState → Phase → Stats → PeriodState
standing period phase stats = record period { phase = phase; stats = stats }

-- The next job of a period begins, for which nobody waits.
pub counted_next : (length present used : ℕ) (period : PeriodState) → 0 < length → is_awaited period.phase ≡ false → IsCounted present used period → IsCounted present used (next_begun length present used period)
counted_next length present used period some idle counted = by period.phase period.stats idle counted where
  goes_on : (next_end postponed : ℕ) (job : Job) (stats : Stats) → 0 < postponed → stats.count + postponed + overdue present (Some next_end) ≤ present + 0 → stats.missed + postponed + overdue present (Some next_end) ≤ present → HasBegun stats present used job → (b : Bool) → (postponed - 1 == 0) ≡ b →
      IsCounted present used (standing period (cond b (Active length next_end (started present used)) (Expired length next_end (started present used) (postponed - 1))) (with_job (ended_job present used true job) stats))
  goes_on next_end postponed job stats left count missed begun true last =
      let one : postponed - 1 ≡ 0 = same_number (postponed - 1) 0 last in
      record {
        count = omega (arith, count, one, left);
        missed = omega (arith, missed, one, left);
        elapsed = omega (arith, begun.elapsed, begun.start);
        computed = omega (arith, begun.computed, begun.before);
        job = record { elapsed = omega (arith, begun.elapsed, begun.start); start = omega arith; computed = omega (arith, begun.computed, begun.before); before = omega arith };
        late = λ no. absurd (false≢true no);
        steps = some;
      }
  goes_on next_end postponed job stats left count missed begun false last =
      let more : 0 < postponed - 1 = grind (arith, nat_tests, last) in
      record {
        count = omega (arith, count, left);
        missed = omega (arith, missed, left);
        elapsed = omega (arith, begun.elapsed, begun.start);
        computed = omega (arith, begun.computed, begun.before);
        job = record { elapsed = omega (arith, begun.elapsed, begun.start); start = omega arith; computed = omega (arith, begun.computed, begun.before); before = omega arith };
        late = λ _. more;
        steps = some;
      }

  by : (phase : Phase) (stats : Stats) → is_awaited phase ≡ false → IsCounted present used (standing period phase stats) → IsCounted present used (next_begun length present used (standing period phase stats))
  by Inactive stats idle counted =
      let ahead = to_come present (present + length) (omega (arith, some)) in
      record {
        count = omega (arith, counted.count, ahead);
        missed = omega (arith, counted.missed, ahead);
        elapsed = counted.elapsed;
        computed = counted.computed;
        job = record { elapsed = counted.elapsed; start = omega arith; computed = counted.computed; before = omega arith };
        late = λ no. absurd (false≢true no);
        steps = some;
      }
  by (Active old next_end job) stats idle counted =
      let begun = counted.job in
      record {
        count = omega (arith, counted.count);
        missed = counted.missed;
        elapsed = omega (arith, begun.elapsed, begun.start);
        computed = omega (arith, begun.computed, begun.before);
        job = tt;
        late = λ no. absurd (false≢true no);
        steps = some;
      }
  by (Awaited old next_end) stats idle counted = absurd (false≢true (sym idle))
  by (Expired old next_end job postponed) stats idle counted = goes_on next_end postponed job stats (counted.late refl) counted.count counted.missed counted.job (postponed - 1 == 0) refl

-- The end of a period passes, which is the present tick.
pub counted_passed : (present used : ℕ) (period : PeriodState) → end_of period.phase ≡ Some present → IsCounted present used period → IsCounted present used (passed present used period)
counted_passed present used period due counted = by period.phase due counted where
  by : (phase : Phase) → end_of phase ≡ Some present → IsCounted present used (standing period phase period.stats) → IsCounted present used (passed present used (standing period phase period.stats))
  by Inactive due counted = let no : ⊥ = cc in absurd no
  by (Active length next_end job) due counted =
      let same : next_end ≡ present = cc in
      let now : overdue present (Some next_end) ≡ 1 = ap (λ n. overdue present (Some n)) same ∙ has_come present in
      let ahead = to_come present (next_end + length) (omega (arith, counted.steps, same)) in
      record {
        count = omega (arith, counted.count, now, ahead);
        missed = omega (arith, counted.missed, now, ahead);
        elapsed = counted.elapsed;
        computed = counted.computed;
        job = counted.job;
        late = λ _. omega arith;
        steps = counted.steps;
      }
  by (Awaited length next_end) due counted =
      let same : next_end ≡ present = cc in
      let now : overdue present (Some next_end) ≡ 1 = ap (λ n. overdue present (Some n)) same ∙ has_come present in
      let ahead = to_come present (next_end + length) (omega (arith, counted.steps, same)) in
      record {
        count = omega (arith, counted.count, now, ahead);
        missed = omega (arith, counted.missed, now, ahead);
        elapsed = counted.elapsed;
        computed = counted.computed;
        job = record { elapsed = counted.elapsed; start = omega arith; computed = counted.computed; before = omega arith };
        late = λ no. absurd (false≢true no);
        steps = counted.steps;
      }
  by (Expired length next_end job postponed) due counted =
      let same : next_end ≡ present = cc in
      let now : overdue present (Some next_end) ≡ 1 = ap (λ n. overdue present (Some n)) same ∙ has_come present in
      let ahead = to_come present (next_end + length) (omega (arith, counted.steps, same)) in
      record {
        count = omega (arith, counted.count, now, ahead);
        missed = omega (arith, counted.missed, now, ahead);
        elapsed = counted.elapsed;
        computed = counted.computed;
        job = counted.job;
        late = λ _. omega arith;
        steps = counted.steps;
      }

-- A period is cancelled, for which nobody waits.
pub counted_cancelled : (present used : ℕ) (period : PeriodState) → is_awaited period.phase ≡ false → IsCounted present used period → IsCounted present used (record period { phase = Inactive })
counted_cancelled present used period idle counted =
    let few : period.stats.count + postponed_of period.phase + overdue present (end_of period.phase) ≤ present + 0 = rw idle at counted.count in
    record {
      count = omega (arith, few);
      missed = omega (arith, counted.missed);
      elapsed = counted.elapsed;
      computed = counted.computed;
      job = tt;
      late = λ no. absurd (false≢true no);
      steps = tt;
    }

-- What is counted fits a call on a period for which nobody waits,
pub fits_call : (present used : ℕ) (period : PeriodState) → present ≤ 1000000 → used ≤ present → is_awaited period.phase ≡ false → IsCounted present used period → Fits present used period
fits_call present used period few within idle counted =
    let count : period.stats.count + postponed_of period.phase + overdue present (end_of period.phase) ≤ present + 0 = rw idle at counted.count in
    record {
      few = few;
      few_used = omega (arith, few, within);
      count = omega (arith, count);
      missed = omega (arith, counted.missed);
      postponed = omega (arith, counted.missed);
      elapsed = counted.elapsed;
      computed = counted.computed;
      job = counted.job;
    }

-- and an end that passes.
pub fits_pass : (present used : ℕ) (period : PeriodState) → present ≤ 1000000 → used ≤ present → end_of period.phase ≡ Some present → IsCounted present used period → Fits present used period
fits_pass present used period few within due counted =
    let now : overdue present (end_of period.phase) ≡ 1 = ap (overdue present) due ∙ has_come present in
    record {
      few = few;
      few_used = omega (arith, few, within);
      count = waited (is_awaited period.phase) counted.count now;
      missed = omega (arith, counted.missed);
      postponed = omega (arith, counted.missed);
      elapsed = counted.elapsed;
      computed = counted.computed;
      job = counted.job;
    }
  where
    waited : (b : Bool) → period.stats.count + postponed_of period.phase + overdue present (end_of period.phase) ≤ present + cond b 1 0 → overdue present (end_of period.phase) ≡ 1 → period.stats.count ≤ present
    waited true count now = omega (arith, count, now)
    waited false count now = omega (arith, count, now)

-- ---- the timers of periods

-- there are as many ticks as timers
pub times-dues : (who : Armer) (timers : List Armed) → times_armed who timers ≡ length (dues_of who timers)
times-dues who [] = refl
times-dues who (timer ∷ timers) = by (is_same timer.who who) (times-dues who timers) where
  by : (b : Bool) → times_armed who timers ≡ length (dues_of who timers) → cond b 1 0 + times_armed who timers ≡ length (cond b (timer.due ∷ dues_of who timers) (dues_of who timers))
  by true same = omega (arith, same)
  by false same = omega (arith, same)

-- one more timer, as the last
pub dues-push : (who : Armer) (timers : List Armed) (timer : Armed) → dues_of who (timers ++ timer ∷ []) ≡ dues_of who timers ++ cond (is_same timer.who who) (timer.due ∷ []) []
dues-push who [] timer = refl
dues-push who (x ∷ xs) timer = by (is_same x.who who) (dues-push who xs timer) where
  by : (b : Bool) → dues_of who (xs ++ timer ∷ []) ≡ dues_of who xs ++ cond (is_same timer.who who) (timer.due ∷ []) [] → cond b (x.due ∷ dues_of who (xs ++ timer ∷ [])) (dues_of who (xs ++ timer ∷ [])) ≡ cond b (x.due ∷ dues_of who xs) (dues_of who xs) ++ cond (is_same timer.who who) (timer.due ∷ []) []
  by true same = ap (λ ds. x.due ∷ ds) same
  by false same = same

-- the timer of one is cancelled
pub dues-cancelled : (who : Armer) (timers : List Armed) → dues_of who (without_timer who timers) ≡ []
dues-cancelled who [] = refl
dues-cancelled who (timer ∷ timers) = by (is_same timer.who who) refl (dues-cancelled who timers) where
  by : (b : Bool) → is_same timer.who who ≡ b → dues_of who (without_timer who timers) ≡ [] → dues_of who (cond (not b) (timer ∷ without_timer who timers) (without_timer who timers)) ≡ []
  by true e none = none
  by false e none = rw e none

-- a timer of one period is of no other
apart_period : (armer : Armer) (i j : ℕ) → j ≢ i → is_same armer (OfPeriod i) ≡ true → is_same armer (OfPeriod j) ≡ false
apart_period (OfThread t) i j other e = refl
apart_period (OfPeriod h) i j other e = grind (arith, nat_tests, other, e)

pub dues-cancelled_other : (i j : ℕ) (timers : List Armed) → j ≢ i → dues_of (OfPeriod j) (without_timer (OfPeriod i) timers) ≡ dues_of (OfPeriod j) timers
dues-cancelled_other i j [] other = refl
dues-cancelled_other i j (timer ∷ timers) other = by (is_same timer.who (OfPeriod i)) refl (dues-cancelled_other i j timers other) where
  by : (b : Bool) → is_same timer.who (OfPeriod i) ≡ b → dues_of (OfPeriod j) (without_timer (OfPeriod i) timers) ≡ dues_of (OfPeriod j) timers →
      dues_of (OfPeriod j) (cond (not b) (timer ∷ without_timer (OfPeriod i) timers) (without_timer (OfPeriod i) timers)) ≡ cond (is_same timer.who (OfPeriod j)) (timer.due ∷ dues_of (OfPeriod j) timers) (dues_of (OfPeriod j) timers)
  by true e same = let no = apart_period timer.who i j other e in rw no same
  by false e same = ap (λ ds. cond (is_same timer.who (OfPeriod j)) (timer.due ∷ ds) ds) same

or_true : (b : Bool) → (b || true) ≡ true
or_true true = refl
or_true false = refl

-- The first timer that is due is that of a period:

-- that period has a timer that is due now,
pub due_here : (tick i : ℕ) (timers xs : List Armed) (x : Armed) → x.who ≡ OfPeriod i → due_at tick timers ≡ x ∷ xs → has (dues_of (OfPeriod i) timers) tick ≡ true
due_here tick i [] xs x whose due = let no : ⊥ = cc in absurd no
due_here tick i (timer ∷ timers) xs x whose due = by (is_due tick timer) refl due (due_here tick i timers xs x whose) where
  by : (b : Bool) → is_due tick timer ≡ b → cond b (timer ∷ due_at tick timers) (due_at tick timers) ≡ x ∷ xs → (due_at tick timers ≡ x ∷ xs → has (dues_of (OfPeriod i) timers) tick ≡ true) →
      has (cond (is_same timer.who (OfPeriod i)) (timer.due ∷ dues_of (OfPeriod i) timers) (dues_of (OfPeriod i) timers)) tick ≡ true
  by true e due more =
      let same : timer ≡ x = cc in
      let its : is_same timer.who (OfPeriod i) ≡ true = ap (λ (y : Armed). is_same y.who (OfPeriod i)) same ∙ ap (λ (w : Armer). is_same w (OfPeriod i)) whose ∙ equal_test i i refl in
      rw (its, e) refl
  by false e due more = later (is_same timer.who (OfPeriod i)) (more due) where
    later : (b : Bool) → has (dues_of (OfPeriod i) timers) tick ≡ true → has (cond b (timer.due ∷ dues_of (OfPeriod i) timers) (dues_of (OfPeriod i) timers)) tick ≡ true
    later true there = rw there (or_true (timer.due == tick))
    later false there = there

-- and one fewer once it is taken out;
pub one_taken : (tick i : ℕ) (timers xs : List Armed) (x : Armed) → x.who ≡ OfPeriod i → due_at tick timers ≡ x ∷ xs → length (dues_of (OfPeriod i) (without_due tick timers)) + 1 ≡ length (dues_of (OfPeriod i) timers)
one_taken tick i [] xs x whose due = let no : ⊥ = cc in absurd no
one_taken tick i (timer ∷ timers) xs x whose due = by (is_due tick timer) due (one_taken tick i timers xs x whose) where
  by : (b : Bool) → cond b (timer ∷ due_at tick timers) (due_at tick timers) ≡ x ∷ xs → (due_at tick timers ≡ x ∷ xs → length (dues_of (OfPeriod i) (without_due tick timers)) + 1 ≡ length (dues_of (OfPeriod i) timers)) →
      length (dues_of (OfPeriod i) (cond b timers (timer ∷ without_due tick timers))) + 1 ≡ length (dues_of (OfPeriod i) (timer ∷ timers))
  by true due more =
      let same : timer ≡ x = cc in
      let its : is_same timer.who (OfPeriod i) ≡ true = ap (λ (y : Armed). is_same y.who (OfPeriod i)) same ∙ ap (λ (w : Armer). is_same w (OfPeriod i)) whose ∙ equal_test i i refl in
      rw its (omega arith)
  by false due more = later (is_same timer.who (OfPeriod i)) (more due) where
    later : (b : Bool) → length (dues_of (OfPeriod i) (without_due tick timers)) + 1 ≡ length (dues_of (OfPeriod i) timers) → length (cond b (timer.due ∷ dues_of (OfPeriod i) (without_due tick timers)) (dues_of (OfPeriod i) (without_due tick timers))) + 1 ≡ length (cond b (timer.due ∷ dues_of (OfPeriod i) timers) (dues_of (OfPeriod i) timers))
    later true fewer = omega (arith, fewer)
    later false fewer = fewer

-- those of the others stay.
pub dues-taken_other : (tick i j : ℕ) (timers xs : List Armed) (x : Armed) → j ≢ i → x.who ≡ OfPeriod i → due_at tick timers ≡ x ∷ xs → dues_of (OfPeriod j) (without_due tick timers) ≡ dues_of (OfPeriod j) timers
dues-taken_other tick i j [] xs x other whose due = refl
dues-taken_other tick i j (timer ∷ timers) xs x other whose due = by (is_due tick timer) due (dues-taken_other tick i j timers xs x other whose) where
  by : (b : Bool) → cond b (timer ∷ due_at tick timers) (due_at tick timers) ≡ x ∷ xs → (due_at tick timers ≡ x ∷ xs → dues_of (OfPeriod j) (without_due tick timers) ≡ dues_of (OfPeriod j) timers) →
      dues_of (OfPeriod j) (cond b timers (timer ∷ without_due tick timers)) ≡ dues_of (OfPeriod j) (timer ∷ timers)
  by true due more =
      let same : timer ≡ x = cc in
      let its : is_same timer.who (OfPeriod i) ≡ true = ap (λ (y : Armed). is_same y.who (OfPeriod i)) same ∙ ap (λ (w : Armer). is_same w (OfPeriod i)) whose ∙ equal_test i i refl in
      let no = apart_period timer.who i j other its in
      rw no refl
  by false due more = ap (λ ds. cond (is_same timer.who (OfPeriod j)) (timer.due ∷ ds) ds) (more due)

-- a cluster whose timers were changed, and the others
pub timers_put : (clusters : List ClusterState) (h c : ℕ) (timers : List Armed) → h < length clusters → (slice_index_or (slice_set clusters h (record (slice_index_or clusters h no_cluster) { timers = timers })) c no_cluster).timers ≡ cond (h == c) timers (slice_index_or clusters c no_cluster).timers
timers_put [] h c timers within = absurd (omega (arith, within))
timers_put (x ∷ xs) zero zero timers within = refl
timers_put (x ∷ xs) zero (suc c) timers within = let apart : (0 == suc c) ≡ false = grind (arith, nat_tests) in rw apart refl
timers_put (x ∷ xs) (suc h) zero timers within = let apart : (suc h == 0) ≡ false = grind (arith, nat_tests) in rw apart refl
timers_put (x ∷ xs) (suc h) (suc c) timers within = let same : (suc h == suc c) ≡ (h == c) = grind (arith, nat_tests) in rw same (timers_put xs h c timers (omega (arith, within)))

-- a timer of a period is armed in a cluster: it is the period's last one there,
pub armed_here : (clusters : List ClusterState) (h c i due : ℕ) → h < length clusters → dues_of (OfPeriod i) (slice_index_or (slice_set clusters h (with_timer (slice_index_or clusters h no_cluster) (record { who = OfPeriod i; due = due }))) c no_cluster).timers ≡ dues_of (OfPeriod i) (slice_index_or clusters c no_cluster).timers ++ cond (h == c) (due ∷ []) []
armed_here clusters h c i due within = ap (dues_of (OfPeriod i)) (timers_put clusters h c _ within) ∙ by (h == c) refl where
  timers : ℕ → List Armed
  timers d = (slice_index_or clusters d no_cluster).timers

  timer : Armed
  timer = record { who = OfPeriod i; due = due }

  by : (b : Bool) → (h == c) ≡ b → dues_of (OfPeriod i) (cond b (timers h ++ timer ∷ []) (timers c)) ≡ dues_of (OfPeriod i) (timers c) ++ cond b (due ∷ []) []
  by true e =
      let its : (i == i) ≡ true = equal_test i i refl in
      dues-push (OfPeriod i) (timers h) timer ∙ ap (λ b. dues_of (OfPeriod i) (timers h) ++ cond b (due ∷ []) []) its ∙ ap (λ d. dues_of (OfPeriod i) (timers d) ++ due ∷ []) (same_number h c e)
  by false e = sym (append-nil (dues_of (OfPeriod i) (timers c)))

-- and no other period has one more
pub armed_other : (clusters : List ClusterState) (h c i j due : ℕ) → h < length clusters → j ≢ i → dues_of (OfPeriod j) (slice_index_or (slice_set clusters h (with_timer (slice_index_or clusters h no_cluster) (record { who = OfPeriod i; due = due }))) c no_cluster).timers ≡ dues_of (OfPeriod j) (slice_index_or clusters c no_cluster).timers
armed_other clusters h c i j due within other = ap (dues_of (OfPeriod j)) (timers_put clusters h c _ within) ∙ by (h == c) refl where
  timers : ℕ → List Armed
  timers d = (slice_index_or clusters d no_cluster).timers

  timer : Armed
  timer = record { who = OfPeriod i; due = due }

  by : (b : Bool) → (h == c) ≡ b → dues_of (OfPeriod j) (cond b (timers h ++ timer ∷ []) (timers c)) ≡ dues_of (OfPeriod j) (timers c)
  by true e =
      let not_its : (i == j) ≡ false = grind (arith, nat_tests, other) in
      dues-push (OfPeriod j) (timers h) timer ∙ ap (λ b. dues_of (OfPeriod j) (timers h) ++ cond b (due ∷ []) []) not_its ∙ append-nil (dues_of (OfPeriod j) (timers h)) ∙ ap (λ d. dues_of (OfPeriod j) (timers d)) (same_number h c e)
  by false e = refl

-- the timer of a period is cancelled in a cluster: it has none there,
pub cancelled_here : (clusters : List ClusterState) (h c i : ℕ) → h < length clusters → dues_of (OfPeriod i) (slice_index_or (slice_set clusters h (record (slice_index_or clusters h no_cluster) { timers = without_timer (OfPeriod i) (slice_index_or clusters h no_cluster).timers })) c no_cluster).timers ≡ cond (h == c) [] (dues_of (OfPeriod i) (slice_index_or clusters c no_cluster).timers)
cancelled_here clusters h c i within = ap (dues_of (OfPeriod i)) (timers_put clusters h c _ within) ∙ by (h == c) where
  timers : ℕ → List Armed
  timers d = (slice_index_or clusters d no_cluster).timers

  by : (b : Bool) → dues_of (OfPeriod i) (cond b (without_timer (OfPeriod i) (timers h)) (timers c)) ≡ cond b [] (dues_of (OfPeriod i) (timers c))
  by true = dues-cancelled (OfPeriod i) (timers h)
  by false = refl

-- and the others have theirs
pub cancelled_other : (clusters : List ClusterState) (h c i j : ℕ) → h < length clusters → j ≢ i → dues_of (OfPeriod j) (slice_index_or (slice_set clusters h (record (slice_index_or clusters h no_cluster) { timers = without_timer (OfPeriod i) (slice_index_or clusters h no_cluster).timers })) c no_cluster).timers ≡ dues_of (OfPeriod j) (slice_index_or clusters c no_cluster).timers
cancelled_other clusters h c i j within other = ap (dues_of (OfPeriod j)) (timers_put clusters h c _ within) ∙ by (h == c) refl where
  timers : ℕ → List Armed
  timers d = (slice_index_or clusters d no_cluster).timers

  by : (b : Bool) → (h == c) ≡ b → dues_of (OfPeriod j) (cond b (without_timer (OfPeriod i) (timers h)) (timers c)) ≡ dues_of (OfPeriod j) (timers c)
  by true e = dues-cancelled_other i j (timers h) other ∙ ap (λ d. dues_of (OfPeriod j) (timers d)) (same_number h c e)
  by false e = refl

-- no thread has a timer more or fewer where that of a period is armed, or cancelled
pub threads_armed : (u i due : ℕ) (timers : List Armed) → times_armed (OfThread u) (timers ++ (record { who = OfPeriod i; due = due }) ∷ []) ≡ times_armed (OfThread u) timers
threads_armed u i due [] = omega arith
threads_armed u i due (timer ∷ timers) = omega (arith, threads_armed u i due timers)

not_of_thread : (who : Armer) (i u : ℕ) → is_same who (OfPeriod i) ≡ true → is_same who (OfThread u) ≡ false
not_of_thread (OfThread t) i u e = absurd (false≢true e)
not_of_thread (OfPeriod j) i u e = refl

pub threads_cancelled : (u i : ℕ) (timers : List Armed) → times_armed (OfThread u) (without_timer (OfPeriod i) timers) ≡ times_armed (OfThread u) timers
threads_cancelled u i [] = refl
threads_cancelled u i (timer ∷ timers) = by (is_same timer.who (OfPeriod i)) refl (threads_cancelled u i timers) where
  by : (b : Bool) → is_same timer.who (OfPeriod i) ≡ b → times_armed (OfThread u) (without_timer (OfPeriod i) timers) ≡ times_armed (OfThread u) timers → times_armed (OfThread u) (cond (not b) (timer ∷ without_timer (OfPeriod i) timers) (without_timer (OfPeriod i) timers)) ≡ cond (is_same timer.who (OfThread u)) 1 0 + times_armed (OfThread u) timers
  by true e same = let no = not_of_thread timer.who i u e in rw no (omega (arith, same))
  by false e same = omega (arith, same)

-- ---- one period changes

-- a choice between the same
pub either : {X : Type 0} (b : Bool) (x : X) → cond b x x ≡ x
either true x = refl
either false x = refl

-- where there is no period
pub none_sound : (present : ℕ) (by : Thread) (timers : ℕ → List Armed) (i : ℕ) → ((c : ℕ) → dues_of (OfPeriod i) (timers c) ≡ []) → IsPeriodSound present by timers i no_period
none_sound present by timers i none = record {
  created = λ live. absurd (false≢true live);
  awaited = λ is. absurd (false≢true is);
  timed = λ c. none c ∙ sym (either (by.home == c) []);
  counted = counted_none present by.computed;
}

-- What a period knows of a thread but for which it waits.
pub record IsAlike (old new : Thread) : Type 0 where
  pub lives : has_begun new.life ≡ has_begun old.life
  pub home : new.home ≡ old.home
  pub computed : new.computed ≡ old.computed

pub same_thread : (thread : Thread) → IsAlike thread thread
same_thread thread = record { lives = refl; home = refl; computed = refl }

-- A period of a state was changed, and with it perhaps its timer, and who waits for it.
pub record ChangesOne (k n : Plain) (i : ℕ) (period : PeriodState) : Type 0 where
  pub low : 0 < i
  pub high : i ≤ 64
  pub present : n.present ≡ k.present
  pub periods : n.periods ≡ with_nth k.periods i period
  pub threads : (t : ℕ) → IsAlike (thread_at k t) (thread_at n t)
  -- the timers of the others, and who waits for them, are as before
  pub dues : (c j : ℕ) → j ≢ i → dues_of (OfPeriod j) (cluster_at n c).timers ≡ dues_of (OfPeriod j) (cluster_at k c).timers
  pub awaited : (j : ℕ) → j ≢ i → is_awaited (period_at k j).phase ≡ true → awaits (thread_at n (period_at k j).creator).wait ≡ awaits (thread_at k (period_at k j).creator).wait
  pub waits : (t j : ℕ) → j ≢ i → awaits (thread_at n t).wait ≡ Some j → awaits (thread_at k t).wait ≡ Some j
  -- the period itself is sound, and who waits for it is its creator
  pub sound : IsPeriodSound n.present (thread_at n period.creator) (λ c. (cluster_at n c).timers) i period
  pub here : (t : ℕ) → awaits (thread_at n t).wait ≡ Some i → IsAwaitedBy period t

pub one_changed : (k n : Plain) (i : ℕ) (period : PeriodState) → ArePeriodsSound k → ChangesOne k n i period → ArePeriodsSound n
one_changed k n i period sound changes = record {
  places = ap (λ (ps : List PeriodState). length ps) changes.periods ∙ length-with_nth period k.periods i ∙ sound.places;
  each = λ j. each j (j == i) refl;
  waits = λ t j is. waits t j is (j == i) refl;
} where
  here : period_at n i ≡ period
  here = ap (λ (ps : List PeriodState). nth no_period ps i) changes.periods ∙ nth-with_same no_period period k.periods i changes.low (omega (arith, changes.high, sound.places))

  other : (j : ℕ) → j ≢ i → period_at n j ≡ period_at k j
  other j apart = ap (λ (ps : List PeriodState). nth no_period ps j) changes.periods ∙ nth-with_other no_period period k.periods i j apart

  not_one : (j : ℕ) → (j == i) ≡ false → j ≢ i
  not_one j e same = false≢true (sym e ∙ equal_test j i same)

  Sound : ℕ → PeriodState → Type 0
  Sound j p = IsPeriodSound n.present (thread_at n p.creator) (λ c. (cluster_at n c).timers) j p

  each : (j : ℕ) (b : Bool) → (j == i) ≡ b → Sound j (period_at n j)
  each j true e = subst (λ m. Sound m (period_at n m)) (sym (same_number j i e)) (subst (Sound i) (sym here) changes.sound)
  each j false e =
      let apart = not_one j e in
      let p = period_at k j in
      let was = sound.each j in
      let alike = changes.threads p.creator in
      subst (Sound j) (sym (other j apart))
      (record {
        created = λ live. alike.lives ∙ was.created live;
        awaited = λ is. changes.awaited j apart is ∙ was.awaited is;
        timed = λ c. changes.dues c j apart ∙ was.timed c ∙ ap (λ h. cond (h == c) (option_to_list (end_of p.phase)) []) (sym alike.home);
        counted = subst (λ t. IsCounted t (thread_at n p.creator).computed p) (sym changes.present) (subst (λ u. IsCounted k.present u p) (sym alike.computed) was.counted);
      })

  waits : (t j : ℕ) → awaits (thread_at n t).wait ≡ Some j → (b : Bool) → (j == i) ≡ b → IsAwaitedBy (period_at n j) t
  waits t j is true e =
      let same = same_number j i e in
      subst (λ m. IsAwaitedBy (period_at n m) t) (sym same) (subst (λ (p : PeriodState). IsAwaitedBy p t) (sym here) (changes.here t (is ∙ ap (λ m. Some m) same)))
  waits t j is false e =
      let apart = not_one j e in
      subst (λ (p : PeriodState). IsAwaitedBy p t) (sym (other j apart)) (sound.waits t j (changes.waits t j apart is))

-- an index at which there is something is one of the 64
pub live_within : (periods : List PeriodState) (i : ℕ) → length periods ≡ 64 → (nth no_period periods i).live ≡ true → (0 < i) × (i ≤ 64)
live_within periods zero size live = absurd (false≢true live)
live_within periods (suc j) size live =
    ⊎_elim (λ w. let low : 0 < suc j = omega arith in let high : suc j ≤ 64 = omega (arith, w, size) in (low, high))
    (λ w. absurd (false≢true (rw (get_or_past periods j no_period w) at live))) (cases_lt j (length periods))

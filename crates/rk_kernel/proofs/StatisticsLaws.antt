-- The statistics that a period has are those of its history: along a history each period agrees with what is shown of it.
use Rattle.std.proofs.Common.{◌≡◌, ℕ, zero, suc, ◌+◌, ◌-◌, ◌<◌, ◌≤◌, ◌==◌, List, [], ◌∷◌, ◌++◌, Bool, true, false, cond, not, ◌&&◌, eqb, ltb, Option, None, Some, length, get_or, arith, refl, ap, sym, ◌∙◌, subst}
use Rattle.std.specs.Prelude.{IfSome}
use Rattle.std.specs.Option.{option_to_list}
use Rattle.std.proofs.lemmas.Bool.{false≢true}
use Rattle.std.proofs.lemmas.Bool.Decides.{nat_tests}
use Rattle.rk_model.specs.declared.entry.Answer.{Answer}
use Rattle.rk_model.specs.declared.entry.Entry.{Entry}
use Rattle.rk_model.specs.declared.entry.Reply.{Reply}
use Rattle.rk_model.specs.declared.entry.What.TheVariants.{Call, Tick, End}
use Rattle.rk_model.specs.declared.ids.Class.TheVariants.{Period}
use Rattle.rk_model.specs.declared.period.EndedJob.{EndedJob}
use Rattle.rk_model.specs.declared.period.Job.{Job}
use Rattle.rk_model.specs.declared.period.Phase.{Phase}
use Rattle.rk_model.specs.declared.period.Phase.TheVariants.{Inactive, Active, Awaited, Expired}
use Rattle.rk_model.specs.declared.scenario.Op.{Op}
use Rattle.rk_model.specs.declared.scenario.Op.TheVariants.{PeriodCreate, PeriodIdent, PeriodPeriod, PeriodCancel, PeriodDelete}
use Rattle.rk_model.specs.declared.scenario.Scenario.{Scenario}
use Rattle.rk_model.specs.declared.scenario.Target.{Target}
use Rattle.rk_model.specs.declared.state.Armed.{Armed}
use Rattle.rk_model.specs.declared.state.Armer.{Armer}
use Rattle.rk_model.specs.declared.state.Armer.TheVariants.{Thread as OfThread, Period as OfPeriod}
use Rattle.rk_model.specs.declared.state.Thread.{Thread}
use Rattle.rk_model.specs.declared.state.Wait.TheVariants.{ForPeriod}
use Rattle.rk_model.specs.Lists.{nth, with_nth}
use Rattle.rk_model.specs.Names.{taken}
use Rattle.rk_model.specs.State.{Plain, PeriodState, objects_of, no_thread, no_period, thread_at, period_at, put_period, op_at}
use Rattle.rk_model.specs.Scheduling.Running.{caller, is_quiet, runs_somewhere}
use Rattle.rk_model.specs.Scheduling.Settling.{settle}
use Rattle.rk_model.specs.Scheduling.Ticks.{charged, ticked, charge_from, pass, rung, expire, fire, fire_each, fire_cluster, fire_from, tick}
use Rattle.rk_model.specs.Scheduling.Timers.{take_due}
use Rattle.rk_model.specs.Directives.Objects.{object_named, put_names, create_at}
use Rattle.rk_model.specs.Directives.Outcomes.{Outcome, changed, answer_of, after_outcome, last_of, on_found, gone_on}
use Rattle.rk_model.specs.Directives.Periods.{running_job, is_awaited, end_of, with_job, ended_job, started, next_begun, new_period, period_create, asked, begins, period_period, passed, passed_by, cancelled, period_cancel, without_period, period_delete}
use Rattle.rk_model.specs.Directives.Waits.{bare}
use Rattle.rk_model.specs.declared.status.Status.TheVariants.{Successful}
use Rattle.rk_model.specs.Steps.{Act, directive, back, action_on, action, what_of, entry_of, clock_entry, act_of, clock_at, clock_of, act}
use Rattle.rk_model.specs.Histories.{opening, next_of, next_by, after_from, IsOf, LegalFrom}
use Rattle.rk_model.specs.Statistics.{Ticks, no_ticks, Shown, nothing_shown, has_job, is_expired, is_found, asks_for_next, is_call, is_tick, ends_job, job_of, is_charged, one_more_tick, shown_after, shown_from, stats_of}
use Rattle.rk_model.proofs.BooleanLemmas.{equal_test, same_number, and_false}
use Rattle.rk_model.proofs.IndexLemmas.{nth-with_same, nth-with_other, nth-with_kept}
use Rattle.rk_model.proofs.LimitLemmas.{limits_of}
use Rattle.rk_parts.specs.Firing.{due_now}
use Rattle.rk_directives.specs.Calls.{IsActing}
use Rattle.rk_kernel.specs.SchedulingLaws.{StatisticsAreThoseOfTheHistory}
use Rattle.rk_directives.specs.Sound.{IsSound}
use Rattle.rk_directives.specs.SoundPeriods.{Owner, KeepsPeriods}
use Rattle.rk_directives.proofs.NamesAgreeLemmas.{first_free}
use Rattle.rk_directives.proofs.PeriodSoundLemmas.{live_within}
use Rattle.rk_directives.proofs.PeriodsKeptLemmas.{keeps_concluded, keeps_settled}
use Rattle.rk_directives.proofs.DirectiveLemmas.ObjectsLemmas.{named_lives}
use Rattle.rk_directives.proofs.DirectiveLemmas.KeptPeriodsLemmas.{keeps_ident, line_keeps, back_keeps}
use Rattle.rk_kernel.proofs.SoundSettlingLemmas.{sound_settled, length-kept, length-settled}
use Rattle.rk_kernel.proofs.CallerLemmas.{acting_of}
use Rattle.rk_kernel.proofs.InitNamesLemmas.{none_timed}
use Rattle.rk_kernel.proofs.OpeningLemmas.{sound_opening}
use Rattle.rk_kernel.proofs.TickLemmas.{sound_pass}
use Rattle.rk_kernel.proofs.PeriodEndLemmas.{Passes, passes}
use Rattle.rk_kernel.proofs.FiringLemmas.{keeps_expired, expire_settles, due_now-fire}
use Rattle.rk_kernel.proofs.HistoryLemmas.{sound_act}
use Rattle.rk_kernel.proofs.EndedJobLemmas.{stats_none, stats_with}

-- ---- a period agrees with what is shown of it

-- The running job has these ticks: so many in all since its start, and so many that its creator computed since then.
record HasTicks (present used : ℕ) (ticks : Ticks) (job : Job) : Type 0 where
  elapsed : job.start + ticks.elapsed ≡ present
  computed : job.used + ticks.computed ≡ used

-- A period agrees with what is shown of it, at a tick and when its creator has computed so many.
record IsShown (present used : ℕ) (shown : Shown) (period : PeriodState) : Type 0 where
  stats : period.stats ≡ stats_of shown.jobs
  job : IfSome (running_job period.phase) (HasTicks present used shown.ticks)
  -- the next job of an awaited period starts at its end, and has no ticks then
  awaited : is_awaited period.phase ≡ true → shown.ticks ≡ no_ticks

-- the period of an index agrees where it lives
abbrev Agrees : Plain → Shown → ℕ → Type 0
Agrees k shown i = (period_at k i).live ≡ true → IsShown k.present (thread_at k (period_at k i).creator).computed shown (period_at k i)

-- Where the present tick, the period and what its creator has computed are as before, it agrees still:
agrees_alike : (k n : Plain) (shown : Shown) (i : ℕ) → n.present ≡ k.present → period_at n i ≡ period_at k i → ((period_at k i).live ≡ true → (thread_at n (period_at k i).creator).computed ≡ (thread_at k (period_at k i).creator).computed) → Agrees k shown i → Agrees n shown i
agrees_alike k n shown i present period computed agrees lives =
    let p = period_at k i in
    let lived : p.live ≡ true = sym (ap (λ (q : PeriodState). q.live) period) ∙ lives in
    subst (λ (q : PeriodState). IsShown n.present (thread_at n q.creator).computed shown q) (sym period)
    (subst (λ m. IsShown m (thread_at n p.creator).computed shown p) (sym present)
    (subst (λ u. IsShown k.present u shown p) (sym (computed lived)) (agrees lived)))

-- after a change that leaves periods alone,
agrees_kept : (k n : Plain) (shown : Shown) (i : ℕ) → KeepsPeriods k n → Agrees k shown i → Agrees n shown i
agrees_kept k n shown i keeps agrees =
    agrees_alike k n shown i keeps.present (ap (λ (ps : List PeriodState). nth no_period ps i) keeps.periods) (λ lived. ap (λ (o : Owner). o.computed) (keeps.owners i lived)) agrees

-- A change of a state that puts one period.
record PutsPeriod (k n : Plain) (j : ℕ) (period : PeriodState) : Type 0 where
  present : n.present ≡ k.present
  periods : n.periods ≡ with_nth k.periods j period
  computed : (u : ℕ) → (thread_at n u).computed ≡ (thread_at k u).computed

-- and, where what was put agrees, after such a change.
agrees_put : (k n : Plain) (j i : ℕ) (period : PeriodState) (shown : Shown) → 0 < j → j ≤ length k.periods → PutsPeriod k n j period → ((j == i) ≡ false → Agrees k shown i) → (j ≡ i → period.live ≡ true → IsShown k.present (thread_at k period.creator).computed shown period) → Agrees n shown i
agrees_put k n j i period shown low high puts other same = by (j == i) refl where
  at : (m : ℕ) → period_at n m ≡ nth no_period (with_nth k.periods j period) m
  at m = ap (λ (ps : List PeriodState). nth no_period ps m) puts.periods

  by : (b : Bool) → (j == i) ≡ b → Agrees n shown i
  by false e lives = agrees_alike k n shown i puts.present (at i ∙ nth-with_other no_period period k.periods j i (λ q. false≢true (sym e ∙ equal_test j i (sym q)))) (λ _. puts.computed (period_at k i).creator) (other e) lives
  by true e lives =
      let here : period_at n i ≡ period = ap (period_at n) (sym (same_number j i e)) ∙ at j ∙ nth-with_same no_period period k.periods j low high in
      let lived : period.live ≡ true = sym (ap (λ (q : PeriodState). q.live) here) ∙ lives in
      subst (λ (q : PeriodState). IsShown n.present (thread_at n q.creator).computed shown q) (sym here)
      (subst (λ m. IsShown m (thread_at n period.creator).computed shown period) (sym puts.present)
      (subst (λ u. IsShown k.present u shown period) (sym (puts.computed period.creator)) (same (same_number j i e) lived)))

-- ---- what an entry shows

-- what is shown of a period that lives after an entry, by whether that ends its job and whether it is a tick
abbrev shown_by : Plain → ℕ → Shown → Bool → Bool → Shown
shown_by k i shown ends ticks = record {
  jobs = cond ends (shown.jobs ++ job_of k i shown.ticks ∷ []) shown.jobs;
  ticks = cond (has_job (period_at k i).phase && not ends) (cond ticks (one_more_tick k i shown.ticks) shown.ticks) no_ticks;
}

shown_is : (k : Plain) (x : Entry) (i : ℕ) (shown : Shown) (ends ticks : Bool) → (period_at k i).live ≡ true → ends_job k x i ≡ ends → is_tick x.what ≡ ticks → shown_after k x i shown ≡ shown_by k i shown ends ticks
shown_is k x i shown ends ticks lives e t =
    ap (λ b. cond b (shown_by k i shown (ends_job k x i) (is_tick x.what)) nothing_shown) lives ∙ ap (λ b. shown_by k i shown b (is_tick x.what)) e ∙ ap (shown_by k i shown ends) t

-- of one that doesn't live, nothing
shown_none : (k : Plain) (x : Entry) (i : ℕ) (shown : Shown) → (period_at k i).live ≡ false → shown_after k x i shown ≡ nothing_shown
shown_none k x i shown dead = ap (λ b. cond b (shown_by k i shown (ends_job k x i) (is_tick x.what)) nothing_shown) dead

-- no job ends, and no tick passes
shown_still : (present used : ℕ) (shown : Shown) (period : PeriodState) → IsShown present used shown period → IsShown present used (record { jobs = shown.jobs; ticks = cond (has_job period.phase && true) shown.ticks no_ticks }) period
shown_still present used shown period is = by period.phase is where
  by : (phase : Phase) → IsShown present used shown (record period { phase = phase }) → IsShown present used (record { jobs = shown.jobs; ticks = cond (has_job phase && true) shown.ticks no_ticks }) (record period { phase = phase })
  by Inactive is = record { stats = is.stats; job = tt; awaited = λ _. refl }
  by (Active length next_end job) is = record { stats = is.stats; job = is.job; awaited = is.awaited }
  by (Awaited length next_end) is = record { stats = is.stats; job = tt; awaited = λ _. refl }
  by (Expired length next_end job postponed) is = record { stats = is.stats; job = is.job; awaited = is.awaited }

still : (k : Plain) (x : Entry) (i : ℕ) (shown : Shown) → is_tick x.what ≡ false → ends_job k x i ≡ false → Agrees k shown i → Agrees k (shown_after k x i shown) i
still k x i shown ticks ends agrees lives =
    let p = period_at k i in
    let used = (thread_at k p.creator).computed in
    subst (λ (s : Shown). IsShown k.present used s p) (sym (shown_is k x i shown false false lives ends ticks)) (shown_still k.present used shown p (agrees lives))

-- A job is ended by the call of the period's creator that begins the next one, and by nothing else.
none_by_others : (a b c d : Bool) → b ≡ false → (a && b && c && d) ≡ false
none_by_others true b c d e = rw e refl
none_by_others false b c d e = refl

none_but_calls : (a b c d : Bool) → c ≡ false → (a && b && c && d) ≡ false
none_but_calls true true c d e = rw e refl
none_but_calls true false c d e = refl
none_but_calls false b c d e = refl

none_unasked : (a b c d : Bool) → d ≡ false → (a && b && c && d) ≡ false
none_unasked true true true d e = e
none_unasked true true false d e = refl
none_unasked true false c d e = refl
none_unasked false b c d e = refl

ended_by_call : (a b c d : Bool) → b ≡ true → c ≡ true → d ≡ true → (a && b && c && d) ≡ a
ended_by_call true b c d own calls asks = rw (own, calls, asks) refl
ended_by_call false b c d own calls asks = refl

-- ---- the directives

-- An entry of the call of a thread's line.
record IsCallOf (k : Plain) (t : ℕ) (o : Option Op) (x : Entry) : Type 0 where
  what : x.what ≡ Call
  task : x.task ≡ t
  line : op_at k.scenario x.body x.line ≡ o

-- whether the line asks for the next job, for an entry of its call
asked_by : (k : Plain) (t i : ℕ) (o : Option Op) (x : Entry) → IsCallOf k t o x → asks_for_next k x.task i (op_at k.scenario x.body x.line) ≡ asks_for_next k t i o
asked_by k t i o x is = ap (λ u. asks_for_next k u i (op_at k.scenario x.body x.line)) is.task ∙ ap (asks_for_next k t i) is.line

unasked : (k : Plain) (t i : ℕ) (o : Option Op) (x : Entry) → IsCallOf k t o x → asks_for_next k t i o ≡ false → ends_job k x i ≡ false
unasked k t i o x is none =
    none_unasked (has_job (period_at k i).phase) ((period_at k i).creator == x.task) (is_call x.what) (asks_for_next k x.task i (op_at k.scenario x.body x.line)) (asked_by k t i o x is ∙ none)

-- a call of a line that doesn't ask for the next job
still_called : (k : Plain) (t i : ℕ) (o : Option Op) (x : Entry) (shown : Shown) → IsCallOf k t o x → asks_for_next k t i o ≡ false → Agrees k shown i → Agrees k (shown_after k x i shown) i
still_called k t i o x shown is none agrees = still k x i shown (ap is_tick is.what) (unasked k t i o x is none) agrees

agrees_if : (k : Plain) (b : Bool) (x y : Outcome) (shown : Shown) (i : ℕ) → (b ≡ true → Agrees (changed k x) shown i) → (b ≡ false → Agrees (changed k y) shown i) → Agrees (changed k (cond b x y)) shown i
agrees_if k true x y shown i held failed = held refl
agrees_if k false x y shown i held failed = failed refl

agrees_found : (k : Plain) (found : Option ℕ) (act : ℕ → Outcome) (shown : Shown) (i : ℕ) → (found ≡ None → Agrees k shown i) → ((j : ℕ) → found ≡ Some j → Agrees (changed k (act j)) shown i) → Agrees (changed k (on_found found act)) shown i
agrees_found k None act shown i none each = none refl
agrees_found k (Some j) act shown i none each = each j refl

-- the period that a caller has found is one of the 64
found_within : (k : Plain) (t : ℕ) (id : Target) (j : ℕ) → IsSound k → object_named k t Period id ≡ Some j → (0 < j) × (j ≤ length k.periods)
found_within k t id j sound found =
    let w = live_within k.periods j sound.periods.places (named_lives k t Period id j found) in
    let high : j ≤ length k.periods = omega (arith, w.1, sound.periods.places) in
    (w.0, high)

-- period.create
create_agrees : (k : Plain) (t i name : ℕ) (shown : Shown) → IsSound k → ((period_at k i).live ≡ false → shown ≡ nothing_shown) → Agrees k shown i → Agrees (changed k (period_create k t name)) shown i
create_agrees k t i name shown sound nothing agrees = agrees_if k (eqb name 0) _ _ shown i (λ _. agrees) (λ _. by k.table.periods.free refl) where
  by : (free : List ℕ) → k.table.periods.free ≡ free → Agrees (changed k (create_at k Period free name (λ index next. put_period next index (new_period t)))) shown i
  by [] e = agrees
  by (index ∷ free) e =
      let f = first_free k.table (objects_of k) Period index free sound.named e in
      agrees_put k (put_period (put_names k Period (taken k.table.periods index free name)) index (new_period t)) index i (new_period t) shown (omega (arith, f.low)) (omega (arith, f.high, sound.periods.places))
      (record { present = refl; periods = refl; computed = λ u. refl })
      (λ _. agrees)
      (λ same _. (
      let none : shown ≡ nothing_shown = nothing (ap (λ m. (period_at k m).live) (sym same) ∙ f.absent) in
      record { stats = sym stats_none ∙ ap (λ (s : Shown). stats_of s.jobs) (sym none); job = tt; awaited = λ no. absurd (false≢true no) }))

-- what a period's call for its next job shows of it
shown_next : (present used length : ℕ) (shown : Shown) (period : PeriodState) → IsShown present used shown period →
    IsShown present used (record { jobs = cond (has_job period.phase) (shown.jobs ++ (record { late = is_expired period.phase; computed = shown.ticks.computed; elapsed = shown.ticks.elapsed }) ∷ []) shown.jobs; ticks = cond (has_job period.phase && not (has_job period.phase)) shown.ticks no_ticks }) (next_begun length present used period)
shown_next present used length shown period is = by period.phase is where
  job_now : (late : Bool) → EndedJob
  job_now late = record { late = late; computed = shown.ticks.computed; elapsed = shown.ticks.elapsed }

  -- the job ends with the ticks that it has
  same_job : (late : Bool) (job : Job) → HasTicks present used shown.ticks job → ended_job present used late job ≡ job_now late
  same_job late job has =
      let computed : used - job.used ≡ shown.ticks.computed = omega (arith, has.computed) in
      let elapsed : present - job.start ≡ shown.ticks.elapsed = omega (arith, has.elapsed) in
      λ i. record { late = late; computed = computed i; elapsed = elapsed i }

  one_more : (late : Bool) (job : Job) → period.stats ≡ stats_of shown.jobs → HasTicks present used shown.ticks job → with_job (ended_job present used late job) period.stats ≡ stats_of (shown.jobs ++ job_now late ∷ [])
  one_more late job stats has = ap (with_job (ended_job present used late job)) stats ∙ ap (λ (j : EndedJob). with_job j (stats_of shown.jobs)) (same_job late job has) ∙ sym (stats_with shown.jobs (job_now late))

  just_started : HasTicks present used no_ticks (started present used)
  just_started = record { elapsed = omega arith; computed = omega arith }

  runs : (b : Bool) (next_end postponed : ℕ) → IfSome (running_job (cond b (Active length next_end (started present used)) (Expired length next_end (started present used) postponed))) (HasTicks present used no_ticks)
  runs true next_end postponed = just_started
  runs false next_end postponed = just_started

  by : (phase : Phase) → IsShown present used shown (record period { phase = phase }) → IsShown present used (record { jobs = cond (has_job phase) (shown.jobs ++ job_now (is_expired phase) ∷ []) shown.jobs; ticks = cond (has_job phase && not (has_job phase)) shown.ticks no_ticks }) (next_begun length present used (record period { phase = phase }))
  by Inactive is = record { stats = is.stats; job = just_started; awaited = λ _. refl }
  by (Active old next_end job) is = record { stats = one_more false job is.stats is.job; job = tt; awaited = λ _. refl }
  by (Awaited old next_end) is = record { stats = is.stats; job = tt; awaited = λ _. refl }
  by (Expired old next_end job postponed) is = record { stats = one_more true job is.stats is.job; job = runs (postponed - 1 == 0) next_end (postponed - 1); awaited = λ _. refl }

-- and so that period agrees
next_agrees : (k : Plain) (t i j length : ℕ) (x : Entry) (shown : Shown) → j ≡ i → (period_at k j).live ≡ true → (period_at k j).creator ≡ t → is_tick x.what ≡ false → ends_job k x j ≡ has_job (period_at k j).phase → Agrees k shown i →
    IsShown k.present (thread_at k (period_at k j).creator).computed (shown_after k x i shown) (next_begun length k.present (thread_at k t).computed (period_at k j))
next_agrees k t i j length x shown same lives own ticks ends agrees =
    let p = period_at k j in
    let used = (thread_at k p.creator).computed in
    let here : IsShown k.present used shown p = subst (Agrees k shown) (sym same) agrees lives in
    subst (λ m. IsShown k.present used (shown_after k x m shown) (next_begun length k.present (thread_at k t).computed p)) same
    (subst (λ u. IsShown k.present used (shown_after k x j shown) (next_begun length k.present (thread_at k u).computed p)) own
    (subst (λ (s : Shown). IsShown k.present used s (next_begun length k.present used p)) (sym (shown_is k x j shown (has_job p.phase) false lives ends ticks))
    (shown_next k.present used length shown p here)))

-- the call puts the period in which the next job has begun
puts_next : (k : Plain) (t j length : ℕ) (phase : Phase) → PutsPeriod k (changed k (begins k t j length phase)) j (next_begun length k.present (thread_at k t).computed (period_at k j))
puts_next k t j length Inactive = record { present = refl; periods = refl; computed = λ u. refl }
puts_next k t j length (Active old next_end job) = record { present = refl; periods = refl; computed = λ u. nth-with_kept (λ (y : Thread). y.computed) no_thread (record (thread_at k t) { wait = Some (ForPeriod j) }) k.threads t u refl }
puts_next k t j length (Awaited old next_end) = record { present = refl; periods = refl; computed = λ u. nth-with_kept (λ (y : Thread). y.computed) no_thread (record (thread_at k t) { wait = Some (ForPeriod j) }) k.threads t u refl }
puts_next k t j length (Expired old next_end job postponed) = record { present = refl; periods = refl; computed = λ u. refl }

-- with length 0 nothing changes
asked_same : (k : Plain) (phase : Phase) → changed k (asked k phase) ≡ k
asked_same k Inactive = refl
asked_same k (Active length next_end job) = refl
asked_same k (Awaited length next_end) = refl
asked_same k (Expired length next_end job postponed) = refl

-- period.period
period_agrees : (k : Plain) (t i : ℕ) (id : Target) (length : ℕ) (x : Entry) (shown : Shown) → IsActing k t → IsCallOf k t (Some (PeriodPeriod id length)) x → Agrees k shown i → Agrees (changed k (period_period k t id length)) (shown_after k x i shown) i
period_agrees k t i id length x shown acts is agrees =
    agrees_found k (object_named k t Period id) _ after i (λ none. unnamed (ap (λ o. is_found o i) none))
    (λ j found. agrees_if k ((period_at k j).creator == t) _ _ after i (λ own. of_own j found (same_number (period_at k j).creator t own)) (λ other. not_own j found other (j == i) refl))
  where
    after : Shown
    after = shown_after k x i shown

    op : Option Op
    op = Some (PeriodPeriod id length)

    -- no job ends where the call has length 0, or names no period or another one
    asks_none : eqb length 0 ≡ true → asks_for_next k t i op ≡ false
    asks_none none = rw none refl

    unnamed : is_found (object_named k t Period id) i ≡ false → Agrees k after i
    unnamed other = still_called k t i op x shown is (ap (λ b. not (eqb length 0) && b) other ∙ and_false (not (eqb length 0))) agrees

    of_other : (j : ℕ) → object_named k t Period id ≡ Some j → (j == i) ≡ false → Agrees k after i
    of_other j found other = unnamed (ap (λ o. is_found o i) found ∙ other)

    -- and none where the caller isn't its creator
    not_own : (j : ℕ) → object_named k t Period id ≡ Some j → ((period_at k j).creator == t) ≡ false → (b : Bool) → (j == i) ≡ b → Agrees k after i
    not_own j found other false e = of_other j found e
    not_own j found other true e =
        let here : ((period_at k i).creator == x.task) ≡ false = ap (λ u. (period_at k i).creator == u) is.task ∙ ap (λ m. (period_at k m).creator == t) (sym (same_number j i e)) ∙ other in
        still k x i shown (ap is_tick is.what) (none_by_others (has_job (period_at k i).phase) ((period_at k i).creator == x.task) (is_call x.what) (asks_for_next k x.task i (op_at k.scenario x.body x.line)) here) agrees

    begun : (j : ℕ) → object_named k t Period id ≡ Some j → (period_at k j).creator ≡ t → eqb length 0 ≡ false → Agrees (changed k (begins k t j length (period_at k j).phase)) after i
    begun j found own some =
        let p = period_at k j in
        let w = found_within k t id j acts.sound found in
        let asks : asks_for_next k t j op ≡ true = ap (λ b. not b && is_found (object_named k t Period id) j) some ∙ ap (λ o. is_found o j) found ∙ equal_test j j refl in
        let ends : ends_job k x j ≡ has_job p.phase =
        ended_by_call (has_job p.phase) (p.creator == x.task) (is_call x.what) (asks_for_next k x.task j (op_at k.scenario x.body x.line)) (equal_test p.creator x.task (own ∙ sym is.task)) (ap is_call is.what) (asked_by k t j op x is ∙ asks) in
        agrees_put k (changed k (begins k t j length p.phase)) j i (next_begun length k.present (thread_at k t).computed p) after w.0 w.1 (puts_next k t j length p.phase)
        (λ other. of_other j found other)
        (λ same lives. next_agrees k t i j length x shown same lives own (ap is_tick is.what) ends agrees)

    of_own : (j : ℕ) → object_named k t Period id ≡ Some j → (period_at k j).creator ≡ t → Agrees (changed k (cond (eqb length 0) (asked k (period_at k j).phase) (begins k t j length (period_at k j).phase))) after i
    of_own j found own =
        agrees_if k (eqb length 0) _ _ after i
        (λ none. subst (λ (n : Plain). Agrees n after i) (sym (asked_same k (period_at k j).phase)) (still_called k t i op x shown is (asks_none none) agrees))
        (λ some. begun j found own some)

-- period.cancel
cancel_agrees : (k : Plain) (t i : ℕ) (id : Target) (shown : Shown) → IsSound k → Agrees k shown i → Agrees (changed k (period_cancel k t id)) shown i
cancel_agrees k t i id shown sound agrees = agrees_found k (object_named k t Period id) _ shown i (λ _. agrees) (λ j found. agrees_if k ((period_at k j).creator == t) _ _ shown i (λ _. idle j found) (λ _. agrees)) where
  idle : (j : ℕ) → object_named k t Period id ≡ Some j → Agrees (cancelled k j) shown i
  idle j found =
      let w = found_within k t id j sound found in
      agrees_put k (cancelled k j) j i (record (period_at k j) { phase = Inactive }) shown w.0 w.1 (record { present = refl; periods = refl; computed = λ u. refl })
      (λ _. agrees)
      (λ same lives. record { stats = (subst (Agrees k shown) (sym same) agrees lives).stats; job = tt; awaited = λ no. absurd (false≢true no) })

-- period.delete
delete_agrees : (k : Plain) (t i : ℕ) (id : Target) (shown : Shown) → IsSound k → Agrees k shown i → Agrees (changed k (period_delete k t id)) shown i
delete_agrees k t i id shown sound agrees = agrees_found k (object_named k t Period id) _ shown i (λ _. agrees) (λ j found. agrees_if k (is_awaited (period_at k j).phase) _ _ shown i (λ _. agrees) (λ _. gone j found)) where
  gone : (j : ℕ) → object_named k t Period id ≡ Some j → Agrees (without_period k j) shown i
  gone j found =
      let w = found_within k t id j sound found in
      agrees_put k (without_period k j) j i no_period shown w.0 w.1 (record { present = refl; periods = refl; computed = λ u. refl }) (λ _. agrees) (λ same lives. absurd (false≢true lives))

-- Each line of a body:
line_agrees : (k : Plain) (t i : ℕ) (x : Entry) (shown : Shown) (o : Option Op) → IsActing k t → IsCallOf k t o x → Agrees k shown i → Agrees (changed k (directive k t o)) (shown_after k x i shown) i
line_agrees k t i x shown None acts is agrees = agrees_kept k (changed k (directive k t None)) (shown_after k x i shown) i (line_keeps k t None acts refl) (still_called k t i None x shown is refl agrees)
line_agrees k t i x shown (Some (PeriodCreate name var)) acts is agrees = create_agrees k t i name.bits (shown_after k x i shown) acts.sound (shown_none k x i shown) (still_called k t i (Some (PeriodCreate name var)) x shown is refl agrees)
line_agrees k t i x shown (Some (PeriodIdent name var)) acts is agrees = agrees_kept k _ (shown_after k x i shown) i (keeps_ident k Period name.bits).keeps (still_called k t i (Some (PeriodIdent name var)) x shown is refl agrees)
line_agrees k t i x shown (Some (PeriodPeriod id length)) acts is agrees = period_agrees k t i id length x shown acts is agrees
line_agrees k t i x shown (Some (PeriodCancel id)) acts is agrees = cancel_agrees k t i id (shown_after k x i shown) acts.sound (still_called k t i (Some (PeriodCancel id)) x shown is refl agrees)
line_agrees k t i x shown (Some (PeriodDelete id)) acts is agrees = delete_agrees k t i id (shown_after k x i shown) acts.sound (still_called k t i (Some (PeriodDelete id)) x shown is refl agrees)
line_agrees k t i x shown (Some op) acts is agrees = agrees_kept k (changed k (directive k t (Some op))) (shown_after k x i shown) i (line_keeps k t (Some op) acts refl) (still_called k t i (Some op) x shown is refl agrees)

-- the return from a directive that waited,
back_agrees : (k : Plain) (t i : ℕ) (x : Entry) (shown : Shown) (reply : Reply) → is_call x.what ≡ false → is_tick x.what ≡ false → Agrees k shown i → Agrees (changed k (back k t reply)) (shown_after k x i shown) i
back_agrees k t i x shown reply returns ticks agrees =
    agrees_kept k (changed k (back k t reply)) (shown_after k x i shown) i (back_keeps k t reply)
    (still k x i shown ticks (none_but_calls (has_job (period_at k i).phase) ((period_at k i).creator == x.task) (is_call x.what) (asks_for_next k x.task i (op_at k.scenario x.body x.line)) returns) agrees)

-- and so what a thread does that acts.
action_agrees : (k : Plain) (p t i : ℕ) (shown : Shown) (answer : Answer) → IsActing k t → Agrees k shown i → Agrees (changed k (action k t)) (shown_after k (entry_of k p t answer) i shown) i
unfolding action
action_agrees k p t i shown answer acts agrees = by (thread_at k t).finished refl where
  x : Entry
  x = entry_of k p t answer

  by : (finished : Option Reply) → (thread_at k t).finished ≡ finished → Agrees (changed k (action_on k t finished)) (shown_after k x i shown) i
  by None e = line_agrees k t i x shown (op_at k.scenario (thread_at k t).body (thread_at k t).line) acts (record { what = ap what_of e; task = refl; line = refl }) agrees
  by (Some reply) e = back_agrees k t i x shown reply (ap (λ f. is_call (what_of f)) e) (ap (λ f. is_tick (what_of f)) e) agrees

-- ---- a tick

-- a thread that is charged has computed one tick more
used_charged : (s : Scenario) (x : Thread) → (charged s x).computed ≡ cond (not (x.left == 0)) (x.computed + 1) x.computed
used_charged s x = by (x.left == 0) (x.left == 1) where
  by : (b d : Bool) → (cond b x (cond d (record (gone_on s x) { computed = x.computed + 1 }) (record x { left = x.left - 1; computed = x.computed + 1 }))).computed ≡ cond (not b) (x.computed + 1) x.computed
  by true d = refl
  by false true = refl
  by false false = refl

used_ticked : (k : Plain) (t : ℕ) (x : Thread) → (ticked k t x).computed ≡ cond (runs_somewhere k t && not (x.left == 0)) (x.computed + 1) x.computed
unfolding ticked
used_ticked k t x = by (runs_somewhere k t) where
  by : (b : Bool) → (cond b (charged k.scenario x) x).computed ≡ cond (b && not (x.left == 0)) (x.computed + 1) x.computed
  by true = used_charged k.scenario x
  by false = refl

used_pass : (k : Plain) (t : ℕ) → (thread_at (pass k) t).computed ≡ cond (is_charged k t) ((thread_at k t).computed + 1) (thread_at k t).computed
used_pass k zero = sym (ap (λ b. cond b 1 0) (and_false (runs_somewhere k 0)))
used_pass k (suc i) = at 1 k.threads i ∙ ap (λ t. cond (runs_somewhere k t && not ((thread_at k (suc i)).left == 0)) ((thread_at k (suc i)).computed + 1) (thread_at k (suc i)).computed) (let e : 1 + i ≡ suc i = omega arith in e) where
  at : (a : ℕ) (threads : List Thread) (i : ℕ) → (get_or (charge_from k a threads) i no_thread).computed ≡ cond (runs_somewhere k (a + i) && not ((get_or threads i no_thread).left == 0)) ((get_or threads i no_thread).computed + 1) (get_or threads i no_thread).computed
  at a [] i = sym (ap (λ b. cond b 1 0) (and_false (runs_somewhere k (a + i))))
  at a (x ∷ threads) zero = let e : a + 0 ≡ a = omega arith in used_ticked k a x ∙ ap (λ t. cond (runs_somewhere k t && not (x.left == 0)) (x.computed + 1) x.computed) (sym e)
  at a (x ∷ threads) (suc i) = let e : a + suc i ≡ a + 1 + i = omega arith in
      at (a + 1) threads i ∙ ap (λ t. cond (runs_somewhere k t && not ((get_or threads i no_thread).left == 0)) ((get_or threads i no_thread).computed + 1) (get_or threads i no_thread).computed) (sym e)

-- what a tick shows of a period
shown_tick : (present used used' : ℕ) (charges : Bool) (shown : Shown) (period : PeriodState) → used' ≡ cond charges (used + 1) used → IsShown present used shown period →
    IsShown (present + 1) used' (record { jobs = shown.jobs; ticks = cond (has_job period.phase && true) (record { computed = cond charges (shown.ticks.computed + 1) shown.ticks.computed; elapsed = shown.ticks.elapsed + 1 }) no_ticks }) period
shown_tick present used used' charges shown period now is = by period.phase is where
  more : Ticks
  more = record { computed = cond charges (shown.ticks.computed + 1) shown.ticks.computed; elapsed = shown.ticks.elapsed + 1 }

  computed : (b : Bool) (job : Job) → job.used + shown.ticks.computed ≡ used → job.used + cond b (shown.ticks.computed + 1) shown.ticks.computed ≡ cond b (used + 1) used
  computed true job same = omega (arith, same)
  computed false job same = same

  ticks : (job : Job) → HasTicks present used shown.ticks job → HasTicks (present + 1) used' more job
  ticks job has = record { elapsed = omega (arith, has.elapsed); computed = computed charges job has.computed ∙ sym now }

  by : (phase : Phase) → IsShown present used shown (record period { phase = phase }) → IsShown (present + 1) used' (record { jobs = shown.jobs; ticks = cond (has_job phase && true) more no_ticks }) (record period { phase = phase })
  by Inactive is = record { stats = is.stats; job = tt; awaited = λ _. refl }
  by (Active length next_end job) is = record { stats = is.stats; job = ticks job is.job; awaited = λ no. absurd (false≢true no) }
  by (Awaited length next_end) is = record { stats = is.stats; job = tt; awaited = λ _. refl }
  by (Expired length next_end job postponed) is = record { stats = is.stats; job = ticks job is.job; awaited = λ no. absurd (false≢true no) }

-- a tick has passed, and no timer has fired yet
pass_agrees : (k : Plain) (i : ℕ) (shown : Shown) → Agrees k shown i → Agrees (pass k) (shown_after k (clock_entry Tick) i shown) i
pass_agrees k i shown agrees lives =
    let p = period_at k i in
    let ends : ends_job k (clock_entry Tick) i ≡ false = none_but_calls (has_job p.phase) (p.creator == 0) false (asks_for_next k 0 i (op_at k.scenario 0 0)) refl in
    subst (λ (s : Shown). IsShown (k.present + 1) (thread_at (pass k) p.creator).computed s p) (sym (shown_is k (clock_entry Tick) i shown false true lives ends refl))
    (shown_tick k.present (thread_at k p.creator).computed (thread_at (pass k) p.creator).computed (is_charged k p.creator) shown p (used_pass k p.creator) (agrees lives))

-- ---- a timer fires

-- the end of a period shows nothing of it
shown_passed : (present used : ℕ) (shown : Shown) (period : PeriodState) → IsShown present used shown period → IsShown present used shown (passed present used period)
shown_passed present used shown period is = by period.phase is where
  by : (phase : Phase) → IsShown present used shown (record period { phase = phase }) → IsShown present used shown (passed present used (record period { phase = phase }))
  by Inactive is = is
  by (Active length next_end job) is = record { stats = is.stats; job = is.job; awaited = λ no. absurd (false≢true no) }
  by (Awaited length next_end) is =
      let elapsed : shown.ticks.elapsed ≡ 0 = ap (λ (t : Ticks). t.elapsed) (is.awaited refl) in
      let computed : shown.ticks.computed ≡ 0 = ap (λ (t : Ticks). t.computed) (is.awaited refl) in
      record { stats = is.stats; job = record { elapsed = omega (arith, elapsed); computed = omega (arith, computed) }; awaited = λ no. absurd (false≢true no) }
  by (Expired length next_end job postponed) is = record { stats = is.stats; job = is.job; awaited = λ no. absurd (false≢true no) }

-- the timer of a period
end_agrees : (k : Plain) (c j i : ℕ) (shown : Shown) → IsSound k → Passes k c j → Agrees k shown i → Agrees (rung (take_due k c) (OfPeriod j)) shown i
end_agrees k c j i shown sound p agrees = by (period_at k j).phase refl where
  used : ℕ
  used = (thread_at k (period_at k j).creator).computed

  puts : (n : Plain) → PutsPeriod k n j (passed k.present used (period_at k j)) → Agrees n shown i
  puts n change =
      let w = live_within k.periods j sound.periods.places p.live in
      agrees_put k n j i (passed k.present used (period_at k j)) shown w.0 (omega (arith, w.1, sound.periods.places)) change
      (λ _. agrees)
      (λ same lives. shown_passed k.present used shown (period_at k j) (subst (Agrees k shown) (sym same) agrees lives))

  by : (phase : Phase) → (period_at k j).phase ≡ phase → Agrees (passed_by (take_due k c) j phase) shown i
  by Inactive is = let no : None ≡ Some k.present = sym (ap end_of is) ∙ p.ends in absurd (let wrong : ⊥ = cc in wrong)
  by (Active length next_end job) is = puts (passed_by (take_due k c) j (Active length next_end job)) (record { present = refl; periods = refl; computed = λ u. refl })
  by (Awaited length next_end) is = puts (passed_by (take_due k c) j (Awaited length next_end)) (record { present = refl; periods = refl; computed = λ u. nth-with_kept (λ (y : Thread). y.computed) no_thread (record (thread_at k (period_at k j).creator) { wait = None; finished = Some (bare Successful) }) k.threads (period_at k j).creator u refl })
  by (Expired length next_end job postponed) is = puts (passed_by (take_due k c) j (Expired length next_end job postponed)) (record { present = refl; periods = refl; computed = λ u. refl })

-- any timer
expire_agrees : (k : Plain) (c i : ℕ) (xs : List Armed) (x : Armed) (shown : Shown) → IsSound k → c < length k.clusters → due_now k c ≡ x ∷ xs → Agrees k shown i → Agrees (expire k c x.who) shown i
expire_agrees k c i xs x shown sound within due agrees = by x.who refl where
  by : (who : Armer) → x.who ≡ who → Agrees (expire k c who) shown i
  by (OfThread t) whose = agrees_kept k (expire k c (OfThread t)) shown i (keeps_expired k c t xs x sound within due whose) agrees
  by (OfPeriod j) whose = end_agrees k c j i shown sound (passes k c j xs x sound due whose) agrees

-- A sound state of so many clusters in which a period agrees.
record IsAgreed (count : ℕ) (shown : Shown) (i : ℕ) (k : Plain) : Type 0 where
  sound : IsSound k
  clusters : length k.clusters ≡ count
  agrees : Agrees k shown i

-- the timers of a cluster that are due fire one by one
each_agrees : (count i : ℕ) (shown : Shown) (k : Plain) (c : ℕ) (timers : List Armed) → due_now k c ≡ timers → c < count → IsAgreed count shown i k → IsAgreed count shown i (fire_each k c timers)
each_agrees count i shown k c [] due within agreed = agreed
each_agrees count i shown k c (x ∷ xs) due within agreed =
    let here : c < length k.clusters = omega (arith, within, agreed.clusters) in
    let next = expire k c x.who in
    let can = expire_settles k c xs x agreed.sound here due in
    each_agrees count i shown (fire k c x) c xs (due_now-fire k c xs x agreed.sound here due) within
    (record {
      sound = sound_settled k next [] agreed.sound can;
      clusters = length-settled k next [] ∙ length-kept k.clusters next.clusters can.gentle.lines ∙ agreed.clusters;
      agrees = agrees_kept next (fire k c x) shown i (keeps_settled k next []) (expire_agrees k c i xs x shown agreed.sound here due agreed.agrees);
    })

from_agrees : (count i : ℕ) (shown : Shown) (k : Plain) (c n : ℕ) → c + n ≤ count → IsAgreed count shown i k → IsAgreed count shown i (fire_from k c n)
from_agrees count i shown k c zero few agreed = agreed
from_agrees count i shown k c (suc n) few agreed =
    from_agrees count i shown (fire_cluster k c) (c + 1) n (omega (arith, few)) (each_agrees count i shown k c (due_now k c) refl (omega (arith, few)) agreed)

-- A period agrees after a tick.
tick_agrees : (k : Plain) (i : ℕ) (shown : Shown) → IsSound k → k.present < k.scenario.horizon → Agrees k shown i → Agrees (tick k) (shown_after k (clock_entry Tick) i shown) i
tick_agrees k i shown sound below agrees =
    (from_agrees (length k.clusters) i (shown_after k (clock_entry Tick) i shown) (pass k) 0 (length k.clusters) (omega arith)
    (record { sound = sound_pass k sound below; clusters = refl; agrees = pass_agrees k i shown agrees })).agrees

-- ---- a history

-- A period agrees after what a seat does.
abbrev AfterAct : Plain → Shown → ℕ → Option Act → Type 0
AfterAct k shown i None = Unit {0}
AfterAct k shown i (Some a) = Agrees a.next (shown_after k a.entry i shown) i

of_processor : (k : Plain) (p i : ℕ) (shown : Shown) (o : Option ℕ) → caller k p ≡ o → IsSound k → Agrees k shown i → AfterAct k shown i (act_of k p o)
of_processor k p i shown None is sound agrees = tt
of_processor k p i shown (Some t) is sound agrees =
    let o = action k t in
    let after = after_outcome k t o in
    let now = shown_after k (entry_of k p t (answer_of o)) i shown in
    agrees_kept after (settle k after (option_to_list (last_of (answer_of o)))) now i (keeps_settled k after (option_to_list (last_of (answer_of o))))
    (agrees_kept (changed k o) after now i (keeps_concluded (answer_of o) (changed k o) t) (action_agrees k p t i shown (answer_of o) (acting_of k p t sound is) agrees))

at_clock : (k : Plain) (i : ℕ) (shown : Shown) → IsSound k → Agrees k shown i → AfterAct k shown i (clock_at k)
at_clock k i shown sound agrees = by (ltb k.present k.scenario.horizon) (eqb k.present k.scenario.horizon) refl where
  by : (b d : Bool) → ltb k.present k.scenario.horizon ≡ b → AfterAct k shown i (cond b (Some (let a : Act = record { entry = clock_entry Tick; next = tick k } in a)) (cond d (Some (let a : Act = record { entry = clock_entry End; next = k } in a)) None))
  by true d e = tick_agrees k i shown sound (grind (arith, nat_tests, e)) agrees
  by false true e = still k (clock_entry End) i shown refl (none_but_calls (has_job (period_at k i).phase) ((period_at k i).creator == 0) false (asks_for_next k 0 i (op_at k.scenario 0 0)) refl) agrees
  by false false e = tt

of_clock : (k : Plain) (i : ℕ) (shown : Shown) → IsSound k → Agrees k shown i → AfterAct k shown i (clock_of k)
of_clock k i shown sound agrees = by (is_quiet k) where
  by : (b : Bool) → AfterAct k shown i (cond b (clock_at k) None)
  by true = at_clock k i shown sound agrees
  by false = tt

act_agrees : (k : Plain) (q i : ℕ) (shown : Shown) → IsSound k → Agrees k shown i → AfterAct k shown i (act k q)
act_agrees k q i shown sound agrees = by (eqb q 8) where
  by : (b : Bool) → AfterAct k shown i (cond b (clock_of k) (act_of k q (caller k q)))
  by true = of_clock k i shown sound agrees
  by false = of_processor k q i shown (caller k q) refl sound agrees

-- so it does after each entry of a legal history
next_sound : (k : Plain) (x : Entry) (i : ℕ) (shown : Shown) (o : Option Act) → act k x.seat ≡ o → IsOf o x → IsSound k → Agrees k shown i → IsSound (next_of k o) × Agrees (next_of k o) (shown_after k x i shown) i
next_sound k x i shown None did is sound agrees = absurd is
next_sound k x i shown (Some a) did is sound agrees =
    (sound_act k x.seat a sound did, subst (λ (y : Entry). Agrees a.next (shown_after k y i shown) i) is (subst (AfterAct k shown i) did (act_agrees k x.seat i shown sound agrees)))

history_agrees : (k : Plain) (xs : List Entry) (i : ℕ) (shown : Shown) → LegalFrom k xs → IsSound k → Agrees k shown i → Agrees (after_from k xs) (shown_from k xs i shown) i
history_agrees k [] i shown legal sound agrees = agrees
history_agrees k (x ∷ xs) i shown legal sound agrees =
    let next = next_sound k x i shown (act k x.seat) refl legal.0 sound agrees in
    history_agrees (next_by k x) xs i (shown_after k x i shown) legal.2 next.0 next.1

-- at opening no period lives
none_open : (s : Scenario) (i : ℕ) → Agrees (opening s) nothing_shown i
none_open s i lives = absurd (false≢true (sym (ap (λ (p : PeriodState). p.live) (none_timed i)) ∙ lives))

-- The statistics that a period has are those of its history.
pub statistics_shown : StatisticsAreThoseOfTheHistory
statistics_shown s xs is legal i lives = (history_agrees (opening s) xs i nothing_shown legal (sound_opening s (limits_of s is)) (none_open s i) lives).stats

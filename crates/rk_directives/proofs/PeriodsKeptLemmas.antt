-- Changes of a state that leave its periods alone: what holds of periods holds after them.
use Rattle.std.proofs.Common.{◌≡◌, ◌≢◌, ℕ, zero, suc, ◌+◌, ◌<◌, ◌==◌, ◌++◌, List, [], ◌∷◌, Bool, true, false, cond, not, eqb, Option, None, Some, length, arith, refl, sym, ◌∙◌, ap, subst}
use Rattle.std.specs.Option.{option_to_list}
use Rattle.std.proofs.lemmas.Bool.{false≢true}
use Rattle.rk_model.specs.declared.entry.Answer.{Answer}
use Rattle.rk_model.specs.declared.entry.Answer.TheVariants as told
use Rattle.rk_model.specs.declared.entry.Reply.{Reply}
use Rattle.rk_model.specs.declared.settling.Shift.{Shift}
use Rattle.rk_model.specs.declared.state.Armed.{Armed}
use Rattle.rk_model.specs.declared.state.Armer.{Armer}
use Rattle.rk_model.specs.declared.state.Armer.TheVariants.{Thread as OfThread, Period as OfPeriod}
use Rattle.rk_model.specs.declared.state.Thread.{Thread}
use Rattle.rk_model.specs.declared.state.Wait.{Wait}
use Rattle.rk_model.specs.declared.waiting.Caller.{Caller}
use Rattle.rk_model.specs.Lists.{nth, times}
use Rattle.rk_model.specs.Names.{Table}
use Rattle.rk_model.specs.State.{Plain, ClusterState, PeriodState, no_thread, no_period, no_cluster, thread_at, put_thread, period_at, cluster_at, put_cluster}
use Rattle.rk_model.specs.Scheduling.Priorities.{standings}
use Rattle.rk_model.specs.Scheduling.Settling.{shifts, shifted_from, assigned_from, shifted_by, settle}
use Rattle.rk_model.specs.Scheduling.Timers.{is_same, without_timer, is_due, due_at, without_due, arm, cancel, take_due}
use Rattle.rk_model.specs.Directives.Objects.{has_begun}
use Rattle.rk_model.specs.Directives.Outcomes.{finished, go_on, concluded}
use Rattle.rk_model.specs.Directives.Periods.{end_of}
use Rattle.rk_model.specs.Directives.Waits.{caller_at, enter, leave, start_wait, start_limited, begin_limited, stop_wait, end_wait, end_each, stop_each}
use Rattle.rk_model.proofs.BooleanLemmas.{equal_test}
use Rattle.rk_model.proofs.IndexLemmas.{nth-with_other, nth-with_kept}
use Rattle.rk_directives.proofs.PeriodSoundLemmas.{either, none_sound}
use Rattle.rk_directives.specs.SoundPeriods.{awaits, dues_of, IsCounted, IsPeriodSound, IsAwaitedBy, ArePeriodsSound, Owner, owner_of, KeepsPeriods}

-- ---- what holds of periods

-- a period agrees with a thread that is to it as its creator was, and with timers that are due for it as they were
same_sound : (present : ℕ) (by now : Thread) (timers after : ℕ → List Armed) (i : ℕ) (period : PeriodState) → owner_of now ≡ owner_of by → ((c : ℕ) → dues_of (OfPeriod i) (after c) ≡ dues_of (OfPeriod i) (timers c)) → IsPeriodSound present by timers i period → IsPeriodSound present now after i period
same_sound present by now timers after i period same dues sound = record {
  created = λ lives. ap (λ (o : Owner). o.lives) same ∙ sound.created lives;
  awaited = λ awaited. ap (λ (o : Owner). o.awaits) same ∙ sound.awaited awaited;
  timed = λ c. dues c ∙ sound.timed c ∙ ap (λ (o : Owner). cond (o.home == c) (option_to_list (end_of period.phase)) []) (sym same);
  counted = subst (λ (o : Owner). IsCounted present o.computed period) (sym same) sound.counted;
}

-- What holds of periods holds after a change that leaves them alone, where no period stands at the indices at which none lives.
pub kept_sound : (k next : Plain) → ((i : ℕ) → (period_at k i).live ≡ false → period_at k i ≡ no_period) → ArePeriodsSound k → KeepsPeriods k next → ArePeriodsSound next
kept_sound k next named sound keeps = record {
  places = rw keeps.periods sound.places;
  each = λ i. subst (Sound i) (sym keeps.periods) (subst (λ n. SoundAt n i (period_at k i)) (sym keeps.present) (by i (period_at k i).live refl));
  waits = λ t i waits. subst (λ (ps : List PeriodState). IsAwaitedBy (nth no_period ps i) t) (sym keeps.periods) (sound.waits t i (sym (keeps.waits t) ∙ waits));
} where
  SoundAt : ℕ → ℕ → PeriodState → Type 0
  SoundAt present i period = IsPeriodSound present (thread_at next period.creator) (λ c. (cluster_at next c).timers) i period

  Sound : ℕ → List PeriodState → Type 0
  Sound i ps = SoundAt next.present i (nth no_period ps i)

  by : (i : ℕ) (b : Bool) → (period_at k i).live ≡ b → SoundAt k.present i (period_at k i)
  by i true lives = same_sound k.present (thread_at k (period_at k i).creator) (thread_at next (period_at k i).creator) (λ c. (cluster_at k c).timers) (λ c. (cluster_at next c).timers) i (period_at k i) (keeps.owners i lives) (λ c. keeps.dues c i) (sound.each i)
  by i false dead =
      let blank = named i dead in
      let none : (c : ℕ) → dues_of (OfPeriod i) (cluster_at k c).timers ≡ [] = λ c. (sound.each i).timed c ∙ ap (λ (p : PeriodState). cond ((thread_at k (period_at k i).creator).home == c) (option_to_list (end_of p.phase)) []) blank ∙ either ((thread_at k (period_at k i).creator).home == c) [] in
      subst (SoundAt k.present i) (sym blank) (none_sound k.present (thread_at next no_period.creator) (λ c. (cluster_at next c).timers) i (λ c. keeps.dues c i ∙ none c))

-- ---- changes one after another

-- to change neither the present tick, nor periods, threads and clusters
pub keeps_beside : (k next : Plain) → next.present ≡ k.present → next.periods ≡ k.periods → next.threads ≡ k.threads → next.clusters ≡ k.clusters → KeepsPeriods k next
keeps_beside k next present periods threads clusters = record {
  present = present;
  periods = periods;
  owners = λ i lives. ap (λ (ts : List Thread). owner_of (nth no_thread ts (period_at k i).creator)) threads;
  dues = λ c i. ap (λ (cs : List ClusterState). dues_of (OfPeriod i) (nth no_cluster cs (suc c)).timers) clusters;
  waits = λ t. ap (λ (ts : List Thread). awaits (nth no_thread ts t).wait) threads;
}

pub keeps_same : (k : Plain) → KeepsPeriods k k
keeps_same k = keeps_beside k k refl refl refl refl

pub keeps_then : (k m next : Plain) → KeepsPeriods k m → KeepsPeriods m next → KeepsPeriods k next
keeps_then k m next first second = record {
  present = second.present ∙ first.present;
  periods = second.periods ∙ first.periods;
  owners = λ i lives. subst (Owned i) first.periods (second.owners i) lives ∙ first.owners i lives;
  dues = λ c i. second.dues c i ∙ first.dues c i;
  waits = λ t. second.waits t ∙ first.waits t;
} where
  Owned : ℕ → List PeriodState → Type 0
  Owned i ps = (nth no_period ps i).live ≡ true → owner_of (thread_at next (nth no_period ps i).creator) ≡ owner_of (thread_at m (nth no_period ps i).creator)

-- to have other names
pub keeps_names : (k : Plain) (table : Table) → KeepsPeriods k (record k { table = table })
keeps_names k table = keeps_beside k (record k { table = table }) refl refl refl refl

-- to leave the queue of what a thread waits for, and to enter it
pub keeps_leave : (k : Plain) (t : ℕ) → KeepsPeriods k (leave k t)
keeps_leave k t = keeps_beside k (leave k t) refl refl refl refl

pub keeps_enter : (k : Plain) (by : Caller) (wait : Option Wait) → KeepsPeriods k (enter k by wait)
keeps_enter k by wait = keeps_beside k (enter k by wait) refl refl refl refl

-- ---- threads

-- to put a thread that is to periods as the one before it
pub keeps_put : (k : Plain) (t : ℕ) (thread : Thread) → owner_of thread ≡ owner_of (thread_at k t) → KeepsPeriods k (put_thread k t thread)
keeps_put k t thread same = record {
  present = refl;
  periods = refl;
  owners = λ i lives. nth-with_kept owner_of no_thread thread k.threads t (period_at k i).creator same;
  dues = λ c i. refl;
  waits = λ u. nth-with_kept (λ (x : Thread). awaits x.wait) no_thread thread k.threads t u (ap (λ (o : Owner). o.awaits) same);
}

-- to put any thread that waits for the same period, if for one, where none is that created a live period
pub keeps_apart : (k : Plain) (t : ℕ) (thread : Thread) → ((i : ℕ) → (period_at k i).live ≡ true → (period_at k i).creator ≢ t) → awaits thread.wait ≡ awaits (thread_at k t).wait → KeepsPeriods k (put_thread k t thread)
keeps_apart k t thread apart same = record {
  present = refl;
  periods = refl;
  owners = λ i lives. ap owner_of (nth-with_other no_thread thread k.threads t (period_at k i).creator (apart i lives));
  dues = λ c i. refl;
  waits = λ u. nth-with_kept (λ (x : Thread). awaits x.wait) no_thread thread k.threads t u same;
}

-- to store an out number and go on
pub keeps_go_on : (k : Plain) (t out : ℕ) → KeepsPeriods k (go_on k t out)
keeps_go_on k t out = keeps_put k t (finished k.scenario (thread_at k t) out) refl

-- what follows an answer
pub keeps_concluded : (answer : Answer) (k : Plain) (t : ℕ) → KeepsPeriods k (concluded answer k t)
keeps_concluded (told.Refused status) k t = keeps_go_on k t 0
keeps_concluded (told.Done status out last) k t = keeps_go_on k t out
keeps_concluded told.Waiting k t = keeps_same k
keeps_concluded (told.Gone status) k t = keeps_same k

-- ---- timers

-- to have other timers in a cluster, of each period as before
pub keeps_timers : (k : Plain) (c : ℕ) (timers : List Armed) → ((i : ℕ) → dues_of (OfPeriod i) timers ≡ dues_of (OfPeriod i) (cluster_at k c).timers) → KeepsPeriods k (put_cluster k c (record (cluster_at k c) { timers = timers }))
keeps_timers k c timers same = record {
  present = refl;
  periods = refl;
  owners = λ i lives. refl;
  dues = λ d i. nth-with_kept (λ (x : ClusterState). dues_of (OfPeriod i) x.timers) no_cluster (record (cluster_at k c) { timers = timers }) k.clusters (suc c) (suc d) (same i);
  waits = λ t. refl;
}

dues_armed : (i t due : ℕ) (timers : List Armed) → dues_of (OfPeriod i) (timers ++ (record { who = OfThread t; due = due }) ∷ []) ≡ dues_of (OfPeriod i) timers
dues_armed i t due [] = refl
dues_armed i t due (timer ∷ timers) = rw (dues_armed i t due timers) refl

-- to arm the timer of a thread
pub keeps_arm : (k : Plain) (c t due : ℕ) → KeepsPeriods k (arm k c (record { who = OfThread t; due = due }))
keeps_arm k c t due = keeps_timers k c ((cluster_at k c).timers ++ (record { who = OfThread t; due = due }) ∷ []) (λ i. dues_armed i t due (cluster_at k c).timers)

-- a timer of a thread is of no period
not_of_period : (who : Armer) (t i : ℕ) → is_same who (OfThread t) ≡ true → is_same who (OfPeriod i) ≡ false
not_of_period (OfThread u) t i e = refl
not_of_period (OfPeriod j) t i e = absurd (false≢true e)

dues_cancelled : (i t : ℕ) (timers : List Armed) → dues_of (OfPeriod i) (without_timer (OfThread t) timers) ≡ dues_of (OfPeriod i) timers
dues_cancelled i t [] = refl
dues_cancelled i t (timer ∷ timers) = by (is_same timer.who (OfThread t)) refl (dues_cancelled i t timers) where
  by : (b : Bool) → is_same timer.who (OfThread t) ≡ b → dues_of (OfPeriod i) (without_timer (OfThread t) timers) ≡ dues_of (OfPeriod i) timers →
      dues_of (OfPeriod i) (cond (not b) (timer ∷ without_timer (OfThread t) timers) (without_timer (OfThread t) timers)) ≡ cond (is_same timer.who (OfPeriod i)) (timer.due ∷ dues_of (OfPeriod i) timers) (dues_of (OfPeriod i) timers)
  by true e more = let no = not_of_period timer.who t i e in rw no more
  by false e more = rw more refl

-- to cancel it
pub keeps_cancel : (k : Plain) (c t : ℕ) → KeepsPeriods k (cancel k c (OfThread t))
keeps_cancel k c t = keeps_timers k c (without_timer (OfThread t) (cluster_at k c).timers) (λ i. dues_cancelled i t (cluster_at k c).timers)

-- where the first timer that is due is of a thread, the timers without it are those of each period as before
dues_taken : (i tick t : ℕ) (timers xs : List Armed) (x : Armed) → x.who ≡ OfThread t → due_at tick timers ≡ x ∷ xs → dues_of (OfPeriod i) (without_due tick timers) ≡ dues_of (OfPeriod i) timers
dues_taken i tick t [] xs x is due = let no : ⊥ = cc in absurd no
dues_taken i tick t (timer ∷ timers) xs x is due = by (is_due tick timer) due (dues_taken i tick t timers xs x is) where
  by : (b : Bool) → cond b (timer ∷ due_at tick timers) (due_at tick timers) ≡ x ∷ xs → (due_at tick timers ≡ x ∷ xs → dues_of (OfPeriod i) (without_due tick timers) ≡ dues_of (OfPeriod i) timers) →
      dues_of (OfPeriod i) (cond b timers (timer ∷ without_due tick timers)) ≡ cond (is_same timer.who (OfPeriod i)) (timer.due ∷ dues_of (OfPeriod i) timers) (dues_of (OfPeriod i) timers)
  by true due more =
      let same : timer ≡ x = cc in
      let no : is_same timer.who (OfPeriod i) ≡ false = ap (λ (y : Armed). is_same y.who (OfPeriod i)) same ∙ ap (λ who. is_same who (OfPeriod i)) is in
      rw no refl
  by false due more = rw (more due) refl

-- to take out the first timer that is due, where it is of a thread
pub keeps_taken : (k : Plain) (c t : ℕ) (x : Armed) (xs : List Armed) → x.who ≡ OfThread t → due_at k.present (cluster_at k c).timers ≡ x ∷ xs → KeepsPeriods k (take_due k c)
keeps_taken k c t x xs is due = keeps_timers k c (without_due k.present (cluster_at k c).timers) (λ i. dues_taken i k.present t (cluster_at k c).timers xs x is due)

-- ---- waits

-- to end a wait that isn't for a period, of a thread that stands in no queue any more
pub keeps_stop_wait : (k : Plain) (t : ℕ) (reply : Reply) → awaits (thread_at k t).wait ≡ None → KeepsPeriods k (stop_wait k t reply)
keeps_stop_wait k t reply none =
    let h = (thread_at k t).home in
    let thread : Thread = record (thread_at k t) { wait = None; finished = Some reply } in
    keeps_then k (cancel k h (OfThread t)) (stop_wait k t reply) (keeps_cancel k h t) (keeps_put (cancel k h (OfThread t)) t thread (same (thread_at k t) none))
  where
    same : (x : Thread) → awaits x.wait ≡ None → (let y : Thread = record x { wait = None; finished = Some reply } in owner_of y) ≡ owner_of x
    same x none = ap (λ a. (let o : Owner = record { lives = has_begun x.life; home = x.home; awaits = a; computed = x.computed } in o)) (sym none)

-- to end a wait that isn't for a period
pub keeps_end_wait : (k : Plain) (t : ℕ) (reply : Reply) → awaits (thread_at k t).wait ≡ None → KeepsPeriods k (end_wait k t reply)
keeps_end_wait k t reply none = keeps_then k (leave k t) (end_wait k t reply) (keeps_leave k t) (keeps_stop_wait (leave k t) t reply none)

-- whether the first of these is this thread
first_times : (t : ℕ) (ts : List ℕ) (b : Bool) → b ≡ true → 0 < cond b 1 0 + times t ts
first_times t ts true e = omega arith
first_times t ts false e = absurd (false≢true e)

-- to end the waits of these threads, which stand in no queue any more, and of which none waits for a period
pub keeps_stop_each : (k : Plain) (ts : List ℕ) (reply : Reply) → ((t : ℕ) → 0 < times t ts → awaits (thread_at k t).wait ≡ None) → KeepsPeriods k (stop_each k ts reply)
keeps_stop_each k [] reply none = keeps_same k
keeps_stop_each k (t ∷ ts) reply none =
    let ends = keeps_stop_wait k t reply (none t (first_times t ts (t == t) (equal_test t t refl))) in
    keeps_then k (stop_wait k t reply) (stop_each (stop_wait k t reply) ts reply) ends
    (keeps_stop_each (stop_wait k t reply) ts reply (λ u some. ends.waits u ∙ none u (omega (arith, some))))

-- to end the waits of these threads, of which none is for a period
pub keeps_end_each : (k : Plain) (ts : List ℕ) (reply : Reply) → ((t : ℕ) → 0 < times t ts → awaits (thread_at k t).wait ≡ None) → KeepsPeriods k (end_each k ts reply)
keeps_end_each k [] reply none = keeps_same k
keeps_end_each k (t ∷ ts) reply none =
    let ends = keeps_end_wait k t reply (none t (first_times t ts (t == t) (equal_test t t refl))) in
    keeps_then k (end_wait k t reply) (end_each (end_wait k t reply) ts reply) ends
    (keeps_end_each (end_wait k t reply) ts reply (λ u some. ends.waits u ∙ none u (omega (arith, some))))

-- to begin to wait, not for a period, with a limit or without one
pub keeps_limited : (k : Plain) (t : ℕ) (wait : Wait) (ticks : ℕ) → awaits (Some wait) ≡ None → (thread_at k t).wait ≡ None → KeepsPeriods k (begin_limited k t wait ticks)
keeps_limited k t wait ticks other free = keeps_then k (start_limited k t wait ticks) (begin_limited k t wait ticks) (by (eqb ticks 0)) (keeps_enter (start_limited k t wait ticks) (caller_at k t) (Some wait)) where
  armed : Plain
  armed = arm (start_wait k t wait) (thread_at k t).home (record { who = OfThread t; due = k.present + ticks })

  same : (x : Thread) → x.wait ≡ None → (let y : Thread = record x { wait = Some wait } in owner_of y) ≡ owner_of x
  same x free = ap (λ a. (let o : Owner = record { lives = has_begun x.life; home = x.home; awaits = a; computed = x.computed } in o)) (other ∙ ap awaits (sym free))

  begun : KeepsPeriods k (start_wait k t wait)
  begun = keeps_put k t (record (thread_at k t) { wait = Some wait }) (same (thread_at k t) free)

  by : (b : Bool) → KeepsPeriods k (cond b (start_wait k t wait) armed)
  by true = begun
  by false = keeps_then k (start_wait k t wait) armed begun (keeps_arm (start_wait k t wait) (thread_at k t).home t (k.present + ticks))

-- ---- settling

-- settling leaves the timers of each cluster alone
timers_shifted : (shift : ℕ → ℕ → Shift) (n c : ℕ) (clusters : List ClusterState) (i : ℕ) → (nth no_cluster (shifted_from shift n c clusters) i).timers ≡ (nth no_cluster clusters i).timers
timers_shifted shift n c clusters zero = refl
timers_shifted shift n c [] (suc i) = refl
timers_shifted shift n c (cluster ∷ clusters) (suc zero) = refl
timers_shifted shift n c (cluster ∷ clusters) (suc (suc i)) = timers_shifted shift n (c + 1) clusters (suc i)

timers_assigned : (k : Plain) (c : ℕ) (clusters : List ClusterState) (i : ℕ) → (nth no_cluster (assigned_from k c clusters) i).timers ≡ (nth no_cluster clusters i).timers
timers_assigned k c clusters zero = refl
timers_assigned k c [] (suc i) = refl
timers_assigned k c (cluster ∷ clusters) (suc zero) = refl
timers_assigned k c (cluster ∷ clusters) (suc (suc i)) = timers_assigned k (c + 1) clusters (suc i)

pub keeps_settled : (k next : Plain) (last : List ℕ) → KeepsPeriods next (settle k next last)
keeps_settled k next last =
    let now = shifted_by (standings k) next last in
    record {
      present = refl;
      periods = refl;
      owners = λ i lives. refl;
      dues = λ c i. ap (dues_of (OfPeriod i)) (timers_assigned now 0 now.clusters (suc c) ∙ timers_shifted (shifts (standings k) (standings next) last) (length next.threads) 0 next.clusters (suc c));
      waits = λ t. refl;
    }

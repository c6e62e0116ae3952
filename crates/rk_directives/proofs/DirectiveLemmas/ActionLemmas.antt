-- What a thread does that acts: its change is gentle, and where it refuses it changes the thread alone.
use Rattle.std.proofs.Common.{◌≡◌, ℕ, ◌≤◌, true, false, Option, None, Some, IsSome, arith, refl, sym, ◌∙◌, ap, subst}
use Rattle.std.proofs.lemmas.Bool.{false≢true}
use Rattle.rk_model.specs.declared.scenario.Op.{Op}
use Rattle.rk_model.specs.declared.scenario.Op.TheVariants.{TaskCreate, TaskIdent, TaskStart, TaskSuspend, TaskResume, TaskSetPriority, TaskGetPriority, TaskDelete, TaskWakeAfter, EventSend, EventReceive, SemCreate, SemIdent, SemObtain, SemRelease, SemFlush, SemDelete, SemSetPriority, BarrierCreate, BarrierIdent, BarrierWait, BarrierRelease, BarrierDelete, PartCreate, PartIdent, PartGet, PartReturn, PartDelete, PeriodCreate, PeriodIdent, PeriodPeriod, PeriodCancel, PeriodDelete}
use Rattle.rk_model.specs.declared.entry.Answer.{Answer}
use Rattle.rk_model.specs.declared.entry.Reply.{Reply}
use Rattle.rk_model.specs.declared.state.Thread.{Thread}
use Rattle.rk_model.specs.State.{Plain, no_thread, thread_at, put_thread, op_at}
use Rattle.rk_model.specs.Directives.Objects.{has_begun}
use Rattle.rk_model.specs.Directives.Outcomes.{Outcome, Refused, Done, Waiting, Gone, answer_of, changed, concluded, after_outcome}
use Rattle.rk_model.specs.Steps.{directive, back, action_on, action}
use Rattle.rk_directives.specs.Does.{goes_on_after}
use Rattle.rk_directives.specs.Calls.{IsActing, IsCaller}
use Rattle.rk_directives.specs.Sound.{IsGentle, CanSettle, but_none, is_in_call}
use Rattle.rk_directives.specs.SoundPeriods.{ArePeriodsSound}
use Rattle.rk_directives.proofs.PeriodsKeptLemmas.{kept_sound, keeps_concluded}
use Rattle.rk_directives.proofs.ThreadBoundsLemmas.{bounds_at, bounds_in, line_in}
use Rattle.rk_model.specs.Limits.{AreRunnable}
use Rattle.rk_directives.proofs.GentleChangeLemmas.{gentle_same, gentle_put, gentle_go_on, Stays}
use Rattle.rk_directives.proofs.OutcomeLemmas.{op_of, IsFair, fair_changed, fair_after}
use Rattle.rk_model.proofs.IndexLemmas.{nth-with_same}
use Rattle.rk_directives.proofs.DirectiveLemmas.BarriersLemmas.{barrier_create_fair, barrier_ident_fair, barrier_wait_fair, barrier_release_fair, barrier_delete_fair}
use Rattle.rk_directives.proofs.DirectiveLemmas.SemaphoresLemmas.{semaphore_create_fair, semaphore_ident_fair, semaphore_obtain_fair, semaphore_release_fair, semaphore_flush_fair, semaphore_delete_fair, semaphore_set_priority_fair}
use Rattle.rk_directives.proofs.DirectiveLemmas.PartitionsLemmas.{partition_create_fair, partition_ident_fair, partition_get_fair, partition_return_fair, partition_delete_fair}
use Rattle.rk_directives.proofs.DirectiveLemmas.PeriodsLemmas.{period_create_fair, period_ident_fair, period_period_fair, period_cancel_fair, period_delete_fair, period_create_sound, period_ident_sound, period_period_sound, period_cancel_sound, period_delete_sound}
use Rattle.rk_directives.proofs.DirectiveLemmas.KeptPeriodsLemmas.{line_keeps, back_keeps}
use Rattle.rk_directives.proofs.DirectiveLemmas.EventsLemmas.{event_send_fair, event_receive_fair}
use Rattle.rk_directives.proofs.DirectiveLemmas.TasksLemmas.{task_create_fair, task_ident_fair, task_start_fair, task_suspend_fair, task_resume_fair, task_set_priority_fair, task_get_priority_fair, task_delete_fair, task_exit_fair, task_wake_after_fair}

-- each directive is fair
line_fair : (k : Plain) (t : ℕ) (op : Op) → op_of k t ≡ Some op → IsCaller k t → IsFair k t (directive k t (Some op))
line_fair k t (TaskCreate name prio var) is caller = task_create_fair k t name.bits prio caller
line_fair k t (TaskIdent name var) is caller = task_ident_fair k t name.bits caller
line_fair k t (TaskStart id body) is caller = task_start_fair k t id body caller
line_fair k t (TaskSuspend id) is caller = task_suspend_fair k t id caller
line_fair k t (TaskResume id) is caller = task_resume_fair k t id caller
line_fair k t (TaskSetPriority id prio var) is caller = task_set_priority_fair k t id prio caller
line_fair k t (TaskGetPriority id cluster var) is caller = task_get_priority_fair k t id cluster caller
line_fair k t (TaskDelete id) is caller = task_delete_fair k t id caller
line_fair k t (TaskWakeAfter n) is caller = task_wake_after_fair k t n caller
line_fair k t (EventSend id set) is caller = event_send_fair k t id set caller
line_fair k t (EventReceive set all wish var) is caller = event_receive_fair k t set all wish caller
line_fair k t (SemCreate name count kind order protocol ceiling var) is caller =
    semaphore_create_fair k t name.bits (record { count = count; kind = kind; order = order; protocol = protocol; ceiling = ceiling }) caller
line_fair k t (SemIdent name var) is caller = semaphore_ident_fair k t name.bits caller
line_fair k t (SemObtain id wish) is caller = semaphore_obtain_fair k t id wish caller
line_fair k t (SemRelease id) is caller = semaphore_release_fair k t id caller
line_fair k t (SemFlush id) is caller = semaphore_flush_fair k t id caller
line_fair k t (SemDelete id) is caller = semaphore_delete_fair k t id caller
line_fair k t (SemSetPriority id cluster prio var) is caller = semaphore_set_priority_fair k t id cluster prio caller
line_fair k t (BarrierCreate name automatic most var) is caller = barrier_create_fair k t name.bits automatic most caller
line_fair k t (BarrierIdent name var) is caller = barrier_ident_fair k t name.bits caller
line_fair k t (BarrierWait id ticks) is caller = barrier_wait_fair k t id ticks caller
line_fair k t (BarrierRelease id var) is caller = barrier_release_fair k t id caller
line_fair k t (BarrierDelete id) is caller = barrier_delete_fair k t id caller
line_fair k t (PartCreate name start length size var) is caller = partition_create_fair k t name.bits start length size caller
line_fair k t (PartIdent name var) is caller = partition_ident_fair k t name.bits caller
line_fair k t (PartGet id var) is caller = partition_get_fair k t id caller
line_fair k t (PartReturn id address) is caller = partition_return_fair k t id address caller
line_fair k t (PartDelete id) is caller = partition_delete_fair k t id caller
line_fair k t (PeriodCreate name var) is caller = period_create_fair k t name.bits caller
line_fair k t (PeriodIdent name var) is caller = period_ident_fair k t name.bits caller
line_fair k t (PeriodPeriod id length) is caller = period_period_fair k t id length is caller
line_fair k t (PeriodCancel id) is caller = period_cancel_fair k t id caller
line_fair k t (PeriodDelete id) is caller = period_delete_fair k t id caller
line_fair k t _ is caller = task_exit_fair k t caller.acts caller.returns_not

-- after each periods are sound
line_sound : (k : Plain) (t : ℕ) (op : Op) → IsCaller k t → ArePeriodsSound (changed k (directive k t (Some op)))
line_sound k t (PeriodCreate name var) caller = period_create_sound k t name.bits caller
line_sound k t (PeriodIdent name var) caller = period_ident_sound k name.bits caller.acts.sound
line_sound k t (PeriodPeriod id length) caller = period_period_sound k t id length caller.acts
line_sound k t (PeriodCancel id) caller = period_cancel_sound k t id caller.acts
line_sound k t (PeriodDelete id) caller = period_delete_sound k t id caller.acts.sound
line_sound k t op caller = kept_sound k _ caller.acts.sound.named.idle caller.acts.sound.periods (line_keeps k t (Some op) caller.acts refl)

-- and after what follows an outcome they still are
sound_followed : (k : Plain) (t : ℕ) (o : Outcome) → IsGentle k (changed k o) → ArePeriodsSound (changed k o) → ArePeriodsSound (after_outcome k t o)
sound_followed k t o gentle sound = kept_sound (changed k o) (after_outcome k t o) gentle.named.idle sound (keeps_concluded (answer_of o) (changed k o) t)

-- what an action owes to the state that settles: one that goes on lives, and the change is gentle before the thread goes on, and can settle after
pub record IsDone (k : Plain) (t : ℕ) (o : Outcome) : Type 0 where
  pub lives : goes_on_after (answer_of o) ≡ true → has_begun (thread_at (changed k o) t).life ≡ true
  pub changed : IsGentle k (changed k o)
  pub after : CanSettle k (after_outcome k t o)

fair_lives : (k : Plain) (t : ℕ) (o : Outcome) → IsActing k t → IsFair k t o → goes_on_after (answer_of o) ≡ true → has_begun (thread_at (changed k o) t).life ≡ true
fair_lives k t (Refused status) acts fair goes = ap has_begun acts.started
fair_lives k t (Done status out next last) acts fair goes = fair.does.1.lives
fair_lives k t (Waiting next) acts fair goes = absurd (false≢true goes)
fair_lives k t (Gone status next) acts fair goes = absurd (false≢true goes)

line_done : (k : Plain) (t : ℕ) (o : Option Op) → op_of k t ≡ o → IsActing k t → (thread_at k t).finished ≡ None → (IsSome o → (thread_at k t).line ≤ 1000) → IsDone k t (directive k t o)
line_done k t None is acts returns_not line =
    let fair = task_exit_fair k t acts returns_not in
    record {
      changed = fair.does.1;
      after = record { gentle = fair.does.1; periods = kept_sound k (changed k (directive k t None)) acts.sound.named.idle acts.sound.periods (line_keeps k t None acts refl) };
      lives = λ goes. absurd (false≢true goes);
    }
line_done k t (Some op) is acts returns_not line =
    let caller : IsCaller k t = record { acts = acts; line = line refl; returns_not = returns_not } in
    let fair = line_fair k t op is caller in
    let o = directive k t (Some op) in
    let gentle = fair_changed k t o caller fair in
    record {
      changed = gentle;
      after = record { gentle = fair_after k t o caller fair; periods = sound_followed k t o gentle (line_sound k t op caller) };
      lives = fair_lives k t o acts fair;
    }

-- a thread returns from a directive that waited
back_done : (k : Plain) (t : ℕ) (reply : Reply) → IsActing k t → (thread_at k t).finished ≡ Some reply → IsDone k t (back k t reply)
back_done k t reply acts returns =
    let b = bounds_at k t acts.sound in
    let thread : Thread = record (thread_at k t) { finished = None } in
    let free : is_in_call thread.wait thread.finished ≡ false = rw acts.waits_not refl in
    let begun : has_begun thread.life ≡ true = ap has_begun acts.started in
    let low : thread.line ≤ 1000 = b.calling (rw (acts.waits_not, returns) refl) in
    let gentle = gentle_put k k but_none t thread (gentle_same k acts.sound) refl refl begun begun (record { home = b.home; line = b.line; working = b.working; calling = λ w. absurd (false≢true (rw free at w)); apart = λ _. free; acts = b.acts; idle = λ _. free; computed = b.computed }) in
    let here = nth-with_same no_thread thread k.threads t acts.low (omega (arith, acts.high, acts.sound.places)) in
    let stays : Stays k (put_thread k t thread) t = record { gentle = gentle; lives = rw here begun; line = rw here low; free = rw here free } in
    record {
      changed = gentle;
      after = record { gentle = gentle_go_on k (put_thread k t thread) t reply.out acts.sound stays; periods = sound_followed k t (back k t reply) gentle (kept_sound k (changed k (back k t reply)) acts.sound.named.idle acts.sound.periods (back_keeps k t reply)) };
      lives = λ goes. stays.lives;
    }

action_on_done : (k : Plain) (t : ℕ) (finished : Option Reply) → (thread_at k t).finished ≡ finished → IsActing k t → IsDone k t (action_on k t finished)
action_on_done k t None e acts = line_done k t (op_at k.scenario (thread_at k t).body (thread_at k t).line) refl acts e (λ h. line_in k.scenario.bodies (thread_at k t).body (thread_at k t).line acts.sound.bodies.short h)
action_on_done k t (Some reply) e acts = back_done k t reply acts e

-- What a thread does that acts is gentle.
pub action_done : (k : Plain) (t : ℕ) → IsActing k t → IsDone k t (action k t)
unfolding action
action_done k t acts = action_on_done k t (thread_at k t).finished refl acts

-- each line of a body is fair
pub op_fair : (k : Plain) (t : ℕ) → IsActing k t → (thread_at k t).finished ≡ None → (o : Option Op) → op_at k.scenario (thread_at k t).body (thread_at k t).line ≡ o → IsFair k t (directive k t o)
op_fair k t acts returns_not None e = task_exit_fair k t acts returns_not
op_fair k t acts returns_not (Some op) e =
    let line = line_in k.scenario.bodies (thread_at k t).body (thread_at k t).line acts.sound.bodies.short (rw e refl) in
    line_fair k t op e (record { acts = acts; line = line; returns_not = returns_not })

-- the answer of an action and what follows it lead to the state after its outcome
pub followed : (k : Plain) (t : ℕ) (o : Outcome) (answer : Answer) (next after : Plain) → answer ≡ answer_of o → next ≡ changed k o → after ≡ concluded answer next t → after ≡ after_outcome k t o
followed k t o answer next after told is ends = ends ∙ ap (λ (a : Answer). concluded a next t) told ∙ ap (λ (n : Plain). concluded (answer_of o) n t) is

-- after an action, and before what follows it, no thread is behind its 1,001st line
pub line_after : (k next : Plain) (t : ℕ) → IsActing k t → next ≡ changed k (action k t) → (thread_at next t).line ≤ 1001
line_after k next t acts is = subst (λ (n : Plain). (thread_at n t).line ≤ 1001) (sym is) (bounds_in k (changed k (action k t)) but_none t acts.sound (action_done k t acts).changed).line

-- one that goes on lives
pub lives_after : (k next : Plain) (t : ℕ) (answer : Answer) → IsActing k t → answer ≡ answer_of (action k t) → next ≡ changed k (action k t) → goes_on_after answer ≡ true → has_begun (thread_at next t).life ≡ true
lives_after k next t answer acts told is goes =
    subst (λ (n : Plain). has_begun (thread_at n t).life ≡ true) (sym is) ((action_done k t acts).lives (ap goes_on_after (sym told) ∙ goes))

-- and the bodies are those that may be run
pub bodies_after : (k next : Plain) (t : ℕ) → IsActing k t → next ≡ changed k (action k t) → AreRunnable next.scenario.bodies
bodies_after k next t acts is = subst (λ (n : Plain). AreRunnable n.scenario.bodies) (sym is) (rw (action_done k t acts).changed.scenario acts.sound.bodies)

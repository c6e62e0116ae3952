-- The directives of the task manager are fair.
use Rattle.std.proofs.Common.{◌≡◌, ◌≢◌, ℕ, zero, suc, ◌&&◌, ◌||◌, nat_lt, List, [], ◌∷◌, Bool, true, false, cond, eqb, Option, None, Some, length, arith, refl, sym, ◌∙◌, ap}
use Rattle.std.proofs.lemmas.Bool.{false≢true}
use Rattle.rk_model.specs.declared.ids.Class.TheVariants.{Task}
use Rattle.rk_model.specs.declared.scenario.Target.{Target}
use Rattle.rk_model.specs.declared.scenario.Target.TheVariants.{Var, Own, Given}
use Rattle.rk_model.specs.declared.state.Life.{Life}
use Rattle.rk_model.specs.declared.state.Life.TheVariants.{Absent, Dormant, Started, Ended}
use Rattle.rk_model.specs.declared.state.Thread.{Thread}
use Rattle.rk_model.specs.declared.state.Wait.TheVariants.{ForTime}
use Rattle.rk_model.specs.declared.state.Armer.TheVariants.{Thread as OfThread}
use Rattle.rk_model.specs.Names.{with_names, taken, given_back}
use Rattle.rk_model.specs.State.{Plain, SemaphoreState, objects_of, no_thread, no_semaphore, thread_at, put_thread}
use Rattle.rk_model.specs.Directives.Semaphores.{owns, has_obtained}
use Rattle.rk_model.specs.Scheduling.Timers.{cancel}
use Rattle.rk_model.specs.Scheduling.Priorities.{is_one, is_started, prio}
use Rattle.rk_model.specs.Lists.{nth}
use Rattle.rk_model.specs.Directives.Outcomes.{arrived}
use Rattle.rk_model.specs.Directives.Waits.{object_of_wait, is_for, leave}
use Rattle.rk_model.specs.Directives.Objects.{put_names, live_one}
use Rattle.rk_model.specs.Directives.Objects.{has_begun}
use Rattle.rk_model.specs.Directives.Tasks.{task_named, dormant_in, prio_refusal, task_create, task_ident, is_dormant, with_started, task_start, with_suspended, task_suspend, task_resume, task_set_priority, told_prio, task_get_priority, without_task, has_created, task_delete, task_exit, task_wake_after}
use Rattle.rk_parts.proofs.PutLemmas.{lives_within}
use Rattle.rk_directives.specs.Calls.{IsActing, IsCaller}
use Rattle.rk_directives.specs.Sound.{IsSound, IsInBounds, IsGentle, but_none, but_one, may_time_out, is_in_call}
use Rattle.rk_model.proofs.IndexLemmas.{nth-with_other, length-with_nth, All-with_nth}
use Rattle.rk_directives.proofs.ThreadBoundsLemmas.{bounds_at, none_bounds, blank_bounds, arrived_bounds}
use Rattle.rk_directives.proofs.TimerLemmas.{timed_sound, timed_kept, keeps_same}
use Rattle.rk_directives.proofs.NamesAgreeLemmas.{first_free, named_made, named_removed}
use Rattle.rk_directives.proofs.GentleChangeLemmas.{gentle_same, gentle_but, gentle_put, gentle_leave, gentle_idle, gentle_cancel, cancelled, Stays, stays_put, stays_apart}
use Rattle.rk_directives.proofs.TieLemmas.{tied_but, tied_idle, left_gone}
use Rattle.rk_directives.proofs.WaitChainLemmas.{chained_fewer, chained_idle, owners_left, joins_unowned}
use Rattle.rk_directives.proofs.OutcomeLemmas.{IsFair, gentle_limited, stays_same, fair_refused, fair_done, fair_waiting, fair_gone, fair_found, fair_create, fair_ident, fair_if}
use Rattle.rk_model.proofs.BooleanLemmas.{and_back, equal_test, or_front, or_back, neither_front}

lives_by : (k : Plain) (v u : ℕ) (b : Bool) → has_begun (thread_at k v).life ≡ b → cond b (Some v) None ≡ Some u → has_begun (thread_at k u).life ≡ true
lives_by k v u true e is = let same : v ≡ u = cc in ap (λ w. has_begun (thread_at k w).life) (sym same) ∙ e
lives_by k v u false e is = let no : ⊥ = cc in absurd no

lives_found : (k : Plain) (o : Option ℕ) (u : ℕ) → live_one k Task o ≡ Some u → has_begun (thread_at k u).life ≡ true
lives_found k None u is = let no : ⊥ = cc in absurd no
lives_found k (Some v) u is = lives_by k v u (has_begun (thread_at k v).life) refl is

lives_or : (k : Plain) (t u : ℕ) (o : Option ℕ) (b : Bool) → has_begun (thread_at k t).life ≡ true → cond b (Some t) (live_one k Task o) ≡ Some u → has_begun (thread_at k u).life ≡ true
lives_or k t u o true live is = let same : t ≡ u = cc in ap (λ w. has_begun (thread_at k w).life) (sym same) ∙ live
lives_or k t u o false live is = lives_found k o u is

-- a task that a live caller asks for lives
pub named_lives : (k : Plain) (t : ℕ) (id : Target) (u : ℕ) → has_begun (thread_at k t).life ≡ true → task_named k t id ≡ Some u → has_begun (thread_at k u).life ≡ true
named_lives k t (Var var) u live is = lives_or k t u _ _ live is
named_lives k t Own u live is = let same : t ≡ u = cc in ap (λ w. has_begun (thread_at k w).life) (sym same) ∙ live
named_lives k t (Given bits) u live is = lives_or k t u _ _ live is

-- the same of a caller
pub found_lives : (k : Plain) (t : ℕ) (id : Target) (u : ℕ) → IsCaller k t → task_named k t id ≡ Some u → has_begun (thread_at k u).life ≡ true
found_lives k t id u caller is = named_lives k t id u (ap has_begun caller.acts.started) is

-- who lives isn't where no task does
live_apart : (k : Plain) (t u : ℕ) → has_begun (thread_at k t).life ≡ true → has_begun (thread_at k u).life ≡ false → t ≢ u
live_apart k t u live absent same = false≢true (sym absent ∙ ap (λ v. has_begun (thread_at k v).life) (sym same) ∙ live)

absent_idle : (life : Life) → has_begun life ≡ false → is_started life ≡ false
absent_idle Absent h = refl
absent_idle Dormant h = refl
absent_idle Started h = absurd (false≢true (sym h))
absent_idle Ended h = refl

-- the state in which a dormant task is made with the first free index
abbrev made_task : Plain → ℕ → ℕ → List ℕ → ℕ → ℕ → Plain
made_task k t index free name prio = put_thread (put_names k Task (taken k.table.tasks index free name)) index (dormant_in (thread_at k t).home prio)

made_task_gentle : (k : Plain) (t index : ℕ) (free : List ℕ) (name prio : ℕ) → IsSound k → k.table.tasks.free ≡ index ∷ free → IsGentle k (made_task k t index free name prio)
made_task_gentle k t index free name prio sound is =
    let f = first_free k.table (objects_of k) Task index free sound.named is in
    let blank = sound.named.blank index f.absent in
    let made = dormant_in (thread_at k t).home prio in
    let waits_not : may_time_out (thread_at k index).wait ≡ false = ap (λ (x : Thread). may_time_out x.wait) blank in
    record {
      scenario = refl;
      present = refl;
      places = length-with_nth made k.threads index;
      locks = refl;
      halls = refl;
      pools = refl;
      threads = All-with_nth (IsInBounds k.scenario (length k.clusters) k.present) made k.threads index (blank_bounds k.scenario (length k.clusters) k.present Dormant (thread_at k t).home prio (bounds_at k t sound).home) sound.threads;
      lines = keeps_same k.clusters;
      timers = timed_kept k.threads (made_task k t index free name prio).threads 0 k.clusters
          (λ d u is. ap (λ (x : Thread). (eqb x.home d) && may_time_out x.wait) (nth-with_other no_thread made k.threads index u (λ e. false≢true (sym waits_not ∙ ap (λ v. may_time_out (thread_at k v).wait) (sym e) ∙ and_back (eqb (thread_at k u).home d) (may_time_out (thread_at k u).wait) is))) ∙ is)
          (timed_sound k 0 k.clusters sound.clusters);
      named = named_made k.table (objects_of k) index free name made sound.named sound.places is refl;
      tied = tied_idle k.barriers k.semaphores k.threads k.clusters (but_one index) but_none index made (equal_test index index refl) (λ u _ other. other) f.low (omega (arith, f.high, sound.places)) refl (λ object. sound.tied.queued index refl object ∙ ap (λ (x : Thread). cond (is_for (object_of_wait x.wait) object) 1 0) blank) (tied_but k.barriers k.semaphores k.threads k.clusters index sound.tied);
      chained = chained_idle k.semaphores k.threads (but_one index) but_none index made (equal_test index index refl) (λ u _ other. other) f.low (omega (arith, f.high, sound.places)) refl (λ _ _. refl) (chained_fewer k.semaphores k.threads (but_one index) but_none (λ u apart. refl) sound.chained);
    }

made_task_stays : (k : Plain) (t index : ℕ) (free : List ℕ) (name prio : ℕ) → IsCaller k t → k.table.tasks.free ≡ index ∷ free → Stays k (made_task k t index free name prio) t
made_task_stays k t index free name prio caller is =
    let sound = caller.acts.sound in
    let f = first_free k.table (objects_of k) Task index free sound.named is in
    let other = live_apart k t index (ap has_begun caller.acts.started) f.absent in
    stays_apart k k (made_task k t index free name prio) t index (dormant_in (thread_at k t).home prio) (stays_same k t caller) other refl (made_task_gentle k t index free name prio sound is)

pub task_create_fair : (k : Plain) (t name prio : ℕ) → IsCaller k t → IsFair k t (task_create k t name prio)
task_create_fair k t name prio caller = fair_create k t Task name (prio_refusal prio) _ (λ index free is. made_task_stays k t index free name prio caller is)

pub task_ident_fair : (k : Plain) (t name : ℕ) → IsCaller k t → IsFair k t (task_ident k name)
task_ident_fair k t name caller = fair_ident k t Task name caller

dormant_life : (life : Life) → is_dormant life ≡ true → life ≡ Dormant
dormant_life Absent h = absurd (false≢true h)
dormant_life Dormant h = refl
dormant_life Started h = absurd (false≢true h)
dormant_life Ended h = absurd (false≢true h)

-- a dormant task is started
started_stays : (k : Plain) (t u body : ℕ) → IsCaller k t → (thread_at k u).life ≡ Dormant → Stays k (with_started k u body) t
started_stays k t u body caller dormant =
    let sound = caller.acts.sound in
    let b = bounds_at k u sound in
    let thread : Thread = record (thread_at k u) { life = Started; body = body } in
    let other : t ≢ u = λ q. let same : Started ≡ Dormant = sym caller.acts.started ∙ ap (λ v. (thread_at k v).life) q ∙ dormant in let no : ⊥ = cc in no in
    stays_apart k k (with_started k u body) t u (arrived k.scenario thread 1) (stays_same k t caller) other refl
    (gentle_put k k but_none u (arrived k.scenario thread 1) (gentle_same k sound) refl refl (ap has_begun dormant) refl
    (arrived_bounds k.scenario (length k.clusters) k.present thread 1 sound.bodies b.home (omega arith) b.computed (b.idle (ap is_started dormant))))

pub task_start_fair : (k : Plain) (t : ℕ) (id : Target) (body : ℕ) → IsCaller k t → IsFair k t (task_start k t id body)
task_start_fair k t id body caller = fair_found k t (task_named k t id) _ (λ u _. fair_if k t (is_dormant (thread_at k u).life) _ _ (λ dormant. fair_done k t _ _ _ _ refl (started_stays k t u body caller (dormant_life (thread_at k u).life dormant))) (λ _. fair_refused k t _))

suspended_stays : (k : Plain) (t u : ℕ) (suspended : Bool) → IsCaller k t → has_begun (thread_at k u).life ≡ true → Stays k (with_suspended k u suspended) t
suspended_stays k t u suspended caller lives = stays_put k k t u (record (thread_at k u) { suspended = suspended }) (stays_same k t caller) refl refl refl refl lives lives (bounds_at k u caller.acts.sound)

pub task_suspend_fair : (k : Plain) (t : ℕ) (id : Target) → IsCaller k t → IsFair k t (task_suspend k t id)
task_suspend_fair k t id caller = fair_found k t (task_named k t id) _ (λ u is. fair_if k t (thread_at k u).suspended _ _ (λ _. fair_refused k t _) (λ _. fair_done k t _ _ _ _ refl (suspended_stays k t u true caller (found_lives k t id u caller is))))

pub task_resume_fair : (k : Plain) (t : ℕ) (id : Target) → IsCaller k t → IsFair k t (task_resume k t id)
task_resume_fair k t id caller = fair_found k t (task_named k t id) _ (λ u is. fair_if k t (thread_at k u).suspended _ _ (λ _. fair_done k t _ _ _ _ refl (suspended_stays k t u false caller (found_lives k t id u caller is))) (λ _. fair_refused k t _))

pub task_set_priority_fair : (k : Plain) (t : ℕ) (id : Target) (prio : ℕ) → IsCaller k t → IsFair k t (task_set_priority k t id prio)
task_set_priority_fair k t id prio caller = fair_found k t (task_named k t id) _ (λ u is. fair_if k t (nat_lt 255 prio) _ _ (λ _. fair_refused k t _) (λ _. fair_if k t (eqb prio 0) _ _ (λ _. fair_done k t _ _ _ _ refl (stays_same k t caller))
    (λ _. (let lives = found_lives k t id u caller is in fair_done k t _ _ _ _ refl (stays_put k k t u (record (thread_at k u) { base = prio }) (stays_same k t caller) refl refl refl refl lives lives (bounds_at k u caller.acts.sound))))))

told_fair : (k : Plain) (t : ℕ) (o : Option ℕ) → IsCaller k t → IsFair k t (told_prio k o)
told_fair k t None caller = fair_refused k t _
told_fair k t (Some p) caller = fair_done k t _ _ _ _ refl (stays_same k t caller)

pub task_get_priority_fair : (k : Plain) (t : ℕ) (id : Target) (c : ℕ) → IsCaller k t → IsFair k t (task_get_priority k t id c)
task_get_priority_fair k t id c caller = fair_found k t (task_named k t id) _ (λ u _. told_fair k t (prio k u c) caller)

-- who owns a semaphore is found among the owners
obtained_one : (semaphores : List SemaphoreState) (i u : ℕ) → (nth no_semaphore semaphores i).owner ≡ Some u → has_obtained semaphores u ≡ true
obtained_one semaphores zero u owner = let no : ⊥ = cc in absurd no
obtained_one [] (suc i) u owner = let no : ⊥ = cc in absurd no
obtained_one (sem ∷ semaphores) (suc zero) u owner = let same : owns u sem ≡ true = ap (is_one u) owner ∙ equal_test u u refl in or_front (has_obtained semaphores u) same
obtained_one (sem ∷ semaphores) (suc (suc i)) u owner = or_back (owns u sem) (obtained_one semaphores (suc i) u owner)

-- a live task is deleted that owns no semaphore
without_task_gentle : (k : Plain) (u : ℕ) → IsSound k → has_begun (thread_at k u).life ≡ true → has_obtained k.semaphores u ≡ false → IsGentle k (without_task k u)
without_task_gentle k u sound live free =
    let h = (thread_at k u).home in
    let awaited = object_of_wait (thread_at k u).wait in
    let stood = sound.tied.queued u refl in
    let left = gentle_leave k k u (gentle_but k k u (gentle_same k sound)) stood in
    let w = lives_within k.threads u live in
    let among = equal_test u u refl in
    gentle_idle k (cancel (leave k u) h (OfThread u)) (but_one u) but_none u no_thread (with_names Task (given_back k.table.tasks u) k.table) (gentle_cancel k (leave k u) (but_one u) h u among left) among (λ v _ other. other) w.0 w.1 (cancelled k (leave k u) (but_one u) u left) refl
    (left_gone k.barriers k.semaphores u awaited stood)
    (λ i owner. absurd (false≢true (sym free ∙ obtained_one k.semaphores i u (sym (owners_left k.semaphores u awaited i) ∙ owner))))
    (named_removed k.table (objects_of (leave k u)) u left.named sound.places live)
    (none_bounds k.scenario (length k.clusters) k.present sound.some_cluster)

pub task_delete_fair : (k : Plain) (t : ℕ) (id : Target) → IsCaller k t → IsFair k t (task_delete k t id)
task_delete_fair k t id caller = fair_found k t (task_named k t id) _ (λ u is. fair_if k t (has_obtained k.semaphores u || has_created k.periods u) _ _ (λ _. fair_refused k t _) (λ free.
    (let gentle = without_task_gentle k u caller.acts.sound (found_lives k t id u caller is) (neither_front (has_obtained k.semaphores u) (has_created k.periods u) free) in
    fair_if k t (eqb u t) _ _ (λ _. fair_gone k t _ _ refl gentle)
    (λ e. fair_done k t _ _ _ _ refl (stays_apart k k (without_task k u) t u no_thread (stays_same k t caller) (λ q. false≢true (sym e ∙ equal_test u t (sym q))) refl gentle)))))

pub task_exit_fair : (k : Plain) (t : ℕ) → IsActing k t → (thread_at k t).finished ≡ None → IsFair k t (task_exit k t)
task_exit_fair k t acts returns_not =
    let b = bounds_at k t acts.sound in
    let free : is_in_call (thread_at k t).wait (thread_at k t).finished ≡ false = rw (acts.waits_not, returns_not) refl in
    fair_gone k t _ _ refl (gentle_put k k but_none t (record (thread_at k t) { life = Ended }) (gentle_same k acts.sound) refl refl (ap has_begun acts.started) refl (record { home = b.home; line = b.line; working = b.working; calling = b.calling; apart = b.apart; acts = b.acts; idle = λ _. free; computed = b.computed }))

pub task_wake_after_fair : (k : Plain) (t ticks : ℕ) → IsCaller k t → IsFair k t (task_wake_after k t ticks)
task_wake_after_fair k t ticks caller = fair_if k t (eqb ticks 0) _ _ (λ _. fair_done k t _ _ _ _ refl (stays_same k t caller)) (λ some. fair_waiting k t _ (gentle_limited k t ForTime ticks caller tt refl (λ zero. absurd (false≢true (sym some ∙ zero))) (joins_unowned k.semaphores k.threads t (Some ForTime) refl)))

-- Outcomes that are fair: what each form of an outcome owes, so that its state can be settled and its refusals change the caller alone.
use Rattle.std.proofs.Common.{◌≡◌, ◌==◌, ◌++◌, subst, ℕ, List, [], ◌∷◌, ◌+◌, ◌≤◌, ◌&&◌, Bool, true, false, cond, eqb, Option, None, Some, length, arith, refl, sym, ◌∙◌, ap}
use Rattle.std.proofs.lemmas.Bool.{false≢true}
use Rattle.std.proofs.lemmas.Bool.Decides.{nat_tests}
use Rattle.rk_model.specs.declared.state.Armer.TheVariants.{Thread as OfThread}
use Rattle.rk_model.specs.declared.state.Thread.{Thread}
use Rattle.rk_model.specs.declared.state.Wait.{Wait}
use Rattle.rk_model.specs.declared.status.Status.{Status}
use Rattle.rk_model.specs.declared.status.Status.TheVariants.{InvalidId}
use Rattle.rk_model.specs.declared.scenario.Op.{Op}
use Rattle.rk_model.specs.declared.ids.Class.{Class}
use Rattle.rk_model.specs.Names.{taken, least_named}
use Rattle.rk_model.specs.Directives.Objects.{names_in, put_names, create_at, unless, create, on_named, ident}
use Rattle.rk_model.specs.Directives.Objects.{has_begun}
use Rattle.rk_model.specs.Status.{status_code}
use Rattle.rk_model.specs.Lists.{times}
use Rattle.rk_model.specs.State.{Plain, ClusterState, no_thread, no_cluster, thread_at, cluster_at, op_at}
use Rattle.rk_model.specs.Scheduling.Timers.{times_armed, with_timer, arm}
use Rattle.rk_model.specs.Scheduling.Priorities.{is_started}
use Rattle.rk_model.specs.Directives.Outcomes.{Outcome, Refused, Done, Waiting, Gone, on_found, changed, after_outcome}
use Rattle.rk_model.specs.Directives.Waits.{Object, object_of_wait, is_for, arrivals_in, caller_at, enter, start_wait, begin_limited}
use Rattle.rk_directives.specs.Calls.{IsActing, IsCaller}
use Rattle.rk_directives.specs.Refusals.{is_refused}
use Rattle.rk_directives.specs.Sound.{IsInBounds, IsGentle, waits_in, may_time_out, is_asleep, is_in_call}
use Rattle.rk_directives.proofs.ThreadBoundsLemmas.{bounds_at}
use Rattle.rk_model.proofs.IndexLemmas.{nth-with_same}
use Rattle.rk_directives.proofs.TimerLemmas.{timers_of, times-push}
use Rattle.rk_directives.proofs.TieLemmas.{IsThere}
use Rattle.rk_directives.proofs.WaitChainLemmas.{MayJoin, joins_put}
use Rattle.rk_directives.proofs.GentleChangeLemmas.{gentle_same, gentle_start, gentle_arm, gentle_enter, Stays, gentle_go_on}
use Rattle.rk_model.proofs.BooleanLemmas.{equal_test}
use Rattle.std.proofs.lemmas.List.{get_or-set_same}

-- the line of a body at which a thread is
abbrev pub op_of : Plain → ℕ → Option Op
op_of k t = op_at k.scenario (thread_at k t).body (thread_at k t).line

-- A refusal owes nothing. Where the caller goes on or has no next line, the status is that of no refusal. The change is gentle, and a caller that goes on still can.
abbrev Owes : Plain → ℕ → Outcome → Type 0
Owes k t (Refused status) = Unit {0}
Owes k t (Done status out next last) = (is_refused (op_of k t) (status_code status) ≡ false) × Stays k next t
Owes k t (Waiting next) = IsGentle k next
Owes k t (Gone status next) = (is_refused (op_of k t) (status_code status) ≡ false) × IsGentle k next

-- An outcome that does as it owes.
pub record IsFair (k : Plain) (t : ℕ) (o : Outcome) : Type 0 where
  pub does : Owes k t o

pub fair_refused : (k : Plain) (t : ℕ) (status : Status) → IsFair k t (Refused status)
fair_refused k t status = record { does = tt }

pub fair_done : (k : Plain) (t : ℕ) (status : Status) (out : ℕ) (next : Plain) (last : Option ℕ) → is_refused (op_of k t) (status_code status) ≡ false → Stays k next t → IsFair k t (Done status out next last)
fair_done k t status out next last good stays = record { does = (good, stays) }

pub fair_waiting : (k : Plain) (t : ℕ) (next : Plain) → IsGentle k next → IsFair k t (Waiting next)
fair_waiting k t next gentle = record { does = gentle }

pub fair_gone : (k : Plain) (t : ℕ) (status : Status) (next : Plain) → is_refused (op_of k t) (status_code status) ≡ false → IsGentle k next → IsFair k t (Gone status next)
fair_gone k t status next good gentle = record { does = (good, gentle) }

-- a caller that changed nothing can go on
pub stays_same : (k : Plain) (t : ℕ) → IsCaller k t → Stays k k t
stays_same k t caller = record { gentle = gentle_same k caller.acts.sound; lives = ap has_begun caller.acts.started; line = caller.line; free = rw (caller.acts.waits_not, caller.returns_not) refl }

pub fair_found : (k : Plain) (t : ℕ) (found : Option ℕ) (act : ℕ → Outcome) → ((u : ℕ) → found ≡ Some u → IsFair k t (act u)) → IsFair k t (on_found found act)
fair_found k t None act fair = fair_refused k t InvalidId
fair_found k t (Some u) act fair = fair u refl

pub fair_if : (k : Plain) (t : ℕ) (b : Bool) (x y : Outcome) → (b ≡ true → IsFair k t x) → (b ≡ false → IsFair k t y) → IsFair k t (cond b x y)
fair_if k t true x y held failed = held refl
fair_if k t false x y held failed = failed refl

fair_at : (k : Plain) (t : ℕ) (class : Class) (free : List ℕ) (name : ℕ) (put : ℕ → Plain → Plain) → ((index : ℕ) (rest : List ℕ) → free ≡ index ∷ rest → Stays k (put index (put_names k class (taken (names_in k class) index rest name))) t) → IsFair k t (create_at k class free name put)
fair_at k t class [] name put stays = fair_refused k t _
fair_at k t class (index ∷ rest) name put stays = fair_done k t _ _ _ _ refl (stays index rest refl)

fair_unless : (k : Plain) (t : ℕ) (refusal : Option Status) (o : Outcome) → IsFair k t o → IsFair k t (unless refusal o)
fair_unless k t None o fair = fair
fair_unless k t (Some status) o fair = fair_refused k t status

-- an object of any class is made
pub fair_create : (k : Plain) (t : ℕ) (class : Class) (name : ℕ) (refusal : Option Status) (put : ℕ → Plain → Plain) → ((index : ℕ) (rest : List ℕ) → (names_in k class).free ≡ index ∷ rest → Stays k (put index (put_names k class (taken (names_in k class) index rest name))) t) → IsFair k t (create k class name refusal put)
fair_create k t class name refusal put stays =
    fair_if k t (eqb name 0) _ _ (λ _. fair_refused k t _) (λ _. fair_unless k t refusal _ (fair_at k t class (names_in k class).free name put stays))

fair_named : (k : Plain) (t : ℕ) (class : Class) (found : Option ℕ) → IsCaller k t → IsFair k t (on_named k class found)
fair_named k t class None caller = fair_refused k t _
fair_named k t class (Some index) caller = fair_done k t _ _ _ _ refl (stays_same k t caller)

-- and named
pub fair_ident : (k : Plain) (t : ℕ) (class : Class) (name : ℕ) → IsCaller k t → IsFair k t (ident k class name)
fair_ident k t class name caller = fair_named k t class (least_named name (names_in k class).live) caller

-- the change of a fair outcome is gentle
pub fair_changed : (k : Plain) (t : ℕ) (o : Outcome) → IsCaller k t → IsFair k t o → IsGentle k (changed k o)
fair_changed k t (Refused status) caller fair = gentle_same k caller.acts.sound
fair_changed k t (Done status out next last) caller fair = fair.does.1.gentle
fair_changed k t (Waiting next) caller fair = fair.does
fair_changed k t (Gone status next) caller fair = fair.does.1

-- and so is what follows it
pub fair_after : (k : Plain) (t : ℕ) (o : Outcome) → IsCaller k t → IsFair k t o → IsGentle k (after_outcome k t o)
fair_after k t (Refused status) caller fair = gentle_go_on k k t 0 caller.acts.sound (stays_same k t caller)
fair_after k t (Done status out next last) caller fair = gentle_go_on k next t out caller.acts.sound fair.does.1
fair_after k t (Waiting next) caller fair = fair.does
fair_after k t (Gone status next) caller fair = fair.does.1

-- a thread that acts has no timer
pub none_armed : (k : Plain) (t : ℕ) → IsActing k t → times_armed (OfThread t) (cluster_at k (thread_at k t).home).timers ≡ 0
none_armed k t acts =
    let few = timers_of k (thread_at k t).home acts.sound (bounds_at k t acts.sound).home t in
    by (waits_in k.threads (thread_at k t).home t) (rw acts.waits_not (and_no (eqb (thread_at k t).home (thread_at k t).home))) few where
      and_no : (b : Bool) → (b && false) ≡ false
      and_no true = refl
      and_no false = refl

      by : (b : Bool) → b ≡ false → times_armed (OfThread t) (cluster_at k (thread_at k t).home).timers ≤ cond b 1 0 → times_armed (OfThread t) (cluster_at k (thread_at k t).home).timers ≡ 0
      by true e few = absurd (false≢true (sym e))
      by false e few = omega (arith, few)

-- a thread that acts stands in no queue
pub none_awaits : (k : Plain) (t : ℕ) → IsActing k t → (object : Object) → times t (arrivals_in k.barriers k.semaphores object) ≡ 0
none_awaits k t acts object = acts.sound.tied.queued t refl object ∙ ap (λ w. cond (is_for (object_of_wait w) object) 1 0) acts.waits_not

-- a caller begins to wait, with a limit or without one, which a sleep has; for an object that there is, and whose owner's chain, if it has one, doesn't reach the caller
pub gentle_limited : (k : Plain) (t : ℕ) (wait : Wait) (ticks : ℕ) → IsCaller k t → IsThere k.barriers k.semaphores (object_of_wait (Some wait)) → may_time_out (Some wait) ≡ true → (eqb ticks 0 ≡ true → is_asleep (Some wait) ≡ false) → MayJoin k.semaphores k.threads t (Some wait) → IsGentle k (begin_limited k t wait ticks)
gentle_limited k t wait ticks caller there limited sleeps joins =
    let acts = caller.acts in
    let b = bounds_at k t acts.sound in
    let thread : Thread = record (thread_at k t) { wait = Some wait } in
    let bounds : IsInBounds k.scenario (length k.clusters) k.present thread = record { home = b.home; line = b.line; working = b.working; calling = λ _. caller.line; apart = λ w. absurd (omega (arith, w, acts.works_not)); acts = b.acts; idle = λ idle. absurd (false≢true (sym idle ∙ ap is_started acts.started)); computed = b.computed } in
    let begun = gentle_start k k t thread (gentle_same k acts.sound) refl (ap may_time_out acts.waits_not) (ap has_begun acts.started) (ap has_begun acts.started) bounds in
    let here = nth-with_same no_thread thread k.threads t acts.low (omega (arith, acts.high, acts.sound.places)) in
    let waits : waits_in (start_wait k t wait).threads (thread_at k t).home t ≡ true = rw (here, limited) (home_is (thread_at k t).home) in
    let armed = gentle_arm k (start_wait k t wait) (thread_at k t).home t (k.present + ticks) begun waits (none_armed k t acts) in
    let is : (thread_at (start_wait k t wait) t).wait ≡ Some wait = ap (λ (x : Thread). x.wait) here in
    let none = none_awaits k t acts in
    let may = joins_put k.semaphores k.threads t thread (Some wait) joins in
    by (eqb ticks 0) refl
    (λ zero. gentle_enter k (start_wait k t wait) (caller_at k t) wait begun is there none (λ asleep. absurd (false≢true (sym (sleeps zero) ∙ ap is_asleep (sym is) ∙ asleep))) may)
    (λ some. gentle_enter k (arm_at (start_wait k t wait)) (caller_at k t) wait armed is there none (λ _. has_timer here) may)
  where
    arm_at : Plain → Plain
    arm_at m = arm m (thread_at k t).home (record { who = OfThread t; due = k.present + ticks })

    has_timer : thread_at (start_wait k t wait) t ≡ (let thread : Thread = record (thread_at k t) { wait = Some wait } in thread) → 1 ≤ times_armed (OfThread t) (cluster_at (arm_at (start_wait k t wait)) (thread_at (start_wait k t wait) t).home).timers
    has_timer here =
        let h = (thread_at k t).home in
        let timers = (cluster_at k h).timers in
        let home : (thread_at (start_wait k t wait) t).home ≡ h = ap (λ (x : Thread). x.home) here in
        let at : (cluster_at (arm_at (start_wait k t wait)) h).timers ≡ timers ++ (record { who = OfThread t; due = k.present + ticks }) ∷ [] = ap (λ (c : ClusterState). c.timers) (get_or-set_same k.clusters h (with_timer (cluster_at k h) (record { who = OfThread t; due = k.present + ticks })) no_cluster (bounds_at k t caller.acts.sound).home) in
        let one : (t == t) ≡ true = equal_test t t refl in
        let more : times_armed (OfThread t) (cluster_at (arm_at (start_wait k t wait)) h).timers ≡ times_armed (OfThread t) timers + 1 = ap (times_armed (OfThread t)) at ∙ times-push t t (k.present + ticks) timers ∙ (rw one refl) in
        subst (λ d. 1 ≤ times_armed (OfThread t) (cluster_at (arm_at (start_wait k t wait)) d).timers) (sym home) (omega (arith, more))

    by : (b : Bool) → eqb ticks 0 ≡ b → (eqb ticks 0 ≡ true → IsGentle k (enter (start_wait k t wait) (caller_at k t) (Some wait))) → (eqb ticks 0 ≡ false → IsGentle k (enter (arm_at (start_wait k t wait)) (caller_at k t) (Some wait))) → IsGentle k (enter (cond b (start_wait k t wait) (arm_at (start_wait k t wait))) (caller_at k t) (Some wait))
    by true e begun armed = begun e
    by false e begun armed = armed e

    home_is : (h : ℕ) → ((eqb h h) && true) ≡ true
    home_is h = grind (arith, nat_tests)

-- a caller that is as before can go on
pub stays_as : (k next : Plain) (t : ℕ) → IsCaller k t → IsGentle k next → thread_at next t ≡ thread_at k t → Stays k next t
stays_as k next t caller gentle is = record {
  gentle = gentle;
  lives = ap (λ (x : Thread). has_begun x.life) is ∙ ap has_begun caller.acts.started;
  line = subst (λ (x : Thread). x.line ≤ 1000) (sym is) caller.line;
  free = ap (λ (x : Thread). is_in_call x.wait x.finished) is ∙ (rw (caller.acts.waits_not, caller.returns_not) refl);
}

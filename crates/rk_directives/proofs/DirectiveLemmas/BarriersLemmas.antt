-- The directives of the barrier manager are fair.
use Rattle.std.proofs.Common.{◌≡◌, ◌≢◌, ℕ, ◌+◌, ◌==◌, not, List, [], ◌∷◌, Bool, true, false, cond, Option, None, Some, arith, refl, sym, ap, ◌∙◌}
use Rattle.std.proofs.lemmas.Bool.{false≢true}
use Rattle.rk_model.specs.declared.entry.Reply.{Reply}
use Rattle.rk_model.specs.declared.ids.Class.TheVariants.{Barrier}
use Rattle.rk_model.specs.declared.scenario.Target.{Target}
use Rattle.rk_model.specs.declared.state.Thread.{Thread}
use Rattle.rk_model.specs.declared.state.Wait.{Wait}
use Rattle.rk_model.specs.declared.state.Wait.TheVariants.{AtBarrier}
use Rattle.rk_model.specs.declared.status.Status.{Status}
use Rattle.rk_model.specs.declared.status.Status.TheVariants.{Successful, ObjectWasDeleted}
use Rattle.rk_model.specs.Lists.{nth, times}
use Rattle.rk_model.specs.Names.{taken}
use Rattle.rk_model.specs.State.{Plain, BarrierState, objects_of, no_thread, no_barrier, thread_at, barrier_at, put_barrier}
use Rattle.rk_model.specs.Directives.Objects.{object_named, put_names, without_object}
use Rattle.rk_model.specs.Directives.Waits.{OfBarrier, object_of_wait, is_for, without, without_arrival, end_wait, end_each, bare}
use Rattle.rk_model.specs.Directives.Barriers.{new_barrier, most_refusal, barrier_create, barrier_ident, end_at, is_full, barrier_wait, barrier_release, without_barrier, barrier_delete}
use Rattle.rk_model.proofs.BooleanLemmas.{equal_test}
use Rattle.rk_model.proofs.IndexLemmas.{nth-with_same, nth-with_other, length-with_nth}
use Rattle.rk_directives.specs.Calls.{IsCaller}
use Rattle.rk_directives.specs.Sound.{IsSound, IsGentle, but_none, is_waiting}
use Rattle.rk_directives.proofs.DirectiveLemmas.ObjectsLemmas.{named_lives}
use Rattle.rk_directives.proofs.NamesAgreeLemmas.{first_free, named_placed, named_vacated}
use Rattle.rk_directives.proofs.TieLemmas.{awaited, live_within, tied_barrier}
use Rattle.rk_directives.proofs.GentleChangeLemmas.{gentle_same, gentle_but, gentle_end_wait, Stays}
use Rattle.rk_directives.proofs.WaitChainLemmas.{joins_unowned}
use Rattle.rk_directives.proofs.OutcomeLemmas.{stays_as, IsFair, gentle_limited, fair_done, fair_waiting, fair_found, fair_create, fair_ident, fair_if}

-- ---- waits that end one after another

-- a queue has a thread no more that isn't in it
without_absent : (t : ℕ) (arrivals : List ℕ) → times t arrivals ≡ 0 → without t arrivals ≡ arrivals
without_absent t [] none = refl
without_absent t (u ∷ us) none = by (u == t) none (without_absent t us) where
  by : (b : Bool) → cond b 1 0 + times t us ≡ 0 → (times t us ≡ 0 → without t us ≡ us) → cond (not b) (u ∷ without t us) (without t us) ≡ u ∷ us
  by true none more = absurd (omega (arith, none))
  by false none more = ap (λ vs. u ∷ vs) (more (omega (arith, none)))

-- the first of a queue, in which it stands once, is out of it
pub without_first : (t : ℕ) (arrivals : List ℕ) → times t arrivals ≡ 0 → without t (t ∷ arrivals) ≡ arrivals
without_first t arrivals none = let here : (t == t) ≡ true = equal_test t t refl in rw here (without_absent t arrivals none)

-- who stands first in the queue of a barrier waits there, and stands there once
pub record Heads (wait : Option Wait) (i t : ℕ) (behind : List ℕ) : Type 0 where
  pub awaits : object_of_wait wait ≡ Some (OfBarrier i)
  pub waits : is_waiting wait ≡ true
  pub once : times t behind ≡ 0

pub heads : (wait : Option Wait) (i t : ℕ) (behind : List ℕ) → times t (t ∷ behind) ≡ cond (is_for (object_of_wait wait) (OfBarrier i)) 1 0 → Heads wait i t behind
heads wait i t behind stood = by (is_for (object_of_wait wait) (OfBarrier i)) refl stood where
  here : (t == t) ≡ true
  here = equal_test t t refl

  by : (b : Bool) → is_for (object_of_wait wait) (OfBarrier i) ≡ b → times t (t ∷ behind) ≡ cond b 1 0 → Heads wait i t behind
  by true e stood =
      let more : 1 + times t behind ≡ 1 = rw here at stood in
      let a = awaited wait (OfBarrier i) e in
      record { awaits = a.0; waits = a.1; once = omega (arith, more) }
  by false e stood = let more : 1 + times t behind ≡ 0 = rw here at stood in absurd (omega (arith, more))

-- The waits at a barrier have ended: the change is gentle, nobody waits there any more, the barrier lives, and a thread that waited for nothing is as before.
pub record HaveEnded (k next : Plain) (i t : ℕ) (thread : Thread) : Type 0 where
  pub gentle : IsGentle k next
  pub emptied : (barrier_at next i).arrivals ≡ []
  pub live : (barrier_at next i).live ≡ true
  pub stays : thread_at next t ≡ thread

ends : (k m : Plain) (i : ℕ) (ts : List ℕ) (reply : Reply) (t : ℕ) (thread : Thread) → IsSound k → IsGentle k m → (barrier_at m i).arrivals ≡ ts → (barrier_at m i).live ≡ true → thread_at m t ≡ thread → is_waiting thread.wait ≡ false → HaveEnded k (end_each m ts reply) i t thread
ends k m i [] reply t thread sound gentle stand live is free = record { gentle = gentle; emptied = stand; live = live; stays = is }
ends k m i (u ∷ us) reply t thread sound gentle stand live is free =
    let head = heads (thread_at m u).wait i u us (ap (times u) (sym stand) ∙ gentle.tied.queued u refl (OfBarrier i)) in
    let w = live_within m.barriers i live in
    let left : BarrierState = record (barrier_at m i) { arrivals = without u (barrier_at m i).arrivals } in
    let now : barrier_at (end_wait m u reply) i ≡ left = ap (λ o. nth no_barrier (without_arrival m.barriers u o) i) head.awaits ∙ nth-with_same no_barrier left m.barriers i w.0 w.1 in
    let other : t ≢ u = λ e. false≢true (sym free ∙ ap (λ (x : Thread). is_waiting x.wait) (sym is) ∙ ap (λ v. is_waiting (thread_at m v).wait) e ∙ head.waits) in
    let after : Thread = record (thread_at m u) { wait = None; finished = Some reply } in
    ends k (end_wait m u reply) i us reply t thread sound
    (gentle_end_wait k m u reply sound (gentle_but k m u gentle) (gentle.tied.queued u refl) head.waits)
    (ap (λ (x : BarrierState). x.arrivals) now ∙ ap (without u) stand ∙ without_first u us head.once)
    (ap (λ (x : BarrierState). x.live) now ∙ live)
    (nth-with_other no_thread after m.threads u t other ∙ is)
    free

-- all waits at a live barrier end
pub ended_at : (k : Plain) (t i : ℕ) (status : Status) → IsCaller k t → (barrier_at k i).live ≡ true → HaveEnded k (end_at k i status) i t (thread_at k t)
ended_at k t i status caller live = ends k k i (barrier_at k i).arrivals (bare status) t (thread_at k t) caller.acts.sound (gentle_same k caller.acts.sound) refl live refl (ap is_waiting caller.acts.waits_not)

pub ended_stays : (k : Plain) (t i : ℕ) (status : Status) → IsCaller k t → (barrier_at k i).live ≡ true → Stays k (end_at k i status) t
ended_stays k t i status caller live = let e = ended_at k t i status caller live in stays_as k (end_at k i status) t caller e.gentle e.stays

-- ---- the directives

-- a barrier that a caller asks for lives
pub barrier_lives : (k : Plain) (t : ℕ) (id : Target) (i : ℕ) → object_named k t Barrier id ≡ Some i → (barrier_at k i).live ≡ true
barrier_lives k t id i is = named_lives k t Barrier id i is

-- a barrier is put at an index where none lives
placed : (k : Plain) (index : ℕ) (free : List ℕ) (name : ℕ) (automatic : Bool) (most : ℕ) → IsSound k → k.table.barriers.free ≡ index ∷ free → IsGentle k (put_barrier (put_names k Barrier (taken k.table.barriers index free name)) index (new_barrier automatic most))
placed k index free name automatic most sound is =
    let f = first_free k.table (objects_of k) Barrier index free sound.named is in
    let barrier = new_barrier automatic most in
    let same = gentle_same k sound in
    record {
      scenario = refl;
      present = refl;
      places = refl;
      locks = refl;
      halls = length-with_nth barrier k.barriers index;
      pools = refl;
      threads = same.threads;
      lines = same.lines;
      timers = same.timers;
      named = named_placed k.table (objects_of k) index free name barrier sound.named sound.halls is refl;
      tied = tied_barrier k.barriers k.semaphores k.threads k.clusters but_none index barrier (ap (λ (x : BarrierState). x.arrivals) (sym (sound.named.bare index f.absent))) sound.tied;
      chained = sound.chained;
    }

pub barrier_create_fair : (k : Plain) (t name : ℕ) (automatic : Bool) (most : ℕ) → IsCaller k t → IsFair k t (barrier_create k name automatic most)
barrier_create_fair k t name automatic most caller = fair_create k t Barrier name (most_refusal automatic most) _ (λ index free is.
    stays_as k (put_barrier (put_names k Barrier (taken k.table.barriers index free name)) index (new_barrier automatic most)) t caller (placed k index free name automatic most caller.acts.sound is) refl)

pub barrier_ident_fair : (k : Plain) (t name : ℕ) → IsCaller k t → IsFair k t (barrier_ident k name)
barrier_ident_fair k t name caller = fair_ident k t Barrier name caller

pub barrier_wait_fair : (k : Plain) (t : ℕ) (id : Target) (ticks : ℕ) → IsCaller k t → IsFair k t (barrier_wait k t id ticks)
barrier_wait_fair k t id ticks caller = fair_found k t (object_named k t Barrier id) _ (λ i is. fair_if k t (is_full (barrier_at k i)) _ _
    (λ _. fair_done k t _ _ _ _ refl (ended_stays k t i Successful caller (barrier_lives k t id i is)))
    (λ _. fair_waiting k t _ (gentle_limited k t (AtBarrier i) ticks caller (barrier_lives k t id i is) refl (λ _. refl) (joins_unowned k.semaphores k.threads t (Some (AtBarrier i)) refl))))

pub barrier_release_fair : (k : Plain) (t : ℕ) (id : Target) → IsCaller k t → IsFair k t (barrier_release k t id)
barrier_release_fair k t id caller = fair_found k t (object_named k t Barrier id) _ (λ i is. fair_done k t _ _ _ _ refl (ended_stays k t i Successful caller (barrier_lives k t id i is)))

-- a barrier at which nobody waits is removed
removed : (k m : Plain) (i : ℕ) → IsSound k → IsGentle k m → (barrier_at m i).arrivals ≡ [] → (barrier_at m i).live ≡ true → IsGentle k (without_object (put_barrier m i no_barrier) Barrier i)
removed k m i sound gentle emptied live = record {
  scenario = gentle.scenario;
  present = gentle.present;
  places = gentle.places;
  locks = gentle.locks;
  halls = length-with_nth no_barrier m.barriers i ∙ gentle.halls;
  pools = gentle.pools;
  threads = gentle.threads;
  lines = gentle.lines;
  timers = gentle.timers;
  named = named_vacated m.table (objects_of m) i gentle.named (gentle.halls ∙ sound.halls) live;
  tied = tied_barrier m.barriers m.semaphores m.threads m.clusters but_none i no_barrier (sym emptied) gentle.tied;
  chained = gentle.chained;
}

pub barrier_delete_fair : (k : Plain) (t : ℕ) (id : Target) → IsCaller k t → IsFair k t (barrier_delete k t id)
barrier_delete_fair k t id caller = fair_found k t (object_named k t Barrier id) _ (λ i is.
    let e = ended_at k t i ObjectWasDeleted caller (barrier_lives k t id i is) in
    fair_done k t _ _ _ _ refl (stays_as k (without_barrier k i) t caller (removed k (end_at k i ObjectWasDeleted) i caller.acts.sound e.gentle e.emptied e.live) e.stays))

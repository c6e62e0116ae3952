-- The directives of the event manager are fair, and what they do to lent parts.
use Rattle.std.proofs.Common.{◌≡◌, ℕ, ◌==◌, List, Bool, true, false, cond, eqb, Option, None, Some, refl, sym, ap, ◌∙◌, bit_or}
use Rattle.rk_model.specs.declared.entry.Answer.{Answer}
use Rattle.rk_model.specs.declared.entry.Answer.TheVariants as told
use Rattle.rk_model.specs.declared.scenario.Scenario.{Scenario}
use Rattle.rk_model.specs.declared.scenario.Target.{Target}
use Rattle.rk_model.specs.declared.scenario.Wish.{Wish}
use Rattle.rk_model.specs.declared.scenario.Wish.TheVariants.{NoWait, Limit}
use Rattle.rk_model.specs.declared.state.Thread.{Thread}
use Rattle.rk_model.specs.declared.state.Wait.{Wait}
use Rattle.rk_model.specs.declared.state.Wait.TheVariants.{ForEvents}
use Rattle.rk_model.specs.declared.status.Status.TheVariants.{Successful, InvalidId}
use Rattle.rk_model.specs.State.{Plain, no_thread, thread_at}
use Rattle.rk_model.specs.Directives.Objects.{has_begun}
use Rattle.rk_model.specs.Directives.Outcomes.{Outcome, done, on_found, answer_of, changed}
use Rattle.rk_model.specs.Directives.Waits.{start_limited, end_wait}
use Rattle.rk_model.specs.Directives.Tasks.{task_named}
use Rattle.rk_model.specs.Directives.Events.{seized, left_of, with_pending, with_seized, seized_by, sent, event_send, receive_later, receive_by, event_receive}
use Rattle.rk_parts.specs.declared.parts.ClusterPart.{ClusterPart}
use Rattle.rk_groups.specs.declared.group.GroupPart.{GroupPart}
use Rattle.rk_parts.specs.Joined.{joined, lent, thread_lent}
use Rattle.rk_parts.specs.Lent.{Puts}
use Rattle.rk_directives.specs.Calls.{IsCaller}
use Rattle.rk_directives.specs.Does.{Becomes, BecomesBoth, Does, DoesBoth}
use Rattle.rk_directives.specs.Sound.{IsSound, but_none, is_waiting}
use Rattle.rk_model.proofs.IndexLemmas.{nth-with_kept}
use Rattle.rk_directives.proofs.KeptHoldingLemmas.{still_held}
use Rattle.rk_directives.proofs.ThreadBoundsLemmas.{bounds_in}
use Rattle.rk_directives.proofs.GentleChangeLemmas.{Stays, stays_put, stays_end_wait}
use Rattle.rk_directives.proofs.WaitChainLemmas.{joins_unowned}
use Rattle.rk_directives.proofs.OutcomeLemmas.{IsFair, gentle_limited, stays_same, fair_refused, fair_done, fair_waiting, fair_found, fair_if}
use Rattle.rk_directives.proofs.DirectiveLemmas.LentLemmas.{put_alone, put_both}
use Rattle.rk_directives.proofs.DirectiveLemmas.TasksLemmas.{found_lives}

-- other events of a live task are pending
pending_stays : (k m : Plain) (t u pending : ℕ) → IsSound k → has_begun (thread_at m u).life ≡ true → Stays k m t → Stays k (with_pending m u pending) t
pending_stays k m t u pending sound lives stays = stays_put k m t u (record (thread_at m u) { pending = pending }) stays refl refl refl refl lives lives (bounds_in k m but_none u sound stays.gentle)

-- which leaves its wait and its life alone
pending_waits : (m : Plain) (u v pending : ℕ) → is_waiting (thread_at (with_pending m u pending) v).wait ≡ is_waiting (thread_at m v).wait
pending_waits m u v pending = nth-with_kept (λ (x : Thread). is_waiting x.wait) no_thread (record (thread_at m u) { pending = pending }) m.threads u v refl

pending_lives : (m : Plain) (u v pending : ℕ) → has_begun (thread_at (with_pending m u pending) v).life ≡ has_begun (thread_at m v).life
pending_lives m u v pending = nth-with_kept (λ (x : Thread). has_begun x.life) no_thread (record (thread_at m u) { pending = pending }) m.threads u v refl

-- who seizes events waits
seized_waits : (pending got : ℕ) (wait : Option Wait) → seized_by pending wait ≡ Some got → is_waiting wait ≡ true
seized_waits pending got None is = let no : ⊥ = cc in absurd no
seized_waits pending got (Some w) is = refl

seized_stays : (k m : Plain) (t u pending : ℕ) (got : Option ℕ) → IsSound k → has_begun (thread_at m u).life ≡ true → ((n : ℕ) → got ≡ Some n → is_waiting (thread_at m u).wait ≡ true) → Stays k m t → Stays k (with_seized m u pending got) t
seized_stays k m t u pending None sound lives waits stays = stays
seized_stays k m t u pending (Some n) sound lives waits stays =
    stays_end_wait k (with_pending m u (left_of pending n)) t u _ sound (pending_stays k m t u (left_of pending n) sound lives stays) (pending_waits m u u (left_of pending n) ∙ waits n refl)

sent_stays : (k : Plain) (t u pending : ℕ) → IsSound k → has_begun (thread_at k u).life ≡ true → Stays k k t → Stays k (sent k u pending (thread_at k u).wait) t
sent_stays k t u pending sound lives stays =
    seized_stays k (with_pending k u pending) t u pending (seized_by pending (thread_at k u).wait) sound (pending_lives k u u pending ∙ lives)
    (λ n is. pending_waits k u u pending ∙ seized_waits pending n (thread_at k u).wait is)
    (pending_stays k k t u pending sound lives stays)

pub event_send_fair : (k : Plain) (t : ℕ) (id : Target) (set : ℕ) → IsCaller k t → IsFair k t (event_send k t id set)
event_send_fair k t id set caller = fair_found k t (task_named k t id) _ (λ u is.
    fair_done k t _ _ _ _ refl (sent_stays k t u (bit_or (thread_at k u).pending set) caller.acts.sound (found_lives k t id u caller is) (stays_same k t caller)))

later_fair : (k : Plain) (t set : ℕ) (all : Bool) (wish : Wish) → IsCaller k t → IsFair k t (receive_later k t set all wish)
later_fair k t set all NoWait caller = fair_refused k t _
later_fair k t set all (Limit ticks) caller = fair_waiting k t _ (gentle_limited k t (ForEvents set all) ticks caller tt refl (λ _. refl) (joins_unowned k.semaphores k.threads t (Some (ForEvents set all)) refl))

receive_fair : (k : Plain) (t set : ℕ) (all : Bool) (wish : Wish) (got : Option ℕ) → IsCaller k t → IsFair k t (receive_by k t set all wish got)
receive_fair k t set all wish None caller = later_fair k t set all wish caller
receive_fair k t set all wish (Some n) caller = fair_done k t _ _ _ _ refl (pending_stays k k t t (left_of (thread_at k t).pending n) caller.acts.sound (ap has_begun caller.acts.started) (stays_same k t caller))

pub event_receive_fair : (k : Plain) (t set : ℕ) (all : Bool) (wish : Wish) → IsCaller k t → IsFair k t (event_receive k t set all wish)
event_receive_fair k t set all wish caller = fair_if k t (eqb set 0) _ _ (λ _. fair_done k t _ _ _ _ refl (stays_same k t caller)) (λ _. receive_fair k t set all wish (seized (thread_at k t).pending set all) caller)

-- ---- on lent parts

-- a task has seized events
pub seizes : (s : Scenario) (old mid new : List ClusterPart) (groups groups' : List GroupPart) (u pending got left : ℕ) → left ≡ left_of pending got → Puts old u (record (thread_lent old u) { pending = left }) mid → BecomesBoth s (λ k. end_wait k u (record { status = Successful; out = got })) mid groups new groups' → BecomesBoth s (λ k. with_seized k u pending (Some got)) old groups new groups'
seizes s old mid new groups groups' u pending got left is puts ends =
    let both = put_both s old mid new groups groups' u (record (thread_lent old u) { pending = left }) (λ k. end_wait k u (record { status = Successful; out = got })) puts ends in
    record {
      state = λ table laid. both.state table laid ∙ ap (λ p. end_wait (with_pending (joined s table old groups) u p) u (record { status = Successful; out = got })) is;
      kept = both.kept;
      framed = both.framed;
      held = both.held;
    }

-- events were sent to a task, which seizes them
pub sent_seizes : (s : Scenario) (old mid new : List ClusterPart) (groups groups' : List GroupPart) (u pending got : ℕ) (wait : Option Wait) → Some got ≡ seized_by pending wait → Puts old u (record (thread_lent old u) { pending = pending }) mid → BecomesBoth s (λ k. with_seized k u pending (Some got)) mid groups new groups' → BecomesBoth s (λ k. sent k u pending wait) old groups new groups'
sent_seizes s old mid new groups groups' u pending got wait is puts seizes =
    let both = put_both s old mid new groups groups' u (record (thread_lent old u) { pending = pending }) (λ k. with_seized k u pending (Some got)) puts seizes in
    record {
      state = λ table laid. both.state table laid ∙ ap (with_seized (with_pending (joined s table old groups) u pending) u pending) is;
      kept = both.kept;
      framed = both.framed;
      held = both.held;
    }

-- or doesn't
pub sent_alone : (s : Scenario) (old new : List ClusterPart) (groups : List GroupPart) (u pending : ℕ) (wait : Option Wait) → None ≡ seized_by pending wait → Puts old u (record (thread_lent old u) { pending = pending }) new → BecomesBoth s (λ k. sent k u pending wait) old groups new groups
sent_alone s old new groups u pending wait is puts =
    let alone = put_alone s old new u (record (thread_lent old u) { pending = pending }) puts in
    record {
      state = λ table laid. alone.state table groups laid ∙ ap (with_seized (with_pending (joined s table old groups) u pending) u pending) is;
      kept = alone.kept;
      framed = refl;
      held = still_held old new groups groups alone.held (λ i. refl);
    }

-- the row of event.send, by the task that is found
abbrev send_row : Plain → ℕ → Option ℕ → Outcome
send_row k set o = on_found o (λ u. done 0 (sent k u (bit_or (thread_at k u).pending set) (thread_at k u).wait))

pub sends : (s : Scenario) (old new : List ClusterPart) (groups groups' : List GroupPart) (t u set : ℕ) (id : Target) (thread : Thread) (answer : Answer) → task_named (lent old) t id ≡ Some u → thread ≡ thread_lent old u → answer ≡ told.Done Successful 0 None → ((s : Scenario) → BecomesBoth s (λ k. sent k u (bit_or thread.pending set) thread.wait) old groups new groups') → DoesBoth s (λ k. event_send k t id set) answer old groups new groups'
sends s old new groups groups' t u set id thread answer found here is becomes = record {
  told = λ table. (let k = joined s table old groups in is ∙ ap (λ o. answer_of (send_row k set o)) (sym found));
  state = λ table laid. (
      let k = joined s table old groups in
      (becomes s).state table laid ∙ ap (λ (x : Thread). sent k u (bit_or x.pending set) x.wait) here ∙ ap (λ o. changed k (send_row k set o)) (sym found));
  kept = (becomes s).kept;
  framed = (becomes s).framed;
  held = (becomes s).held;
}

-- nobody is asked for
pub sends_none : (s : Scenario) (old : List ClusterPart) (groups : List GroupPart) (t set : ℕ) (id : Target) → task_named (lent old) t id ≡ None → DoesBoth s (λ k. event_send k t id set) (told.Refused InvalidId) old groups old groups
sends_none s old groups t set id found = record {
  told = λ table. (let k = joined s table old groups in ap (λ o. answer_of (send_row k set o)) (sym found));
  state = λ table laid. (let k = joined s table old groups in ap (λ o. changed k (send_row k set o)) (sym found));
  kept = refl;
  framed = refl;
  held = λ h. h;
}

-- the row of event.receive for a set that isn't empty, by the events that are seized
abbrev receive_row : Plain → ℕ → ℕ → Bool → Wish → Bool → Option ℕ → Outcome
receive_row k t set all wish empty o = cond empty (done (thread_at k t).pending k) (receive_by k t set all wish o)

-- the caller begins to wait
pub receives_later : (s : Scenario) (old new : List ClusterPart) (t set pending ticks : ℕ) (all : Bool) → (set == 0) ≡ false → pending ≡ (thread_lent old t).pending → None ≡ seized pending set all → ((s : Scenario) → Becomes s (λ k. start_limited k t (ForEvents set all) ticks) old new) → Does s (λ k. event_receive k t set all (Limit ticks)) told.Waiting old new
receives_later s old new t set pending ticks all some here is becomes =
    let none : seized (thread_lent old t).pending set all ≡ None = ap (λ p. seized p set all) (sym here) ∙ sym is in
    record {
      told = λ table groups. (
          let k = joined s table old groups in
          ap (λ o. answer_of (receive_row k t set all (Limit ticks) false o)) (sym none)
          ∙ ap (λ b. answer_of (receive_row k t set all (Limit ticks) b (seized (thread_at k t).pending set all))) (sym some));
      state = λ table groups laid. (
          let k = joined s table old groups in
          (becomes s).state table groups laid ∙ ap (λ o. changed k (receive_row k t set all (Limit ticks) false o)) (sym none)
          ∙ ap (λ b. changed k (receive_row k t set all (Limit ticks) b (seized (thread_at k t).pending set all))) (sym some));
      kept = (becomes s).kept;
      held = (becomes s).held;
    }

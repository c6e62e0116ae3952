-- What directives do to the parts that are lent, step by step.
use Rattle.std.proofs.Common.{◌≡◌, ◌≢◌, ℕ, ◌+◌, ◌<◌, List, [], ◌∷◌, ◌++◌, Bool, true, false, cond, ◌==◌, ◌||◌, nat_lt, Option, Some, None, length, arith, refl, sym, ap, ◌∙◌, subst}
use Rattle.std.specs.Prelude.{IsSome}
use Rattle.std.proofs.lemmas.Bool.{false≢true}
use Rattle.std.proofs.lemmas.Bool.Decides.{nat_tests}
use Rattle.rk_model.specs.declared.entry.Reply.{Reply}
use Rattle.rk_model.specs.declared.ids.Class.TheVariants.{Task}
use Rattle.rk_model.specs.declared.scenario.Scenario.{Scenario}
use Rattle.rk_model.specs.declared.scenario.Target.{Target}
use Rattle.rk_model.specs.declared.status.Status.TheVariants.{Successful, InvalidId, InvalidPriority, NotDefined, ResourceInUse}
use Rattle.rk_model.specs.declared.state.Armed.{Armed}
use Rattle.rk_model.specs.declared.state.Armer.TheVariants.{Thread as OfThread}
use Rattle.rk_model.specs.declared.state.Thread.{Thread}
use Rattle.rk_model.specs.declared.state.Wait.{Wait}
use Rattle.rk_model.specs.declared.state.Wait.TheVariants.{ForTime}
use Rattle.rk_model.specs.declared.limits.TheConstants.{LEAST_URGENT}
use Rattle.rk_model.specs.Lists.{nth}
use Rattle.rk_model.specs.Scheduling.Priorities.{contribution, home_prio, is_behind, or_least_urgent, own, prio}
use Rattle.rk_model.specs.Names.{Table}
use Rattle.rk_model.specs.State.{Plain, no_thread, thread_at, put_thread}
use Rattle.rk_model.specs.Scheduling.Timers.{times_armed, arm, cancel, without_timer}
use Rattle.rk_model.specs.Directives.Objects.{has_begun, without_object}
use Rattle.rk_model.specs.declared.entry.Answer.{Answer}
use Rattle.rk_model.specs.declared.entry.Answer.TheVariants as told
use Rattle.rk_model.specs.Directives.Outcomes.{Outcome, Refused, Done, Gone, Waiting, done, on_found, answer_of, changed}
use Rattle.rk_model.specs.Directives.Waits.{object_of_wait, start_wait, start_limited, begin_limited, stop_wait, end_wait}
use Rattle.rk_model.specs.Directives.Semaphores.{has_obtained}
use Rattle.rk_model.specs.Directives.Tasks.{task_named, has_created, task_removed, task_delete, task_get_priority, task_set_priority, told_prio, with_base, without_task}
use Rattle.rk_parts.specs.declared.parts.ClusterPart.{ClusterPart}
use Rattle.rk_groups.specs.declared.group.GroupPart.{GroupPart}
use Rattle.rk_parts.specs.declared.parts.AllParts.{AllParts}
use Rattle.rk_groups.specs.GroupObjects.{semaphores_of, periods_of}
use Rattle.rk_parts.specs.Joined.{joined, lent, present_of, threads_of, thread_lent, timers_lent, plain_of}
use Rattle.rk_groups.specs.Groups.{Leaves}
use Rattle.rk_model.proofs.IndexLemmas.{nth-with_kept}
use Rattle.rk_parts.specs.Lent.{number_in, AreLaid, layouts, Frame, frame, Puts, Replaces, PutsTimers, with_timers}
use Rattle.rk_parts.specs.Noted.{part_at}
use Rattle.rk_parts.specs.Whole.{AreWhole}
use Rattle.rk_parts.proofs.GroupJoinedLemmas.{left_joined}
use Rattle.rk_parts.proofs.PutLemmas.{put_joined, length_clusters}
use Rattle.rk_parts.proofs.LentTimerLemmas.{timers_home}
use Rattle.rk_parts.proofs.WholeLemmas.{lent_whole}
use Rattle.rk_parts.proofs.HeldLemmas.{lives_found, found_lives, held_found}
use Rattle.rk_parts.proofs.LayoutLemmas.{lie}
use Rattle.rk_parts.proofs.SettledPartLemmas.{thread_any}
use Rattle.rk_directives.specs.Calls.{IsActing}
use Rattle.rk_directives.specs.Does.{Becomes, BecomesBoth, BecomesEvery, Does, DoesBoth, DoesEvery, DoesGroups, DoesWide, DoesAll, HaveEachPriority, HavePriorities, Tells, lent_both, with_table}
use Rattle.rk_directives.proofs.KeptHoldingLemmas.{still_held, left_owners}
use Rattle.rk_directives.proofs.OutcomeLemmas.{none_armed}

-- parts that keep their frame are laid as before
pub laid_kept : (counts : List ℕ) (old new : List ClusterPart) → frame new ≡ frame old → AreLaid counts (layouts old) → AreLaid counts (layouts new)
laid_kept counts old new kept laid = subst (λ (f : Frame). AreLaid counts f.layouts) (sym kept) laid

-- the home of a thread that lives is a cluster of the state
pub home_known : (counts : List ℕ) (parts : List ClusterPart) (t : ℕ) → AreLaid counts (layouts parts) → has_begun (thread_lent parts t).life ≡ true → (thread_lent parts t).home < length counts
home_known counts parts t laid lives =
    let is = lie counts parts laid in
    let any = thread_any counts parts t is in
    let f = lives_found parts t (ap (λ (x : Thread). has_begun x.life) (sym any) ∙ lives) in
    let there = found_lives parts f.at t f.found in
    let home : (thread_lent parts t).home ≡ (part_at parts f.at).lined.number = ap (λ (x : Thread). x.home) (any ∙ held_found parts f.at t f.found) ∙ is.home f.at t there in
    rw home (is.known f.at t there)

-- the state after a thread was put
pub puts_state : (s : Scenario) (table : Table) (groups : List GroupPart) (old new : List ClusterPart) (t : ℕ) (x : Thread) → Puts old t x new → joined s table new groups ≡ put_thread (joined s table old groups) t x
puts_state s table groups old new t x puts = put_joined s table groups old new t x puts.present (λ i. puts.clusters i s.clusters) puts.threads

same_thread : (old mid : List ClusterPart) (t : ℕ) → threads_of mid ≡ threads_of old → thread_lent mid t ≡ thread_lent old t
same_thread old mid t e = ap (λ (ts : List Thread). nth no_thread ts t) e

pub not_zero : (ticks : ℕ) → ticks ≢ 0 → (ticks == 0) ≡ false
not_zero ticks some = grind (arith, nat_tests, some)

with_limit : (k : Plain) (t : ℕ) (wait : Wait) (ticks : ℕ) → (ticks == 0) ≡ false → start_limited k t wait ticks ≡ arm (start_wait k t wait) (thread_at k t).home (record { who = OfThread t; due = k.present + ticks })
with_limit k t wait ticks some = rw some refl

-- a timer was armed, and the thread waits
pub limited : (s : Scenario) (old mid new : List ClusterPart) (t : ℕ) (wait : Wait) (ticks due : ℕ) → (ticks == 0) ≡ false → due ≡ present_of old + ticks → PutsTimers old t (λ (timers : List Armed). timers ++ (record { who = OfThread t; due = due }) ∷ []) mid → Puts mid t (record (thread_lent mid t) { wait = Some wait }) new → Becomes s (λ k. start_limited k t wait ticks) old new
limited s old mid new t wait ticks due some is armed puts = record {
  state = λ table groups laid. (
      let k = joined s table old groups in
      puts_state s table groups mid new t _ puts
      ∙ ap (λ (n : Plain). put_thread n t (record (thread_lent mid t) { wait = Some wait })) (armed.state s table groups laid)
      ∙ ap (λ (x : Thread). put_thread (with_timers k (thread_lent old t).home (λ (timers : List Armed). timers ++ (record { who = OfThread t; due = due }) ∷ [])) t (record x { wait = Some wait })) (same_thread old mid t armed.threads)
      ∙ ap (λ d. arm (start_wait k t wait) (thread_at k t).home (record { who = OfThread t; due = d })) is
      ∙ sym (with_limit k t wait ticks some));
  kept = puts.kept ∙ armed.kept;
  held = puts.held ∙ armed.held;
}

-- a timer was cancelled, and its thread waits no longer
pub stopped : (s : Scenario) (old mid new : List ClusterPart) (t : ℕ) (reply : Reply) → PutsTimers old t (without_timer (OfThread t)) mid → Puts mid t (record (thread_lent mid t) { wait = None; finished = Some reply }) new → Becomes s (λ k. stop_wait k t reply) old new
stopped s old mid new t reply cancelled puts = record {
  state = λ table groups laid.
      puts_state s table groups mid new t _ puts
      ∙ ap (λ (n : Plain). put_thread n t (record (thread_lent mid t) { wait = None; finished = Some reply })) (cancelled.state s table groups laid)
      ∙ ap (λ (x : Thread). put_thread (cancel (joined s table old groups) (thread_lent old t).home (OfThread t)) t (record x { wait = None; finished = Some reply })) (same_thread old mid t cancelled.threads);
  kept = puts.kept ∙ cancelled.kept;
  held = puts.held ∙ cancelled.held;
}

-- which leaves lives alone
pub stopped_lives : (old mid new : List ClusterPart) (t : ℕ) (reply : Reply) → PutsTimers old t (without_timer (OfThread t)) mid → Puts mid t (record (thread_lent mid t) { wait = None; finished = Some reply }) new → (u : ℕ) → has_begun (thread_lent new u).life ≡ has_begun (thread_lent old u).life
stopped_lives old mid new t reply cancelled puts u =
    ap (λ (ts : List Thread). has_begun (nth no_thread ts u).life) puts.threads
    ∙ nth-with_kept (λ (x : Thread). has_begun x.life) no_thread (record (thread_lent mid t) { wait = None; finished = Some reply }) (threads_of mid) t u refl
    ∙ ap (λ (ts : List Thread). has_begun (nth no_thread ts u).life) cancelled.threads

-- a thread has left its queue, and waits no longer: its wait has ended
pub ended : (s : Scenario) (old new : List ClusterPart) (groups groups' : List GroupPart) (t : ℕ) (wait : Option Wait) (reply : Reply) → wait ≡ (thread_lent old t).wait → Leaves groups t (object_of_wait wait) groups' → Becomes s (λ k. stop_wait k t reply) old new → BecomesBoth s (λ k. end_wait k t reply) old groups new groups'
ended s old new groups groups' t wait reply is leaves stops = record {
  state = λ table laid. stops.state table groups' laid ∙ ap (λ (n : Plain). stop_wait n t reply) (left_joined s table old groups groups' t wait is leaves);
  kept = stops.kept;
  framed = leaves.kept;
  held = still_held old new groups groups' stops.held (left_owners groups groups' t (object_of_wait wait) leaves);
}

-- a thread has left its queue, its timer was cancelled, it was removed, and its name taken away
pub deleted : (s : Scenario) (old mid new : List ClusterPart) (groups groups' : List GroupPart) (table table' : Table) (t : ℕ) (wait : Option Wait) → wait ≡ (thread_lent old t).wait → Leaves groups t (object_of_wait wait) groups' → PutsTimers old t (without_timer (OfThread t)) mid → Replaces mid t no_thread new → ((k : Plain) → with_table k table' ≡ without_object (with_table k table) Task t) → BecomesEvery s (λ k. without_task k t) old groups table new groups' table'
deleted s old mid new groups groups' table table' t wait is leaves cancelled replaces removed = record {
  state = λ laid.
      replaces.state s table' groups' (laid_kept s.clusters old mid cancelled.kept laid)
      ∙ ap (λ (n : Plain). put_thread n t no_thread) (removed (joined s table mid groups'))
      ∙ ap (λ (n : Plain). without_object (put_thread n t no_thread) Task t) (cancelled.state s table groups' laid)
      ∙ ap (λ (n : Plain). without_object (put_thread (cancel n (thread_lent old t).home (OfThread t)) t no_thread) Task t) (left_joined s table old groups groups' t wait is leaves);
  laid = λ laid. replaces.laid s.clusters (laid_kept s.clusters old mid cancelled.kept laid) (λ h. absurd (false≢true h));
  kept = replaces.kept ∙ ap (λ (f : Frame). f.stored) cancelled.kept;
  accounts = replaces.accounts ∙ ap (λ (f : Frame). f.accounts) cancelled.kept;
  framed = leaves.kept;
  held = still_held old new groups groups' (replaces.held ∙ cancelled.held) (left_owners groups groups' t (object_of_wait wait) leaves);
}

-- a thread was put
pub put_alone : (s : Scenario) (old new : List ClusterPart) (t : ℕ) (x : Thread) → Puts old t x new → Becomes s (λ k. put_thread k t x) old new
put_alone s old new t x puts = record { state = λ table groups laid. puts_state s table groups old new t x puts; kept = puts.kept; held = puts.held }

-- a thread was put, and then the state changed further
pub put_then : (s : Scenario) (old mid new : List ClusterPart) (t : ℕ) (x : Thread) (change : Plain → Plain) → Puts old t x mid → Becomes s change mid new → Becomes s (λ k. change (put_thread k t x)) old new
put_then s old mid new t x change puts becomes = record {
  state = λ table groups laid. becomes.state table groups (laid_kept s.clusters old mid puts.kept laid) ∙ ap change (puts_state s table groups old mid t x puts);
  kept = becomes.kept ∙ puts.kept;
  held = becomes.held ∙ puts.held;
}

-- the same, of groups too
pub put_both : (s : Scenario) (old mid new : List ClusterPart) (groups groups' : List GroupPart) (t : ℕ) (x : Thread) (change : Plain → Plain) → Puts old t x mid → BecomesBoth s change mid groups new groups' → BecomesBoth s (λ k. change (put_thread k t x)) old groups new groups'
put_both s old mid new groups groups' t x change puts becomes = record {
  state = λ table laid. becomes.state table (laid_kept s.clusters old mid puts.kept laid) ∙ ap change (puts_state s table groups old mid t x puts);
  kept = becomes.kept ∙ puts.kept;
  framed = becomes.framed;
  held = λ h. becomes.held (still_held old mid groups groups puts.held (λ i. refl) h);
}

-- what changes parts of clusters alone changes no group
pub both_of : (s : Scenario) (change : Plain → Plain) (old new : List ClusterPart) (groups : List GroupPart) → Becomes s change old new → BecomesBoth s change old groups new groups
both_of s change old new groups becomes = record { state = λ table. becomes.state table groups; kept = becomes.kept; framed = refl; held = still_held old new groups groups becomes.held (λ i. refl) }

-- ---- rows

-- a row that is lent parts of clusters alone
pub does_both : (s : Scenario) (row : Plain → Outcome) (answer : Answer) (old new : List ClusterPart) (groups : List GroupPart) → Does s row answer old new → DoesBoth s row answer old groups new groups
does_both s row answer old new groups does = record { told = λ table. does.told table groups; state = λ table. does.state table groups; kept = does.kept; framed = refl; held = still_held old new groups groups does.held (λ i. refl) }

-- a row on what a caller asks for, which isn't found,
pub unknown_both : (s : Scenario) (old : List ClusterPart) (groups : List GroupPart) (named : Plain → Option ℕ) (row : Plain → ℕ → Outcome) → ((table : Table) → named (joined s table old groups) ≡ None) → DoesBoth s (λ k. on_found (named k) (row k)) (told.Refused InvalidId) old groups old groups
unknown_both s old groups named row none = record {
  told = λ table. (let k = joined s table old groups in ap (λ o. answer_of (on_found o (row k))) (sym (none table)));
  state = λ table laid. (let k = joined s table old groups in ap (λ o. changed k (on_found o (row k))) (sym (none table)));
  kept = refl;
  framed = refl;
  held = λ h. h;
}

-- and is
pub found_both : (s : Scenario) (old new : List ClusterPart) (groups groups' : List GroupPart) (named : Plain → Option ℕ) (row : Plain → ℕ → Outcome) (i : ℕ) (answer : Answer) → ((table : Table) → named (joined s table old groups) ≡ Some i) → DoesBoth s (λ k. row k i) answer old groups new groups' → DoesBoth s (λ k. on_found (named k) (row k)) answer old groups new groups'
found_both s old new groups groups' named row i answer found does = record {
  told = λ table. (let k = joined s table old groups in does.told table ∙ ap (λ o. answer_of (on_found o (row k))) (sym (found table)));
  state = λ table laid. (let k = joined s table old groups in does.state table laid ∙ ap (λ o. changed k (on_found o (row k))) (sym (found table)));
  kept = does.kept;
  framed = does.framed;
  held = does.held;
}

-- the same of a row that is lent the table too,
pub unknown_every : (s : Scenario) (old : List ClusterPart) (groups : List GroupPart) (table : Table) (named : Plain → Option ℕ) (row : Plain → ℕ → Outcome) → named (joined s table old groups) ≡ None → DoesEvery s (λ k. on_found (named k) (row k)) (told.Refused InvalidId) old groups table old groups table
unknown_every s old groups table named row none =
    let k = joined s table old groups in
    record {
      told = ap (λ o. answer_of (on_found o (row k))) (sym none);
      state = λ laid. ap (λ o. changed k (on_found o (row k))) (sym none);
      laid = λ laid. laid;
      kept = refl;
      accounts = refl;
      framed = refl;
      held = λ h. h;
    }

pub found_every : (s : Scenario) (old new : List ClusterPart) (groups groups' : List GroupPart) (table table' : Table) (named : Plain → Option ℕ) (row : Plain → ℕ → Outcome) (i : ℕ) (answer : Answer) → named (joined s table old groups) ≡ Some i → DoesEvery s (λ k. row k i) answer old groups table new groups' table' → DoesEvery s (λ k. on_found (named k) (row k)) answer old groups table new groups' table'
found_every s old new groups groups' table table' named row i answer found does =
    let k = joined s table old groups in
    record {
      told = does.told ∙ ap (λ o. answer_of (on_found o (row k))) (sym found);
      state = λ laid. does.state laid ∙ ap (λ o. changed k (on_found o (row k))) (sym found);
      laid = does.laid;
      kept = does.kept;
      accounts = does.accounts;
      framed = does.framed;
      held = does.held;
    }

-- and needs no part of a cluster once it is found
pub found_grouped : (s : Scenario) (old : List ClusterPart) (groups groups' : List GroupPart) (table table' : Table) (named : Plain → Option ℕ) (row : Plain → ℕ → Outcome) (i : ℕ) (answer : Answer) → named (joined s table old groups) ≡ Some i → DoesGroups s (λ k. row k i) answer groups table groups' table' → DoesEvery s (λ k. on_found (named k) (row k)) answer old groups table old groups' table'
found_grouped s old groups groups' table table' named row i answer found does =
    let k = joined s table old groups in
    record {
      told = does.told old ∙ ap (λ o. answer_of (on_found o (row k))) (sym found);
      state = λ laid. does.state old ∙ ap (λ o. changed k (on_found o (row k))) (sym found);
      laid = λ laid. laid;
      kept = refl;
      accounts = refl;
      framed = does.framed;
      held = still_held old old groups groups' refl does.owners;
    }

-- a row that comes to waiting in the state that the parts become
pub waits : (s : Scenario) (row : Plain → Outcome) (change : Plain → Plain) (old new : List ClusterPart) → ((k : Plain) → row k ≡ Waiting (change k)) → Becomes s change old new → Does s row told.Waiting old new
waits s row change old new is becomes = record {
  told = λ table groups. ap answer_of (sym (is (joined s table old groups)));
  state = λ table groups laid. becomes.state table groups laid ∙ ap (changed (joined s table old groups)) (sym (is (joined s table old groups)));
  kept = becomes.kept;
  held = becomes.held;
}

-- ---- rows of the task manager

-- a sleep stands in no queue
pub later : (old new : List ClusterPart) (t ticks : ℕ) (s : Scenario) → Becomes s (λ k. start_limited k t ForTime ticks) old new → Becomes s (λ k. begin_limited k t ForTime ticks) old new
later old new t ticks s becomes = record { state = becomes.state; kept = becomes.kept; held = becomes.held }

-- parts that have the priorities in each cluster have those at home
pub home_priorities : (parts : List ClusterPart) (groups : List GroupPart) → HaveEachPriority parts groups → HavePriorities parts groups
unfolding home_prio
home_priorities parts groups each t one = ap or_least_urgent (each t (thread_lent parts t).home one)

-- the priority of a thread in its home is the same in each state that the parts stand for
pub home_prio_lent : (s : Scenario) (table : Table) (parts : List ClusterPart) (groups : List GroupPart) (t : ℕ) → home_prio (lent_both parts groups) t ≡ home_prio (joined s table parts groups) t
unfolding home_prio prio contribution is_behind own
home_prio_lent s table parts groups t = refl

-- and so is that in any cluster
prio_both : (s : Scenario) (table : Table) (parts : List ClusterPart) (groups : List GroupPart) (t c : ℕ) → prio (lent_both parts groups) t c ≡ prio (joined s table parts groups) t c
unfolding prio contribution is_behind own
prio_both s table parts groups t c = refl

-- what is answered where a task has this priority, or none
abbrev told_by : Option ℕ → Answer
told_by None = told.Refused NotDefined
told_by (Some p) = told.Done Successful p None

answer_told : (k : Plain) (o : Option ℕ) → answer_of (told_prio k o) ≡ told_by o
answer_told k None = refl
answer_told k (Some p) = refl

changed_told : (k : Plain) (o : Option ℕ) → changed k (told_prio k o) ≡ k
changed_told k None = refl
changed_told k (Some p) = refl

-- the priority of a task in a cluster was told
pub tells_prio : (s : Scenario) (old : List ClusterPart) (groups : List GroupPart) (t u c : ℕ) (id : Target) (o : Option ℕ) (answer : Answer) → task_named (lent old) t id ≡ Some u → o ≡ prio (lent_both old groups) u c → answer ≡ told_by o → DoesBoth s (λ k. task_get_priority k t id c) answer old groups old groups
tells_prio s old groups t u c id o answer found same is = record {
  told = λ table. (let k = joined s table old groups in is ∙ ap told_by (same ∙ prio_both s table old groups u c) ∙ sym (answer_told k (prio k u c)) ∙ ap (λ f. answer_of (on_found f (λ v. told_prio k (prio k v c)))) (sym found));
  state = λ table laid. (let k = joined s table old groups in sym (changed_told k (prio k u c)) ∙ ap (λ f. changed k (on_found f (λ v. told_prio k (prio k v c)))) (sym found));
  kept = refl;
  framed = refl;
  held = λ h. h;
}

-- the rule, by what was found
abbrev set_row : Plain → ℕ → Option ℕ → Outcome
set_row k prio o = on_found o (λ u. cond (nat_lt LEAST_URGENT prio) (Refused InvalidPriority) (cond (prio == 0) (done (home_prio k u) k) (Done Successful (home_prio k u) (with_base k u prio) (Some u))))

-- the priority of a task in its home was told
pub tells_priority : (s : Scenario) (old : List ClusterPart) (groups : List GroupPart) (t u before : ℕ) (id : Target) → task_named (lent old) t id ≡ Some u → before ≡ home_prio (lent_both old groups) u → DoesBoth s (λ k. task_set_priority k t id 0) (told.Done Successful before None) old groups old groups
tells_priority s old groups t u before id found is = record {
  told = λ table. (let k = joined s table old groups in ap (λ p. told.Done Successful p None) (is ∙ home_prio_lent s table old groups u) ∙ ap (λ o. answer_of (set_row k 0 o)) (sym found));
  state = λ table laid. (let k = joined s table old groups in ap (λ o. changed k (set_row k 0 o)) (sym found));
  kept = refl;
  framed = refl;
  held = λ h. h;
}

-- and its base priority was set
pub sets_priority : (s : Scenario) (old new : List ClusterPart) (groups : List GroupPart) (t u prio base before : ℕ) (id : Target) → task_named (lent old) t id ≡ Some u → nat_lt LEAST_URGENT prio ≡ false → (prio == 0) ≡ false → base ≡ prio → before ≡ home_prio (lent_both old groups) u → Puts old u (record (thread_lent old u) { base = base }) new → DoesBoth s (λ k. task_set_priority k t id prio) (told.Done Successful before (Some u)) old groups new groups
sets_priority s old new groups t u prio base before id found few some same is puts =
    let row : (k : Plain) → set_row k prio (Some u) ≡ Done Successful (home_prio k u) (with_base k u prio) (Some u) = λ k. rw (few, some) refl in
    record {
      told = λ table. (let k = joined s table old groups in ap (λ p. told.Done Successful p (Some u)) (is ∙ home_prio_lent s table old groups u) ∙ ap answer_of (sym (row k)) ∙ ap (λ o. answer_of (set_row k prio o)) (sym found));
      state = λ table laid. (let k = joined s table old groups in puts_state s table groups old new u _ puts ∙ ap (with_base k u) same ∙ ap (changed k) (sym (row k)) ∙ ap (λ o. changed k (set_row k prio o)) (sym found));
      kept = puts.kept;
      framed = refl;
      held = still_held old new groups groups puts.held (λ i. refl);
    }

-- the rule, by what was found
abbrev delete_row : Plain → ℕ → Option ℕ → Outcome
delete_row k t o = on_found o (λ u. cond (has_obtained k.semaphores u || has_created k.periods u) (Refused ResourceInUse) (task_removed k t u))

answer_by : (b : Bool) (k : Plain) → cond b (told.Gone Successful) (told.Done Successful 0 None) ≡ answer_of (cond b (Gone Successful k) (done 0 k))
answer_by true k = refl
answer_by false k = refl

changed_by : (b : Bool) (k next : Plain) → changed k (cond b (Gone Successful next) (done 0 next)) ≡ next
changed_by true k next = refl
changed_by false k next = refl

-- a task was deleted, which owns no semaphore and created no period
pub deletes : (s : Scenario) (old new : List ClusterPart) (groups groups' : List GroupPart) (table table' : Table) (t u : ℕ) (id : Target) (answer : Answer) → task_named (lent old) t id ≡ Some u → (has_obtained (semaphores_of groups) u || has_created (periods_of groups) u) ≡ false → answer ≡ cond (u == t) (told.Gone Successful) (told.Done Successful 0 None) → BecomesEvery s (λ k. without_task k u) old groups table new groups' table' → DoesEvery s (λ k. task_delete k t id) answer old groups table new groups' table'
deletes s old new groups groups' table table' t u id answer found free is becomes =
    let k = joined s table old groups in
    record {
      told = is ∙ answer_by (u == t) (without_task k u) ∙ ap (λ b. answer_of (cond b (Refused ResourceInUse) (task_removed k t u))) (sym free) ∙ ap (λ o. answer_of (delete_row k t o)) (sym found);
      state = λ laid. becomes.state laid ∙ sym (ap (λ o. changed k (delete_row k t o)) found ∙ ap (λ b. changed k (cond b (Refused ResourceInUse) (task_removed k t u))) free ∙ changed_by (u == t) k (without_task k u));
      laid = becomes.laid;
      kept = becomes.kept;
      accounts = becomes.accounts;
      framed = becomes.framed;
      held = becomes.held;
    }

-- and one that owns a semaphore or created a period isn't
pub deletes_not : (s : Scenario) (old : List ClusterPart) (groups : List GroupPart) (table : Table) (t u : ℕ) (id : Target) → task_named (lent old) t id ≡ Some u → (has_obtained (semaphores_of groups) u || has_created (periods_of groups) u) ≡ true → DoesEvery s (λ k. task_delete k t id) (told.Refused ResourceInUse) old groups table old groups table
deletes_not s old groups table t u id found created =
    let k = joined s table old groups in
    record {
      told = ap (λ b. answer_of (cond b (Refused ResourceInUse) (task_removed k t u))) (sym created) ∙ ap (λ o. answer_of (delete_row k t o)) (sym found);
      state = λ laid. sym (ap (λ o. changed k (delete_row k t o)) found ∙ ap (λ b. changed k (cond b (Refused ResourceInUse) (task_removed k t u))) created);
      laid = λ laid. laid;
      kept = refl;
      accounts = refl;
      framed = refl;
      held = λ h. h;
    }

-- ---- all parts

-- a narrow row on all parts
pub all_narrow : (all : AllParts) (new : List ClusterPart) (row : Plain → Outcome) (answer : Answer) → AreWhole all → Does all.scenario row answer all.clusters new → DoesAll (row (plain_of all)) answer all (record all { clusters = new })
all_narrow all new row answer whole does = record {
  told = does.told all.table.names all.groups;
  state = does.state all.table.names all.groups whole.laid;
  laid = laid_kept all.scenario.clusters all.clusters new does.kept whole.laid;
  kept = ap (λ (f : Frame). f.stored) does.kept;
  accounts = ap (λ (f : Frame). f.accounts) does.kept;
  held = still_held all.clusters new all.groups all.groups does.held (λ i. refl) whole.held;
  rest = refl;
}

-- a narrow row on all parts of clusters and groups
pub all_both : (all : AllParts) (new : List ClusterPart) (groups : List GroupPart) (row : Plain → Outcome) (answer : Answer) → AreWhole all → DoesBoth all.scenario row answer all.clusters all.groups new groups → DoesAll (row (plain_of all)) answer all (record all { clusters = new; groups = groups })
all_both all new groups row answer whole does = record {
  told = does.told all.table.names;
  state = does.state all.table.names whole.laid;
  laid = laid_kept all.scenario.clusters all.clusters new does.kept whole.laid;
  kept = ap (λ (f : Frame). f.stored) does.kept;
  accounts = ap (λ (f : Frame). f.accounts) does.kept;
  held = does.held whole.held;
  rest = λ i. record { scenario = all.scenario; groups = does.framed i; time = all.table.present };
}

-- a wide row on all of them and the table
pub all_every : (all : AllParts) (new : List ClusterPart) (groups : List GroupPart) (table : Table) (row : Plain → Outcome) (answer : Answer) → AreWhole all → DoesEvery all.scenario row answer all.clusters all.groups all.table.names new groups table → DoesAll (row (plain_of all)) answer all (record all { clusters = new; groups = groups; table = record all.table { names = table } })
all_every all new groups table row answer whole does = record {
  told = does.told;
  state = does.state whole.laid;
  laid = does.laid whole.laid;
  kept = does.kept;
  accounts = does.accounts;
  held = does.held whole.held;
  rest = λ i. record { scenario = all.scenario; groups = does.framed i; time = all.table.present };
}

-- a wide row on all parts of groups and the table
pub all_grouped : (all : AllParts) (groups : List GroupPart) (table : Table) (row : Plain → Outcome) (answer : Answer) → AreWhole all → DoesGroups all.scenario row answer all.groups all.table.names groups table → DoesAll (row (plain_of all)) answer all (record all { groups = groups; table = record all.table { names = table } })
all_grouped all groups table row answer whole does = record {
  told = does.told all.clusters;
  state = does.state all.clusters;
  laid = whole.laid;
  kept = refl;
  accounts = refl;
  held = still_held all.clusters all.clusters all.groups groups refl does.owners whole.held;
  rest = λ i. record { scenario = all.scenario; groups = does.framed i; time = all.table.present };
}

-- a wide row on all parts
pub all_wide : (all : AllParts) (new : List ClusterPart) (table : Table) (row : Plain → Outcome) (answer : Answer) → AreWhole all → DoesWide all.scenario row answer all.clusters all.table.names new table → DoesAll (row (plain_of all)) answer all (record all { clusters = new; table = record all.table { names = table } })
all_wide all new table row answer whole does = record {
  told = does.told all.groups;
  state = does.state all.groups whole.laid;
  laid = does.laid whole.laid;
  kept = does.kept;
  accounts = does.accounts;
  held = still_held all.clusters new all.groups all.groups does.held (λ i. refl) whole.held;
  rest = refl;
}

-- a row that changes nothing
pub all_tells : (all : AllParts) (o : Outcome) (answer : Answer) → AreWhole all → Tells o answer (plain_of all) → DoesAll o answer all all
all_tells all o answer whole tells = record { told = tells.told; state = sym tells.state; laid = whole.laid; kept = refl; accounts = refl; held = whole.held; rest = refl }

lives_acting : (all : AllParts) (t : ℕ) → IsActing (plain_of all) t → has_begun (thread_lent all.clusters t).life ≡ true
lives_acting all t acts = ap has_begun acts.started

-- a thread that acts has no timer
pub caller_unarmed : (all : AllParts) (t : ℕ) → AreWhole all → IsActing (plain_of all) t → times_armed (OfThread t) (timers_lent all.clusters t) ≡ 0
caller_unarmed all t whole acts =
    let same = timers_home all.scenario all.table.names all.groups all.clusters t acts.low acts.high whole.laid (lives_acting all t acts) in
    ap (times_armed (OfThread t)) same ∙ none_armed (plain_of all) t acts

-- the part of its home is lent
pub caller_lent : (all : AllParts) (t : ℕ) → AreWhole all → IsActing (plain_of all) t → IsSome (number_in all.clusters (thread_lent all.clusters t).home)
caller_lent all t whole acts =
    let few = length_clusters all.scenario.clusters all.clusters in
    let found = lent_whole all (thread_lent all.clusters t).home whole (omega (arith, few, acts.sound.few_clusters)) (home_known all.scenario.clusters all.clusters t whole.laid (lives_acting all t acts)) in
    rw found refl

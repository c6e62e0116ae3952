-- What the directives of the rate-monotonic manager, and the end of a period, do to lent parts.
use Rattle.std.proofs.Common.{◌≡◌, ℕ, ◌+◌, List, [], ◌∷◌, ◌++◌, Bool, true, false, cond, nat_lt, ◌==◌, ◌&&◌, Some, None, Ok, Err, length, arith, refl, sym, ap, ◌∙◌}
use Rattle.std.proofs.lemmas.Bool.Decides.{nat_tests}
use Rattle.rk_model.specs.declared.entry.Answer.{Answer}
use Rattle.rk_model.specs.declared.entry.Answer.TheVariants as told
use Rattle.rk_model.specs.declared.entry.Reply.{Reply}
use Rattle.rk_model.specs.declared.ids.Class.TheVariants.{Period}
use Rattle.rk_model.specs.declared.period.Job.{Job}
use Rattle.rk_model.specs.declared.period.Phase.{Phase}
use Rattle.rk_model.specs.declared.period.Phase.TheVariants.{Inactive, Active, Awaited, Expired}
use Rattle.rk_model.specs.declared.scenario.Scenario.{Scenario}
use Rattle.rk_model.specs.declared.state.Armed.{Armed}
use Rattle.rk_model.specs.declared.state.Armer.TheVariants.{Period as OfPeriod}
use Rattle.rk_model.specs.declared.state.Wait.TheVariants.{ForPeriod}
use Rattle.rk_model.specs.declared.status.Status.{Status}
use Rattle.rk_model.specs.declared.status.Status.TheVariants.{Successful, Timeout, ResourceInUse, NotOwnerOfResource, Waits}
use Rattle.rk_model.specs.Ids.{id_of}
use Rattle.rk_model.specs.Names.{Table, no_objects}
use Rattle.rk_model.specs.State.{Plain, PeriodState, no_period, put_thread, period_at, put_period}
use Rattle.rk_model.specs.Scheduling.Timers.{without_timer, arm}
use Rattle.rk_model.specs.Directives.Objects.{without_object}
use Rattle.rk_model.specs.Directives.Outcomes.{Outcome, Refused, Waiting, done, answer_of, changed}
use Rattle.rk_model.specs.Directives.Periods.{end_of, is_awaited, next_begun, new_period, period_create, asked, with_next, begins, called, passed, rearmed, passed_by, end_passed, stop, cancelled, cancelled_by, without_period, ended_at}
use Rattle.rk_model.specs.Directives.Waits.{bare, begin_limited, end_wait}
use Rattle.rk_period.specs.declared.period.Passed.{Passed}
use Rattle.rk_period.specs.declared.period.Passed.TheVariants.{Woke, Postponed}
use Rattle.rk_period.specs.Periods.{called as called_on, status_of_query, status_of_begin, reply_to_call, passing_of, cancelled_by as cancelled_on, reply_to_cancel, removed, reply_to_remove}
use Rattle.rk_parts.specs.declared.parts.ClusterPart.{ClusterPart}
use Rattle.rk_groups.specs.declared.group.GroupPart.{GroupPart}
use Rattle.rk_groups.specs.Groups.{PutsPeriod}
use Rattle.rk_groups.specs.GroupObjects.{period_lent}
use Rattle.rk_parts.specs.Joined.{joined, present_of, thread_lent}
use Rattle.rk_parts.specs.Lent.{AreLaid, layouts, Frame, Puts, PutsTimers, with_timers}
use Rattle.rk_groups.proofs.GroupLemmas.{with_nth-still}
use Rattle.rk_parts.proofs.GroupJoinedLemmas.{period_joined}
use Rattle.rk_directives.specs.Does.{BecomesBoth, DoesBoth, DoesEvery, DoesGroups, Creates, answered, with_table}
use Rattle.rk_directives.proofs.KeptHoldingLemmas.{still_held, same_owners}
use Rattle.rk_directives.proofs.DirectiveLemmas.LentLemmas.{laid_kept, puts_state}

-- a row that comes to the same as another in the state that the parts stand for
does_as : (s : Scenario) (old new : List ClusterPart) (groups groups' : List GroupPart) (row as_row : Plain → Outcome) (answer : Answer) → ((table : Table) → row (joined s table old groups) ≡ as_row (joined s table old groups)) → DoesBoth s as_row answer old groups new groups' → DoesBoth s row answer old groups new groups'
does_as s old new groups groups' row as_row answer same does = record {
  told = λ table. does.told table ∙ ap answer_of (sym (same table));
  state = λ table laid. does.state table laid ∙ ap (changed (joined s table old groups)) (sym (same table));
  kept = does.kept;
  framed = does.framed;
  held = does.held;
}

-- to put back what stands there changes nothing
still : (k : Plain) (i : ℕ) → put_period k i (period_at k i) ≡ k
still k i = ap (λ (ps : List PeriodState). record k { periods = ps }) (with_nth-still no_period k.periods i)

-- a period is put that stands there already
put_still : (s : Scenario) (table : Table) (parts : List ClusterPart) (groups groups' : List GroupPart) (i : ℕ) (period : PeriodState) → period ≡ period_lent groups i → PutsPeriod groups i period groups' → joined s table parts groups' ≡ joined s table parts groups
put_still s table parts groups groups' i period is puts =
    period_joined s table parts groups groups' i period puts ∙ ap (put_period (joined s table parts groups) i) is ∙ still (joined s table parts groups) i

-- ---- period.period

-- what a call is answered with length 0, and with another
asked_answer : (k : Plain) (phase : Phase) → answered (bare (status_of_query phase)) ≡ answer_of (asked k phase)
asked_answer k Inactive = refl
asked_answer k (Active length next_end job) = refl
asked_answer k (Awaited length next_end) = refl
asked_answer k (Expired length next_end job postponed) = refl

asked_state : (k : Plain) (phase : Phase) → changed k (asked k phase) ≡ k
asked_state k Inactive = refl
asked_state k (Active length next_end job) = refl
asked_state k (Awaited length next_end) = refl
asked_state k (Expired length next_end job postponed) = refl

-- the status of a call of its creator, or of another
abbrev status_by : Bool → Phase → Status
status_by own phase = (let reply : Reply = cond own (bare (status_of_begin phase)) (bare NotOwnerOfResource) in reply).status

status_is : (length t : ℕ) (period : PeriodState) (reply : Reply) → (length == 0) ≡ false → reply ≡ reply_to_call t length period → reply.status ≡ status_by (period.creator == t) period.phase
status_is length t period reply some is = ap (λ (r : Reply). r.status) is ∙ ap (λ b. (let reply : Reply = cond (period.creator == t) (bare (cond b (status_of_query period.phase) (status_of_begin period.phase))) (bare NotOwnerOfResource) in reply).status) some

-- which call is answered so
pub was_inactive : (own : Bool) (phase : Phase) → status_by own phase ≡ Successful → (own ≡ true) × (phase ≡ Inactive)
was_inactive true Inactive is = (refl, refl)
was_inactive true (Active length next_end job) is = let no : ⊥ = cc in absurd no
was_inactive true (Awaited length next_end) is = let no : ⊥ = cc in absurd no
was_inactive true (Expired length next_end job postponed) is = let no : ⊥ = cc in absurd no
was_inactive false phase is = let no : ⊥ = cc in absurd no

-- an expired period
pub record WasExpired (test : Bool) (phase : Phase) : Type 0 where
  pub own : test ≡ true
  pub length : ℕ
  pub next_end : ℕ
  pub job : Job
  pub postponed : ℕ
  pub is : phase ≡ Expired length next_end job postponed

pub was_expired : (own : Bool) (phase : Phase) → status_by own phase ≡ Timeout → WasExpired own phase
was_expired true Inactive is = let no : ⊥ = cc in absurd no
was_expired true (Active length next_end job) is = let no : ⊥ = cc in absurd no
was_expired true (Awaited length next_end) is = let no : ⊥ = cc in absurd no
was_expired true (Expired length next_end job postponed) is = record { own = refl; length = length; next_end = next_end; job = job; postponed = postponed; is = refl }
was_expired false phase is = let no : ⊥ = cc in absurd no

-- an active one, for which the caller waits
waits_by : (k : Plain) (t i length : ℕ) (own : Bool) (phase : Phase) → status_by own phase ≡ Waits → (own ≡ true) × (begins k t i length phase ≡ Waiting (begin_limited (with_next k t i length) t (ForPeriod i) 0))
waits_by k t i length true Inactive is = let no : ⊥ = cc in absurd no
waits_by k t i length true (Active old next_end job) is = (refl, refl)
waits_by k t i length true (Awaited old next_end) is = (refl, refl)
waits_by k t i length true (Expired old next_end job postponed) is = let no : ⊥ = cc in absurd no
waits_by k t i length false phase is = let no : ⊥ = cc in absurd no

-- that of another thread
pub was_other : (own : Bool) (phase : Phase) → (status_by own phase ≡ Successful → ⊥) → (status_by own phase ≡ Timeout → ⊥) → (status_by own phase ≡ Waits → ⊥) → own ≡ false
was_other true Inactive a b c = absurd (a refl)
was_other true (Active length next_end job) a b c = absurd (c refl)
was_other true (Awaited length next_end) a b c = absurd (c refl)
was_other true (Expired length next_end job postponed) a b c = absurd (b refl)
was_other false phase a b c = refl

-- what a call does to a period where it has no length,
call_asks : (t length now used : ℕ) (period : PeriodState) → (length == 0) ≡ true → called_on t length now used period ≡ period
call_asks t length now used period zero = by (period.creator == t) where
  none : nat_lt 0 length ≡ false
  none = grind (arith, nat_tests, zero)

  by : (own : Bool) → cond (own && nat_lt 0 length) (next_begun length now used period) period ≡ period
  by true = ap (λ b. cond b (next_begun length now used period) period) none
  by false = refl

-- where another thread calls,
call_other : (t length now used : ℕ) (period : PeriodState) → (period.creator == t) ≡ false → called_on t length now used period ≡ period
call_other t length now used period other = ap (λ b. cond (b && nat_lt 0 length) (next_begun length now used period) period) other

-- and where its creator does
call_own : (t length now used : ℕ) (period : PeriodState) → (period.creator == t) ≡ true → (length == 0) ≡ false → called_on t length now used period ≡ next_begun length now used period
call_own t length now used period own some =
    let more : nat_lt 0 length ≡ true = grind (arith, nat_tests, some) in
    ap (λ b. cond (b && nat_lt 0 length) (next_begun length now used period) period) own ∙ ap (λ b. cond b (next_begun length now used period) period) more

-- the rule, by these tests
own_row : (k : Plain) (t i length : ℕ) → ((period_at k i).creator == t) ≡ true → (length == 0) ≡ false → called k t i length ≡ begins k t i length (period_at k i).phase
own_row k t i length own some =
    ap (λ b. cond b (cond (length == 0) (asked k (period_at k i).phase) (begins k t i length (period_at k i).phase)) (Refused NotOwnerOfResource)) own
    ∙ ap (λ b. cond b (asked k (period_at k i).phase) (begins k t i length (period_at k i).phase)) some

other_row : (k : Plain) (t i length : ℕ) → ((period_at k i).creator == t) ≡ false → called k t i length ≡ Refused NotOwnerOfResource
other_row k t i length other = ap (λ b. cond b (cond (length == 0) (asked k (period_at k i).phase) (begins k t i length (period_at k i).phase)) (Refused NotOwnerOfResource)) other

-- a call with length 0
pub asks : (s : Scenario) (old : List ClusterPart) (groups groups' : List GroupPart) (t i length now used : ℕ) (reply : Reply) (answer : Answer) → (length == 0) ≡ true → PutsPeriod groups i (called_on t length now used (period_lent groups i)) groups' → reply ≡ reply_to_call t length (period_lent groups i) → answer ≡ answered reply → DoesBoth s (λ k. called k t i length) answer old groups old groups'
asks s old groups groups' t i length now used reply answer zero puts is ends = record {
  told = λ table. ends ∙ ap answered is ∙ told_by (joined s table old groups) (period.creator == t);
  state = λ table laid. put_still s table old groups groups' i _ (call_asks t length now used period zero) puts ∙ sym (state_by (joined s table old groups) (period.creator == t));
  kept = refl;
  framed = puts.kept;
  held = still_held old old groups groups' refl (same_owners groups groups' puts.semaphores);
} where
  period : PeriodState
  period = period_lent groups i

  told_by : (k : Plain) (own : Bool) → answered (cond own (bare (cond (length == 0) (status_of_query period.phase) (status_of_begin period.phase))) (bare NotOwnerOfResource)) ≡ answer_of (cond own (cond (length == 0) (asked k period.phase) (begins k t i length period.phase)) (Refused NotOwnerOfResource))
  told_by k true = ap (λ b. answered (bare (cond b (status_of_query period.phase) (status_of_begin period.phase)))) zero ∙ asked_answer k period.phase ∙ ap (λ b. answer_of (cond b (asked k period.phase) (begins k t i length period.phase))) (sym zero)
  told_by k false = refl

  state_by : (k : Plain) (own : Bool) → changed k (cond own (cond (length == 0) (asked k period.phase) (begins k t i length period.phase)) (Refused NotOwnerOfResource)) ≡ k
  state_by k true = ap (λ b. changed k (cond b (asked k period.phase) (begins k t i length period.phase))) zero ∙ asked_state k period.phase
  state_by k false = refl

-- What has become of the groups when a caller called with a length on a period.
pub record Calls (old : List ClusterPart) (groups : List GroupPart) (t i length : ℕ) (groups' : List GroupPart) : Type 0 where
  pub now : ℕ
  pub used : ℕ
  pub present : now ≡ present_of old
  pub computed : used ≡ (thread_lent old t).computed
  pub some : (length == 0) ≡ false
  pub puts : PutsPeriod groups i (called_on t length now used (period_lent groups i)) groups'

-- the state then, where the caller is its creator
called_state : (s : Scenario) (table : Table) (old : List ClusterPart) (groups groups' : List GroupPart) (t i length : ℕ) → Calls old groups t i length groups' → ((period_lent groups i).creator == t) ≡ true → joined s table old groups' ≡ with_next (joined s table old groups) t i length
called_state s table old groups groups' t i length calls own =
    let k = joined s table old groups in
    period_joined s table old groups groups' i _ calls.puts
    ∙ ap (put_period k i) (call_own t length calls.now calls.used (period_lent groups i) own calls.some)
    ∙ ap (λ now. put_period k i (next_begun length now calls.used (period_lent groups i))) calls.present
    ∙ ap (λ used. put_period k i (next_begun length (present_of old) used (period_lent groups i))) calls.computed

-- The period was inactive: its timer was armed.
pub starts : (s : Scenario) (old new : List ClusterPart) (groups groups' : List GroupPart) (t i length due : ℕ) (reply : Reply) (answer : Answer) → Calls old groups t i length groups' → reply ≡ reply_to_call t length (period_lent groups i) → reply.status ≡ Successful → due ≡ present_of old + length →
    PutsTimers old t (λ (timers : List Armed). timers ++ (record { who = OfPeriod i; due = due }) ∷ []) new → answer ≡ told.Done Successful 0 None → DoesBoth s (λ k. called k t i length) answer old groups new groups'
starts s old new groups groups' t i length due reply answer calls is status at armed ends =
    let was = was_inactive ((period_lent groups i).creator == t) (period_lent groups i).phase (sym (status_is length t (period_lent groups i) reply calls.some is) ∙ status) in
    does_as s old new groups groups' (λ k. called k t i length) (λ k. begins k t i length Inactive) answer
    (λ table. own_row (joined s table old groups) t i length was.0 calls.some ∙ ap (begins (joined s table old groups) t i length) was.1)
    (record {
      told = λ table. ends;
      state = λ table laid. (
          let k = joined s table old groups in
          armed.state s table groups' laid
          ∙ ap (λ (n : Plain). with_timers n (thread_lent old t).home (λ (timers : List Armed). timers ++ (record { who = OfPeriod i; due = due }) ∷ [])) (called_state s table old groups groups' t i length calls was.0)
          ∙ ap (λ d. arm (with_next k t i length) (thread_lent old t).home (record { who = OfPeriod i; due = d })) at);
      kept = armed.kept;
      framed = calls.puts.kept;
      held = still_held old new groups groups' armed.held (same_owners groups groups' calls.puts.semaphores);
    })

-- It was expired: a postponed job has started.
pub catches_up : (s : Scenario) (old : List ClusterPart) (groups groups' : List GroupPart) (t i length : ℕ) (reply : Reply) → Calls old groups t i length groups' → reply ≡ reply_to_call t length (period_lent groups i) → reply.status ≡ Timeout → DoesBoth s (λ k. called k t i length) (told.Done Timeout 0 None) old groups old groups'
catches_up s old groups groups' t i length reply calls is status =
    let was = was_expired ((period_lent groups i).creator == t) (period_lent groups i).phase (sym (status_is length t (period_lent groups i) reply calls.some is) ∙ status) in
    does_as s old old groups groups' (λ k. called k t i length) (λ k. begins k t i length (Expired was.length was.next_end was.job was.postponed)) (told.Done Timeout 0 None)
    (λ table. own_row (joined s table old groups) t i length was.own calls.some ∙ ap (begins (joined s table old groups) t i length) was.is)
    (record {
      told = λ table. refl;
      state = λ table laid. called_state s table old groups groups' t i length calls was.own;
      kept = refl;
      framed = calls.puts.kept;
      held = still_held old old groups groups' refl (same_owners groups groups' calls.puts.semaphores);
    })

-- It was active: the caller waits.
pub awaits_end : (s : Scenario) (old new : List ClusterPart) (groups groups' : List GroupPart) (t i length : ℕ) (reply : Reply) → Calls old groups t i length groups' → reply ≡ reply_to_call t length (period_lent groups i) → reply.status ≡ Waits → Puts old t (record (thread_lent old t) { wait = Some (ForPeriod i) }) new → DoesBoth s (λ k. called k t i length) told.Waiting old groups new groups'
awaits_end s old new groups groups' t i length reply calls is status puts =
    let told_by = sym (status_is length t (period_lent groups i) reply calls.some is) ∙ status in
    let own = (waits_by (joined s no_objects old groups) t i length ((period_lent groups i).creator == t) (period_lent groups i).phase told_by).0 in
    does_as s old new groups groups' (λ k. called k t i length) (λ k. Waiting (begin_limited (with_next k t i length) t (ForPeriod i) 0)) told.Waiting
    (λ table. own_row (joined s table old groups) t i length own calls.some ∙ (waits_by (joined s table old groups) t i length ((period_lent groups i).creator == t) (period_lent groups i).phase told_by).1)
    (record {
      told = λ table. refl;
      state = λ table laid.
          puts_state s table groups' old new t _ puts ∙ ap (λ (n : Plain). put_thread n t (record (thread_lent old t) { wait = Some (ForPeriod i) })) (called_state s table old groups groups' t i length calls own);
      kept = puts.kept;
      framed = calls.puts.kept;
      held = still_held old new groups groups' puts.held (same_owners groups groups' calls.puts.semaphores);
    })

-- It is another thread's.
pub refuses_other : (s : Scenario) (old : List ClusterPart) (groups groups' : List GroupPart) (t i length : ℕ) (reply : Reply) → Calls old groups t i length groups' → reply ≡ reply_to_call t length (period_lent groups i) → (reply.status ≡ Successful → ⊥) → (reply.status ≡ Timeout → ⊥) → (reply.status ≡ Waits → ⊥) → DoesBoth s (λ k. called k t i length) (told.Refused reply.status) old groups old groups'
refuses_other s old groups groups' t i length reply calls is a b c =
    let status = status_is length t (period_lent groups i) reply calls.some is in
    let other = was_other ((period_lent groups i).creator == t) (period_lent groups i).phase (λ e. a (status ∙ e)) (λ e. b (status ∙ e)) (λ e. c (status ∙ e)) in
    does_as s old old groups groups' (λ k. called k t i length) (λ k. Refused NotOwnerOfResource) (told.Refused reply.status)
    (λ table. other_row (joined s table old groups) t i length other)
    (record {
      told = λ table. ap (λ st. told.Refused st) (status ∙ ap (λ own. status_by own (period_lent groups i).phase) other);
      state = λ table laid. put_still s table old groups groups' i _ (call_other t length calls.now calls.used (period_lent groups i) other) calls.puts;
      kept = refl;
      framed = calls.puts.kept;
      held = still_held old old groups groups' refl (same_owners groups groups' calls.puts.semaphores);
    })

-- ---- period.cancel

abbrev cancel_status : Bool → Status
cancel_status own = cond own Successful NotOwnerOfResource

was_own : (own : Bool) → cancel_status own ≡ Successful → own ≡ true
was_own true is = refl
was_own false is = let no : ⊥ = cc in absurd no

was_not_own : (own : Bool) → (cancel_status own ≡ Successful → ⊥) → own ≡ false
was_not_own true other = absurd (other refl)
was_not_own false other = refl

pub cancels : (s : Scenario) (old new : List ClusterPart) (groups groups' : List GroupPart) (t i : ℕ) (reply : Reply) (answer : Answer) → PutsPeriod groups i (cancelled_on t (period_lent groups i)) groups' → reply ≡ reply_to_cancel t (period_lent groups i) → reply.status ≡ Successful → PutsTimers old t (without_timer (OfPeriod i)) new → answer ≡ told.Done Successful 0 None → DoesBoth s (λ k. cancelled_by k t i) answer old groups new groups'
cancels s old new groups groups' t i reply answer puts is status stops ends =
    let period = period_lent groups i in
    let own = was_own (period.creator == t) (sym (ap (λ (r : Reply). r.status) is) ∙ status) in
    let by : period.creator ≡ t = grind (arith, nat_tests, own) in
    does_as s old new groups groups' (λ k. cancelled_by k t i) (λ k. done 0 (cancelled k i)) answer
    (λ table. (let k = joined s table old groups in ap (λ b. cond b (done 0 (cancelled k i)) (Refused NotOwnerOfResource)) own))
    (record {
      told = λ table. ends;
      state = λ table laid. (
          let k = joined s table old groups in
          stops.state s table groups' laid
          ∙ ap (λ (n : Plain). with_timers n (thread_lent old t).home (without_timer (OfPeriod i))) (period_joined s table old groups groups' i _ puts)
          ∙ ap (λ b. with_timers (put_period k i (cond b (record period { phase = Inactive }) period)) (thread_lent old t).home (without_timer (OfPeriod i))) own
          ∙ ap (λ u. with_timers (put_period k i (record period { phase = Inactive })) (thread_lent old u).home (without_timer (OfPeriod i))) (sym by));
      kept = stops.kept;
      framed = puts.kept;
      held = still_held old new groups groups' stops.held (same_owners groups groups' puts.semaphores);
    })

pub cancels_not : (s : Scenario) (old : List ClusterPart) (groups groups' : List GroupPart) (t i : ℕ) (reply : Reply) → PutsPeriod groups i (cancelled_on t (period_lent groups i)) groups' → reply ≡ reply_to_cancel t (period_lent groups i) → (reply.status ≡ Successful → ⊥) → DoesBoth s (λ k. cancelled_by k t i) (told.Refused reply.status) old groups old groups'
cancels_not s old groups groups' t i reply puts is status =
    let period = period_lent groups i in
    let other = was_not_own (period.creator == t) (λ e. status (ap (λ (r : Reply). r.status) is ∙ e)) in
    does_as s old old groups groups' (λ k. cancelled_by k t i) (λ k. Refused NotOwnerOfResource) (told.Refused reply.status)
    (λ table. (let k = joined s table old groups in ap (λ b. cond b (done 0 (cancelled k i)) (Refused NotOwnerOfResource)) other))
    (record {
      told = λ table. ap (λ st. told.Refused st) (ap (λ (r : Reply). r.status) is ∙ ap cancel_status other);
      state = λ table laid. put_still s table old groups groups' i _ (ap (λ b. cond b (record period { phase = Inactive }) period) other) puts;
      kept = refl;
      framed = puts.kept;
      held = still_held old old groups groups' refl (same_owners groups groups' puts.semaphores);
    })

-- ---- period.delete

abbrev remove_status : Bool → Status
remove_status awaited = cond awaited ResourceInUse Successful

was_idle : (awaited : Bool) → remove_status awaited ≡ Successful → awaited ≡ false
was_idle true is = let no : ⊥ = cc in absurd no
was_idle false is = refl

was_awaited : (awaited : Bool) → (remove_status awaited ≡ Successful → ⊥) → awaited ≡ true
was_awaited true other = refl
was_awaited false other = absurd (other refl)

pub ends_period : (s : Scenario) (old new : List ClusterPart) (groups groups' : List GroupPart) (table table' : Table) (i by : ℕ) (reply : Reply) (answer : Answer) → by ≡ (period_lent groups i).creator → PutsPeriod groups i (removed (period_lent groups i)) groups' → reply ≡ reply_to_remove (period_lent groups i) → reply.status ≡ Successful → PutsTimers old by (without_timer (OfPeriod i)) new →
    ((k : Plain) → with_table k table' ≡ without_object (with_table k table) Period i) → answer ≡ told.Done Successful 0 None → DoesEvery s (λ k. ended_at k i) answer old groups table new groups' table'
ends_period s old new groups groups' table table' i by reply answer creator puts is status stops taken ends =
    let period = period_lent groups i in
    let k = joined s table old groups in
    let idle = was_idle (is_awaited period.phase) (sym (ap (λ (r : Reply). r.status) is) ∙ status) in
    let row : ended_at k i ≡ done 0 (without_period k i) = ap (λ b. cond b (Refused ResourceInUse) (done 0 (without_period k i))) idle in
    record {
      told = ends ∙ ap answer_of (sym row);
      state = λ laid.
          stops.state s table' groups' laid
          ∙ ap (λ (n : Plain). with_timers n (thread_lent old by).home (without_timer (OfPeriod i))) (period_joined s table' old groups groups' i _ puts)
          ∙ ap (λ b. with_timers (put_period (with_table k table') i (cond b period no_period)) (thread_lent old by).home (without_timer (OfPeriod i))) idle
          ∙ ap (λ u. with_timers (put_period (with_table k table') i no_period) (thread_lent old u).home (without_timer (OfPeriod i))) creator
          ∙ taken (put_period (stop k i) i no_period)
          ∙ ap (changed k) (sym row);
      laid = λ laid. laid_kept s.clusters old new stops.kept laid;
      kept = ap (λ (f : Frame). f.stored) stops.kept;
      accounts = ap (λ (f : Frame). f.accounts) stops.kept;
      framed = puts.kept;
      held = still_held old new groups groups' stops.held (same_owners groups groups' puts.semaphores);
    }

pub ends_not : (s : Scenario) (old : List ClusterPart) (groups groups' : List GroupPart) (table : Table) (i : ℕ) (reply : Reply) → PutsPeriod groups i (removed (period_lent groups i)) groups' → reply ≡ reply_to_remove (period_lent groups i) → (reply.status ≡ Successful → ⊥) → DoesEvery s (λ k. ended_at k i) (told.Refused reply.status) old groups table old groups' table
ends_not s old groups groups' table i reply puts is status =
    let period = period_lent groups i in
    let k = joined s table old groups in
    let awaited = was_awaited (is_awaited period.phase) (λ e. status (ap (λ (r : Reply). r.status) is ∙ e)) in
    let row : ended_at k i ≡ Refused ResourceInUse = ap (λ b. cond b (Refused ResourceInUse) (done 0 (without_period k i))) awaited in
    record {
      told = ap (λ st. told.Refused st) (ap (λ (r : Reply). r.status) is ∙ ap remove_status awaited) ∙ ap answer_of (sym row);
      state = λ laid. put_still s table old groups groups' i _ (ap (λ b. cond b period no_period) awaited) puts ∙ ap (changed k) (sym row);
      laid = λ laid. laid;
      kept = refl;
      accounts = refl;
      framed = puts.kept;
      held = still_held old old groups groups' refl (same_owners groups groups' puts.semaphores);
    }

-- ---- period.create

pub creates_period : (s : Scenario) (groups groups' : List GroupPart) (table table' : Table) (t name index : ℕ) (answer : Answer) → ((k : Plain) → Creates (with_table k table) Period name None (Ok index) (with_table k table')) → answer ≡ told.Done Successful (id_of Period index) None → PutsPeriod groups index (new_period t) groups' → DoesGroups s (λ k. period_create k t name) answer groups table groups' table'
creates_period s groups groups' table table' t name index answer made is puts = record {
  told = λ parts. (let k = joined s table parts groups in is ∙ ap answer_of (sym (made k place)));
  state = λ parts. (let k = joined s table parts groups in period_joined s table' parts groups groups' index (new_period t) puts ∙ ap (changed k) (sym (made k place)));
  framed = puts.kept;
  owners = same_owners groups groups' puts.semaphores;
} where
  place : ℕ → Plain → Plain
  place index next = put_period next index (new_period t)

pub creates_no_period : (s : Scenario) (groups : List GroupPart) (table table' : Table) (t name : ℕ) (status : Status) → ((k : Plain) → Creates (with_table k table) Period name None (Err status) (with_table k table')) → DoesGroups s (λ k. period_create k t name) (told.Refused status) groups table groups table'
creates_no_period s groups table table' t name status made = record {
  told = λ parts. (let k = joined s table parts groups in ap answer_of (sym ((made k).0 place)));
  state = λ parts. (let k = joined s table parts groups in (made k).1 ∙ ap (changed k) (sym ((made k).0 place)));
  framed = refl;
  owners = λ i. refl;
} where
  place : ℕ → Plain → Plain
  place index next = put_period next index (new_period t)

-- ---- the end of a period

-- how it stood whose end came to this
woke_from : (k : Plain) (i next_end : ℕ) (phase : Phase) → passing_of phase ≡ Woke next_end → passed_by k i phase ≡ end_wait (rearmed k i next_end) (period_at k i).creator (bare Successful)
woke_from k i next_end Inactive is = let no : ⊥ = cc in absurd no
woke_from k i next_end (Active length old job) is = let no : ⊥ = cc in absurd no
woke_from k i next_end (Awaited length old) is = let e : old + length ≡ next_end = cc in ap (λ n. end_wait (rearmed k i n) (period_at k i).creator (bare Successful)) e
woke_from k i next_end (Expired length old job postponed) is = let no : ⊥ = cc in absurd no

postponed_from : (k : Plain) (i now next_end : ℕ) (phase : Phase) → end_of phase ≡ Some now → passing_of phase ≡ Postponed next_end → passed_by k i phase ≡ rearmed k i next_end
postponed_from k i now next_end Inactive ends is = let no : ⊥ = cc in absurd no
postponed_from k i now next_end (Active length old job) ends is = let e : old + length ≡ next_end = cc in ap (rearmed k i) e
postponed_from k i now next_end (Awaited length old) ends is = let no : ⊥ = cc in absurd no
postponed_from k i now next_end (Expired length old job postponed) ends is = let e : old + length ≡ next_end = cc in ap (rearmed k i) e

-- What has become of the parts when the end of a period passed and its timer was armed again.
pub record Rearms (old : List ClusterPart) (groups : List GroupPart) (i next_end : ℕ) (mid : List ClusterPart) (groups' : List GroupPart) : Type 0 where
  pub now : ℕ
  pub used : ℕ
  pub by : ℕ
  pub present : now ≡ present_of old
  pub creator : by ≡ (period_lent groups i).creator
  pub computed : used ≡ (thread_lent old by).computed
  pub puts : PutsPeriod groups i (passed now used (period_lent groups i)) groups'
  pub armed : PutsTimers old by (λ (timers : List Armed). timers ++ (record { who = OfPeriod i; due = next_end }) ∷ []) mid

rearmed_state : (s : Scenario) (table : Table) (old mid : List ClusterPart) (groups groups' : List GroupPart) (i next_end : ℕ) → Rearms old groups i next_end mid groups' → AreLaid s.clusters (layouts old) → joined s table mid groups' ≡ rearmed (joined s table old groups) i next_end
rearmed_state s table old mid groups groups' i next_end is laid =
    let k = joined s table old groups in
    let period = period_lent groups i in
    let after = λ (now used by : ℕ). arm (put_period k i (passed now used period)) (thread_lent old by).home (record { who = OfPeriod i; due = next_end }) in
    is.armed.state s table groups' laid
    ∙ ap (λ (n : Plain). arm n (thread_lent old is.by).home (record { who = OfPeriod i; due = next_end })) (period_joined s table old groups groups' i _ is.puts)
    ∙ ap (λ now. after now is.used is.by) is.present
    ∙ ap (λ used. after (present_of old) used is.by) is.computed
    ∙ ap (λ u. after (present_of old) (thread_lent old u).computed u) is.creator

pub passes_postponed : (old mid : List ClusterPart) (groups groups' : List GroupPart) (i now next_end : ℕ) (came : Passed) → Rearms old groups i next_end mid groups' → end_of (period_lent groups i).phase ≡ Some now → came ≡ passing_of (period_lent groups i).phase → came ≡ Postponed next_end → (s : Scenario) → BecomesBoth s (λ k. end_passed k i) old groups mid groups'
passes_postponed old mid groups groups' i now next_end came is ends passing postponed s = record {
  state = λ table laid. (let k = joined s table old groups in rearmed_state s table old mid groups groups' i next_end is laid ∙ sym (postponed_from k i now next_end (period_lent groups i).phase ends (sym passing ∙ postponed)));
  kept = is.armed.kept;
  framed = is.puts.kept;
  held = still_held old mid groups groups' is.armed.held (same_owners groups groups' is.puts.semaphores);
}

pub passes_woken : (old mid new : List ClusterPart) (groups groups' groups'' : List GroupPart) (i next_end by : ℕ) (reply : Reply) (came : Passed) → Rearms old groups i next_end mid groups' → by ≡ (period_lent groups i).creator → reply ≡ bare Successful → came ≡ passing_of (period_lent groups i).phase → came ≡ Woke next_end →
    ((s : Scenario) → BecomesBoth s (λ k. end_wait k by reply) mid groups' new groups'') → (s : Scenario) → BecomesBoth s (λ k. end_passed k i) old groups new groups''
passes_woken old mid new groups groups' groups'' i next_end by reply came is creator told passing woke ends s = record {
  state = λ table laid. (
      let k = joined s table old groups in
      (ends s).state table (laid_kept s.clusters old mid is.armed.kept laid)
      ∙ ap (λ (n : Plain). end_wait n by reply) (rearmed_state s table old mid groups groups' i next_end is laid)
      ∙ ap (λ u. end_wait (rearmed k i next_end) u reply) creator
      ∙ ap (λ r. end_wait (rearmed k i next_end) (period_lent groups i).creator r) told
      ∙ sym (woke_from k i next_end (period_lent groups i).phase (sym passing ∙ woke)));
  kept = (ends s).kept ∙ is.armed.kept;
  framed = (ends s).framed ∙ is.puts.kept;
  held = λ h. (ends s).held (still_held old mid groups groups' is.armed.held (same_owners groups groups' is.puts.semaphores) h);
}

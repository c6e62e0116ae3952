-- What the rows of the kernel do to the parts that are lent, against what they come to.
use Rattle.std.specs.Prelude.{ℕ, ◌≡◌, ◌≤◌, List, [], ◌∷◌, Bool, true, false, Option, Some, None, Result, Ok, Err, ◌==◌, if◌then◌else◌}
use Rattle.std.specs.List.{AllByRecursion}
use Rattle.rk_model.specs.declared.entry.Answer.{Answer}
use Rattle.rk_model.specs.declared.entry.Reply.{Reply}
use Rattle.rk_model.specs.declared.entry.Answer.TheVariants as told
use Rattle.rk_model.specs.declared.ids.Class.{Class}
use Rattle.rk_model.specs.declared.scenario.Scenario.{Scenario}
use Rattle.rk_model.specs.declared.state.Armer.{Armer}
use Rattle.rk_model.specs.declared.state.Armer.TheVariants.{Thread as OfThread, Period as OfPeriod}
use Rattle.rk_model.specs.declared.status.Status.{Status}
use Rattle.rk_model.specs.declared.status.Status.TheVariants.{Successful}
use Rattle.rk_model.specs.Ids.{id_of}
use Rattle.rk_model.specs.Names.{Table, no_objects}
use Rattle.rk_model.specs.State.{Plain}
use Rattle.rk_model.specs.declared.waiting.Wake.{Wake}
use Rattle.rk_model.specs.Lists.{times}
use Rattle.rk_model.specs.Directives.Objects.{has_begun, create}
use Rattle.rk_model.specs.Directives.Waits.{Object, object_of_wait, is_for, arrivals_in, stop_wait}
use Rattle.rk_model.specs.Directives.Outcomes.{Outcome, Refused, done, answer_of, changed}
use Rattle.rk_parts.specs.declared.holdings.Holding.{Holding}
use Rattle.rk_parts.specs.declared.parts.ClusterPart.{ClusterPart}
use Rattle.rk_groups.specs.declared.group.GroupPart.{GroupPart}
use Rattle.rk_parts.specs.declared.parts.AllParts.{AllParts}
use Rattle.rk_model.specs.declared.limits.TheConstants.{MOST_OBJECTS}
use Rattle.rk_model.specs.Directives.Periods.{end_of}
use Rattle.rk_model.specs.Scheduling.Timers.{times_armed}
use Rattle.rk_period.specs.Periods.{Fits, waits_for}
use Rattle.rk_groups.specs.GroupObjects.{semaphores_of, barriers_of, semaphore_lent, period_lent}
use Rattle.rk_parts.specs.Joined.{no_scenario, joined, plain_of, present_of, threads_of, thread_lent, timers_lent}
use Rattle.rk_groups.specs.Groups.{GroupFrame, group_frames}
use Rattle.rk_parts.specs.Holdings.{AreHeld, holder, holding_of, holdings}
use Rattle.rk_parts.specs.Lending.{home_prio_lent, prio_lent}
use Rattle.rk_parts.specs.Contributions.{IsOne}
use Rattle.rk_model.specs.Scheduling.Priorities.{home_prio, prio}
use Rattle.rk_parts.specs.Lent.{AreLaid, accounts, layouts, stored, frame}

-- each semaphore of these groups has the owner that it had
abbrev pub KeepsOwners : List GroupPart → List GroupPart → Type 0
KeepsOwners groups groups' = (i : ℕ) → holding_of (semaphore_lent groups' i) ≡ holding_of (semaphore_lent groups i)

-- each semaphore is held by its owner, if it was so before
abbrev pub KeepsHeld : List ClusterPart → List GroupPart → List ClusterPart → List GroupPart → Type 0
KeepsHeld before groups after groups' = AreHeld (holdings before) (semaphores_of groups) → AreHeld (holdings after) (semaphores_of groups')

-- The parts stand for the state that this makes of the one that they stood for, whatever is not lent; and they keep their frame and their holdings.
pub record Becomes (s : Scenario) (change : Plain → Plain) (before after : List ClusterPart) : Type 0 where
  pub state : (table : Table) (groups : List GroupPart) → AreLaid s.clusters (layouts before) → joined s table after groups ≡ change (joined s table before groups)
  pub kept : frame after ≡ frame before
  pub held : holdings after ≡ holdings before

-- The same, whoever holds what then.
pub record Comes (s : Scenario) (change : Plain → Plain) (before after : List ClusterPart) : Type 0 where
  pub state : (table : Table) (groups : List GroupPart) → AreLaid s.clusters (layouts before) → joined s table after groups ≡ change (joined s table before groups)
  pub kept : frame after ≡ frame before

-- The parts stand for the same state; where a semaphore was held by its owner of before, it is held by its owner of now, and who holds another does so still.
pub record Notes (before : List ClusterPart) (i : ℕ) (was owner : Option Holding) (after : List ClusterPart) : Type 0 where
  pub comes : (s : Scenario) → Comes s (λ k. k) before after
  pub threads : threads_of after ≡ threads_of before
  pub held : holder (holdings before) i ≡ was → (j : ℕ) → holder (holdings after) j ≡ (if j == i then owner else holder (holdings before) j)

-- A narrow row: the answer is that of its outcome in the state that the parts stand for, whatever is not lent; that state is changed as the outcome says; and the parts keep their frame and their holdings.
pub record Does (s : Scenario) (row : Plain → Outcome) (answer : Answer) (before after : List ClusterPart) : Type 0 where
  pub told : (table : Table) (groups : List GroupPart) → answer ≡ answer_of (row (joined s table before groups))
  pub state : (table : Table) (groups : List GroupPart) → AreLaid s.clusters (layouts before) → joined s table after groups ≡ changed (joined s table before groups) (row (joined s table before groups))
  pub kept : frame after ≡ frame before
  pub held : holdings after ≡ holdings before

-- The same of parts of clusters and of groups: they stand for the state that this makes of the one that they stood for, and keep their frames; and each semaphore is held by its owner still.
pub record BecomesBoth (s : Scenario) (change : Plain → Plain) (before : List ClusterPart) (groups : List GroupPart) (after : List ClusterPart) (groups' : List GroupPart) : Type 0 where
  pub state : (table : Table) → AreLaid s.clusters (layouts before) → joined s table after groups' ≡ change (joined s table before groups)
  pub kept : frame after ≡ frame before
  pub framed : group_frames groups' ≡ group_frames groups
  pub held : KeepsHeld before groups after groups'

-- A narrow row that is lent parts of groups too.
pub record DoesBoth (s : Scenario) (row : Plain → Outcome) (answer : Answer) (before : List ClusterPart) (groups : List GroupPart) (after : List ClusterPart) (groups' : List GroupPart) : Type 0 where
  pub told : (table : Table) → answer ≡ answer_of (row (joined s table before groups))
  pub state : (table : Table) → AreLaid s.clusters (layouts before) → joined s table after groups' ≡ changed (joined s table before groups) (row (joined s table before groups))
  pub kept : frame after ≡ frame before
  pub framed : group_frames groups' ≡ group_frames groups
  pub held : KeepsHeld before groups after groups'

-- All cluster parts and the table stand for the state that this makes of the one that they stood for; the parts are still parts of it, and store and hold the same.
pub record BecomesWide (s : Scenario) (change : Plain → Plain) (before : List ClusterPart) (table : Table) (after : List ClusterPart) (table' : Table) : Type 0 where
  pub state : (groups : List GroupPart) → AreLaid s.clusters (layouts before) → joined s table' after groups ≡ change (joined s table before groups)
  pub laid : AreLaid s.clusters (layouts before) → AreLaid s.clusters (layouts after)
  pub kept : stored after ≡ stored before
  pub accounts : accounts after ≡ accounts before
  pub held : holdings after ≡ holdings before

-- A wide row, which is lent all cluster parts and the table: the answer is that of its outcome, the state is changed as it says, and the parts are still parts of that state and store and hold the same.
pub record DoesWide (s : Scenario) (row : Plain → Outcome) (answer : Answer) (before : List ClusterPart) (table : Table) (after : List ClusterPart) (table' : Table) : Type 0 where
  pub told : (groups : List GroupPart) → answer ≡ answer_of (row (joined s table before groups))
  pub state : (groups : List GroupPart) → AreLaid s.clusters (layouts before) → joined s table' after groups ≡ changed (joined s table before groups) (row (joined s table before groups))
  pub laid : AreLaid s.clusters (layouts before) → AreLaid s.clusters (layouts after)
  pub kept : stored after ≡ stored before
  pub accounts : accounts after ≡ accounts before
  pub held : holdings after ≡ holdings before

-- The same of all parts of clusters and groups, and the table.
pub record BecomesEvery (s : Scenario) (change : Plain → Plain) (before : List ClusterPart) (groups : List GroupPart) (table : Table) (after : List ClusterPart) (groups' : List GroupPart) (table' : Table) : Type 0 where
  pub state : AreLaid s.clusters (layouts before) → joined s table' after groups' ≡ change (joined s table before groups)
  pub laid : AreLaid s.clusters (layouts before) → AreLaid s.clusters (layouts after)
  pub kept : stored after ≡ stored before
  pub accounts : accounts after ≡ accounts before
  pub framed : group_frames groups' ≡ group_frames groups
  pub held : KeepsHeld before groups after groups'

-- A wide row that is lent the parts of groups too.
pub record DoesEvery (s : Scenario) (row : Plain → Outcome) (answer : Answer) (before : List ClusterPart) (groups : List GroupPart) (table : Table) (after : List ClusterPart) (groups' : List GroupPart) (table' : Table) : Type 0 where
  pub told : answer ≡ answer_of (row (joined s table before groups))
  pub state : AreLaid s.clusters (layouts before) → joined s table' after groups' ≡ changed (joined s table before groups) (row (joined s table before groups))
  pub laid : AreLaid s.clusters (layouts before) → AreLaid s.clusters (layouts after)
  pub kept : stored after ≡ stored before
  pub accounts : accounts after ≡ accounts before
  pub framed : group_frames groups' ≡ group_frames groups
  pub held : KeepsHeld before groups after groups'

-- A wide row that is lent the parts of groups and the table alone.
pub record DoesGroups (s : Scenario) (row : Plain → Outcome) (answer : Answer) (groups : List GroupPart) (table : Table) (groups' : List GroupPart) (table' : Table) : Type 0 where
  pub told : (parts : List ClusterPart) → answer ≡ answer_of (row (joined s table parts groups))
  pub state : (parts : List ClusterPart) → joined s table' parts groups' ≡ changed (joined s table parts groups) (row (joined s table parts groups))
  pub framed : group_frames groups' ≡ group_frames groups
  pub owners : KeepsOwners groups groups'

-- what of all parts no directive touches: of the groups their frames
pub record Untouched : Type 0 where
  pub scenario : Scenario
  pub groups : List GroupFrame
  pub time : ℕ

abbrev pub untouched : AllParts → Untouched
untouched all = record { scenario = all.scenario; groups = group_frames all.groups; time = all.table.present }

-- A row that is lent all parts: the answer is that of the outcome, the state is changed as it says, the parts are still parts of that state and store the same, each semaphore is held by its owner, and the rest is untouched.
pub record DoesAll (o : Outcome) (answer : Answer) (before after : AllParts) : Type 0 where
  pub told : answer ≡ answer_of o
  pub state : plain_of after ≡ changed (plain_of before) o
  pub laid : AreLaid before.scenario.clusters (layouts after.clusters)
  pub kept : stored after.clusters ≡ stored before.clusters
  pub accounts : accounts after.clusters ≡ accounts before.clusters
  pub held : AreHeld (holdings after.clusters) (semaphores_of after.groups)
  pub rest : untouched after ≡ untouched before

-- The state of these parts of clusters and groups by themselves.
abbrev pub lent_both : List ClusterPart → List GroupPart → Plain
lent_both parts groups = joined no_scenario no_objects parts groups

-- The priorities that lent parts have are those of the state that they stand for with these groups.
abbrev pub HavePriorities : List ClusterPart → List GroupPart → Type 0
HavePriorities parts groups = (t : ℕ) → IsOne t → home_prio_lent parts t ≡ home_prio (lent_both parts groups) t

-- So are those that they have in each cluster.
abbrev pub HaveEachPriority : List ClusterPart → List GroupPart → Type 0
HaveEachPriority parts groups = (t c : ℕ) → IsOne t → prio_lent parts t c ≡ prio (lent_both parts groups) t c

-- Who owns a semaphore of these groups lives in these parts.
abbrev pub OwnersLive : List ClusterPart → List GroupPart → Type 0
OwnersLive parts groups = (i t : ℕ) → (semaphore_lent groups i).owner ≡ Some t → has_begun (thread_lent parts t).life ≡ true

-- In the queue of an object stand exactly the lent threads that wait for it, each once.
abbrev pub IsQueueOf : List ClusterPart → List GroupPart → Object → Type 0
IsQueueOf parts groups object = (t : ℕ) → times t (arrivals_in (barriers_of groups) (semaphores_of groups) object) ≡ (if is_for (object_of_wait (thread_lent parts t).wait) object then 1 else 0)

-- the state in which waits of threads have ended that had left their queues before
abbrev pub woken : Plain → List Wake → Plain
woken k [] = k
woken k (wake ∷ wakes) = woken (stop_wait k wake.thread (record { status = wake.status; out = wake.out })) wakes

-- the threads of these wakes live
abbrev pub AllLive : List ClusterPart → List Wake → Type 0
AllLive parts wakes = AllByRecursion (λ (wake : Wake). has_begun (thread_lent parts wake.thread).life ≡ true) wakes

-- the state with another table
abbrev pub with_table : Plain → Table → Plain
with_table k table = record k { table = table }

-- The answer is that of the outcome, which changes nothing.
pub record Tells (o : Outcome) (answer : Answer) (k : Plain) : Type 0 where
  pub told : answer ≡ answer_of o
  pub state : changed k o ≡ k

-- an index is the first of these
abbrev pub IsFirst : ℕ → List ℕ → Type 0
IsFirst index [] = ⊥
IsFirst index (first ∷ more) = first ≡ index

-- A thread may call on a period that lives: it doesn't wait for it, what is counted fits where it is its creator's call, and where it has no end it has no timer in the thread's home.
pub record MayCall (parts : List ClusterPart) (groups : List GroupPart) (i t : ℕ) : Type 0 where
  pub goes_on : waits_for (period_lent groups i) t ≡ false
  pub fits : t ≡ (period_lent groups i).creator → Fits (present_of parts) (thread_lent parts t).computed (period_lent groups i)
  pub unarmed : end_of (period_lent groups i).phase ≡ None → times_armed (OfPeriod i) (timers_lent parts t) ≡ 0

-- The end of a period may pass: it lives, and so does its creator, its end is the present tick, what is counted fits, and its timer was taken out.
pub record MayPass (parts : List ClusterPart) (groups : List GroupPart) (i : ℕ) : Type 0 where
  pub low : 1 ≤ i
  pub high : i ≤ MOST_OBJECTS
  pub live : (period_lent groups i).live ≡ true
  pub lives : has_begun (thread_lent parts (period_lent groups i).creator).life ≡ true
  pub due : end_of (period_lent groups i).phase ≡ Some (present_of parts)
  pub fits : Fits (present_of parts) (thread_lent parts (period_lent groups i).creator).computed (period_lent groups i)
  pub unarmed : times_armed (OfPeriod i) (timers_lent parts (period_lent groups i).creator) ≡ 0

-- A timer of this one, which was taken out, may fire: its thread lives, or the end of its period may pass.
abbrev pub MayRing : List ClusterPart → List GroupPart → Armer → Type 0
MayRing parts groups (OfThread t) = has_begun (thread_lent parts t).life ≡ true
MayRing parts groups (OfPeriod i) = MayPass parts groups i

-- what a caller is answered where the manager of an object has given this status and out number, which isn't that it waits: it is done, or refused
abbrev pub answered_by : Status → ℕ → Answer
answered_by Successful out = told.Done Successful out None
answered_by status out = told.Refused status

abbrev pub answered : Reply → Answer
answered reply = answered_by reply.status reply.out

-- whether the caller goes on after an answer
abbrev pub goes_on_after : Answer → Bool
goes_on_after (told.Refused status) = true
goes_on_after (told.Done status out last) = true
goes_on_after told.Waiting = false
goes_on_after (told.Gone status) = false

-- An object of a class got an index and its name, and whatever is put there then was created; or the create is refused with this status, whatever it puts, and nothing changed.
abbrev pub Creates : Plain → Class → ℕ → Option Status → Result ℕ Status → Plain → Type 0
Creates k class name refusal (Ok index) next = (put : ℕ → Plain → Plain) → create k class name refusal put ≡ done (id_of class index) (put index next)
Creates k class name refusal (Err status) next = ((put : ℕ → Plain → Plain) → create k class name refusal put ≡ Refused status) × (next ≡ k)

-- What setting the ceiling of a semaphore does to lent parts.
use Rattle.std.proofs.Common.{◌≡◌, ℕ, ◌==◌, nat_lt, List, Bool, true, false, cond, refl, sym, ap, ◌∙◌, subst}
use Rattle.std.specs.Prelude.{is_none}
use Rattle.rk_model.specs.declared.entry.Answer.{Answer}
use Rattle.rk_model.specs.declared.entry.Answer.TheVariants as told
use Rattle.rk_model.specs.declared.entry.Reply.{Reply}
use Rattle.rk_model.specs.declared.scenario.Scenario.{Scenario}
use Rattle.rk_model.specs.declared.status.Status.{Status}
use Rattle.rk_model.specs.declared.status.Status.TheVariants.{InvalidPriority, NotDefined}
use Rattle.rk_model.specs.Names.{Table}
use Rattle.rk_model.specs.State.{Plain, SemaphoreState, semaphore_at}
use Rattle.rk_model.specs.Directives.Outcomes.{Refused}
use Rattle.rk_model.specs.Directives.Semaphores.{CeilingSetting, NotSet, Keeps, Sets, setting_ceiling, with_ceiling, after_setting, reply_to_setting, set_at}
use Rattle.rk_model.specs.Scheduling.Priorities.{ceiling_in}
use Rattle.rk_sem.specs.SemaphoreCalls.{with_set, reply_to_set}
use Rattle.rk_parts.specs.declared.parts.ClusterPart.{ClusterPart}
use Rattle.rk_groups.specs.declared.group.GroupPart.{GroupPart}
use Rattle.rk_groups.specs.GroupObjects.{semaphore_lent}
use Rattle.rk_groups.specs.Groups.{PutsSemaphore}
use Rattle.rk_parts.specs.Joined.{joined}
use Rattle.rk_directives.specs.Does.{Comes, DoesBoth, KeepsHeld, answered}
use Rattle.rk_directives.proofs.DirectiveLemmas.LentSemaphoresLemmas.{put_still, still_put}

-- what holds of each form of a setting holds of what it comes to
by_setting : (P : CeilingSetting → Type 0) (c prio : ℕ) (sem : SemaphoreState) → P (NotSet InvalidPriority) → P (NotSet NotDefined) → P Keeps → P Sets → P (setting_ceiling c prio sem)
by_setting P c prio sem invalid undefined keeps sets = first (nat_lt 255 prio) where
  third : (b : Bool) → P (cond b Keeps Sets)
  third true = keeps
  third false = sets

  second : (b : Bool) → P (cond b (NotSet NotDefined) (cond (prio == 0) Keeps Sets))
  second true = undefined
  second false = third (prio == 0)

  first : (b : Bool) → P (cond b (NotSet InvalidPriority) (cond (is_none (ceiling_in c sem)) (NotSet NotDefined) (cond (prio == 0) Keeps Sets)))
  first true = invalid
  first false = second (is_none (ceiling_in c sem))

-- a setting changes no owner
pub set_owner : (c prio : ℕ) (sem : SemaphoreState) → (with_set c prio sem).owner ≡ sem.owner
set_owner c prio sem = by_setting (λ setting. (after_setting setting c prio sem).owner ≡ sem.owner) c prio sem refl refl refl refl

-- what is answered and put where a setting comes to this
abbrev SetsAt : Scenario → List ClusterPart → List ClusterPart → List GroupPart → List GroupPart → ℕ → ℕ → ℕ → Reply → CeilingSetting → Type 0
SetsAt s old new groups groups' i c prio reply setting =
    reply ≡ reply_to_setting setting c (semaphore_lent groups i) → PutsSemaphore groups i (after_setting setting c prio (semaphore_lent groups i)) groups' → DoesBoth s (λ k. set_at k i c prio setting) (answered reply) old groups new groups'

set_each : (s : Scenario) (old new : List ClusterPart) (groups groups' : List GroupPart) (i c prio : ℕ) (reply : Reply) → Comes s (λ k. k) old new → KeepsHeld old groups new groups' → SetsAt s old new groups groups' i c prio reply (setting_ceiling c prio (semaphore_lent groups i))
set_each s old new groups groups' i c prio reply comes held = by_setting (SetsAt s old new groups groups' i c prio reply) c prio (semaphore_lent groups i)
    (refused InvalidPriority refl)
    (refused NotDefined refl)
    (λ is puts. still_put s old new groups groups' i (semaphore_lent groups i) (λ k. set_at k i c prio Keeps) (answered reply) puts comes held (λ table. ap answered is) (λ table. sym (put_still (joined s table old groups) i)))
    (λ is puts. still_put s old new groups groups' i (with_ceiling c prio (semaphore_lent groups i)) (λ k. set_at k i c prio Sets) (answered reply) puts comes held (λ table. ap answered is) (λ table. refl))
  where
    refused : (status : Status) → answered (record { status = status; out = 0 }) ≡ told.Refused status → SetsAt s old new groups groups' i c prio reply (NotSet status)
    refused status says is puts = still_put s old new groups groups' i (semaphore_lent groups i) (λ k. Refused status) (answered reply) puts comes held (λ table. ap answered is ∙ says) (λ table. sym (put_still (joined s table old groups) i))

-- The row of a setting of a ceiling, where the semaphore was found.
pub sets_ceiling : (s : Scenario) (old new : List ClusterPart) (groups groups' : List GroupPart) (i c prio : ℕ) (reply : Reply) (answer : Answer) → answer ≡ answered reply → reply ≡ reply_to_set c prio (semaphore_lent groups i) → PutsSemaphore groups i (with_set c prio (semaphore_lent groups i)) groups' → Comes s (λ k. k) old new → KeepsHeld old groups new groups' → DoesBoth s (λ k. set_at k i c prio (setting_ceiling c prio (semaphore_at k i))) answer old groups new groups'
sets_ceiling s old new groups groups' i c prio reply answer says is puts comes held =
    let does = set_each s old new groups groups' i c prio reply comes held is puts in
    record {
      told = λ table. says ∙ does.told table;
      state = λ table laid. does.state table laid;
      kept = does.kept;
      framed = does.framed;
      held = does.held;
    }

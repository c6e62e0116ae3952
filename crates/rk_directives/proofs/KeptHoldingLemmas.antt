-- What keeps each semaphore held by its owner.
use Rattle.std.proofs.Common.{◌≡◌, ℕ, List, Bool, true, false, cond, ◌==◌, Option, Some, None, arith, refl, sym, ap, ◌∙◌, subst}
use Rattle.std.proofs.lemmas.Bool.Decides.{nat_tests}
use Rattle.std.specs.Prelude.{IfSome}
use Rattle.std.specs.List.{AllByRecursion}
use Rattle.rk_model.specs.declared.scenario.Scenario.{Scenario}
use Rattle.rk_model.specs.declared.state.Thread.{Thread}
use Rattle.rk_model.specs.declared.state.Wait.{Wait}
use Rattle.rk_model.specs.declared.state.Wait.TheVariants.{ForTime, ForEvents, AtBarrier, ForPeriod, ForSemaphore}
use Rattle.rk_model.specs.declared.waiting.Wake.{Wake}
use Rattle.rk_model.specs.Lists.{nth}
use Rattle.rk_model.specs.State.{Plain, SemaphoreState, no_thread, no_semaphore}
use Rattle.rk_model.specs.Directives.Objects.{has_begun}
use Rattle.rk_model.specs.Directives.Waits.{Object, OfBarrier, OfSemaphore, without_waiter, without_waiter_in}
use Rattle.rk_model.proofs.IndexLemmas.{nth-with_kept, nth-with_other}
use Rattle.rk_parts.specs.declared.parts.ClusterPart.{ClusterPart}
use Rattle.rk_groups.specs.declared.group.GroupPart.{GroupPart}
use Rattle.rk_groups.specs.Groups.{Leaves, PutsSemaphore}
use Rattle.rk_parts.specs.Holdings.{AreHeld, held_by, holder, holding_of, holdings}
use Rattle.rk_parts.specs.declared.holdings.Holding.{Holding}
use Rattle.rk_groups.specs.GroupObjects.{semaphores_of, semaphore_lent}
use Rattle.rk_parts.specs.Joined.{clusters_of, thread_lent, threads_of}
use Rattle.rk_parts.specs.Lent.{AreLaid, Frame, NotesOwner}
use Rattle.rk_parts.proofs.HoldingLemmas.{held_kept}
use Rattle.rk_parts.proofs.PutLemmas.{clusters_joined}
use Rattle.rk_directives.specs.Does.{AllLive, Becomes, Comes, KeepsHeld, KeepsOwners, Notes, lent_both}

-- the semaphores are as before
pub same_owners : (groups groups' : List GroupPart) → semaphores_of groups' ≡ semaphores_of groups → KeepsOwners groups groups'
same_owners groups groups' same = λ i. ap (λ (xs : List SemaphoreState). holding_of (nth no_semaphore xs i)) same

holdings_left : (semaphores : List SemaphoreState) (t : ℕ) (object : Option Object) (i : ℕ) → holding_of (nth no_semaphore (without_waiter_in semaphores t object) i) ≡ holding_of (nth no_semaphore semaphores i)
holdings_left semaphores t None i = refl
holdings_left semaphores t (Some (OfBarrier j)) i = refl
holdings_left semaphores t (Some (OfSemaphore j)) i = nth-with_kept (λ (x : SemaphoreState). holding_of x) no_semaphore (without_waiter t (nth no_semaphore semaphores j)) semaphores j i refl

-- a thread has left its queue
pub left_owners : (groups groups' : List GroupPart) (t : ℕ) (object : Option Object) → Leaves groups t object groups' → KeepsOwners groups groups'
left_owners groups groups' t object leaves = λ i. ap (λ (xs : List SemaphoreState). holding_of (nth no_semaphore xs i)) leaves.semaphores ∙ holdings_left (semaphores_of groups) t object i

-- a semaphore was put that has the owner of the one before it
pub put_owners : (groups groups' : List GroupPart) (i : ℕ) (x : SemaphoreState) → PutsSemaphore groups i x groups' → holding_of x ≡ holding_of (semaphore_lent groups i) → KeepsOwners groups groups'
put_owners groups groups' i x puts same = λ j. ap (λ (xs : List SemaphoreState). holding_of (nth no_semaphore xs j)) puts.semaphores ∙ nth-with_kept (λ (y : SemaphoreState). holding_of y) no_semaphore x (semaphores_of groups) i j same

-- the parts of clusters hold what they held, and owners are as before
pub still_held : (old new : List ClusterPart) (groups groups' : List GroupPart) → holdings new ≡ holdings old → KeepsOwners groups groups' → KeepsHeld old groups new groups'
still_held old new groups groups' same owners = held_kept (holdings old) (holdings new) (semaphores_of groups) (semaphores_of groups') same owners

-- ---- what an owner is noted for

-- who holds what is noted, and the state is the same
pub noted : (old new : List ClusterPart) (i : ℕ) (was owner : Option Holding) → NotesOwner old i owner new → Notes old i was owner new
noted old new i was owner notes = record {
  comes = λ s. record {
    state = λ table groups laid. clusters_joined s table groups old new (clusters_of s.clusters old) (threads_of old) notes.present (λ n. notes.clusters n s.clusters) notes.threads;
    kept = notes.kept;
  };
  threads = notes.threads;
  held = λ _. notes.held;
}

-- the owner of before is the owner of now
pub noted_before : (parts : List ClusterPart) (i : ℕ) (was owner : Option Holding) → owner ≡ was → Notes parts i was owner parts
noted_before parts i was owner same = record {
  comes = λ s. record { state = λ table groups laid. refl; kept = refl };
  threads = refl;
  held = λ holds j. by holds j (j == i) refl;
} where
  by : holder (holdings parts) i ≡ was → (j : ℕ) (b : Bool) → (j == i) ≡ b → holder (holdings parts) j ≡ cond b owner (holder (holdings parts) j)
  by holds j true e = let there : j ≡ i = grind (arith, nat_tests, e) in ap (holder (holdings parts)) there ∙ holds ∙ sym same
  by holds j false e = refl

-- the owner of now, which isn't that of before
pub new_owner : (P : ℕ → Type 0) (sem : SemaphoreState) → ((t : ℕ) → sem.owner ≡ Some t → P t) → IfSome (holding_of sem) (λ (h : Holding). P h.owner)
new_owner P sem each = by sem.owner refl where
  by : (owner : Option ℕ) → sem.owner ≡ owner → IfSome (held_by sem owner) (λ (h : Holding). P h.owner)
  by None e = tt
  by (Some t) e = each t e

-- the parts change further
pub noted_then : (s : Scenario) (change : Plain → Plain) (old mid new : List ClusterPart) (i : ℕ) (was owner : Option Holding) → Notes old i was owner mid → Becomes s change mid new → Comes s change old new
noted_then s change old mid new i was owner notes becomes = record {
  state = λ table groups laid. becomes.state table groups (subst (λ (f : Frame). AreLaid s.clusters f.layouts) (sym (notes.comes s).kept) laid) ∙ ap change ((notes.comes s).state table groups laid);
  kept = becomes.kept ∙ (notes.comes s).kept;
}

-- these threads live still
pub noted_live : (old mid : List ClusterPart) (i : ℕ) (was owner : Option Holding) (wakes : List Wake) → Notes old i was owner mid → AllLive old wakes → AllLive mid wakes
noted_live old mid i was owner wakes notes live = subst (λ (ts : List Thread). AllByRecursion (λ (wake : Wake). has_begun (nth no_thread ts wake.thread).life ≡ true) wakes) (sym notes.threads) live

-- Each semaphore of these groups but one has the owner that it had.
abbrev pub KeepsOthers : List GroupPart → ℕ → List GroupPart → Type 0
KeepsOthers groups i groups' = (j : ℕ) → (j == i) ≡ false → holding_of (semaphore_lent groups' j) ≡ holding_of (semaphore_lent groups j)

pub put_others : (groups groups' : List GroupPart) (i : ℕ) (x : SemaphoreState) → PutsSemaphore groups i x groups' → KeepsOthers groups i groups'
put_others groups groups' i x puts = λ j other.
    ap (λ (xs : List SemaphoreState). holding_of (nth no_semaphore xs j)) puts.semaphores
    ∙ ap (λ (y : SemaphoreState). holding_of y) (nth-with_other no_semaphore x (semaphores_of groups) i j (λ q. grind (arith, nat_tests, other, q)))

-- each semaphore is held by its owner still
pub noted_held : (old new : List ClusterPart) (groups groups' : List GroupPart) (i : ℕ) (was owner : Option Holding) → Notes old i was owner new → was ≡ holding_of (semaphore_lent groups i) → owner ≡ holding_of (semaphore_lent groups' i) → KeepsOthers groups i groups' → KeepsHeld old groups new groups'
noted_held old new groups groups' i was owner notes before is others = λ h j. notes.held (h i ∙ sym before) j ∙ by h j (j == i) refl where
  by : AreHeld (holdings old) (semaphores_of groups) → (j : ℕ) (b : Bool) → (j == i) ≡ b → cond b owner (holder (holdings old) j) ≡ holding_of (semaphore_lent groups' j)
  by h j true e = let there : j ≡ i = grind (arith, nat_tests, e) in is ∙ ap (λ n. holding_of (semaphore_lent groups' n)) (sym there)
  by h j false e = h j ∙ sym (others j e)

-- What is kept behind the lock.
use Rattle.std.specs.Prelude.{ℕ, ◌≡◌, ◌<◌, ◌≤◌, List, [], ◌∷◌, ◌++◌, Option, None, IsSome, length}
use Rattle.atomic_table.specs.Seated.{TableId}
use Rattle.rk_model.specs.declared.keys.TheConstants.{FIRST_SEAT}
use Rattle.rk_model.specs.declared.scenario.Scenario.{Scenario}
use Rattle.rk_model.specs.declared.entry.Entry.{Entry}
use Rattle.rk_model.specs.State.{Plain}
use Rattle.rk_model.specs.Histories.{Legal, after}
use Rattle.rk_model.specs.Text.Scenarios.{IsScenario}
use Rattle.rk_journal.specs.Logs.{entries_of, noted}
use Rattle.rk_journal.specs.JournalViews.{JournalView, MarkView}
use Rattle.rk_journal.specs.MarkRegisters.{mark_at, AreOf}
use Rattle.rk_shared.specs.KeyedLogs.{IsKeyed, AreKeyed}

-- The marks of the nine parts are in, and no others.
pub record AreOfParts (marks : List (Option MarkView)) : Type 0 where
  pub parts_in : (k : ℕ) → k < FIRST_SEAT → IsSome (mark_at marks k)
  pub seats_out : (k : ℕ) → FIRST_SEAT ≤ k → mark_at marks k ≡ None

-- The entry was appended under its keys.
pub record IsPlaced (entry : Entry) (old new : JournalView) : Type 0 where
  pub keys : List ℕ
  pub keyed : IsKeyed (noted entry keys)
  pub is : new ≡ record { opening = old.opening; limit = old.limit; log = old.log ++ noted entry keys ∷ [] }

-- The parts, the journal and the marks are of this opening of the scenario. The history is legal and within the limit, each entry was appended under its keys, and the parts stand for the state after it.
pub record Keeps (s : Scenario) (opening : TableId) (parts : Plain) (journal : JournalView) (marks : List (Option MarkView)) : Type 0 where
  pub scenario : IsScenario s
  pub opening_is : journal.opening ≡ opening
  pub limit : journal.limit ≡ s.limit
  pub state : parts ≡ after s (entries_of journal.log)
  pub legal : Legal s (entries_of journal.log)
  pub within : length journal.log ≤ journal.limit
  pub keyed : AreKeyed journal.log
  pub marks_of : AreOf opening marks
  pub marks_in : AreOfParts marks

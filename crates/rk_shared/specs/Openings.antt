-- Openings that aren't behind a lock yet.
use Rattle.std.specs.Prelude.{ℕ, ◌≡◌, ◌<◌, ◌≤◌, List, [], Option, Some, None}
use Rattle.atomic_table.specs.Seated.{TableId}
use Rattle.rk_model.specs.declared.keys.TheConstants.{FIRST_SEAT}
use Rattle.rk_model.specs.declared.limits.TheConstants.{CLOCK}
use Rattle.rk_model.specs.declared.scenario.Scenario.{Scenario}
use Rattle.rk_model.specs.State.{Plain}
use Rattle.rk_model.specs.Text.Scenarios.{cpus_in}
use Rattle.rk_journal.specs.JournalViews.{JournalView, MarkView}
use Rattle.rk_journal.specs.MarkRegisters.{mark_at}
use Rattle.rk_shared.specs.SeatViews.{SeatView, first_seat, first_seats}
use Rattle.rk_shared.specs.Keeps.{Keeps}

-- An opening: its scenario, and which opening it is.
pub record OpeningView : Type 0 where
  pub scenario : Scenario
  pub opening : TableId

-- The parts, the journal, the marks and the seats of an opening of the scenario, at which nothing was done yet. Each processor has its seat, and so has the clock.
pub record IsFresh (s : Scenario) (parts : Plain) (journal : JournalView) (marks : List (Option MarkView)) (cpus : List SeatView) (clock : SeatView) : Type 0 where
  pub keeps : Keeps s journal.opening parts journal marks
  pub empty : journal.log ≡ []
  pub cpus_are : cpus ≡ first_seats journal.opening (cpus_in s.clusters)
  pub clock_is : clock ≡ first_seat journal.opening CLOCK

-- the mark of a key at the empty front
abbrev pub first_mark : TableId → ℕ → MarkView
first_mark opening k = record { opening = opening; front = []; key = k }

-- The marks of the parts are in, and those from one key on and below another, each at the empty front; and no others.
pub record AreLeft (opening : TableId) (low high : ℕ) (marks : List (Option MarkView)) : Type 0 where
  pub parts : (k : ℕ) → k < FIRST_SEAT → mark_at marks k ≡ Some (first_mark opening k)
  pub seats : (k : ℕ) → low ≤ k → k < high → mark_at marks k ≡ Some (first_mark opening k)
  pub taken : (k : ℕ) → FIRST_SEAT ≤ k → k < low → mark_at marks k ≡ None
  pub above : (k : ℕ) → high ≤ k → mark_at marks k ≡ None

-- Seats as contracts see them.
use Rattle.std.specs.Prelude.{ℕ, ◌≡◌, ◌<◌, zero, suc, List, [], ◌∷◌, ◌++◌, All, Option, Some, None}
use mathlib.Core.List.{IsPrefix}
use Rattle.atomic_table.specs.Seated.{TableId}
use Rattle.rk_model.specs.declared.limits.TheConstants.{CLOCK, MOST_PROCESSORS}
use Rattle.rk_model.specs.declared.entry.Entry.{Entry}
use Rattle.rk_model.specs.declared.scenario.Scenario.{Scenario}
use Rattle.rk_model.specs.Histories.{of}
use Rattle.rk_model.specs.Keys.{seat_key}
use Rattle.rk_model.specs.Text.Scenarios.{cpus_in}
use Rattle.rk_journal.specs.Logs.{entries_of}
use Rattle.rk_journal.specs.JournalViews.{MarkView, no_table}

-- A seat: its number, the opening that it is of, and its front, the beginning of the history that it has seen.
pub record SeatView : Type 0 where
  pub number : ℕ
  pub opening : TableId
  pub front : List Entry

-- a seat by its mark, which is there but inside of calls
abbrev pub seat_view : ℕ → Option MarkView → SeatView
seat_view n (Some m) = record { number = n; opening = m.opening; front = entries_of m.front }
seat_view n None = record { number = n; opening = no_table; front = [] }

-- the mark of a processor's seat is there, and has the key of the seat
abbrev pub SitsAt : ℕ → Option MarkView → Type 0
SitsAt n (Some m) = (m.key ≡ seat_key n) × (n < MOST_PROCESSORS)
SitsAt n None = ⊥

-- the mark of the clock's seat is there, and has the clock's key
abbrev pub IsClocks : Option MarkView → Type 0
IsClocks (Some m) = m.key ≡ seat_key CLOCK
IsClocks None = ⊥

-- The seat is that of a processor of the kernel of this opening of the scenario.
pub record IsSeatOf (s : Scenario) (which : TableId) (seat : SeatView) : Type 0 where
  pub opening : seat.opening ≡ which
  pub processor : seat.number < cpus_in s.clusters

-- Each of the seats is.
abbrev pub AreSeatsOf : Scenario → TableId → List SeatView → Type 0
AreSeatsOf s which seats = All (IsSeatOf s which) seats

-- It is the same seat, whatever it has seen since.
abbrev pub IsSameSeat : SeatView → SeatView → Type 0
IsSameSeat old new = (new.opening ≡ old.opening) × (new.number ≡ old.number)

-- a seat whose front is empty
abbrev pub first_seat : TableId → ℕ → SeatView
first_seat opening n = record { number = n; opening = opening; front = [] }

-- the seats of the first n processors, in order, whose fronts are empty
abbrev pub first_seats : TableId → ℕ → List SeatView
first_seats opening zero = []
first_seats opening (suc n) = first_seats opening n ++ first_seat opening n ∷ []

-- The seat's front is a beginning of the history, which has no entries of the seat after it.
pub record IsSeenIn (history : List Entry) (seat : SeatView) : Type 0 where
  pub begins : IsPrefix seat.front history
  pub own : of history seat.number ≡ of seat.front seat.number

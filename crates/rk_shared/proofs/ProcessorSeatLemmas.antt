-- Seats of the processors of a kernel.
use Rattle.std.proofs.Common.{◌≡◌, ◌≤◌, refl, sym, subst, arith, ℕ, zero, suc, List}
use Rattle.std.proofs.lemmas.List.Elements.{All-push}
use Rattle.atomic_table.specs.Seated.{TableId}
use Rattle.rk_model.specs.declared.scenario.Scenario.{Scenario}
use Rattle.rk_model.specs.Text.Scenarios.{cpus_in}
use Rattle.rk_shared.specs.SeatViews.{SeatView, AreSeatsOf, IsSeatOf, first_seat, first_seats}

first_below : (s : Scenario) (o : TableId) (n : ℕ) → n ≤ cpus_in s.clusters → AreSeatsOf s o (first_seats o n)
first_below s o zero few = λ k d h. absurd (omega (arith, h))
first_below s o (suc n) few = All-push (IsSeatOf s o) (first_seats o n) (first_seat o n) (first_below s o n (omega (arith, few))) record { opening = refl; processor = omega (arith, few) }

-- the first seats of all processors are seats of the kernel
pub first_are_seats : (s : Scenario) (o : TableId) (seats : List SeatView) → seats ≡ first_seats o (cpus_in s.clusters) → AreSeatsOf s o seats
first_are_seats s o seats is = subst (AreSeatsOf s o) (sym is) (first_below s o (cpus_in s.clusters) (omega arith))

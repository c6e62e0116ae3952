use Rattle.std.proofs.Common.{◌+◌, ◌≤◌, vec_len}
use Rattle.std.specs.Prelude.{vec_capacity}
use Rattle.rk_shared.specs.SeatViews.{AreSeatsOf}
use Rattle.rk_cli.proofs.cells.seats_back.Given as goal

abbrev pub invariant-loop-cell : goal.invariant-loop-cell
invariant-loop-cell g l = AreSeatsOf g.N.RunName.scenario g.N.RunName.opening l.cpus.items × (vec_len l.cells + vec_len l.cpus ≤ vec_capacity l.cpus)

abbrev pub decreases-loop-cell : goal.decreases-loop-cell
decreases-loop-cell g l = vec_len l.cells

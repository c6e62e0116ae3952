use Rattle.std.proofs.Common.{◌≡◌, ◌+◌, ◌≤◌, vec_len}
use Rattle.std.specs.Prelude.{vec_capacity}
use Rattle.rk_shared.specs.SeatViews.{AreSeatsOf}
use Rattle.rk_cli.proofs.cells.cells_of.Given as goal

abbrev pub invariant-loop-cpu : goal.invariant-loop-cpu
invariant-loop-cpu g l =
    AreSeatsOf g.N.RunName.scenario g.N.RunName.opening l.cpus.items × (vec_len l.cells + vec_len l.cpus ≡ vec_len l.initial.cpus) × (vec_capacity l.cpus ≡ vec_capacity l.initial.cpus)
    × (vec_len l.initial.cpus ≤ vec_capacity l.cells) × (vec_len l.initial.cpus ≤ vec_capacity l.initial.cpus)

abbrev pub decreases-loop-cpu : goal.decreases-loop-cpu
decreases-loop-cpu g l = vec_len l.cpus

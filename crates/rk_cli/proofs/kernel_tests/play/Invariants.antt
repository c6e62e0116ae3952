use Rattle.std.proofs.Common.{◌≡◌}
use Rattle.rk_shared.specs.SeatViews.{IsSeatOf}
use Rattle.rk_cli.proofs.kernel_tests.play.Given as goal

abbrev pub invariant-loop-call : goal.invariant-loop-call
invariant-loop-call g l = IsSeatOf g.N.RunName.scenario g.N.RunName.opening l.cpu × (l.clock.opening ≡ g.N.RunName.opening)

use Rattle.std.proofs.Common.{◌≡◌}
use Rattle.rk_cli.proofs.workers.drive.Given as goal

abbrev pub invariant-loop : goal.invariant-loop
invariant-loop g l =
    (goal.iterator-loop g).can_next l.iterator' × (goal.iterator-loop g).is_finite l.iterator' × (l.clock.opening ≡ g.N.RunName.opening)

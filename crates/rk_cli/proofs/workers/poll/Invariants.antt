use Rattle.rk_shared.specs.SeatViews.{IsSeatOf}
use Rattle.rk_cli.proofs.workers.poll.Given as goal

abbrev pub invariant-loop : goal.invariant-loop
invariant-loop g l =
    (goal.iterator-loop g).can_next l.iterator' × (goal.iterator-loop g).is_finite l.iterator' × IsSeatOf g.N.RunName.scenario g.N.RunName.opening l.cpu

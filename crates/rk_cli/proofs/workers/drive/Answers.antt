use Rattle.rk_shared.proofs.DoneLemmas.{done_full, done_over}
use Rattle.rk_cli.proofs.workers.drive.Goals as goal

pub returns-in-Full-clause-done : goal.returns-in-Full-clause-done
returns-in-Full-clause-done g c = done_full _ _ _ c.in-Full.ensures.tick

pub returns-in-Over-clause-done : goal.returns-in-Over-clause-done
returns-in-Over-clause-done g c = done_over _ _ _ c.in-Over.ensures.tick

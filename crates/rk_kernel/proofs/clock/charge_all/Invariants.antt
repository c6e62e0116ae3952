use Rattle.rk_parts.specs.Joined.{plain_of}
use Rattle.rk_kernel.proofs.ChargeLemmas.{IsCharged}
use Rattle.rk_kernel.proofs.clock.charge_all.Given as goal

abbrev pub invariant-loop-cpu : goal.invariant-loop-cpu
invariant-loop-cpu l = IsCharged (plain_of l.fn.all) l.cpu l.all l.fn.all

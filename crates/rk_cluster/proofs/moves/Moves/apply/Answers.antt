use Rattle.rk_cluster.specs.Registers.{change_at}
use Rattle.rk_cluster.proofs.RegisterPassLemmas.{ends_out}
use Rattle.rk_cluster.proofs.moves.Moves.apply.Goals as goal

pub append_ends-requires-clause-out : goal.append_ends-requires-clause-out
append_ends-requires-clause-out c =
    rw (c.apply_but_ends.ensures, c.as_slice-2.ensures, c.as_slice.ensures) (ends_out (change_at c.self.inside.changes) c.args.line.now)
